-- Laws of a list by its rule.
use mathlib.Core.Path.{◌≡◌, refl, sym, ap, ◌∙◌, subst}
use mathlib.Core.List.{List}
use Prim.Native.Nat.{ℕ, zero, suc, ◌+◌, ◌<◌}
use native.Mathlib.Nat.{le_of_suc-le-suc, not-suc-le-zero, add-zero, add-suc, suc-add, zero-add}
use native.Mathlib.Omega.{arith}
use lib.ListN.{length, get_or}
use lib.Seq.{ext_get_or}
use Rattle.words.specs.Build.{build_from, build}

from_length : (i n : ℕ) (f : ℕ → ℕ) → length (build_from i n f) ≡ n
unfolding build_from
from_length i zero f = refl
from_length i (suc n) f = ap suc (from_length (suc i) n f)

from_at : (i n : ℕ) (f : ℕ → ℕ) (k : ℕ) → k < n → get_or (build_from i n f) k 0 ≡ f (i + k)
unfolding build_from
from_at i zero f k h = absurd (not-suc-le-zero h)
from_at i (suc n) f zero h = ap f (sym (add-zero i))
from_at i (suc n) f (suc k) h =
    from_at (suc i) n f k (le_of_suc-le-suc h) ∙ ap f (suc-add i k ∙ sym (add-suc i k))

pub build_length : (n : ℕ) (f : ℕ → ℕ) → length (build n f) ≡ n
unfolding build
build_length n f = from_length 0 n f

pub build_at : (n : ℕ) (f : ℕ → ℕ) (k : ℕ) → k < n → get_or (build n f) k 0 ≡ f k
unfolding build
build_at n f k h = from_at 0 n f k h ∙ ap f (zero-add k)

-- two rules that agree build one list
pub build_same : (n : ℕ) (f g : ℕ → ℕ) → ((k : ℕ) → k < n → f k ≡ g k) → build n f ≡ build n g
build_same n f g h =
    ext_get_or 0 (build n f) (build n g) (build_length n f ∙ sym (build_length n g))
    (λ k l.
    let b : k < n = subst (λ (m : ℕ). k < m) (build_length n f) l in
    build_at n f k b ∙ h k b ∙ sym (build_at n g k b))

-- a list is what its own elements build
pub build_self : (n : ℕ) (l : List ℕ) → length l ≡ n → l ≡ build n (λ k. get_or l k 0)
build_self n l e =
    ext_get_or 0 l (build n (λ k. get_or l k 0)) (e ∙ sym (build_length n _)) (λ k h. sym (build_at n (λ j. get_or l j 0) k (omega arith)))
