-- A loop that stores f 0, f 1, .. from the front makes the list that f builds.
use mathlib.Core.Path.{◌≡◌, refl, sym, ◌∙◌, subst}
use borrow.Author.Count.{below_more}
use mathlib.Core.List.{List, [], ◌∷◌, ◌++◌}
use Prim.Native.Nat.{ℕ, zero, suc, ◌+◌, ◌-◌, ◌≤◌, ◌<◌, zero-le}
use native.Mathlib.Nat.{not-suc-le-zero}
use native.Mathlib.Omega.{arith}
use lib.ListN.{length, get_or, set, replicate, drop, length-set}
use Rattle.std.proofs.Common.{get_or-drop}
use lib.Seq.{ext_get_or, get_or-set_same, get_or-set_other, paste, paste-suc}
use Rattle.std.proofs.lemmas.List.Edits.{paste_none}
use Rattle.std.proofs.lemmas.Slice.{put_mid-paste}
use borrow.Rule.Slice.PartMut.{put_mid}
use Rattle.words.specs.Build.{build}
use Rattle.words.proofs.Builds.{build_length, build_at}

-- out has n places, and f k stands at each k below i
pub record Fills (f : ℕ → ℕ) (n : ℕ) (out : List ℕ) (i : ℕ) : Type 0 where
  pub size : length out ≡ n
  pub within : i ≤ n
  pub done : (k : ℕ) → k < i → get_or out k 0 ≡ f k

pub fills_none : {f : ℕ → ℕ} {n : ℕ} {out : List ℕ} → length out ≡ n → Fills f n out 0
fills_none e = record { size = e; within = zero-le; done = λ k h. absurd (not-suc-le-zero h) }

pub fills_more : {f : ℕ → ℕ} {n : ℕ} {out : List ℕ} {i v : ℕ} → i < n → v ≡ f i → Fills f n out i → Fills f n (set out i v) (i + 1)
fills_more {f} {n} {out} {i} {v} h e g =
    record {
      size = length-set out i v ∙ g.size;
      within = omega arith;
      done =
          below_more (λ (k : ℕ). get_or (set out i v) k 0 ≡ f k) i
          (λ k l. get_or-set_other out i k v 0 (λ same. let z : k ≡ i = same in omega arith) ∙ g.done k l)
          (get_or-set_same out i v 0 (omega (arith, g.size)) ∙ e);
    }

-- what is filled up to i is filled up to less
pub fills_less : {f : ℕ → ℕ} {n : ℕ} {out : List ℕ} {i j : ℕ} → j ≤ i → Fills f n out i → Fills f n out j
fills_less {f} {n} {out} {i} {j} h g =
    record { size = g.size; within = omega (arith, g.within); done = λ k l. g.done k (omega arith) }

-- a part that is stored at once
fills_part : {f : ℕ → ℕ} {n i : ℕ} {out : List ℕ} (bs : List ℕ) (k : ℕ) → i + k ≤ n → k ≤ length bs
    → ((j : ℕ) → j < k → get_or bs j 0 ≡ f (i + j)) → Fills f n out i → Fills f n (paste out i bs k) (i + k)
fills_part {f} {n} {i} {out} bs zero h l e g =
    subst (λ (x : List ℕ). Fills f n x (i + 0)) (paste_none out i bs) (fills_less (omega arith) g)
fills_part {f} {n} {i} {out} bs (suc k) h l e g =
    let before = fills_part bs k (omega arith) (omega arith) (λ j b. e j (omega arith)) g in
    let next = fills_more (omega arith) (e k (omega arith)) before in
    fills_less (omega arith) (subst (λ (x : List ℕ). Fills f n x (i + k + 1)) (paste-suc out i bs k 0 (omega (arith, g.size)) (omega arith)) next)

-- a part that is stored by one copy, up to place j
pub fills_put : {f : ℕ → ℕ} {n i j : ℕ} {out new : List ℕ} (bs : List ℕ) → new ≡ bs → i + length bs ≡ j → j ≤ n
    → ((q : ℕ) → q < length bs → get_or bs q 0 ≡ f (i + q)) → Fills f n out i → Fills f n (put_mid i (j - i) out new) j
fills_put {f} {n} {i} {j} {out} {new} bs e s h each g =
    fills_less (omega arith)
    (subst (λ (l : List ℕ). Fills f n l (i + length bs)) (sym (put_mid-paste i (j - i) out new bs (length bs) e (omega arith) refl))
    (fills_part bs (length bs) (omega arith) (omega arith) each g))

pub fills_all : {f : ℕ → ℕ} {n : ℕ} {out : List ℕ} {i : ℕ} → n ≤ i → Fills f n out i → out ≡ build n f
fills_all {f} {n} {out} {i} h g =
    ext_get_or 0 out (build n f) (g.size ∙ sym (build_length n f))
    (λ k l.
    let b : k < n = omega (arith, g.size) in
    g.done k (omega arith) ∙ sym (build_at n f k b))

-- ---- Zeros behind a list

zeros_at : (n k : ℕ) → ◌≡◌ {A = ℕ} (get_or (replicate n 0) k 0) 0
zeros_at zero k = refl
zeros_at (suc n) zero = refl
zeros_at (suc n) (suc k) = zeros_at n k

-- add nothing to what it has at each place
pub padded_at : (bs : List ℕ) (n m k : ℕ) → get_or (bs ++ drop m (replicate n 0)) k 0 ≡ get_or bs k 0
padded_at [] n m k = get_or-drop m (replicate n 0) k 0 ∙ zeros_at n (m + k)
padded_at (b ∷ bs) n m zero = refl
padded_at (b ∷ bs) n m (suc k) = padded_at bs n m k
