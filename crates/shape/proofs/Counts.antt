-- The leaf count of a size: it is what RULES 6.3 says, for every number.
use mathlib.Core.Path.{◌≡◌, refl, sym, ap, ◌∙◌}
use mathlib.Core.Logic.{◌≢◌, ◌↔◌, ◌⊎◌, inl, inr}
use Prim.Native.Nat.{ℕ, zero, suc, ◌^◌, ◌≤◌}
use native.Mathlib.Decide.{ℕ_discrete}
use native.Mathlib.Omega.{arith}
use borrow.Author.Tests.{eq-eqb, ne_eqb}
use Rattle.shape.specs.Answers.{Answer, done, refused}
use Rattle.shape.specs.Sizes.{size_of, count_up_to, count_answer}
use Rattle.shape.proofs.Sizes.{size_ge, size_inj}

-- no answer is both done and a refusal
pub done_refused : {A : Type 0} (v k : ℕ) → done v ≡ refused (suc k) → A
done_refused v k e = absurd (clash (ap (λ (a : Answer). a.number) e))
  where
    clash : 0 ≡ suc k → ⊥
    clash q = omega arith

-- a is the answer of a search up to k for the count of size s: the count that has it, or that none has
abbrev Searched : ℕ → ℕ → Answer → Type 0
Searched k s a =
    ((n : ℕ) × (n ≤ k) × (size_of n ≡ s) × (a ≡ done n)) ⊎ ((a ≡ refused 1) × ((n : ℕ) → n ≤ k → size_of n ≢ s))

-- one count more, of another size
one_more : (k s : ℕ) (a : Answer) → size_of (suc k) ≢ s → Searched k s a → Searched (suc k) s a
one_more k s a ne (inl (n, p, e, f)) = inl (n, omega arith, e, f)
one_more k s a ne (inr (f, g)) = inr (f, λ n p. elim (ℕ_discrete n (suc k)) [ yes e ↦ rw e ne | no e ↦ g n (omega arith) ])

searched : (k s : ℕ) → Searched k s (count_up_to k s)
unfolding count_up_to
searched zero s = elim (ℕ_discrete (size_of 0) s) [
  | yes e ↦ inl (0, omega arith, e, rw (eq-eqb (size_of 0) s e, count_up_to))
  | no e ↦ inr (rw (ne_eqb (size_of 0) s e, count_up_to), λ n p. let z : n ≡ 0 = omega arith in rw z e)
]
searched (suc k) s = elim (ℕ_discrete (size_of (suc k)) s) [
  | yes e ↦ inl (suc k, omega arith, e, rw (eq-eqb (size_of (suc k)) s e, count_up_to))
  | no e ↦ rw (ne_eqb (size_of (suc k)) s e, count_up_to) (one_more k s (count_up_to k s) e (searched k s))
]

found : (k s n : ℕ) (a : Answer) → n ≤ k → size_of n ≡ s → Searched k s a → a ≡ done n
found k s n a p e (inl (m, q, f, g)) = g ∙ ap done (size_inj m n (f ∙ sym e))
found k s n a p e (inr (f, g)) = absurd (g n p e)

-- a size has a count up to 2^32, which is answered; or it has none, and 1 is
pub count_cases : (s : ℕ)
    → ((n : ℕ) × (n ≤ 2 ^ 32) × (size_of n ≡ s) × (count_answer s ≡ done n))
    ⊎ ((count_answer s ≡ refused 1) × ((n : ℕ) → n ≤ 2 ^ 32 → size_of n ≢ s))
unfolding count_answer
count_cases s = searched (2 ^ 32) s

-- a leaf count up to 2^32 is the count of its size
pub count_size : (n : ℕ) → n ≤ 2 ^ 32 → count_answer (size_of n) ≡ done n
count_size n p = found (2 ^ 32) (size_of n) n (count_answer (size_of n)) p refl (count_cases (size_of n))

-- a count that is answered is within the limit, and has the size
pub count_done : (s n : ℕ) → count_answer s ≡ done n → (n ≤ 2 ^ 32) × (size_of n ≡ s)
count_done s n e = elim (count_cases s) [
  | inl (m, p, f, g) ↦
      let z : m ≡ n = ap (λ (a : Answer). a.value) (sym g ∙ e) in
      rw (← z) (p, f)
  | inr (f, g) ↦ done_refused n 0 (sym e ∙ f)
]

-- RULES 6.3: 1 exactly when no leaf count up to 2^32 has this size
pub count_none : (s : ℕ) → (count_answer s ≡ refused 1) ↔ ((n : ℕ) → n ≤ 2 ^ 32 → size_of n ≢ s)
count_none s = (
  λ e n p q. done_refused n 0 (sym (count_size n p) ∙ ap count_answer q ∙ e),
  λ f. elim (count_cases s) [ inl (n, p, e, g) ↦ absurd (f n p e) | inr (e, g) ↦ e ],
)

-- no count above s has size s: where a search up to k, at least s, finds none, there is none
pub count_near : (k s : ℕ) → s ≤ k → count_up_to k s ≡ refused 1 → count_answer s ≡ refused 1
count_near k s p e =
    (count_none s).1
    (λ n l q. done_refused n 0 (sym (found k s n (count_up_to k s) (omega (arith, size_ge n)) q (searched k s)) ∙ e))
