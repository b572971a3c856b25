-- What the leaf count of a size and the size of a leaf count tell, and what an append then finds.
use mathlib.Core.Path.{◌≡◌, sym, ap, ◌∙◌}
use mathlib.Core.Logic.{inl, inr, by_cases}
use Prim.Native.Nat.{ℕ, suc, ◌+◌, ◌^◌, ◌≤◌, ◌<◌}
use native.Mathlib.Decide.{dec_le}
use native.Mathlib.Omega.{arith}
use Rattle.std.specs.Prelude.{Result, Ok, Err}
use Rattle.refusals.specs.declared.Refused.{Refused}
use Rattle.refusals.specs.Numbers.{number_of}
use Rattle.refusals.proofs.Laws.{number_above}
use Rattle.shape.specs.Answers.{Answer, done, answered}
use Rattle.shape.specs.Sizes.{size_of, size_answer, count_answer, trailing_ones, leaves}
use Rattle.shape.proofs.Sizes.{size_suc, size_ge, size_le, size_answer_lem, size_refused}
use Rattle.shape.proofs.Counts.{count_size, count_cases, count_done}
use Rattle.shape.proofs.Trailing.{trailing_pow, trailing_most}

-- n is the leaf count of the size
pub record Counts (size n : ℕ) : Type 0 where
  pub number : (count_answer size).number ≡ 0
  pub value : leaves size ≡ n
  pub most : n ≤ 2 ^ 32
  pub is : size_of n ≡ size

counts_done : (size n : ℕ) → count_answer size ≡ done n → Counts size n
counts_done size n e =
    record {
      number = ap (λ (a : Answer). a.number) e;
      value = ap (λ (a : Answer). a.value) e;
      most = (count_done size n e).0;
      is = (count_done size n e).1;
    }

-- every leaf count within the limits is that of its size
pub counts_size : (n : ℕ) → n ≤ 2 ^ 32 → Counts (size_of n) n
counts_size n few = counts_done (size_of n) n (count_size n few)

-- where 1 does not apply there is a leaf count
pub counts_known : (size : ℕ) → ((count_answer size).number ≡ 1 → ⊥) → Counts size (leaves size)
counts_known size h = elim (count_cases size) [
  | inl (n, p, e, g) ↦ let v : leaves size ≡ n = ap (λ (a : Answer). a.value) g in rw v (counts_done size n g)
  | inr (f, g) ↦ absurd (h (ap (λ (a : Answer). a.number) f))
]

pub counts_leaves : {r : Result ℕ Refused} {size n : ℕ} → answered r ≡ count_answer size → r ≡ Ok n → Counts size n
counts_leaves {r} {size} {n} e l = counts_done size n (sym e ∙ ap answered l)

-- where there is none, the refusal is 1
pub counts_none : {r : Result ℕ Refused} {why : Refused} (size : ℕ) → answered r ≡ count_answer size → r ≡ Err why
    → ((count_answer size).number ≡ 1) × (number_of why ≡ 1)
counts_none {r} {why} size e l =
    let n : number_of why ≡ (count_answer size).number = ap (λ (a : Answer). a.number) (sym (ap answered l) ∙ e) in
    elim (count_cases size) [
      | inl (m, p, f, g) ↦ absurd (omega (arith, number_above why, n, ap (λ (a : Answer). a.number) g))
      | inr (f, g) ↦ let z : (count_answer size).number ≡ 1 = ap (λ (a : Answer). a.number) f in (z, n ∙ z)
    ]

-- the other way round: the size of a leaf count, and that there is none, which is 2
module _ {r : Result ℕ Refused} (n : ℕ) (e : answered r ≡ size_answer n) where
  pub size_known : {v : ℕ} → r ≡ Ok v → (n ≤ 2 ^ 32) × (v ≡ size_of n)
  size_known f =
      by_cases (dec_le n (2 ^ 32)) (λ h. (h, ap (λ (a : Answer). a.value) (sym (ap answered f) ∙ e ∙ size_answer_lem n h)))
      (λ h. absurd (omega (arith, ap (λ (a : Answer). a.number) (sym (ap answered f) ∙ e ∙ size_refused n (omega arith)))))

  pub size_none : {why : Refused} → r ≡ Err why → (2 ^ 32 < n) × (number_of why ≡ 2)
  size_none {why} f =
      by_cases (dec_le n (2 ^ 32))
      (λ h. absurd (omega (arith, number_above why, ap (λ (a : Answer). a.number) (sym (ap answered f) ∙ e ∙ size_answer_lem n h))))
      (λ h. (omega arith, ap (λ (a : Answer). a.number) (sym (ap answered f) ∙ e ∙ size_refused n (omega arith))))

module _ {size n m : ℕ} (k : Counts size n) (e : m ≡ trailing_ones n) where
  pub grown_size : size_of (suc (leaves size)) ≡ size + (1 + m)
  grown_size = ap (λ (x : ℕ). size_of (suc x)) k.value ∙ omega (arith, size_suc n, k.is)

  pub merges_few : n < 2 ^ 32 → m ≤ 32
  merges_few h = omega (arith, trailing_most 32 n h)

  pub lefts_room : (size ≤ 2 ^ 34) × (2 ^ m ≤ size + 1)
  lefts_room =
      (omega (arith, k.is, k.most, size_le n), omega (arith, trailing_pow n, ap (λ (x : ℕ). 2 ^ x) e, k.is, size_ge n))
