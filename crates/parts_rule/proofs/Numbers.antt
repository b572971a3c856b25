-- Ones among the digits of a number of chunks, and what one chunk more makes of them.
use mathlib.Core.Path.{◌≡◌, sym, ap, ◌∙◌}
use mathlib.Core.Logic.{by_cases}
use Prim.Native.Nat.{ℕ, zero, suc, ◌+◌, ◌-◌, ◌/◌, ◌%◌, ◌^◌, ◌≤◌, ◌<◌}
use native.Mathlib.Nat.{pow-suc, one-mul}
use native.Mathlib.Decide.{dec_lt, ℕ_discrete}
use native.Mathlib.Omega.{arith}
use lib.Arith.{bin_ind}
use lib.Count.{ones, ones_cat, ones-ones, ones_step, ones-le}

-- ones of a number with the top digit 2 ^ h
pub ones_zero : ones 0 ≡ 0
ones_zero = ones-ones 0

pub ones_top : (h r : ℕ) → r < 2 ^ h → ones (2 ^ h + r) ≡ 1 + ones r
ones_top h r l =
    ap (λ (x : ℕ). ones (x + r)) (sym (one-mul (2 ^ h))) ∙ ones_cat h 1 r l ∙ ap (λ (x : ℕ). x + ones r) (ones-ones 1)

pub ones_some : (h m : ℕ) → 0 < m → m < 2 ^ h → 0 < ones m
ones_some zero m s l = absurd (omega arith)
ones_some (suc h) m s l =
    by_cases (dec_lt m (2 ^ h)) (λ a. ones_some h m s a)
    (λ a.
    let e : 2 ^ h + (m - 2 ^ h) ≡ m = omega arith in
    let b : m - 2 ^ h < 2 ^ h = omega (arith, pow-suc 2 h) in
    omega (arith, ones_top h (m - 2 ^ h) b, ap ones e))

-- one more chunk has at most one more subtree
pub ones_suc : (n : ℕ) → ones (n + 1) ≤ ones n + 1
ones_suc =
    bin_ind (λ (n : ℕ). ones (n + 1) ≤ ones n + 1) (omega (arith, ones_zero, ones-le 1 1 (omega arith)))
    (λ n h. elim (ℕ_discrete (n % 2) 0) [
      | yes e ↦
          let q : (n + 1) / 2 ≡ n / 2 = omega arith in
          let r : (n + 1) % 2 ≡ 1 = omega arith in
          omega (arith, ones_step n, ones_step (n + 1), ap ones q)
      | no e ↦
          let q : (n + 1) / 2 ≡ n / 2 + 1 = omega arith in
          let r : (n + 1) % 2 ≡ 0 = omega arith in
          omega (arith, ones_step n, ones_step (n + 1), ap ones q)
    ])
