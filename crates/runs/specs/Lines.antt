-- How many digits a number has.
use Rattle.std.specs.Prelude.{true, false, ℕ, zero, suc, ◌/◌, ltb}

-- the decimal digits of n, counted up to k: one below 10, else one more than n / 10 has
unfoldable pub digits_up_to : ℕ → ℕ → ℕ
digits_up_to zero n = 0
digits_up_to (suc k) n = elim (ltb n 10) [ true ↦ 1 | false ↦ suc (digits_up_to k (n / 10)) ]

-- the decimal digits of a number of 64 bits, which has at most 20
abbrev pub digits_in : ℕ → ℕ
digits_in n = digits_up_to 20 n
