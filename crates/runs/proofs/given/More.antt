-- One byte more of a record.
use mathlib.Core.Path.{◌≡◌, sym, ap, ◌∙◌}
use mathlib.Core.List.{List}
use Prim.Native.Nat.{ℕ, ◌+◌, ◌*◌, ◌/◌, ◌%◌, ◌<◌}
use native.Mathlib.Nat.{add-mod-mod, add-mul-mod_self_left, div-add-mod}
use native.Mathlib.Numerals.{add-one}
use native.Mathlib.Omega.{arith}
use lib.ListN.{length, set, take}
use lib.Seq.{take-suc-set}
use Rattle.runs.specs.Given.{record_of}

-- a byte, worked out without passing the largest number
byte_is : (i j : ℕ) → (7 * (i % 251) + j % 251) % 251 ≡ (7 * i + j) % 251
byte_is i j =
    let x = 7 * (i % 251) in
    let k = 7 * (i / 251) in
    let e : x + j + 251 * k ≡ 7 * i + j = omega (arith, div-add-mod i 251) in
    add-mod-mod x j 251 ∙ sym (add-mul-mod_self_left (x + j) 251 k) ∙ ap (λ (n : ℕ). n % 251) e

-- where the first j bytes are a record's, storing the next one makes it so for j + 1
pub record_more : (i j : ℕ) (out : List ℕ) → j < length out → take j out ≡ record_of i j
    → take (j + 1) (set out j ((7 * (i % 251) + j % 251) % 251)) ≡ record_of i (j + 1)
unfolding record_of
record_more i j out h e =
    rw (add-one j) (take-suc-set out j _ h ∙ cc (byte_is i j))
