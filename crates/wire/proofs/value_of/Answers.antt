-- `wire::value_of` meets its contract: n is the number of the bytes passed, and below 256 ^ i, so it fits.
use mathlib.Core.Path.{◌≡◌, refl, sym, ◌∙◌}
use mathlib.Core.List.{List}
use Prim.Native.Nat.{ℕ, ◌+◌, ◌*◌, ◌^◌, ◌<◌}
use native.Mathlib.Nat.{pow-suc, pow-le-pow_right, lt_of_lt_of_le}
use native.Mathlib.Numerals.{add-one}
use native.Mathlib.Omega.{arith}
use lib.Arith.{digits_lt}
use lib.ListN.{length, take, get_or}
use lib.Seq.{take-suc}
use Rattle.wire.specs.Numbers.{number}
use Rattle.wire.proofs.Numbers.{number_snoc}
use Rattle.wire.proofs.value_of.Goals as goal

one_more : (bs : List ℕ) (i : ℕ) → i < length bs → number (take (i + 1) bs) ≡ number (take i bs) * 256 + get_or bs i 0
one_more bs i h = rw (add-one, take-suc bs i 0) (number_snoc (take i bs) (get_or bs i 0))

below_more : (n i b : ℕ) → n < 256 ^ i → b < 256 → n * 256 + b < 256 ^ (i + 1)
below_more n i b h l = rw (add-one, pow-suc 256 i) (digits_lt h l)

room : (n i b : ℕ) → n < 256 ^ i → b < 256 → i < 4 → n * 256 + b < 2 ^ 32
room n i b h l k =
    lt_of_lt_of_le (below_more n i b h l) (pow-le-pow_right {n = 256} (omega arith) {i = i + 1} {j = 4} (omega arith))

pub loop-x-init : goal.loop-x-init
unfolding number
loop-x-init c = (refl, omega arith)

pub overflow_mul-n : goal.overflow_mul-n
overflow_mul-n c =
    let l = c.loop-x in
    omega (arith, room l.n l.x-index 0 l.invariant.1 (omega arith) (omega (arith, c.requires)))

pub overflow_add-n : goal.overflow_add-n
overflow_add-n c =
    let l = c.loop-x in
    record { fits = room l.n l.x-index _ l.invariant.1 (c.type_inv.b l.x-index).fits (omega (arith, c.requires)) }

pub loop-x-preserved : goal.loop-x-preserved
loop-x-preserved c =
    let b = c.args.b.now in
    let l = c.loop-x in
    let k = (c.type_inv.b l.x-index).fits in
    (sym (one_more b l.x-index (omega arith) ∙ rw (← l.invariant.0)), below_more l.n l.x-index _ l.invariant.1 k)
