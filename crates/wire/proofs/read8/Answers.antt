-- `wire::read8` meets its contract: the number of eight bytes is that of the first four times 2 ^ 32, and that of the last four.
use mathlib.Core.Path.{◌≡◌, sym, ap, ◌∙◌}
use mathlib.Core.List.{List}
use Prim.Native.Nat.{ℕ, ◌+◌, ◌*◌}
use native.Mathlib.Omega.{arith}
use lib.ListN.{length, take, drop, length-drop, take-append-drop}
use lib.Seq.{take_all}
use Rattle.wire.specs.Numbers.{number}
use Rattle.wire.proofs.Numbers.{number_append}
use Rattle.wire.proofs.Parts.{part_length}
use Rattle.wire.proofs.read8.Goals as goal

halves : (b : List ℕ) → length b ≡ 8 → number (take 4 b) * 4294967296 + number (take 4 (drop 4 b)) ≡ number b
halves b h =
    let n : length (drop 4 b) ≡ 4 = rw (length-drop, h) in
    rw (take_all 4 (drop 4 b) (omega arith)) (sym (number_append (take 4 b) (drop 4 b) ∙ rw n) ∙ ap number (take-append-drop 4 b))

pub returns : goal.returns
returns c =
    let e = c.read-b.ensures in
    let a = c.args in
    let n = ap length e ∙ part_length a.at 8 a.s.now in
    let high = c.value_of-high.ensures in
    let low = c.value_of-low.ensures in
    omega (arith, ap number e, halves c.read-b.result n)
