-- `wire::differ` meets its contract: runs of two lengths differ, and of two with one length the loop has looked at every byte.
use mathlib.Core.Path.{◌≡◌, refl, sym, ap, ◌∙◌}
use mathlib.Core.List.{List}
use mathlib.Core.Bool.{Bool, true, false}
use Prim.Native.Nat.{ℕ, ◌≤◌}
use native.Mathlib.Omega.{arith}
use lib.ListN.{length}
use lib.Seq.{take_all}
use Rattle.wire.specs.Slices.{bit, differ}
use Rattle.wire.proofs.Differences.{differ_same, differ_other}
use Rattle.wire.proofs.differ.Invariants.{Told}
use Rattle.wire.proofs.differ.Goals as goal

ended : (a b : List ℕ) (found : Bool) (i : ℕ) → Told a b found i → length a ≤ i → length b ≤ i → bit found ≡ differ a b
ended a b true i t k l = sym (differ_other a b (t.other refl))
ended a b false i t k l = sym (differ_same a b (sym (take_all i a k) ∙ t.same refl ∙ take_all i b l))

pub returns-then-a-b : goal.returns-then-a-b
returns-then-a-b c = sym (differ_other c.args.a.now c.args.b.now (λ e. c.if-a-b.true (ap length e)))

pub returns : goal.returns
returns c =
    let l = c.loop-i in
    ended c.args.a.now c.args.b.now l.found l.i l.invariant (omega arith) (omega arith)
