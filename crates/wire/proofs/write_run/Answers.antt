-- `wire::write_run` meets its contract: a run that does not fit is not written, and one that fits is copied over the part lent.
use mathlib.Core.Path.{◌≡◌, sym, ◌∙◌}
use mathlib.Core.List.{List, ◌++◌}
use Prim.Native.Nat.{ℕ, ◌+◌, ◌-◌, ◌≤◌}
use native.Mathlib.Nat.{add-sub_cancel_left, add-zero}
use native.Mathlib.Omega.{arith}
use lib.ListN.{length, take, drop, length-drop}
use lib.Seq.{length-take-le}
use Rattle.wire.specs.Slices.{splice, written}
use Rattle.wire.proofs.Splices.{splice_whole, splice_lent, written_fits, written_short}
use Rattle.wire.proofs.write_run.Goals as goal

-- the part from at on, as long as s, comes back as s
copied : (at : ℕ) (s d x : List ℕ) → at + length s ≤ length d → x ≡ s
    → take at d ++ (x ++ drop (at + length s - at) (drop at d)) ≡ written at s d
copied at s d x h e =
    let k : at + length s - at ≡ length s = add-sub_cancel_left at (length s) in
    let f : x ≡ splice 0 s (take (length s) (drop at d)) =
    e ∙ sym (splice_whole s (take (length s) (drop at d)) (sym (length-take-le (length s) (drop at d) (rw length-drop (omega arith))))) in
    rw (k, f, splice_lent at (length s) 0 s d h (omega arith), add-zero) (sym (written_fits at s d h))

pub returns-then-d-at : goal.returns-then-d-at
returns-then-d-at c =
    let a = c.args in
    sym (written_short a.at a.s.now a.d.now (omega arith))

pub returns-then-d-at-2 : goal.returns-then-d-at-2
returns-then-d-at-2 c =
    let a = c.args in
    sym (written_short a.at a.s.now a.d.now (omega arith))

pub returns : goal.returns
returns c =
    let a = c.args in
    copied a.at a.s.now a.d.now c.copy_from_slice.new.self (omega arith) c.copy_from_slice.ensures.after
