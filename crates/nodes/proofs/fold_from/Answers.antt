-- Beyond the limits a fold is zeros, and within them the peaks at a height that holds the leaves are folded.
use mathlib.Core.Path.{sym, ap, ◌∙◌}
use native.Mathlib.Numerals.{add-one}
use native.Mathlib.Omega.{arith}
use Prim.Native.Nat.{ℕ}
use Rattle.digest.specs.Digest.{digest_in}
use Rattle.shape.specs.Positions.{peaks_in, fold}
use Rattle.shape.proofs.Heights.{height_holds, height_least}
use Rattle.nodes.specs.Nodes.{node_in}
use Rattle.nodes.proofs.From.{from_room, from_any, from_beyond}
use Rattle.nodes.proofs.fold_from.Goals as goal

pub returns-then-n-eq0 : goal.returns-then-n-eq0
returns-then-n-eq0 c = sym (from_beyond (digest_in c.args.mode.now) c.args.nodes.now _ _ (λ some few near. omega arith))

pub overflow_add-height : goal.overflow_add-height
overflow_add-height c = omega (arith, height_least c.args.n 32 (omega arith))

pub folded-requires : goal.folded-requires
folded-requires c = from_room _ _ _ c.height.ensures (omega arith) (omega arith) (omega arith)

pub returns : goal.returns
returns c =
    let a = c.args in
    c.folded.ensures
    ∙ ap (λ (k : ℕ). fold (digest_in a.mode.now) (node_in a.nodes.now) (peaks_in k a.n a.s)) (add-one c.height.result)
    ∙ sym (from_any _ _ _ _ c.height.result (rw c.height.ensures (height_holds a.n)) (omega arith) (omega arith) (omega arith))
