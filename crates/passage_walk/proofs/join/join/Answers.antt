-- A fork above two parts: what stands on top, whether it is broken there or below, and the first difference there or below.
use mathlib.Core.Path.{refl, ap, ap₂, ◌∙◌}
use mathlib.Core.List.{◌++◌}
use Prim.Native.Nat.{ℕ}
use Rattle.digest.specs.Digest.{digest_in}
use Rattle.digest.specs.declared.Digest.{Digest}
use Rattle.wire.specs.Slices.{differ}
use Rattle.shape.specs.Difference.{Diff}
use Rattle.inputs.specs.Inputs.{above, told}
use Rattle.inputs.proofs.Differences.{beside_own}
use Rattle.inputs.proofs.Forks.{top_or}
use Rattle.passage_walk.proofs.Forks.{either_any, told_or, above_or}
use Rattle.passage_walk.proofs.join.join.Goals as goal

pub returns : goal.returns
returns c =
    let a = c.args in
    let ours = a.left.log.bytes ++ a.right.log.bytes in
    let theirs = a.left.letter.bytes ++ a.right.letter.bytes in
    let up =
    c.digest_beside-up.ensures
    ∙ beside_own ours theirs (digest_in a.mode.now) _ _ c.inputs_differ-apart.ensures c.digest_of_pair-letter.ensures in
    let top = top_or a.nodes.now a.at.half a.at.rest a.at.mid c.top.result c.digest_beside-up.result c.top.ensures in
    let log = ap (λ (x : Digest). x.bytes) c.unwrap_or-log.ensures in
    record {
      asked = refl;
      used = refl;
      log = record { within = λ e. log ∙ top.0 e; above = λ e. log ∙ top.1 e ∙ up };
      letter = c.digest_of_pair-letter.ensures;
      broken =
          either_any c.digests_differ-here.result a.left.broken a.right.broken
          (c.digests_differ-here.ensures ∙ ap (differ c.unwrap_or-log.result.bytes) up);
      first =
          c.higher.ensures
          ∙ ap₂ (λ (k : ℕ) (d : Diff). above k ours theirs d) c.inputs_differ-apart.ensures (ap told c.or-below.ensures ∙ told_or a.left.difference a.right.difference)
          ∙ above_or ours theirs _;
    }
