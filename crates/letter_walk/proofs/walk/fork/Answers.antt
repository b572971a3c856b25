-- The digest of the log's input beside the letter's is its own, and so stands on top.
use mathlib.Core.Path.{refl, ap, ◌∙◌}
use mathlib.Core.List.{List}
use Prim.Native.Nat.{ℕ}
use Rattle.digest.specs.Digest.{digest_in}
use Rattle.inputs.specs.Inputs.{bytes_of, above, told}
use Rattle.inputs.proofs.Differences.{beside_own}
use Rattle.letter_walk.specs.Steps.{crown}
use Rattle.letter_walk.proofs.walk.fork.Goals as goal

pub returns : goal.returns
returns c =
    let a = c.args in
    record {
      used = refl;
      log =
          c.crown-log.ensures
          ∙ ap (λ (x : List ℕ). crown a.nodes.now a.at.half a.at.rest a.at.mid x)
          (beside_own (bytes_of a.ours) (bytes_of a.theirs) (digest_in a.mode.now) _ _ c.inputs_differ-apart.ensures c.digest_of_pair-letter.ensures);
      letter = c.digest_of_pair-letter.ensures;
      first =
          c.higher-highest.ensures
          ∙ ap (λ (k : ℕ). above k (bytes_of a.ours) (bytes_of a.theirs) (told a.low.difference)) c.inputs_differ-apart.ensures;
    }
