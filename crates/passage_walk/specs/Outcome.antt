-- What a walk for the indexes of a passage answers, for every input and any digest function and nodes.
use Rattle.std.specs.Prelude.{true, false, List, ℕ}
use Rattle.wire.specs.Slices.{bit, zeros}
use Rattle.shape.specs.Tree.{Tree, root, inputs}
use Rattle.shape.specs.Difference.{Diff, agree, difference}
use Rattle.views.specs.View.{plant_at}
use Rattle.views.specs.Passage.{passage}
use Rattle.views.specs.Shows.{on_top, seen_by, broken_by}
use Rattle.nodes.specs.Nodes.{node_in}
use Rattle.inputs.specs.Inputs.{told}
use Rattle.passage.specs.Digests.{within}
use Rattle.passage_walk.specs.declared.Trail.{Trail}

-- the digest on top by the log and by the letter, 1 where a node that the walk looks into, within its peak, isn't the digest of its two children,
-- else 0, and the first difference of the inputs
pub record WalkOutcome : Type 0 where
  pub log : List ℕ
  pub letter : List ℕ
  pub broken : ℕ
  pub first : Diff

-- the outcome by the answer
abbrev pub walked_off : Trail → WalkOutcome
walked_off w = record { log = w.log.bytes; letter = w.letter.bytes; broken = bit w.broken; first = told w.difference }

-- numbers that no letter has digests for
abbrev pub walk_none : WalkOutcome
walk_none = record { log = zeros 32; letter = zeros 32; broken = 0; first = agree }

-- the tree that leaf digests and given digests, each joined together, make for these indexes of n leaves
abbrev pub shown_by : ℕ → List ℕ → List ℕ → List ℕ → Tree
shown_by n is leaves items = plant_at (node_in leaves) (node_in items) (passage n is) 0 0

module _ (digest : List ℕ → List ℕ) (node : ℕ → List ℕ) where
  -- the nodes beside that tree
  abbrev pub walk_done : ℕ → List ℕ → List ℕ → List ℕ → WalkOutcome
  walk_done n is leaves items =
      let v = passage n is in
      let t = shown_by n is leaves items in
      record {
        log = on_top digest node n 0;
        letter = root digest t;
        broken = broken_by digest node v n 0;
        first = difference (seen_by digest node v n 0) (inputs digest t);
      }

  -- a walk for these indexes of n leaves
  unfoldable pub walk_outcome : ℕ → List ℕ → List ℕ → List ℕ → WalkOutcome
  walk_outcome n is leaves items = elim (within n is) [ true ↦ walk_done n is leaves items | false ↦ walk_none ]
