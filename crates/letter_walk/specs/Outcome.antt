-- What a walk to a leaf answers, for every input and any digest function and nodes.
use Rattle.std.specs.Prelude.{true, false, ◌&&◌, List, ℕ, ltb, leb, length}
use Rattle.wire.specs.Limits.{most_leaves}
use Rattle.wire.specs.Slices.{rows_from, zeros}
use Rattle.shape.specs.Tree.{Tree, root, inputs}
use Rattle.shape.specs.Letter.{fill}
use Rattle.shape.specs.Way.{way}
use Rattle.shape.specs.Positions.{peaks, fold}
use Rattle.shape.specs.Seen.{seen, broken}
use Rattle.shape.specs.Difference.{Diff, agree, difference}
use Rattle.inputs.specs.Inputs.{told}
use Rattle.letter_walk.specs.declared.Trail.{Trail}

-- the digest on top by the log and by the letter, how many items the letter's took, and the first difference of the inputs
pub record WalkOutcome : Type 0 where
  pub log : List ℕ
  pub letter : List ℕ
  pub used : ℕ
  pub first : Diff

-- the outcome by the answer
abbrev pub walked_off : Trail → WalkOutcome
walked_off w = record { log = w.log.bytes; letter = w.letter.bytes; used = w.used; first = told w.difference }

-- numbers that are no index of up to 2^32 leaves
abbrev pub walk_none : WalkOutcome
walk_none = record { log = zeros 32; letter = zeros 32; used = 0; first = agree }

-- the tree that a leaf's digest and items, joined together, make on the way to index i of n leaves
abbrev pub shown_by : ℕ → ℕ → List ℕ → List ℕ → Tree
shown_by n i leaf items = fill (way n i) leaf (rows_from 32 0 (length (way n i)) items)

module _ (digest : List ℕ → List ℕ) (node : ℕ → List ℕ) where
  -- the nodes beside that tree
  abbrev pub walk_done : ℕ → ℕ → List ℕ → List ℕ → WalkOutcome
  walk_done n i leaf items =
      let t = shown_by n i leaf items in
      record {
        log = fold digest node (peaks n);
        letter = root digest t;
        used = length (way n i);
        first = difference (seen digest node n i) (inputs digest t);
      }

  -- a walk to index i of n leaves, n at most 2^32
  unfoldable pub walk_outcome : ℕ → ℕ → List ℕ → List ℕ → WalkOutcome
  walk_outcome n i leaf items = elim (ltb i n && leb n most_leaves) [ true ↦ walk_done n i leaf items | false ↦ walk_none ]

  -- 1 where a node on that way, within its peak, isn't the digest of its two children, else 0; 0 for other numbers
  unfoldable pub broken_outcome : ℕ → ℕ → ℕ
  broken_outcome n i = elim (ltb i n && leb n most_leaves) [ true ↦ broken digest node n i | false ↦ 0 ]
