-- What working a root out asks and finds at each height, which no public contract cites.
use Rattle.std.specs.Prelude.{◌≡◌, List, ◌++◌, ℕ, ◌+◌, ◌*◌, ◌^◌, ◌≤◌}
use Rattle.digest.specs.Digest.{digest_in}
use Rattle.shape.specs.Tree.{root}
use Rattle.nodes.specs.Nodes.{node_in}
use Rattle.views.specs.View.{givens, askeds, plant_at}
use Rattle.views.specs.Passage.{passage_in}
use Rattle.passage.specs.Steps.{Countable}
use Rattle.passage_root.specs.declared.Worked.{Worked}

-- a digest of a row, taken as it stands
pub record AsItStands (row : List ℕ) (k a u : ℕ) (w : Worked) : Type 0 where
  pub asked : w.asked ≡ a
  pub used : w.used ≡ u
  pub digest : w.digest.bytes ≡ node_in row k

-- the parent of two digests: it takes what both took
pub record Parent (mode : List ℕ) (l r w : Worked) : Type 0 where
  pub asked : w.asked ≡ l.asked + r.asked
  pub used : w.used ≡ l.used + r.used
  pub digest : w.digest.bytes ≡ digest_in mode (l.digest.bytes ++ r.digest.bytes)

-- a subtree as it is counted, with i leaf digests and j given digests taken before: no sum wraps
pub record Workable (h p : ℕ) (is : List ℕ) (i j : ℕ) : Type 0 where
  pub countable : Countable h p is
  pub leaves : i + 8192 * h ≤ 2 ^ 32
  pub items : j + 8192 * h ≤ 2 ^ 32

-- the root of n leaves from leaf digests from number i on and given digests from number j on, and how many of each it takes
pub record WorkedOut (mode : List ℕ) (h n p : ℕ) (is : List ℕ) (leaves : List ℕ) (i : ℕ) (items : List ℕ) (j : ℕ) (w : Worked) : Type 0 where
  pub asked : w.asked ≡ askeds (passage_in h n p is)
  pub used : w.used ≡ givens (passage_in h n p is)
  pub root : w.digest.bytes ≡ root (digest_in mode) (plant_at (node_in leaves) (node_in items) (passage_in h n p is) i j)
