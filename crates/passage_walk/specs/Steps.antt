-- What the walk's own steps are called, which no public contract cites: a fork above two parts, what a walk asks and finds. Over any nodes and
-- digests.
use Rattle.std.specs.Prelude.{◌≡◌, List, ◌++◌, ℕ, ◌+◌, ◌-◌, ◌*◌, ◌^◌, ◌≤◌}
use Rattle.wire.specs.Slices.{bit, differ}
use Rattle.shape.specs.Seen.{either}
use Rattle.shape.specs.Difference.{agree}
use Rattle.views.specs.Compared.{or_else, apart}
use Rattle.views.specs.Passage.{passage_in}
use Rattle.views.specs.Walk.{Taken, Found}
use Rattle.nodes.specs.Nodes.{node_in, fold_from}
use Rattle.inputs.specs.Inputs.{told}
use Rattle.passage.specs.Steps.{Countable}
use Rattle.passage_walk.specs.declared.Part.{Part}
use Rattle.passage_walk.specs.declared.Place.{Place}

-- ---- a fork

-- what stands on top of a fork of `half` leaves and `rest`, whose right side begins at position mid: the node within a peak, above the peaks what is
-- worked out
pub record Crowned (bs : List ℕ) (half rest mid : ℕ) (up top : List ℕ) : Type 0 where
  pub within : rest ≡ half → top ≡ node_in bs (mid + (2 * half - 1))
  pub above : (rest ≡ half → ⊥) → top ≡ up

-- no sum wraps
pub record Joinable (left right : Part) : Type 0 where
  pub lefts : (left.asked ≤ 8192) × (left.used ≤ 8192)
  pub rights : (right.asked ≤ 8192) × (right.used ≤ 8192)

-- the part w with the fork on top: broken where its node isn't the digest of the two sides; two inputs that differ there come before those below
pub record Joined (digest : List ℕ → List ℕ) (bs : List ℕ) (half rest mid : ℕ) (left right w : Part) : Type 0 where
  pub asked : w.asked ≡ left.asked + right.asked
  pub used : w.used ≡ left.used + right.used
  pub log : Crowned bs half rest mid (digest (left.log.bytes ++ right.log.bytes)) w.log.bytes
  pub letter : w.letter.bytes ≡ digest (left.letter.bytes ++ right.letter.bytes)
  pub broken : bit w.broken
      ≡ either (differ w.log.bytes (digest (left.log.bytes ++ right.log.bytes))) (either (bit left.broken) (bit right.broken))
  pub first : told w.difference
      ≡ or_else (apart (left.log.bytes ++ right.log.bytes) (left.letter.bytes ++ right.letter.bytes))
      (or_else (told left.difference) (told right.difference))

-- ---- a walk

-- where the right side of a fork begins, of which the left side has `half` leaves and took so many leaf digests and given digests of the letter
abbrev pub next : Place → ℕ → ℕ → ℕ → Place
next at half asked used =
    record { leaf = at.leaf + half; node = at.node + (2 * half - 1); asked = at.asked + asked; used = at.used + used }

-- no sum wraps there
pub record Passable (at : Place) (half asked used : ℕ) : Type 0 where
  pub some : 1 ≤ half
  pub leaf : at.leaf + half ≤ 2 ^ 33
  pub node : at.node + 2 * half ≤ 2 ^ 34
  pub leaves : at.asked + asked ≤ 2 ^ 32
  pub items : at.used + used ≤ 2 ^ 32

-- a subtree whose digest is given
pub record Given (digest : List ℕ → List ℕ) (bs items : List ℕ) (n : ℕ) (at : Place) (w : Part) : Type 0 where
  pub asked : w.asked ≡ 0
  pub used : w.used ≡ 1
  pub log : w.log.bytes ≡ fold_from digest bs n at.node
  pub letter : w.letter.bytes ≡ node_in items at.used
  pub broken : bit w.broken ≡ 0
  pub first : told w.difference ≡ agree

-- a leaf that is asked for
pub record Asked (bs leaves : List ℕ) (at : Place) (w : Part) : Type 0 where
  pub asked : w.asked ≡ 1
  pub used : w.used ≡ 0
  pub log : w.log.bytes ≡ node_in bs at.node
  pub letter : w.letter.bytes ≡ node_in leaves at.asked
  pub broken : bit w.broken ≡ 0
  pub first : told w.difference ≡ agree

-- a walk of n leaves, n at most 2^h: no sum wraps
pub record Walkable (h n : ℕ) (is : List ℕ) (at : Place) : Type 0 where
  pub countable : Countable h at.leaf is
  pub some : 1 ≤ n
  pub most : n ≤ 2 ^ h
  pub near : at.node + 2 * 2 ^ h ≤ 2 ^ 34
  pub leaves : at.asked + 8192 * h ≤ 2 ^ 32
  pub items : at.used + 8192 * h ≤ 2 ^ 32

-- what it finds
pub record Walked (digest : List ℕ → List ℕ) (bs leaves items : List ℕ) (h n : ℕ) (is : List ℕ) (at : Place) (w : Part) : Type 0 where
  pub taken : Taken digest (node_in bs) (node_in leaves) (node_in items) (passage_in h n at.leaf is) n at.node at.asked at.used
      w.asked w.used w.log.bytes w.letter.bytes
  pub found : Found digest (node_in bs) (node_in leaves) (node_in items) (passage_in h n at.leaf is) n at.node at.asked at.used
      (bit w.broken) (told w.difference)
