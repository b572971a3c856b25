-- What the code's own step asks and what it leaves, which no public contract cites.
use Rattle.std.specs.Prelude.{◌≡◌, List, ℕ, ◌+◌, ◌*◌, ◌^◌, ◌≤◌}
use Rattle.digest.specs.Digest.{digest_in}
use Rattle.wire.specs.Slices.{splice, joined}
use Rattle.nodes.specs.Nodes.{node_in}
use Rattle.views.specs.View.{givens}
use Rattle.views.specs.Passage.{passage_in}
use Rattle.views.specs.Shows.{gives_by}
use Rattle.passage.specs.Steps.{Countable}

-- some leaves, at most 2^h, and room for their digests in a buffer of `room` bytes
pub record Puttable (h n p : ℕ) (is : List ℕ) (s at room : ℕ) : Type 0 where
  pub countable : Countable h p is
  pub some : 1 ≤ n
  pub most : n ≤ 2 ^ h
  pub near : s + 2 * 2 ^ h ≤ 2 ^ 34
  pub fits : at + 32 * givens (passage_in h n p is) ≤ room

-- the place behind the digests, and the buffer with them
pub record Put (mode bs : List ℕ) (h n p : ℕ) (is : List ℕ) (s at : ℕ) (d : List ℕ) (next : ℕ) (last : List ℕ) : Type 0 where
  pub behind : next ≡ at + 32 * givens (passage_in h n p is)
  pub bytes : last ≡ splice at (joined (gives_by (digest_in mode) (node_in bs) (passage_in h n p is) n s)) d
