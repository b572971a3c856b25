-- The specification's rule of the tree, in its own words: the left side of c > 1 chunks has the largest power of two below c.
use Rattle.std.specs.Prelude.{◌≡◌, List, ℕ, ◌+◌, ◌-◌, ◌*◌, ◌/◌, ◌<◌, length, take, drop}
use Rattle.powers.specs.Largest.{LargestPowerBelow}
use Rattle.chunks.specs.Chunks.{chunked}
use Rattle.blake.specs.Blake.{parented, tree_of}

-- how many chunks of 1,024 bytes the input is cut into, the last may be shorter; empty input is one empty chunk
unfoldable pub chunks : List ℕ → ℕ
chunks bs = (length bs - 1) / 1024 + 1

-- the rule, for any mode, root flag, number of the first chunk and input
pub record TreeRule (key : List ℕ) (flag root n : ℕ) (bs : List ℕ) : Type 0 where
  -- one chunk is the tree
  pub one : chunks bs ≡ 1 → tree_of key flag root n bs ≡ chunked key flag root n bs
  -- for more there is a largest power of two below their number
  pub power : 1 < chunks bs → (p : ℕ) × LargestPowerBelow (chunks bs) p
  -- that many chunks are the left side, which is whole
  pub left : (p : ℕ) → LargestPowerBelow (chunks bs) p → (chunks (take (1024 * p) bs) ≡ p) × (length (take (1024 * p) bs) ≡ 1024 * p)
  -- the tree is the parent of the two sides, the root flag on neither
  pub more : (p : ℕ) → LargestPowerBelow (chunks bs) p
      → tree_of key flag root n bs
      ≡ parented key flag root (tree_of key flag 0 n (take (1024 * p) bs)) (tree_of key flag 0 (n + p) (drop (1024 * p) bs))
