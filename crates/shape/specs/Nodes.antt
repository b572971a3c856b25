-- The nodes of a log in the order of their positions, and the new nodes of an append, over any digest function.
use Rattle.std.specs.Prelude.{◌≡◌, true, false, List, [], ◌∷◌, ◌++◌, ℕ, zero, suc, ◌+◌, ◌-◌, ◌^◌, ◌<◌, length, get_or, take, drop, leb}
use Rattle.shape.specs.Sizes.{size_of, trailing_ones, height_of}

-- a node buffer is a function from position to digest: xs stand in it from position s on
abbrev pub Holds : (ℕ → List ℕ) → ℕ → List (List ℕ) → Type 0
Holds node s xs = (k : ℕ) → k < length xs → node (s + k) ≡ get_or xs k []

-- the position of the left sibling of a node of height j at position p, whose tree has 2^(j+1) - 1 nodes and ends with it
abbrev pub left_of : ℕ → ℕ → ℕ
left_of j p = p - (2 ^ suc j - 1)

-- what the peaks of fewer than 2^k leaves give, one behind the other: a perfect tree, or peak, for each one-bit of their number, tallest first
unfoldable pub peakwise : (ℕ → List (List ℕ) → List (List ℕ)) → ℕ → List (List ℕ) → List (List ℕ)
peakwise give zero ds = []
peakwise give (suc k) ds =
    elim (leb (2 ^ k) (length ds))
    [ true ↦ give k (take (2 ^ k) ds) ++ peakwise give k (drop (2 ^ k) ds) | false ↦ peakwise give k ds ]

module _ (digest : List ℕ → List ℕ) where
  -- the root of a perfect tree of 2^h leaves: a parent is the digest of left then right
  unfoldable pub perfect_root : ℕ → List (List ℕ) → List ℕ
  perfect_root zero ds = get_or ds 0 []
  perfect_root (suc h) ds = digest (perfect_root h (take (2 ^ h) ds) ++ perfect_root h (drop (2 ^ h) ds))

  -- its nodes: the left subtree comes first, then the right, then their parent
  unfoldable pub perfect : ℕ → List (List ℕ) → List (List ℕ)
  perfect zero ds = ds
  perfect (suc h) ds = perfect h (take (2 ^ h) ds) ++ perfect h (drop (2 ^ h) ds) ++ (perfect_root (suc h) ds ∷ [])

  -- the nodes of fewer than 2^k leaves: those of each peak
  abbrev pub nodes_in : ℕ → List (List ℕ) → List (List ℕ)
  nodes_in k ds = peakwise perfect k ds

  -- the nodes of a log, in the order of their positions
  unfoldable pub nodes : List (List ℕ) → List (List ℕ)
  nodes ds = nodes_in (suc (height_of (length ds))) ds

  -- the parent of a node x of height j at position p: the digest of its left sibling, then x
  abbrev pub parent_of : (ℕ → List ℕ) → ℕ → ℕ → List ℕ → List ℕ
  parent_of node j p x = digest (node (left_of j p) ++ x)

  -- the node x of height j at position p, and the k parents above it, one behind the other
  unfoldable pub climb : (ℕ → List ℕ) → ℕ → ℕ → ℕ → List ℕ → List (List ℕ)
  climb node zero j p x = x ∷ []
  climb node (suc k) j p x = x ∷ climb node k (suc j) (suc p) (parent_of node j p x)

  -- the new nodes of an append to n leaves: the leaf, then as many parents as n has trailing ones (`append_nodes`)
  unfoldable pub new_nodes : (ℕ → List ℕ) → ℕ → List ℕ → List (List ℕ)
  new_nodes node n d = climb node (trailing_ones n) 0 (size_of n) d
