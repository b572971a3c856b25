-- A tree of digests, over any digest function: its root, the strings that it hashes, and their places.
use Rattle.std.specs.Prelude.{◌≡◌, ℕ, length}
use mathlib.Core.List.{List, [], ◌∷◌, ◌++◌, map, Mem}

-- a digest that is taken as it stands, a leaf's or that of a part that is not looked into; or two sides
pub data Tree : Type 0 where
  tip : List ℕ → Tree
  fork : Tree → Tree → Tree

-- each digest that a tree takes as it stands has 32 bytes
abbrev pub Tips32 : Tree → Type 0
Tips32 (tip d) = length d ≡ 32
Tips32 (fork l r) = Tips32 l × Tips32 r

-- two trees of one shape
pub data Alike : Tree → Tree → Type 0 where
  tips : {d e : List ℕ} → Alike (tip d) (tip e)
  forks : {l m r s : Tree} → Alike l m → Alike r s → Alike (fork l r) (fork m s)

-- a turn at a fork on the way down: left; right; and, in a log's tree, right past a left side that is longer
pub data Turn : Type 0 where
  left right past : Turn

-- the places of a tree's forks, as the turns that lead there: from the root, left before right
abbrev pub places : Tree → List (List Turn)
places (tip d) = []
places (fork l r) = [] ∷ map (left ∷◌) (places l) ++ map (right ∷◌) (places r)

module _ (digest : List ℕ → List ℕ) where
  -- the root: a parent is the digest of left then right, 64 bytes
  abbrev pub root : Tree → List ℕ
  root (tip d) = d
  root (fork l r) = digest (root l ++ root r)

  -- the strings that are hashed, at the tree's places in their order (`inputs_placed`)
  abbrev pub inputs : Tree → List (List ℕ)
  inputs (tip d) = []
  inputs (fork l r) = (root l ++ root r) ∷ inputs l ++ inputs r

  -- the string that is hashed at a place
  abbrev pub hashed_at : Tree → List Turn → List ℕ
  hashed_at (tip d) p = []
  hashed_at (fork l r) [] = root l ++ root r
  hashed_at (fork l r) (left ∷ p) = hashed_at l p
  hashed_at (fork l r) (right ∷ p) = hashed_at r p
  hashed_at (fork l r) (past ∷ p) = hashed_at r p

  -- the second tree is the first with some parts not looked into: their roots stand there as tips
  pub data Pruned : Tree → Tree → Type 0 where
    cut : (t : Tree) → Pruned t (tip (root t))
    kept : {l m r s : Tree} → Pruned l m → Pruned r s → Pruned (fork l r) (fork m s)

  -- one is hashed in the first tree and the other in the second, at one place, which is a place of both
  pub record OnePlace (t u : Tree) (a b : List ℕ) : Type 0 where
    pub place : List Turn
    pub in_first : Mem place (places t)
    pub in_second : Mem place (places u)
    pub ours : a ≡ hashed_at t place
    pub theirs : b ≡ hashed_at u place
