-- The letter of one leaf, over any digest function: what turns lead to, the items along them, and the tree that a leaf and items make.
use Rattle.std.specs.Prelude.{Bool, true, false, List, [], ◌∷◌, ◌++◌, ℕ, length, get_or, take, drop}
use Rattle.shape.specs.Tree.{Tree, tip, fork, Turn, left, right, past, root}

-- a right turn: `right` between two sides of one length, `past` where the left one is longer, which in a log's tree is a peak
abbrev pub rightward : Bool → Turn
rightward true = right
rightward false = past

-- in this tree these turns lead to a leaf of this digest
pub data Leads : Tree → List Turn → List ℕ → Type 0 where
  here : {d : List ℕ} → Leads (tip d) [] d
  to_left : {l r : Tree} {w : List Turn} {d : List ℕ} → Leads l w d → Leads (fork l r) (left ∷ w) d
  to_right_lem : {l r : Tree} {w : List Turn} {d : List ℕ} → Leads r w d → Leads (fork l r) (right ∷ w) d
  to_past : {l r : Tree} {w : List Turn} {d : List ℕ} → Leads r w d → Leads (fork l r) (past ∷ w) d

-- the tree that a leaf's digest and items make along these turns: a side that is passed is the first item left, any other the last
abbrev pub fill : List Turn → List ℕ → List (List ℕ) → Tree
fill [] d xs = tip d
fill (left ∷ w) d xs = fork (fill w d (take (length w) xs)) (tip (get_or xs (length w) []))
fill (right ∷ w) d xs = fork (tip (get_or xs (length w) [])) (fill w d (take (length w) xs))
fill (past ∷ w) d xs = fork (tip (get_or xs 0 [])) (fill w d (drop 1 xs))

module _ (digest : List ℕ → List ℕ) where
  -- the items along these turns: a side that is passed comes first, any other last. In a log's tree they are those of RULES 9.2 (`items_read`)
  abbrev pub items : Tree → List Turn → List (List ℕ)
  items (tip d) w = []
  items (fork l r) [] = []
  items (fork l r) (left ∷ w) = items l w ++ (root digest r ∷ [])
  items (fork l r) (right ∷ w) = items r w ++ (root digest l ∷ [])
  items (fork l r) (past ∷ w) = root digest l ∷ items r w
