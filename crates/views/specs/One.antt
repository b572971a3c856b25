-- A passage of one index beside the single letter: its view is that of the turns to the leaf, its digests are the letter's items in another order.
use Rattle.std.specs.Prelude.{List, [], ◌∷◌, ◌++◌, ℕ, length, get_or, take, drop}
use Rattle.shape.specs.Tree.{Turn, left, right, past}
use Rattle.views.specs.View.{View, given, asked, both}

-- what is seen along these turns: the leaf, and a digest for each side beside the way (`passage_way`)
abbrev pub along : List Turn → View
along [] = asked
along (left ∷ w) = both (along w) given
along (right ∷ w) = both given (along w)
along (past ∷ w) = both given (along w)

-- the items of a letter in the walk's order: a side to the left comes before all that is below, one to the right behind it
abbrev pub walk_order : List Turn → List (List ℕ) → List (List ℕ)
walk_order [] xs = []
walk_order (left ∷ w) xs = walk_order w (take (length w) xs) ++ (get_or xs (length w) [] ∷ [])
walk_order (right ∷ w) xs = get_or xs (length w) [] ∷ walk_order w (take (length w) xs)
walk_order (past ∷ w) xs = get_or xs 0 [] ∷ walk_order w (drop 1 xs)

-- and back: the digests of a passage of one index in the order of a letter's items
abbrev pub letter_order : List Turn → List (List ℕ) → List (List ℕ)
letter_order [] ys = []
letter_order (left ∷ w) ys = letter_order w (take (length w) ys) ++ (get_or ys (length w) [] ∷ [])
letter_order (right ∷ w) ys = letter_order w (drop 1 ys) ++ (get_or ys 0 [] ∷ [])
letter_order (past ∷ w) ys = get_or ys 0 [] ∷ letter_order w (drop 1 ys)
