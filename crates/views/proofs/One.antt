-- A passage of one index makes the tree that the single letter makes, from the same leaf and the same items. What is cited: `one_givens`, `one_fill`,
-- `one_plant`, `one_gives`, `one_tree`, and `walk_letter` with `letter_walk`: the letters of one index are those of the single letter, one for one.
use mathlib.Core.Path.{◌≡◌, refl, sym, ap, ap₂, ◌∙◌}
use mathlib.Core.Logic.{by_cases}
use mathlib.Core.Bool.{Bool, true, false}
use mathlib.Core.List.{List, [], ◌∷◌, ◌++◌}
use Prim.Native.Nat.{ℕ, zero, suc, ◌+◌, ◌-◌, ◌^◌, ◌≤◌, ◌<◌}
use native.Mathlib.Decide.{dec_le, dec_lt}
use native.Mathlib.Omega.{arith}
use lib.ListN.{length, length-append, length-drop, get_or, take, drop}
use lib.Seq.{take_at, get_or_at, drop_at, take-suc, take_all, drop-cons, length-take-le}
use lib.Dec.{eqb}
use Rattle.shape.specs.Sizes.{height_of}
use Rattle.shape.specs.Tree.{Tree, fork, tip, Turn, left, right, past, root}
use Rattle.shape.specs.Folded.{tree}
use Rattle.shape.specs.Letter.{rightward, Leads, here, to_left, to_right_lem, to_past, fill, items}
use Rattle.shape.specs.Way.{way_in, way}
use Rattle.wire.proofs.Lists.{none_of}
use Rattle.shape.proofs.Heights.{height_holds}
use Rattle.shape.proofs.Letters.{items_length}
use Rattle.shape.proofs.Ways.{way_low, way_left, way_turn, way_leads}
use Rattle.views.specs.View.{View, given, both, givens, askeds, plant, gives_of}
use Rattle.views.specs.Passage.{under, passage_in, passage}
use Rattle.views.specs.One.{along, walk_order, letter_order}
use Rattle.views.proofs.Planted.{plant_more}
use Rattle.views.proofs.Passages.{under_more, under_none, passage_none, passage_leaf, passage_low, passage_fork}

-- ---- its view

pub along_rightward : (b : Bool) (w : List Turn) → along (rightward b ∷ w) ≡ both given (along w)
along_rightward true w = refl
along_rightward false w = refl

one_under : (m i : ℕ) → i < m → under m (i ∷ []) ≡ 1
unfolding under
one_under m i p = under_more m i [] p

passage_way_in : (h n p i : ℕ) → p ≤ i → i < p + n → n ≤ 2 ^ h → passage_in h n p (i ∷ []) ≡ along (way_in h n (i - p))
unfolding way_in
passage_way_in zero n p i a b q = passage_leaf n p i []
passage_way_in (suc h) n p i a b q =
    by_cases (dec_le n (2 ^ h))
    (λ l. rw (passage_low h n p (i ∷ []) l, way_low h n (i - p) l) (passage_way_in h n p i a b l))
    (λ l.
    let c : 2 ^ h < n = omega arith in
    by_cases (dec_lt i (p + 2 ^ h))
    (λ d.
    rw (passage_fork h n p i [] c, one_under (p + 2 ^ h) i d, way_left h n (i - p) c (omega arith), passage_none h (n - 2 ^ h) (p + 2 ^ h))
    (ap (λ (v : View). both v given) (passage_way_in h (2 ^ h) p i a d (omega arith))))
    (λ d.
    let e : i - (p + 2 ^ h) ≡ i - p - 2 ^ h = omega arith in
    rw (
      passage_fork h n p i [] c,
      under_none (p + 2 ^ h) i [] (omega arith),
      way_turn h n (i - p) c (omega arith),
      passage_none h (2 ^ h) p,
      along_rightward (eqb n (2 ^ suc h)) (way_in h (n - 2 ^ h) (i - p - 2 ^ h)),
      ← e,
    ) (ap (both given) (passage_way_in h (n - 2 ^ h) (p + 2 ^ h) i (omega arith) (omega arith) (omega arith)))))

-- the view of one index is that of the turns to its leaf
pub passage_way : (n i : ℕ) → i < n → passage n (i ∷ []) ≡ along (way n i)
unfolding passage way
passage_way n i p =
    let e : i - 0 ≡ i = omega arith in
    passage_way_in (height_of n) n 0 i (omega arith) (omega arith) (height_holds n) ∙ ap (λ (k : ℕ). along (way_in (height_of n) n k)) e

along_givens : (w : List Turn) → givens (along w) ≡ length w
along_givens [] = refl
along_givens (left ∷ w) = omega (arith, along_givens w)
along_givens (right ∷ w) = omega (arith, along_givens w)
along_givens (past ∷ w) = omega (arith, along_givens w)

along_askeds : (w : List Turn) → askeds (along w) ≡ 1
along_askeds [] = refl
along_askeds (left ∷ w) = omega (arith, along_askeds w)
along_askeds (right ∷ w) = omega (arith, along_askeds w)
along_askeds (past ∷ w) = omega (arith, along_askeds w)

-- ---- the two orders

walk_length : (w : List Turn) (xs : List (List ℕ)) → length (walk_order w xs) ≡ length w
walk_length [] xs = refl
walk_length (left ∷ w) xs = rw (length-append, walk_length w (take (length w) xs)) (omega arith)
walk_length (right ∷ w) xs = ap suc (walk_length w (take (length w) xs))
walk_length (past ∷ w) xs = ap suc (walk_length w (drop 1 xs))

letter_length : (w : List Turn) (ys : List (List ℕ)) → length (letter_order w ys) ≡ length w
letter_length [] ys = refl
letter_length (left ∷ w) ys = rw (length-append, letter_length w (take (length w) ys)) (omega arith)
letter_length (right ∷ w) ys = rw (length-append, letter_length w (drop 1 ys)) (omega arith)
letter_length (past ∷ w) ys = ap suc (letter_length w (drop 1 ys))

snoc : (xs : List (List ℕ)) (n : ℕ) → length xs ≡ suc n → take n xs ++ (get_or xs n [] ∷ []) ≡ xs
snoc xs n e = sym (take-suc xs n [] (omega arith)) ∙ take_all (suc n) xs (omega arith)

uncons : (xs : List (List ℕ)) (n : ℕ) → length xs ≡ suc n → get_or xs 0 [] ∷ drop 1 xs ≡ xs
uncons xs n e = sym (drop-cons xs 0 [] (omega arith))

module _ (w : List Turn) (xs : List (List ℕ)) (e : length xs ≡ suc (length w)) where
  most_length : length (take (length w) xs) ≡ length w
  most_length = length-take-le (length w) xs (omega arith)

  rest_length : length (drop 1 xs) ≡ length w
  rest_length = length-drop 1 xs ∙ omega arith

-- some list with one string behind it, and with one before it
abbrev behind_it : List (List ℕ) → List ℕ → List (List ℕ)
behind_it xs x = xs ++ (x ∷ [])

abbrev before_it : List ℕ → List (List ℕ) → List (List ℕ)
before_it x xs = x ∷ xs

-- the digests of a passage of one index are some items in the walk's order ..
pub walk_letter : (w : List Turn) (ys : List (List ℕ)) → length ys ≡ length w → walk_order w (letter_order w ys) ≡ ys
walk_letter [] ys e = sym (none_of ys e)
walk_letter (left ∷ w) ys e =
    let zs = letter_order w (take (length w) ys) in
    let z = get_or ys (length w) [] in
    let n : length zs ≡ length w = letter_length w (take (length w) ys) in
    ap₂ behind_it (ap (walk_order w) (take_at zs (z ∷ []) (length w) n) ∙ walk_letter w (take (length w) ys) (most_length w ys e))
    (get_or_at zs z [] [] (length w) n)
    ∙ snoc ys (length w) e
walk_letter (right ∷ w) ys e =
    let zs = letter_order w (drop 1 ys) in
    let z = get_or ys 0 [] in
    let n : length zs ≡ length w = letter_length w (drop 1 ys) in
    ap₂ before_it (get_or_at zs z [] [] (length w) n)
    (ap (walk_order w) (take_at zs (z ∷ []) (length w) n) ∙ walk_letter w (drop 1 ys) (rest_length w ys e))
    ∙ uncons ys (length w) e
walk_letter (past ∷ w) ys e = ap (before_it (get_or ys 0 [])) (walk_letter w (drop 1 ys) (rest_length w ys e)) ∙ uncons ys (length w) e

-- .. and no two lists of items come out as one
pub letter_walk : (w : List Turn) (xs : List (List ℕ)) → length xs ≡ length w → letter_order w (walk_order w xs) ≡ xs
letter_walk [] xs e = sym (none_of xs e)
letter_walk (left ∷ w) xs e =
    let zs = walk_order w (take (length w) xs) in
    let z = get_or xs (length w) [] in
    let n : length zs ≡ length w = walk_length w (take (length w) xs) in
    ap₂ behind_it (ap (letter_order w) (take_at zs (z ∷ []) (length w) n) ∙ letter_walk w (take (length w) xs) (most_length w xs e))
    (get_or_at zs z [] [] (length w) n)
    ∙ snoc xs (length w) e
letter_walk (right ∷ w) xs e =
    ap (λ (zs : List (List ℕ)). behind_it zs (get_or xs (length w) [])) (letter_walk w (take (length w) xs) (most_length w xs e)) ∙ snoc xs (length w) e
letter_walk (past ∷ w) xs e = ap (before_it (get_or xs 0 [])) (letter_walk w (drop 1 xs) (rest_length w xs e)) ∙ uncons xs (length w) e

-- ---- the trees

along_fill : (w : List Turn) (d : List ℕ) (xs : List (List ℕ)) → plant (along w) (d ∷ []) (walk_order w xs) ≡ fill w d xs
along_fill [] d xs = refl
along_fill (left ∷ w) d xs =
    let zs = walk_order w (take (length w) xs) in
    let z = get_or xs (length w) [] in
    let n : length zs ≡ givens (along w) = walk_length w (take (length w) xs) ∙ sym (along_givens w) in
    rw (plant_more (along w) (d ∷ []) [] zs (z ∷ []) (omega (arith, along_askeds w), omega arith), drop_at zs (z ∷ []) (givens (along w)) n)
    (ap (λ (t : Tree). fork t (tip z)) (along_fill w d (take (length w) xs)))
along_fill (right ∷ w) d xs = ap (fork (tip (get_or xs (length w) []))) (along_fill w d (take (length w) xs))
along_fill (past ∷ w) d xs = ap (fork (tip (get_or xs 0 []))) (along_fill w d (drop 1 xs))

module _ (n i : ℕ) (p : i < n) where
  -- as many digests as the letter has items
  pub one_givens : givens (passage n (i ∷ [])) ≡ length (way n i)
  one_givens = ap givens (passage_way n i p) ∙ along_givens (way n i)

  -- a leaf and a letter's items make one tree as a passage and as a letter ..
  pub one_fill : (d : List ℕ) (xs : List (List ℕ)) → plant (passage n (i ∷ [])) (d ∷ []) (walk_order (way n i) xs) ≡ fill (way n i) d xs
  one_fill d xs = rw (passage_way n i p) (along_fill (way n i) d xs)

  -- .. and so do a leaf and a passage's digests
  pub one_plant : (d : List ℕ) (ys : List (List ℕ)) → length ys ≡ givens (passage n (i ∷ []))
      → plant (passage n (i ∷ [])) (d ∷ []) ys ≡ fill (way n i) d (letter_order (way n i) ys)
  one_plant d ys e =
      ap (plant (passage n (i ∷ [])) (d ∷ [])) (sym (walk_letter (way n i) ys (e ∙ one_givens))) ∙ one_fill d (letter_order (way n i) ys)

module _ (digest : List ℕ → List ℕ) where
  along_gives : {t : Tree} {w : List Turn} {d : List ℕ} → Leads t w d → gives_of digest (along w) t ≡ walk_order w (items digest t w)
  along_gives here = refl
  along_gives (to_left {l} {r} {w} p) =
      rw (
        take_at (items digest l w) (root digest r ∷ []) (length w) (items_length digest p),
        get_or_at (items digest l w) (root digest r) [] [] (length w) (items_length digest p),
        along_gives p,
      )
  along_gives (to_right_lem {l} {r} {w} p) =
      rw (
        take_at (items digest r w) (root digest l ∷ []) (length w) (items_length digest p),
        get_or_at (items digest r w) (root digest l) [] [] (length w) (items_length digest p),
        along_gives p,
      )
  along_gives (to_past p) = rw (along_gives p)

  module _ (ds : List (List ℕ)) (i : ℕ) (p : i < length ds) where
    -- of a log's tree: the digests that the passage gives are the letter's items ..
    pub one_gives : gives_of digest (passage (length ds) (i ∷ [])) (tree ds)
        ≡ walk_order (way (length ds) i) (items digest (tree ds) (way (length ds) i))
    one_gives = rw (passage_way (length ds) i p) (along_gives (way_leads ds i p))

    -- .. so both letters make one tree
    pub one_tree : (d : List ℕ) → plant (passage (length ds) (i ∷ [])) (d ∷ []) (gives_of digest (passage (length ds) (i ∷ [])) (tree ds))
        ≡ fill (way (length ds) i) d (items digest (tree ds) (way (length ds) i))
    one_tree d = rw one_gives (one_fill (length ds) i p d (items digest (tree ds) (way (length ds) i)))
