-- A log's own nodes show on the way to a leaf what the log hashes there, and no node is broken.
use mathlib.Core.Path.{◌≡◌, refl, sym, ap, ap₂, ◌∙◌}
use mathlib.Core.Logic.{by_cases}
use mathlib.Core.List.{List, [], ◌∷◌, ◌++◌, append-nil}
use Prim.Native.Nat.{ℕ, zero, suc, ◌-◌, ◌^◌, ◌≤◌, ◌<◌}
use native.Mathlib.Decide.{dec_le, dec_lt}
use native.Mathlib.Omega.{arith}
use lib.ListN.{length, length-drop, get_or, take, drop}
use lib.Seq.{take_at, get_or_at, length-take-le}
use Rattle.wire.proofs.Differences.{differ_same}
use Rattle.shape.specs.Sizes.{height_of}
use Rattle.shape.specs.Tree.{Tree, tip, fork, Turn, left, right, past, root, inputs}
use Rattle.shape.specs.Folded.{tree_in, tree}
use Rattle.shape.specs.Nodes.{Holds, perfect, nodes_in, nodes}
use Rattle.shape.specs.Positions.{behind}
use Rattle.shape.specs.Letter.{Leads, here, to_left, to_right_lem, to_past, fill, items}
use Rattle.shape.specs.Way.{way_in, way}
use Rattle.shape.specs.Seen.{sides, seen_in, seen, broken_in, broken}
use Rattle.shape.proofs.Heights.{height_holds}
use Rattle.shape.proofs.Letters.{items_length, complete}
use Rattle.shape.proofs.Trees.{tree_low, tree_high}
use Rattle.shape.proofs.Ways.{way_low, way_left, way_right, way_past, leads_in}
use Rattle.shape.proofs.Nodes.{peakwise_low, peakwise_one}
use Rattle.shape.proofs.Reading.{sides_held, root_in, left_read, right_read}
use Rattle.shape.proofs.Seen.{seen_low, seen_left, seen_right, top_differs, broken_low, broken_left, broken_right, broken_one}

module _ (digest : List ℕ → List ℕ) where
  -- what a tree hashes along a way
  abbrev along : Tree → List Turn → List (List ℕ)
  along (tip d) w = []
  along (fork l r) [] = []
  along (fork l r) (left ∷ w) = (root digest l ++ root digest r) ∷ along l w
  along (fork l r) (right ∷ w) = (root digest l ++ root digest r) ∷ along r w
  along (fork l r) (past ∷ w) = (root digest l ++ root digest r) ∷ along r w

  along_own : {t : Tree} {w : List Turn} {d : List ℕ} → Leads t w d → along t w ≡ inputs digest (fill w d (items digest t w))
  along_own here = refl
  along_own (to_left {l} {r} {w} {d} p) =
      rw (
        take_at (items digest l w) (root digest r ∷ []) (length w) (items_length digest p),
        get_or_at (items digest l w) (root digest r) [] [] (length w) (items_length digest p),
        complete digest p,
        along_own p,
        append-nil (inputs digest (fill w d (items digest l w))),
      )
  along_own (to_right_lem {l} {r} {w} p) =
      rw (
        take_at (items digest r w) (root digest l ∷ []) (length w) (items_length digest p),
        get_or_at (items digest r w) (root digest l) [] [] (length w) (items_length digest p),
        complete digest p,
        along_own p,
      )
  along_own (to_past p) = rw (complete digest p, along_own p)

  module _ (node : ℕ → List ℕ) where
    abbrev roots : ℕ → List (List ℕ) → List ℕ
    roots h ds = root digest (tree_in h (take (2 ^ h) ds)) ++ root digest (tree_in h (drop (2 ^ h) ds))

    sides_own : (h s : ℕ) (ds : List (List ℕ)) → 2 ^ h < length ds → length ds ≤ 2 ^ suc h → Holds node s (nodes_in digest (suc (suc h)) ds)
        → sides digest node h (length ds) s ≡ roots h ds
    sides_own h s ds p q f =
        let d = sides_held digest node h s ds p q f in
        ap₂ (λ (x y : List ℕ). x ++ y) (left_read digest node h s ds p d) (right_read digest node h s ds p q d)

    top_own : (h s : ℕ) (ds : List (List ℕ)) → 2 ^ h < length ds → length ds ≤ 2 ^ suc h → Holds node s (nodes_in digest (suc (suc h)) ds)
        → top_differs digest node h (length ds) s ≡ 0
    top_own h s ds p q f =
        differ_same _ _
        (root_in digest node (suc h) s ds (omega arith) q f ∙ rw (tree_high h ds p) (ap digest (sym (sides_own h s ds p q f))))

    -- a right turn, within a peak or past one
    rightward_along : (h : ℕ) (ds : List (List ℕ)) (i : ℕ) → 2 ^ h < length ds → length ds ≤ 2 ^ suc h → 2 ^ h ≤ i
        → along (fork (tree_in h (take (2 ^ h) ds)) (tree_in h (drop (2 ^ h) ds))) (way_in (suc h) (length ds) i)
        ≡ roots h ds ∷ along (tree_in h (drop (2 ^ h) ds)) (way_in h (length ds - 2 ^ h) (i - 2 ^ h))
    rightward_along h ds i p q c =
        by_cases (dec_lt (length ds) (2 ^ suc h))
        (λ a. rw (way_past h (length ds) i p a c))
        (λ a. rw (way_right h (length ds) i (omega arith) c))

    -- a log's own nodes show what the log hashes, and none of them is broken
    record OwnIn (h s : ℕ) (ds : List (List ℕ)) (i : ℕ) : Type 0 where
      shows : seen_in digest node h (length ds) i s ≡ along (tree_in h ds) (way_in h (length ds) i)
      sound : broken_in digest node (suc h) (length ds) i s ≡ 0

    own_in : (h s : ℕ) (ds : List (List ℕ)) (i : ℕ) → i < length ds → length ds ≤ 2 ^ h → Holds node s (nodes_in digest (suc h) ds)
        → OwnIn h s ds i
    unfolding seen_in tree_in
    own_in zero s ds i p q f = record { shows = refl; sound = broken_one digest node (length ds) i s q p }
    own_in (suc h) s ds i p q f =
        by_cases (dec_le (length ds) (2 ^ h))
        (λ a.
        let o = own_in h s ds i p a (rw (peakwise_low (perfect digest) h ds a) at f) in
        record {
          shows = rw (seen_low digest node h (length ds) i s a, tree_low h ds a, way_low h (length ds) i a) o.shows;
          sound = rw (broken_low digest node h (length ds) i s a) o.sound;
        })
        (λ a.
        let l : 2 ^ h < length ds = omega arith in
        let d = sides_held digest node h s ds l q f in
        let n : length (take (2 ^ h) ds) ≡ 2 ^ h = length-take-le (2 ^ h) ds (omega arith) in
        let m : length (drop (2 ^ h) ds) ≡ length ds - 2 ^ h = length-drop (2 ^ h) ds in
        by_cases (dec_lt i (2 ^ h))
        (λ c.
        let o = own_in h s (take (2 ^ h) ds) i (omega arith) (omega arith) (rw (peakwise_one (perfect digest) h (take (2 ^ h) ds) n) d.lefts) in
        record {
          shows =
              rw (seen_left digest node h (length ds) i s l c, way_left h (length ds) i l c, tree_high h ds l, sides_own h s ds l q f)
              (ap {B = List (List ℕ)} (λ x. roots h ds ∷ x) (rw n at o.shows));
          sound = rw (broken_left digest node h (length ds) i s l q c, top_own h s ds l q f) (rw n at o.sound);
        })
        (λ c.
        let b : 2 ^ h ≤ i = omega arith in
        let o = own_in h (behind h s) (drop (2 ^ h) ds) (i - 2 ^ h) (omega arith) (omega arith) d.rights in
        record {
          shows =
              rw (seen_right digest node h (length ds) i s l b, tree_high h ds l, sides_own h s ds l q f, rw m at o.shows)
              (sym (rightward_along h ds i l q b));
          sound = rw (broken_right digest node h (length ds) i s l q b p, top_own h s ds l q f) (rw m at o.sound);
        }))

    -- on the way to leaf i a log's own nodes show the inputs of the tree that its letter makes ..
    pub seen_own : (ds : List (List ℕ)) (i : ℕ) → i < length ds → Holds node 0 (nodes digest ds)
        → seen digest node (length ds) i ≡ inputs digest (fill (way (length ds) i) (get_or ds i []) (items digest (tree ds) (way (length ds) i)))
    unfolding seen tree way nodes
    seen_own ds i p f =
        let h = height_of (length ds) in
        let q = height_holds (length ds) in
        (own_in h 0 ds i p q f).shows ∙ along_own (leads_in h ds i p q)

    -- .. and no node is broken
    pub broken_own : (ds : List (List ℕ)) (i : ℕ) → i < length ds → Holds node 0 (nodes digest ds)
        → broken digest node (length ds) i ≡ 0
    unfolding broken nodes
    broken_own ds i p f = (own_in (height_of (length ds)) 0 ds i p (height_holds (length ds)) f).sound
