-- Reading from a buffer that holds a log's nodes: the peaks folded are the root, and the folds at the items' positions are the items.
use mathlib.Core.Path.{◌≡◌, refl, sym, ap, ◌∙◌}
use mathlib.Core.Logic.{by_cases}
use mathlib.Core.List.{List, [], ◌∷◌, ◌++◌, map, map-append, append_assoc, append-nil}
use Prim.Native.Nat.{ℕ, zero, suc, ◌+◌, ◌-◌, ◌^◌, ◌≤◌, ◌<◌}
use native.Mathlib.Nat.{zero-add}
use native.Mathlib.Decide.{dec_le, dec_lt}
use native.Mathlib.Omega.{arith}
use lib.ListN.{length, length-drop, length-map, get_or, take, drop, replicate, length-replicate}
use lib.Seq.{get_or_at, length-take-le}
use Rattle.shape.specs.Sizes.{height_of}
use Rattle.shape.specs.Tree.{root}
use Rattle.shape.specs.Folded.{tree_in, tree}
use Rattle.shape.specs.Nodes.{Holds, perfect_root, perfect, nodes_in, nodes}
use Rattle.shape.specs.Positions.{top, behind, peaks_in, peaks, alone, positions_in, item_positions, fold}
use Rattle.shape.specs.Letter.{items}
use Rattle.shape.specs.Way.{way_in, way}
use Rattle.shape.proofs.Heights.{height_holds}
use Rattle.shape.proofs.Trees.{tree_low, tree_high}
use Rattle.shape.proofs.Letters.{items_length}
use Rattle.shape.proofs.Ways.{way_low, way_left, way_right, way_past, way_leads}
use Rattle.shape.proofs.Nodes.{peakwise_low, peakwise_one, peakwise_more, perfect_topped, perfect_length, perfect_root_lem}
use Rattle.shape.proofs.Held.{holds_left, holds_right}
use Rattle.shape.proofs.Peaks.{peaks_low, peaks_full, peaks_more, peaks_some}
use Rattle.shape.proofs.Positions.{positions_one, positions_low, positions_left, positions_right, positions_past}

module _ (digest : List ℕ → List ℕ) (node : ℕ → List ℕ) where
  pub fold_cons : (p : ℕ) (ps : List ℕ) → 0 < length ps → fold digest node (p ∷ ps) ≡ digest (node p ++ fold digest node ps)
  fold_cons p [] q = absurd (omega arith)
  fold_cons p (x ∷ ps) q = refl

  -- a fold of nodes has 32 bytes, as nodes and digests have
  pub fold_length : ((x : List ℕ) → length (digest x) ≡ 32) → ((p : ℕ) → length (node p) ≡ 32) → (ps : List ℕ) → 0 < length ps
      → length (fold digest node ps) ≡ 32
  fold_length digest_32 node-32 [] p = absurd (omega arith)
  fold_length digest_32 node-32 (x ∷ []) p = node-32 x
  fold_length digest_32 node-32 (x ∷ y ∷ ps) p = digest_32 (node x ++ fold digest node (y ∷ ps))

  -- the top of a perfect tree is its root
  pub top_read : (h s : ℕ) (ds : List (List ℕ)) → length ds ≡ 2 ^ h → Holds node s (perfect digest h ds)
      → node (top h s) ≡ root digest (tree_in h ds)
  top_read h s ds e f =
      let t = perfect_topped digest h ds e in
      f (2 ^ suc h - 2) (omega (arith, perfect_length digest h ds e))
      ∙ rw t.ends (get_or_at t.below (perfect_root digest h ds) [] [] (2 ^ suc h - 2) (omega arith))
      ∙ perfect_root_lem digest h ds e

  -- what stands on the two sides of a fork, one behind the other: a perfect tree, and the nodes of the rest
  pub record Sides (h s : ℕ) (ds : List (List ℕ)) : Type 0 where
    pub lefts : Holds node s (perfect digest h (take (2 ^ h) ds))
    pub rights : Holds node (behind h s) (nodes_in digest (suc h) (drop (2 ^ h) ds))

  sides_of : (h s : ℕ) (ds rest : List (List ℕ)) → 2 ^ h ≤ length ds
      → Holds node s (perfect digest h (take (2 ^ h) ds) ++ (nodes_in digest (suc h) (drop (2 ^ h) ds) ++ rest)) → Sides h s ds
  sides_of h s ds rest p f =
      let fore : List (List ℕ) = perfect digest h (take (2 ^ h) ds) in
      let back : List (List ℕ) = nodes_in digest (suc h) (drop (2 ^ h) ds) in
      let n : length fore ≡ 2 ^ suc h - 1 = perfect_length digest h (take (2 ^ h) ds) (length-take-le (2 ^ h) ds p) in
      record {
        lefts = holds_left node s fore (back ++ rest) f;
        rights = rw n at (holds_left node (s + length fore) back rest (holds_right node s fore (back ++ rest) f));
      }

  pub sides_held : (h s : ℕ) (ds : List (List ℕ)) → 2 ^ h < length ds → length ds ≤ 2 ^ suc h
      → Holds node s (nodes_in digest (suc (suc h)) ds) → Sides h s ds
  unfolding perfect
  sides_held h s ds p q f =
      let fore : List (List ℕ) = perfect digest h (take (2 ^ h) ds) in
      let back : List (List ℕ) = nodes_in digest (suc h) (drop (2 ^ h) ds) in
      by_cases (dec_lt (length ds) (2 ^ suc h))
      (λ a.
      let e : nodes_in digest (suc (suc h)) ds ≡ fore ++ (back ++ []) = peakwise_more (perfect digest) h ds (omega arith) a ∙ rw (append-nil back) in
      sides_of h s ds [] (omega arith) (rw e at f))
      (λ a.
      let n : length ds ≡ 2 ^ suc h = omega arith in
      let r : back ≡ perfect digest h (drop (2 ^ h) ds) = peakwise_one (perfect digest) h (drop (2 ^ h) ds) (length-drop (2 ^ h) ds ∙ omega arith) in
      let e : nodes_in digest (suc (suc h)) ds ≡ fore ++ (back ++ (perfect_root digest (suc h) ds ∷ [])) =
      peakwise_one (perfect digest) (suc h) ds n ∙ rw r (append_assoc fore (perfect digest h (drop (2 ^ h) ds)) (perfect_root digest (suc h) ds ∷ [])) in
      sides_of h s ds (perfect_root digest (suc h) ds ∷ []) (omega arith) (rw e at f))

  pub root_in : (h s : ℕ) (ds : List (List ℕ)) → 0 < length ds → length ds ≤ 2 ^ h → Holds node s (nodes_in digest (suc h) ds)
      → fold digest node (peaks_in (suc h) (length ds) s) ≡ root digest (tree_in h ds)
  root_in zero s ds p q f =
      let e : length ds ≡ 1 = omega arith in
      rw (peaks_full 0 (length ds) s e) (top_read 0 s ds e (rw (peakwise_one (perfect digest) 0 ds e) at f))
  root_in (suc h) s ds p q f =
      by_cases (dec_le (length ds) (2 ^ h))
      (λ a. rw (peaks_low h (length ds) s a, tree_low h ds a) (root_in h s ds p a (rw (peakwise_low (perfect digest) h ds a) at f)))
      (λ a. by_cases (dec_lt (length ds) (2 ^ suc h))
      (λ b.
      let l : 2 ^ h < length ds = omega arith in
      let d = sides_held h s ds l q f in
      let m : length (drop (2 ^ h) ds) ≡ length ds - 2 ^ h = length-drop (2 ^ h) ds in
      let r : fold digest node (peaks_in (suc h) (length ds - 2 ^ h) (behind h s)) ≡ root digest (tree_in h (drop (2 ^ h) ds)) =
      rw m at (root_in h (behind h s) (drop (2 ^ h) ds) (omega arith) (omega arith) d.rights) in
      rw (
        peaks_more h (length ds) s l b,
        tree_high h ds l,
        fold_cons (top h s) _ (peaks_some (suc h) (length ds - 2 ^ h) (behind h s) (omega arith) (omega arith)),
        top_read h s (take (2 ^ h) ds) (length-take-le (2 ^ h) ds (omega arith)) d.lefts,
        r,
      ))
      (λ b.
      let n : length ds ≡ 2 ^ suc h = omega arith in
      rw (peaks_full (suc h) (length ds) s n) (top_read (suc h) s ds n (rw (peakwise_one (perfect digest) (suc h) ds n) at f))))

  -- the root from any buffer that holds the log's nodes
  pub root_read : (ds : List (List ℕ)) → 0 < length ds → Holds node 0 (nodes digest ds)
      → fold digest node (peaks (length ds)) ≡ root digest (tree ds)
  unfolding peaks tree nodes
  root_read ds p f = root_in (height_of (length ds)) 0 ds p (height_holds (length ds)) f

  -- the roots of the two sides of a fork
  pub left_read : (h s : ℕ) (ds : List (List ℕ)) → 2 ^ h < length ds → Sides h s ds
      → node (top h s) ≡ root digest (tree_in h (take (2 ^ h) ds))
  left_read h s ds p d = top_read h s (take (2 ^ h) ds) (length-take-le (2 ^ h) ds (omega arith)) d.lefts

  pub right_read : (h s : ℕ) (ds : List (List ℕ)) → 2 ^ h < length ds → length ds ≤ 2 ^ suc h → Sides h s ds
      → fold digest node (peaks_in (suc h) (length ds - 2 ^ h) (behind h s)) ≡ root digest (tree_in h (drop (2 ^ h) ds))
  right_read h s ds p q d =
      let m : length (drop (2 ^ h) ds) ≡ length ds - 2 ^ h = length-drop (2 ^ h) ds in
      rw m at (root_in h (behind h s) (drop (2 ^ h) ds) (omega arith) (omega arith) d.rights)

  abbrev ItemsIn : ℕ → ℕ → List (List ℕ) → ℕ → Type 0
  ItemsIn h s ds i = map (fold digest node) (positions_in (suc h) (length ds) i s) ≡ items digest (tree_in h ds) (way_in h (length ds) i)

  items_in_lem : (h s : ℕ) (ds : List (List ℕ)) (i : ℕ) → i < length ds → length ds ≤ 2 ^ h → Holds node s (nodes_in digest (suc h) ds)
      → ItemsIn h s ds i
  unfolding tree_in
  items_in_lem zero s ds i p q f = rw (positions_one (length ds) i s q p)
  items_in_lem (suc h) s ds i p q f =
      by_cases (dec_le (length ds) (2 ^ h))
      (λ a.
      rw (positions_low h (length ds) i s a, tree_low h ds a, way_low h (length ds) i a)
      (items_in_lem h s ds i p a (rw (peakwise_low (perfect digest) h ds a) at f)))
      (λ a.
      let l : 2 ^ h < length ds = omega arith in
      let d = sides_held h s ds l q f in
      let n : length (take (2 ^ h) ds) ≡ 2 ^ h = length-take-le (2 ^ h) ds (omega arith) in
      let m : length (drop (2 ^ h) ds) ≡ length ds - 2 ^ h = length-drop (2 ^ h) ds in
      by_cases (dec_lt i (2 ^ h))
      (λ c.
      let t : ItemsIn h s (take (2 ^ h) ds) i =
      items_in_lem h s (take (2 ^ h) ds) i (omega arith) (omega arith) (rw (peakwise_one (perfect digest) h (take (2 ^ h) ds) n) d.lefts) in
      rw (
        positions_left h (length ds) i s l q c,
        way_left h (length ds) i l c,
        tree_high h ds l,
        map-append (fold digest node) (positions_in (suc h) (2 ^ h) i s) (peaks_in (suc h) (length ds - 2 ^ h) (behind h s) ∷ []),
        rw n at t,
        right_read h s ds l q d,
      ))
      (λ c.
      let b : 2 ^ h ≤ i = omega arith in
      let t : ItemsIn h (behind h s) (drop (2 ^ h) ds) (i - 2 ^ h) =
      items_in_lem h (behind h s) (drop (2 ^ h) ds) (i - 2 ^ h) (omega arith) (omega arith) d.rights in
      by_cases (dec_lt (length ds) (2 ^ suc h))
      (λ k.
      rw (
        positions_past h (length ds) i s l k b,
        way_past h (length ds) i l k b,
        tree_high h ds l,
        left_read h s ds l d,
        rw m at t,
      ))
      (λ k.
      let e : length ds ≡ 2 ^ suc h = omega arith in
      rw (
        positions_right h (length ds) i s e b p,
        way_right h (length ds) i e b,
        tree_high h ds l,
        map-append (fold digest node) (positions_in (suc h) (length ds - 2 ^ h) (i - 2 ^ h) (behind h s)) (alone (top h s) ∷ []),
        rw m at t,
        left_read h s ds l d,
      ))))

  -- the items from any buffer that holds the log's nodes: the folds at the positions of RULES 9.2, in its order
  pub items_read : (ds : List (List ℕ)) (i : ℕ) → i < length ds → Holds node 0 (nodes digest ds)
      → map (fold digest node) (item_positions (length ds) i) ≡ items digest (tree ds) (way (length ds) i)
  unfolding item_positions tree way nodes
  items_read ds i p f = items_in_lem (height_of (length ds)) 0 ds i p (height_holds (length ds)) f

-- an item for each turn, as positions
pub positions_length : (n i : ℕ) → i < n → length (item_positions n i) ≡ length (way n i)
positions_length n i p =
    let ds : List (List ℕ) = replicate n [] in
    let e : length ds ≡ n = length-replicate n [] in
    let keep : List ℕ → List ℕ = λ x. x in
    let node : ℕ → List ℕ = λ k. get_or (nodes keep ds) k [] in
    let q : i < length ds = omega arith in
    let r = items_read keep node ds i q (λ k l. ap node (zero-add k)) in
    sym (length-map (item_positions n i) (fold keep node))
    ∙ (rw e at (ap length r ∙ items_length keep (way_leads ds i q)))
