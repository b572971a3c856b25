-- A log's own nodes: under a view they make the log's tree with parts not looked into, they give what the view gives of it, and none is broken.
use mathlib.Core.Path.{◌≡◌, refl, sym, ap, ap₂, ◌∙◌}
use mathlib.Core.List.{List, [], ◌++◌}
use Prim.Native.Nat.{ℕ, suc, ◌-◌, ◌^◌, ◌≤◌, ◌<◌}
use native.Mathlib.Nat.{zero-add}
use native.Mathlib.Omega.{arith}
use lib.ListN.{length, length-drop, get_or, take, drop}
use lib.Seq.{length-take-le}
use lib.Pow.{pow_pos}
use Rattle.wire.proofs.Differences.{differ_same}
use Rattle.shape.specs.Sizes.{height_of}
use Rattle.shape.specs.Tree.{Tree, tip, fork, root, inputs, Pruned, cut, kept}
use Rattle.shape.specs.Folded.{tree_in, tree}
use Rattle.shape.specs.Nodes.{Holds, perfect, nodes}
use Rattle.shape.specs.Positions.{behind}
use Rattle.shape.proofs.Heights.{height_holds}
use Rattle.shape.proofs.Trees.{tree_any, tree_split}
use Rattle.shape.proofs.Nodes.{peakwise_one, nodes_any}
use Rattle.shape.proofs.Reading.{root_in, sides_held}
use Rattle.shape.proofs.Prune.{pruned_root}
use Rattle.views.specs.View.{View, given, asked, both, plant, side, ViewOf, leaves_of, gives_of}
use Rattle.views.specs.Shows.{on_top, broken_top, seen_by, broken_by, gives_by, leaves_by, tree_by}
use Rattle.views.proofs.Sides.{side_holds, side_below, top_one, sides_tops, broken_top_lem}
use Rattle.views.proofs.Planted.{Exact}
use Rattle.views.proofs.Nodes.{gives_exact, leaves_exact, planted, seen_by_lem}

-- the tree of one leaf
tree_one : (ds : List (List ℕ)) → length ds ≡ 1 → tree ds ≡ tip (get_or ds 0 [])
unfolding tree_in
tree_one ds e = sym (tree_any 0 ds (omega arith))

module _ (digest : List ℕ → List ℕ) (node : ℕ → List ℕ) where
  -- a buffer that holds a log's nodes holds those of its two sides
  module _ (h s : ℕ) (ds : List (List ℕ)) (p : 2 ^ h < length ds) (q : length ds ≤ 2 ^ suc h) (f : Holds node s (nodes digest ds)) where
    pub held_left : Holds node s (nodes digest (take (2 ^ h) ds))
    held_left =
        let n : length (take (2 ^ h) ds) ≡ 2 ^ h = length-take-le (2 ^ h) ds (omega arith) in
        let d = sides_held digest node h s ds p q (rw (nodes_any digest (suc h) ds q) f) in
        rw (← nodes_any digest h (take (2 ^ h) ds) (omega arith), peakwise_one (perfect digest) h (take (2 ^ h) ds) n) d.lefts

    pub held_right : Holds node (behind h s) (nodes digest (drop (2 ^ h) ds))
    held_right =
        let m : length (drop (2 ^ h) ds) ≡ length ds - 2 ^ h = length-drop (2 ^ h) ds in
        let d = sides_held digest node h s ds p q (rw (nodes_any digest (suc h) ds q) f) in
        rw (← nodes_any digest h (drop (2 ^ h) ds) (omega arith)) d.rights

  -- what stands on top of a log is its root
  pub top_own : (s : ℕ) (ds : List (List ℕ)) → 0 < length ds → Holds node s (nodes digest ds)
      → on_top digest node (length ds) s ≡ root digest (tree ds)
  unfolding tree nodes on_top
  top_own s ds p f = root_in digest node (height_of (length ds)) s ds p (height_holds (length ds)) f

  pub record OwnBy (v : View) (s : ℕ) (ds : List (List ℕ)) : Type 0 where
    pub prunes : Pruned digest (tree ds) (tree_by digest node v (length ds) s)
    pub sound : broken_by digest node v (length ds) s ≡ 0
    pub gives : gives_by digest node v (length ds) s ≡ gives_of digest v (tree ds)
    pub leaves : leaves_by digest node v (length ds) s ≡ leaves_of v (tree ds)

  module _ (l r : View) (s : ℕ) (ds : List (List ℕ)) (o : ViewOf (length ds) (both l r)) (f : Holds node s (nodes digest ds)) where
    abbrev half : ℕ
    half = side (length ds)

    below : 2 ^ half < length ds
    below = side_below (length ds) o.0

    holds : length ds ≤ 2 ^ suc half
    holds = side_holds (length ds) o.0

    front : length (take (2 ^ half) ds) ≡ 2 ^ half
    front = length-take-le (2 ^ half) ds (omega (arith, below))

    back : length (drop (2 ^ half) ds) ≡ length ds - 2 ^ half
    back = length-drop (2 ^ half) ds

    split : tree ds ≡ fork (tree (take (2 ^ half) ds)) (tree (drop (2 ^ half) ds))
    split = tree_split half ds below holds

    fork_sound : broken_top digest node half (length ds) s ≡ 0
    fork_sound =
        let u : on_top digest node (2 ^ half) s ≡ root digest (tree (take (2 ^ half) ds)) =
        rw front at (top_own s (take (2 ^ half) ds) (omega (arith, front, pow_pos half)) (held_left half s ds below holds f)) in
        let w : on_top digest node (length ds - 2 ^ half) (behind half s) ≡ root digest (tree (drop (2 ^ half) ds)) =
        rw back at (top_own (behind half s) (drop (2 ^ half) ds) (omega (arith, back, below)) (held_right half s ds below holds f)) in
        broken_top_lem digest node half (length ds) s below holds
        ∙ differ_same _ _ (top_own s ds (omega (arith, below)) f ∙ rw (split, sides_tops digest node half (length ds) s below holds, u, w))

    own_fork : OwnBy l s (take (2 ^ half) ds) → OwnBy r (behind half s) (drop (2 ^ half) ds) → OwnBy (both l r) s ds
    own_fork a b =
        record {
          prunes = rw split (kept (rw front at a.prunes) (rw back at b.prunes));
          sound = rw (fork_sound, rw front at a.sound, rw back at b.sound);
          gives = rw split (ap₂ (λ (x y : List (List ℕ)). x ++ y) (rw front at a.gives) (rw back at b.gives));
          leaves = rw split (ap₂ (λ (x y : List (List ℕ)). x ++ y) (rw front at a.leaves) (rw back at b.leaves));
        }

  pub own_by : (v : View) (s : ℕ) (ds : List (List ℕ)) → 0 < length ds → ViewOf (length ds) v → Holds node s (nodes digest ds) → OwnBy v s ds
  own_by given s ds p o f =
      let t = top_own s ds p f in
      record { prunes = rw t (cut (tree ds)); sound = refl; gives = rw t; leaves = refl }
  own_by asked s ds p o f =
      let e = tree_one ds o in
      let t : node s ≡ get_or ds 0 [] = sym (top_one digest node s) ∙ (rw (o, e) at (top_own s ds p f)) in
      record { prunes = rw (e, t) (cut (tip (get_or ds 0 []))); sound = refl; gives = refl; leaves = rw (e, t) }
  own_by (both l r) s ds p o f =
      let h = side (length ds) in
      let b = side_below (length ds) o.0 in
      let q = side_holds (length ds) o.0 in
      let n : length (take (2 ^ h) ds) ≡ 2 ^ h = length-take-le (2 ^ h) ds (omega arith) in
      let m : length (drop (2 ^ h) ds) ≡ length ds - 2 ^ h = length-drop (2 ^ h) ds in
      own_fork l r s ds o f
      (own_by l s (take (2 ^ h) ds) (omega (arith, pow_pos h)) (rw n o.1) (held_left h s ds b q f))
      (own_by r (behind h s) (drop (2 ^ h) ds) (omega arith) (rw m o.2) (held_right h s ds b q f))

  -- and they show what that tree hashes
  pub seen_own : (v : View) (s : ℕ) (ds : List (List ℕ)) → 0 < length ds → ViewOf (length ds) v → Holds node s (nodes digest ds)
      → seen_by digest node v (length ds) s ≡ inputs digest (tree_by digest node v (length ds) s)
  seen_own v s ds p o f = seen_by_lem digest node v (length ds) s o (own_by v s ds p o f).sound

module _ (digest : List ℕ → List ℕ) (v : View) (ds : List (List ℕ)) (p : 0 < length ds) (o : ViewOf (length ds) v) where
  -- the tree that a log's own letter makes
  abbrev pub own_tree : Tree
  own_tree = plant v (leaves_of v (tree ds)) (gives_of digest v (tree ds))

  buffer : ℕ → List ℕ
  buffer k = get_or (nodes digest ds) k []

  held : Holds buffer 0 (nodes digest ds)
  unfolding buffer
  held k l = ap (λ (x : ℕ). get_or (nodes digest ds) x []) (zero-add k)

  own_in_buffer : OwnBy digest buffer v 0 ds
  own_in_buffer = own_by digest buffer v 0 ds p o held

  own_is : tree_by digest buffer v (length ds) 0 ≡ own_tree
  own_is = sym (planted digest buffer v (length ds) 0) ∙ ap₂ (plant v) own_in_buffer.leaves own_in_buffer.gives

  -- it is the whole tree with parts not looked into ..
  pub plant_pruned : Pruned digest (tree ds) own_tree
  plant_pruned = rw own_is at own_in_buffer.prunes

  -- .. so our letter gives the log's root
  pub plant_complete : root digest own_tree ≡ root digest (tree ds)
  plant_complete = pruned_root digest plant_pruned

  pub own_exact : Exact v (leaves_of v (tree ds)) (gives_of digest v (tree ds))
  own_exact = (
    ap length (sym own_in_buffer.leaves) ∙ leaves_exact digest buffer v (length ds) 0,
    ap length (sym own_in_buffer.gives) ∙ gives_exact digest buffer v (length ds) 0,
  )
