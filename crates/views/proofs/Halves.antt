-- Half-time: nodes of two logs and a letter with both roots agree on the old log's leaves, or the comparison finds a collision; and for a true
-- start the new log's own letter gives both roots. What is cited: `half_bind`, `half_digests`, `start_exact`, `start_new`, `start_old`.
use mathlib.Core.Path.{◌≡◌, sym, ap, ◌∙◌}
use mathlib.Core.List.{List, [], ◌++◌, map}
use Prim.Native.Nat.{ℕ, ◌≤◌, ◌<◌}
use native.Mathlib.Nat.{zero-add}
use native.Mathlib.Omega.{arith}
use lib.ListN.{length, length-append, length-map, get_or, take, drop, take-append-drop}
use lib.Seq.{length-take-le, get_or-take, ext_get_or}
use Rattle.shape.specs.Sizes.{size_of}
use Rattle.wire.specs.Slices.{Each}
use Rattle.shape.specs.Tree.{root}
use Rattle.shape.specs.Folded.{tree}
use Rattle.shape.specs.Nodes.{Holds, nodes}
use Rattle.shape.specs.Difference.{Shown}
use Rattle.shape.proofs.Difference.{shown_map}
use Rattle.wire.proofs.Lists.{none_of}
use Rattle.wire.proofs.Each.{each_take}
use Rattle.shape.proofs.Nodes.{nodes_length}
use Rattle.shape.proofs.Leaves.{later_keeps, leaf_digest}
use Rattle.shape.proofs.Prune.{pruned_root}
use Rattle.views.specs.View.{View, givens, askeds, plant, gives_of}
use Rattle.views.specs.Start.{start, old}
use Rattle.views.specs.Shows.{on_top, broken_by, gives_by, tree_by, unsound}
use Rattle.views.specs.Compared.{compared}
use Rattle.views.specs.Half.{old_tree, new_tree, Sound, half_difference}
use Rattle.views.proofs.Planted.{plant_taken, shown_or}
use Rattle.views.proofs.Nodes.{gives_exact, leaves_exact, planted, nodes_bind}
use Rattle.views.proofs.Own.{own_by}
use Rattle.views.proofs.Starts.{start_of, start_askeds, old_peaks, start_first, start_more}
use Rattle.views.proofs.Inside.{sound_view, sound_start, inside_bind}

-- ---- any nodes

module _ (digest : List ℕ → List ℕ) (digest_32 : (x : List ℕ) → length (digest x) ≡ 32)
    (a b : ℕ → List ℕ) (a-32 : (p : ℕ) → length (a p) ≡ 32) (b-32 : (p : ℕ) → length (b p) ≡ 32)
    (o n : ℕ) (some : 0 < o) (fewer : o ≤ n) (xs : List (List ℕ)) (exact : length xs ≡ givens (start o n)) (each : Each 32 xs) where
  abbrev first : List (List ℕ)
  first = take (givens (old o)) xs

  first_exact : length first ≡ givens (old o)
  first_exact = length-take-le (givens (old o)) xs (omega (arith, start_more digest a o some n fewer))

  first_tree : plant (old o) [] first ≡ old_tree o xs
  first_tree =
      let k : askeds (old o) ≡ 0 = start_askeds o o some (omega arith) in
      rw k at (plant_taken (old o) [] xs (omega arith, omega (arith, start_more digest a o some n fewer)))

  old_bound : on_top digest a o 0 ≡ root digest (old_tree o xs) → broken_by digest a (old o) o 0 ≡ 0
      → Shown digest (gives_by digest a (old o) o 0 ≡ first) (compared digest a (old o) o 0 [] xs)
  old_bound e z =
      shown_map digest _ _ (compared digest a (old o) o 0 [] xs) (λ k. k.1)
      (rw first_tree at
      (nodes_bind digest a digest_32 a-32 (old o) o 0 [] first some (start_of o o some (omega arith))
      (sym (start_askeds o o some (omega arith)), first_exact) tt (each_take 32 (givens (old o)) xs each)
      (e ∙ ap (root digest) (sym first_tree)) z))

  new_bound : on_top digest b n 0 ≡ root digest (new_tree o n xs) → broken_by digest b (start o n) n 0 ≡ 0
      → Shown digest (gives_by digest b (start o n) n 0 ≡ xs) (compared digest b (start o n) n 0 [] xs)
  new_bound e z =
      shown_map digest _ _ (compared digest b (start o n) n 0 [] xs) (λ k. k.1)
      (nodes_bind digest b digest_32 b-32 (start o n) n 0 [] xs (omega arith) (start_of o n some fewer)
      (sym (start_askeds o n some fewer), exact) tt each e z)

  -- the letter gives both roots and no node is broken at any place: the old log's leaves are the first of the new log's, or the comparison
  -- finds a collision
  pub half_bind : on_top digest a o 0 ≡ root digest (old_tree o xs) → on_top digest b n 0 ≡ root digest (new_tree o n xs)
      → unsound digest a o ≡ 0 → unsound digest b n ≡ 0
      → Shown digest ((i : ℕ) → i < o → a (size_of i) ≡ b (size_of i)) (half_difference digest a b o n xs)
  unfolding half_difference
  half_bind e f y z =
      shown_or digest _ (gives_by digest a (old o) o 0 ≡ first)
      (compared digest a (old o) o 0 [] xs) _
      (old_bound e (sound_view digest a (old o) o (start_of o o some (omega arith)) y)) λ u.
      shown_or digest _ (gives_by digest b (start o n) n 0 ≡ xs)
      (compared digest b (start o n) n 0 [] xs) _
      (new_bound f (sound_view digest b (start o n) n (start_of o n some fewer) z)) λ w.
      let g : gives_by digest b (old o) o 0 ≡ first = sym (start_first digest b o some n fewer) ∙ ap (take (givens (old o))) w in
      inside_bind digest a b a-32 b-32 o y (sound_start digest b o n fewer z)
      (sym (old_peaks digest a o some) ∙ u ∙ sym g ∙ old_peaks digest b o some)

-- ---- two logs

module _ (digest : List ℕ → List ℕ) where
  -- later leaves change no earlier node
  holds_first : (node : ℕ → List ℕ) (ds more : List (List ℕ)) → Holds node 0 (nodes digest (ds ++ more)) → Holds node 0 (nodes digest ds)
  holds_first node ds more f k p =
      let e = later_keeps digest ds more in
      let n : k < size_of (length ds) = omega (arith, nodes_length digest ds) in
      let g : get_or (nodes digest ds) k [] ≡ get_or (nodes digest (ds ++ more)) k [] =
      ap (λ (l : List (List ℕ)). get_or l k []) (sym e) ∙ get_or-take (size_of (length ds)) (nodes digest (ds ++ more)) k [] n in
      let m : k < length (nodes digest (ds ++ more)) =
      omega (arith, length_take_most (size_of (length ds)) (nodes digest (ds ++ more)), ap length e, nodes_length digest ds) in
      f k m ∙ sym g
    where
      length_take_most : (j : ℕ) (l : List (List ℕ)) → length (take j l) ≤ length l
      length_take_most j l = omega (arith, ap length (take-append-drop j l), length-append (take j l) (drop j l))

  module _ (ds es : List (List ℕ)) (some : 0 < length ds) (fewer : length ds ≤ length es) where
    abbrev o : ℕ
    o = length ds

    abbrev n : ℕ
    n = length es

    -- what the new log gives for the letter
    abbrev pub start_gives : List (List ℕ)
    start_gives = gives_of digest (start (length ds) (length es)) (tree es)

    buffer : ℕ → List ℕ
    buffer k = get_or (nodes digest es) k []

    held : Holds buffer 0 (nodes digest es)
    unfolding buffer
    held k l = ap (λ (x : ℕ). get_or (nodes digest es) x []) (zero-add k)

    own_gives : gives_by digest buffer (start o n) n 0 ≡ start_gives
    own_gives = (own_by digest buffer (start o n) 0 es (omega arith) (start_of o n some fewer) held).gives

    -- a tree with no asked leaf
    planted_none : (v : View) (m : ℕ) → askeds v ≡ 0 → plant v [] (gives_by digest buffer v m 0) ≡ tree_by digest buffer v m 0
    planted_none v m e =
        ap (λ (l : List (List ℕ)). plant v l (gives_by digest buffer v m 0)) (sym (none_of _ (leaves_exact digest buffer v m 0 ∙ e)))
        ∙ planted digest buffer v m 0

    -- it has the right number of digests ..
    pub start_exact : length start_gives ≡ givens (start (length ds) (length es))
    start_exact = ap length (sym own_gives) ∙ gives_exact digest buffer (start o n) n 0

    -- .. and gives the new log's root ..
    pub start_new : root digest (new_tree (length ds) (length es) start_gives) ≡ root digest (tree es)
    start_new =
        ap (root digest) (ap (plant (start o n) []) (sym own_gives) ∙ planted_none (start o n) n (start_askeds o n some fewer))
        ∙ pruned_root digest (own_by digest buffer (start o n) 0 es (omega arith) (start_of o n some fewer) held).prunes

    -- .. and, for a true start, the old log's
    pub start_old : take (length ds) es ≡ ds → root digest (old_tree (length ds) start_gives) ≡ root digest (tree ds)
    start_old e =
        let w : ds ++ drop o es ≡ es = ap (λ (l : List (List ℕ)). l ++ drop o es) (sym e) ∙ take-append-drop o es in
        let f : Holds buffer 0 (nodes digest ds) = holds_first buffer ds (drop o es) (rw w held) in
        let k : askeds (old o) ≡ 0 = start_askeds o o some (omega arith) in
        let g : take (givens (old o)) start_gives ≡ gives_by digest buffer (old o) o 0 =
        ap (take (givens (old o))) (sym own_gives) ∙ start_first digest buffer o some n fewer in
        let t : plant (old o) [] (take (givens (old o)) start_gives) ≡ old_tree o start_gives =
        rw k at (plant_taken (old o) [] start_gives (omega arith, omega (arith, start_exact, start_more digest buffer o some n fewer))) in
        ap (root digest) (sym t ∙ ap (plant (old o) []) g ∙ planted_none (old o) o k)
        ∙ pruned_root digest (own_by digest buffer (old o) 0 ds some (start_of o o some (omega arith)) f).prunes

-- ---- records

module _ (digest : List ℕ → List ℕ) (digest_32 : (x : List ℕ) → length (digest x) ≡ 32)
    (a b : ℕ → List ℕ) (a-32 : (p : ℕ) → length (a p) ≡ 32) (b-32 : (p : ℕ) → length (b p) ≡ 32)
    (rs qs : List (List ℕ)) (some : 0 < length rs) (fewer : length rs ≤ length qs)
    (xs : List (List ℕ)) (exact : length xs ≡ givens (start (length rs) (length qs))) (each : Each 32 xs)
    (ours : Sound digest a rs) (news : Sound digest b qs) where
  same_digests : ((i : ℕ) → i < length rs → a (size_of i) ≡ b (size_of i)) → map digest rs ≡ map digest (take (length rs) qs)
  same_digests f =
      let k : length (take (length rs) qs) ≡ length rs = length-take-le (length rs) qs fewer in
      let l : length (map digest rs) ≡ length rs = length-map rs digest in
      let m : length (map digest (take (length rs) qs)) ≡ length rs = length-map (take (length rs) qs) digest ∙ k in
      ext_get_or [] (map digest rs) (map digest (take (length rs) qs)) (l ∙ sym m) λ i p.
      let q : i < length rs = omega arith in
      leaf_digest digest rs i q ∙ sym (ours.leaf i q) ∙ f i q ∙ news.leaf i (omega arith)
      ∙ ap digest (sym (get_or-take (length rs) qs i [] q)) ∙ sym (leaf_digest digest (take (length rs) qs) i (omega arith))

  -- the digests of the old records are those of the first of the new ones, or the comparison finds a collision
  pub half_digests : on_top digest a (length rs) 0 ≡ root digest (old_tree (length rs) xs)
      → on_top digest b (length qs) 0 ≡ root digest (new_tree (length rs) (length qs) xs)
      → Shown digest (map digest rs ≡ map digest (take (length rs) qs)) (half_difference digest a b (length rs) (length qs) xs)
  half_digests e f =
      shown_map digest _ _ (half_difference digest a b (length rs) (length qs) xs) same_digests
      (half_bind digest digest_32 a b a-32 b-32 (length rs) (length qs) some fewer xs exact each e f ours.nowhere news.nowhere)
