-- Nodes of which none is broken, at any place, are the nodes of the log of their leaves; and a log's own nodes are such. What is cited:
-- `own_records`, `sound_records`.
use mathlib.Core.Path.{◌≡◌, refl, sym, ap, ap₂, ◌∙◌}
use mathlib.Core.Logic.{by_cases}
use mathlib.Core.List.{List, [], ◌∷◌, ◌++◌, map}
use Prim.Native.Nat.{ℕ, zero, suc, ◌+◌, ◌-◌, ◌^◌, ◌≤◌, ◌<◌}
use native.Mathlib.Nat.{zero-add}
use native.Mathlib.Decide.{dec_le, dec_lt}
use native.Mathlib.Omega.{arith}
use lib.ListN.{length, length-append, length-map, length-drop, get_or, take, drop, get_or-append}
use lib.Seq.{length-take-le, get_or-append-add, get_or-take, get_or-drop}
use lib.Pow.{pow_pos}
use Rattle.shape.specs.Sizes.{size_of, height_of}
use Rattle.shape.specs.Nodes.{Holds, peakwise, perfect_root, perfect, nodes_in, nodes}
use Rattle.shape.specs.Positions.{top, behind}
use Rattle.shape.proofs.Heights.{height_holds, height_above}
use Rattle.shape.proofs.Sizes.{size_zero, size_peak}
use Rattle.shape.proofs.Nodes.{peakwise_skip, peakwise_take, perfect_length, perfect_root_lem}
use Rattle.shape.proofs.Reading.{top_read}
use Rattle.shape.proofs.Leaves.{leaf_read_lem, leaf_digest}
use Rattle.views.specs.Start.{full}
use Rattle.views.specs.Half.{Sound}
use Rattle.views.specs.Shows.{broken_by, unsound_in, unsound}
use Rattle.shape.proofs.Beside.{either_zero}
use Rattle.views.proofs.Own.{held_left, held_right, own_by}
use Rattle.views.proofs.Inside.{full_view, unsound_skip, unsound_take, whole_parts}

-- two lists, one behind the other
holds_join : (node : ℕ → List ℕ) (s : ℕ) (xs ys : List (List ℕ)) → Holds node s xs → Holds node (s + length xs) ys → Holds node s (xs ++ ys)
holds_join node s xs ys f g k p =
    by_cases (dec_lt k (length xs))
    (λ a. f k a ∙ sym (get_or-append xs ys [] k a))
    (λ a.
    let e : length xs + (k - length xs) ≡ k = omega arith in
    let h : s + length xs + (k - length xs) ≡ s + k = omega arith in
    let m : k - length xs < length ys = omega (arith, length-append xs ys) in
    ap node (sym h) ∙ g (k - length xs) m ∙ sym (get_or-append-add xs ys (k - length xs) []) ∙ ap (λ (x : ℕ). get_or (xs ++ ys) x []) e)

module _ (digest : List ℕ → List ℕ) (node : ℕ → List ℕ) where
  -- the leaves from position s on are ds
  abbrev Leaved : ℕ → List (List ℕ) → Type 0
  Leaved s ds = (i : ℕ) → i < length ds → node (s + size_of i) ≡ get_or ds i []

  leaved_front : (k s : ℕ) (ds : List (List ℕ)) → 2 ^ k ≤ length ds → Leaved s ds → Leaved s (take (2 ^ k) ds)
  leaved_front k s ds p f i q =
      let n : length (take (2 ^ k) ds) ≡ 2 ^ k = length-take-le (2 ^ k) ds p in
      f i (omega arith) ∙ sym (get_or-take (2 ^ k) ds i [] (omega arith))

  leaved_back : (k s : ℕ) (ds : List (List ℕ)) → 2 ^ k ≤ length ds → length ds ≤ 2 ^ suc k → Leaved s ds → Leaved (behind k s) (drop (2 ^ k) ds)
  leaved_back k s ds p q f i l =
      let m : length (drop (2 ^ k) ds) ≡ length ds - 2 ^ k = length-drop (2 ^ k) ds in
      let e : behind k s + size_of i ≡ s + size_of (2 ^ k + i) = omega (arith, size_peak k i (omega arith)) in
      ap node e ∙ f (2 ^ k + i) (omega arith) ∙ sym (get_or-drop (2 ^ k) ds i [])

  -- a perfect tree
  peak_holds : (k s : ℕ) (ds : List (List ℕ)) → length ds ≡ 2 ^ k → broken_by digest node (full k) (2 ^ k) s ≡ 0 → Leaved s ds
      → Holds node s (perfect digest k ds)
  unfolding perfect perfect_root
  peak_holds zero s ds e z f = λ i p.
      let g : i ≡ 0 = omega arith in
      ap node (omega (arith, ap size_of g, size_zero)) ∙ f i p
  peak_holds (suc k) s ds e z f =
      let w = whole_parts digest node k s z in
      let us = take (2 ^ k) ds in
      let vs = drop (2 ^ k) ds in
      let n : length us ≡ 2 ^ k = length-take-le (2 ^ k) ds (omega arith) in
      let m : length vs ≡ 2 ^ k = length-drop (2 ^ k) ds ∙ omega arith in
      let a : Holds node s (perfect digest k us) = peak_holds k s us n w.lefts (leaved_front k s ds (omega arith) f) in
      let b : Holds node (behind k s) (perfect digest k vs) =
      peak_holds k (behind k s) vs m w.rights (leaved_back k s ds (omega arith) (omega arith) f) in
      let i : length (perfect digest k us) ≡ 2 ^ suc k - 1 = perfect_length digest k us n in
      let j : length (perfect digest k vs) ≡ 2 ^ suc k - 1 = perfect_length digest k vs m in
      let t : node (top (suc k) s) ≡ perfect_root digest (suc k) ds =
      w.peak ∙ ap digest (ap₂ (λ (x y : List ℕ). x ++ y)
      (top_read digest node k s us n a ∙ sym (perfect_root_lem digest k us n))
      (top_read digest node k (behind k s) vs m b ∙ sym (perfect_root_lem digest k vs m))) in
      let both : Holds node s (perfect digest k us ++ perfect digest k vs) =
      holds_join node s (perfect digest k us) (perfect digest k vs) a (rw i b) in
      holds_join node s (perfect digest k us ++ perfect digest k vs) (perfect_root digest (suc k) ds ∷ []) both
      (λ x p.
      let y : x ≡ 0 = omega arith in
      let r : s + length (perfect digest k us ++ perfect digest k vs) + x ≡ top (suc k) s =
      omega (arith, length-append (perfect digest k us) (perfect digest k vs)) in
      ap node r ∙ t ∙ ap (λ (u : ℕ). get_or (perfect_root digest (suc k) ds ∷ []) u []) (sym y))

  holds_in : (k s : ℕ) (ds : List (List ℕ)) → length ds < 2 ^ k → unsound_in digest node k (length ds) s ≡ 0 → Leaved s ds
      → Holds node s (nodes_in digest k ds)
  unfolding peakwise
  holds_in zero s ds p z f = λ i q. absurd (omega arith)
  holds_in (suc k) s ds p z f =
      by_cases (dec_lt (length ds) (2 ^ k))
      (λ a. rw (peakwise_skip (perfect digest) k ds a) (holds_in k s ds a (sym (unsound_skip digest node k (length ds) s a) ∙ z) f))
      (λ a.
      let q : 2 ^ k ≤ length ds = omega arith in
      let us = take (2 ^ k) ds in
      let vs = drop (2 ^ k) ds in
      let n : length us ≡ 2 ^ k = length-take-le (2 ^ k) ds q in
      let m : length vs ≡ length ds - 2 ^ k = length-drop (2 ^ k) ds in
      let c = either_zero (broken_by digest node (full k) (2 ^ k) s) _ (sym (unsound_take digest node k (length ds) s q) ∙ z) in
      let i : length (perfect digest k us) ≡ 2 ^ suc k - 1 = perfect_length digest k us n in
      let b : Holds node (behind k s) (nodes_in digest k vs) =
      holds_in k (behind k s) vs (omega arith) (rw m c.1) (leaved_back k s ds q (omega arith) f) in
      rw (peakwise_take (perfect digest) k ds q)
      (holds_join node s (perfect digest k us) (nodes_in digest k vs) (peak_holds k s us n c.0 (leaved_front k s ds q f)) (rw i b)))

  -- none is broken at any place: they are the nodes of the log of their leaves
  pub sound_nodes : (ds : List (List ℕ)) → unsound digest node (length ds) ≡ 0 → ((i : ℕ) → i < length ds → node (size_of i) ≡ get_or ds i [])
      → Holds node 0 (nodes digest ds)
  unfolding unsound nodes
  sound_nodes ds z f =
      holds_in (suc (height_of (length ds))) 0 ds (height_above (length ds)) z (λ i p. rw (zero-add (size_of i)) (f i p))

  -- ---- a log's own nodes

  unsound_none : (k s : ℕ) → unsound_in digest node k 0 s ≡ 0
  unfolding unsound_in
  unsound_none zero s = refl
  unsound_none (suc k) s = unsound_skip digest node k 0 s (pow_pos k) ∙ unsound_none k s

  peak_own : (k s : ℕ) (ds : List (List ℕ)) → length ds ≡ 2 ^ k → Holds node s (nodes digest ds) → broken_by digest node (full k) (2 ^ k) s ≡ 0
  peak_own k s ds n f = rw n at (own_by digest node (full k) s ds (omega (arith, pow_pos k)) (rw n (full_view k)) f).sound

  own_in : (h s : ℕ) (ds : List (List ℕ)) → length ds ≤ 2 ^ h → Holds node s (nodes digest ds) → unsound_in digest node (suc h) (length ds) s ≡ 0
  unfolding unsound_in
  own_in zero s ds p f =
      by_cases (dec_lt (length ds) 1) (λ a. unsound_skip digest node 0 (length ds) s a) (λ a. unsound_take digest node 0 (length ds) s (omega arith))
  own_in (suc h) s ds p f =
      by_cases (dec_le (length ds) (2 ^ h))
      (λ a. unsound_skip digest node (suc h) (length ds) s (omega (arith, pow_pos h)) ∙ own_in h s ds a f)
      (λ a.
      let q : 2 ^ h < length ds = omega arith in
      by_cases (dec_lt (length ds) (2 ^ suc h))
      (λ b.
      let m : length (drop (2 ^ h) ds) ≡ length ds - 2 ^ h = length-drop (2 ^ h) ds in
      let t = peak_own h s (take (2 ^ h) ds) (length-take-le (2 ^ h) ds (omega arith)) (held_left digest node h s ds q p f) in
      let r : unsound_in digest node (suc h) (length ds - 2 ^ h) (behind h s) ≡ 0 =
      rw m at (own_in h (behind h s) (drop (2 ^ h) ds) (omega arith) (held_right digest node h s ds q p f)) in
      let u = sym (unsound_skip digest node h (length ds - 2 ^ h) (behind h s) (omega arith)) ∙ r in
      unsound_skip digest node (suc h) (length ds) s b ∙ unsound_take digest node h (length ds) s (omega arith) ∙ rw (t, u))
      (λ b.
      let n : length ds ≡ 2 ^ suc h = omega arith in
      let z : length ds - 2 ^ suc h ≡ 0 = omega arith in
      unsound_take digest node (suc h) (length ds) s (omega arith) ∙ rw (peak_own (suc h) s ds n f, z) (unsound_none (suc h) (behind (suc h) s))))

  pub own_sound : (ds : List (List ℕ)) → Holds node 0 (nodes digest ds) → unsound digest node (length ds) ≡ 0
  unfolding unsound
  own_sound ds f = own_in (height_of (length ds)) 0 ds (height_holds (length ds)) f

-- ---- records

module _ (digest : List ℕ → List ℕ) (node : ℕ → List ℕ) (rs : List (List ℕ)) where
  lengths : length (map digest rs) ≡ length rs
  lengths = length-map rs digest

  -- a log's own nodes: each leaf is its record's digest, and no node is broken at any place ..
  pub own_records : Holds node 0 (nodes digest (map digest rs)) → Sound digest node rs
  own_records f =
      record {
        leaf = λ i p. leaf_read_lem digest node (map digest rs) i (omega (arith, lengths)) f ∙ leaf_digest digest rs i p;
        nowhere = rw lengths at (own_sound digest node (map digest rs) f);
      }

  -- .. and only they
  pub sound_records : Sound digest node rs → Holds node 0 (nodes digest (map digest rs))
  sound_records c =
      sound_nodes digest node (map digest rs) (rw lengths c.nowhere)
      (λ i p. c.leaf i (omega (arith, lengths)) ∙ sym (leaf_digest digest rs i (omega (arith, lengths))))
