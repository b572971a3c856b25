-- Any nodes on the way to a leaf, a log's or not, beside a tree that has their root, over any digest function: where no input differs no node is
-- broken, and the leaf's node is the tree's leaf; and where none is broken the first difference is two strings with one digest.
use mathlib.Core.Path.{◌≡◌, refl, sym, ap, ◌∙◌}
use mathlib.Core.Logic.{◌≢◌, by_cases}
use mathlib.Core.List.{List, [], ◌∷◌, ◌++◌, append-nil}
use Prim.Native.Nat.{ℕ, zero, suc, ◌+◌, ◌-◌, ◌^◌, ◌≤◌, ◌<◌}
use native.Mathlib.Nat.{zero-add}
use native.Mathlib.Decide.{dec_le, dec_lt}
use native.Mathlib.Omega.{arith}
use lib.ListN.{length, length-append, length-drop, get_or, take, drop}
use lib.Seq.{length-take-le}
use Rattle.wire.specs.Slices.{Each}
use Rattle.wire.proofs.Differences.{differ_same, same_of_differ}
use Rattle.wire.proofs.Each.{each_take, each_drop, each_at}
use Rattle.shape.specs.Sizes.{size_of, height_of}
use Rattle.shape.specs.Tree.{Turn, root, inputs}
use Rattle.shape.specs.Letter.{fill}
use Rattle.shape.specs.Way.{way_in, way}
use Rattle.shape.specs.Positions.{top, behind, peaks_in, peaks, fold}
use Rattle.shape.specs.Difference.{decided, Diff, agree, unequal, difference, Shown}
use Rattle.shape.specs.Seen.{either, sides, seen_in, seen, broken_in, broken}
use Rattle.shape.proofs.Difference.{difference_same, difference_other, difference_each}
use Rattle.shape.proofs.Heights.{height_holds}
use Rattle.shape.proofs.Sizes.{size_zero, size_peak}
use Rattle.shape.proofs.Letters.{fill_32}
use Rattle.shape.proofs.Bind.{fronts, backs, root_32, inputs_64}
use Rattle.shape.proofs.Ways.{way_low, way_left, way_right, way_past}
use Rattle.shape.proofs.Peaks.{peaks_low, peaks_full, peaks_some}
use Rattle.shape.proofs.Reading.{fold_length}
use Rattle.shape.proofs.Seen.{seen_low, seen_left, seen_right, top_differs, broken_one, broken_low, broken_left, broken_right}

-- where neither of two is 1
pub either_zero : (x y : ℕ) → either x y ≡ 0 → (x ≡ 0) × (y ≡ 0)
either_zero zero y e = (refl, e)
either_zero (suc x) y e = absurd (omega arith)

-- each string that any nodes show has 64 bytes
module _ (digest : List ℕ → List ℕ) (digest_32 : (x : List ℕ) → length (digest x) ≡ 32)
    (node : ℕ → List ℕ) (node-32 : (p : ℕ) → length (node p) ≡ 32) where
  sides_64 : (h n s : ℕ) → 2 ^ h < n → n ≤ 2 ^ suc h → length (sides digest node h n s) ≡ 64
  sides_64 h n s p q =
      let r = fold_length digest node digest_32 node-32 (peaks_in (suc h) (n - 2 ^ h) (behind h s)) (peaks_some (suc h) (n - 2 ^ h) (behind h s) (omega arith) (omega arith)) in
      length-append (node (top h s)) _ ∙ omega (arith, node-32 (top h s), r)

  seen_each : (h n i s : ℕ) → 0 < n → n ≤ 2 ^ h → Each 64 (seen_in digest node h n i s)
  unfolding seen_in
  seen_each zero n i s p q = tt
  seen_each (suc h) n i s p q =
      by_cases (dec_le n (2 ^ h))
      (λ l. rw (seen_low digest node h n i s l) (seen_each h n i s p l))
      (λ l. by_cases (dec_lt i (2 ^ h))
      (λ c. rw (seen_left digest node h n i s (omega arith) c) (sides_64 h n s (omega arith) q, seen_each h (2 ^ h) i s (omega arith) (omega arith)))
      (λ c. rw (seen_right digest node h n i s (omega arith) (omega arith))
      (sides_64 h n s (omega arith) q, seen_each h (n - 2 ^ h) (i - 2 ^ h) (behind h s) (omega arith) (omega arith))))

  seen_64 : (n i : ℕ) → 0 < n → Each 64 (seen digest node n i)
  unfolding seen
  seen_64 n i p = seen_each (height_of n) n i 0 p (height_holds n)

module _ (digest : List ℕ → List ℕ) (digest_32 : (x : List ℕ) → length (digest x) ≡ 32)
    (node : ℕ → List ℕ) (node-32 : (p : ℕ) → length (node p) ≡ 32) (leaf : List ℕ) (leaf_32 : length leaf ≡ 32) where
  -- items that fill a way, each of 32 bytes
  abbrev Filling : List Turn → List (List ℕ) → Type 0
  Filling w xs = (length xs ≡ length w) × Each 32 xs

  -- the nodes from position s on have the root of a tree
  abbrev RootIn : ℕ → ℕ → ℕ → ℕ → List (List ℕ) → Type 0
  RootIn h n i s xs = fold digest node (peaks_in (suc h) n s) ≡ root digest (fill (way_in h n i) leaf xs)

  -- what a first difference then tells, where b says whether a node is broken and x is the leaf's node
  abbrev Tells : ℕ → List ℕ → Diff → Type 0
  Tells b x agree = (b ≡ 0) × (x ≡ leaf)
  Tells b x (unequal c d) = (c ≢ d) × (b ≡ 0 → digest c ≡ digest d)

  abbrev Told : ℕ → ℕ → ℕ → ℕ → List (List ℕ) → Type 0
  Told h n i s xs =
      Tells (broken_in digest node (suc h) n i s) (node (s + size_of i))
      (difference (seen_in digest node h n i s) (inputs digest (fill (way_in h n i) leaf xs)))

  abbrev Telling : ℕ → Type 0
  Telling h = (n i s : ℕ) (xs : List (List ℕ)) → i < n → n ≤ 2 ^ h → Filling (way_in h n i) xs → RootIn h n i s xs → Told h n i s xs

  -- a fork of two sides with the roots l and r, where something is told below it
  module _ (h n i s : ℕ) (xs : List (List ℕ)) (l r x : List ℕ) (m : length l ≡ 32) (logs letters : List (List ℕ)) (under : ℕ)
      (es : seen_in digest node (suc h) n i s ≡ sides digest node h n s ∷ logs)
      (eb : broken_in digest node (suc (suc h)) n i s ≡ either (top_differs digest node h n s) under)
      (ei : inputs digest (fill (way_in (suc h) n i) leaf xs) ≡ (l ++ r) ∷ letters)
      (er : root digest (fill (way_in (suc h) n i) leaf xs) ≡ digest (l ++ r))
      (below : node (top h s) ≡ l → fold digest node (peaks_in (suc h) (n - 2 ^ h) (behind h s)) ≡ r → Tells under x (difference logs letters))
      (a : RootIn (suc h) n i s xs) where
    fork_tells : Tells (broken_in digest node (suc (suc h)) n i s) x
        (difference (seen_in digest node (suc h) n i s) (inputs digest (fill (way_in (suc h) n i) leaf xs)))
    fork_tells =
        let ours = sides digest node h n s in
        let d = node-32 (top h s) ∙ sym m in
        rw (es, ei, eb) (elim (decided ours (l ++ r)) [
          | yes k ↦
              let z : top_differs digest node h n s ≡ 0 = differ_same _ _ (a ∙ er ∙ ap digest (sym k)) in
              rw (z, difference_same ours (l ++ r) logs letters k)
              (below (fronts (node (top h s)) _ l r d k) (backs (node (top h s)) _ l r d k))
          | no k ↦
              rw (difference_other ours (l ++ r) logs letters k)
              (k, λ z. sym (same_of_differ _ _ (either_zero (top_differs digest node h n s) under z).0) ∙ a ∙ er)
        ])

  fill_root : (w : List Turn) (xs : List (List ℕ)) → Filling w xs → length (root digest (fill w leaf xs)) ≡ 32
  fill_root w xs f = root_32 digest digest_32 (fill w leaf xs) (fill_32 w leaf xs f.0 f.1 leaf_32)

  -- the items of one turn less
  but_last : (w : List Turn) (xs : List (List ℕ)) → length xs ≡ suc (length w) → Each 32 xs → Filling w (take (length w) xs)
  but_last w xs n p = (length-take-le (length w) xs (omega arith), each_take 32 (length w) xs p)

  but_first : (w : List Turn) (xs : List (List ℕ)) → length xs ≡ suc (length w) → Each 32 xs → Filling w (drop 1 xs)
  but_first w xs n p = (length-drop 1 xs ∙ omega arith, each_drop 32 1 xs p)

  module _ (h : ℕ) (told : Telling h) (n i s : ℕ) (xs : List (List ℕ)) (p : i < n) (q : n ≤ 2 ^ suc h) (l : 2 ^ h < n)
      (f : Filling (way_in (suc h) n i) xs) (a : RootIn (suc h) n i s xs) where
    -- where a leaf on the right side stands
    right_spot : 2 ^ h ≤ i → behind h s + size_of (i - 2 ^ h) ≡ s + size_of i
    right_spot c =
        let e : 2 ^ h + (i - 2 ^ h) ≡ i = omega arith in
        omega (arith, size_peak h (i - 2 ^ h) (omega arith), ap size_of e)

    told_left : i < 2 ^ h → Told (suc h) n i s xs
    told_left c =
        let w = way_in h (2 ^ h) i in
        let v = way_left h n i l c in
        let g = but_last w xs (f.0 ∙ ap length v) f.1 in
        let t = fill w leaf (take (length w) xs) in
        fork_tells h n i s xs (root digest t) (get_or xs (length w) []) _ (fill_root w (take (length w) xs) g) _ (inputs digest t) _
        (seen_left digest node h n i s l c) (broken_left digest node h n i s l q c)
        (rw (v, append-nil (inputs digest t))) (rw v)
        (λ x y. told (2 ^ h) i s (take (length w) xs) c (omega arith) g (ap (fold digest node) (peaks_full h (2 ^ h) s refl) ∙ x))
        a

    told_within : n ≡ 2 ^ suc h → 2 ^ h ≤ i → Told (suc h) n i s xs
    told_within b c =
        let w = way_in h (n - 2 ^ h) (i - 2 ^ h) in
        let v = way_right h n i b c in
        let m : length xs ≡ suc (length w) = f.0 ∙ ap length v in
        let g = but_last w xs m f.1 in
        let t = fill w leaf (take (length w) xs) in
        let o = right_spot c in
        fork_tells h n i s xs (get_or xs (length w) []) (root digest t) _ (each_at 32 xs (length w) (omega arith) f.1) _ (inputs digest t) _
        (seen_right digest node h n i s l c) (broken_right digest node h n i s l q c p)
        (rw v) (rw v)
        (λ x y. rw o at (told (n - 2 ^ h) (i - 2 ^ h) (behind h s) (take (length w) xs) (omega arith) (omega arith) g y))
        a

    told_past : n < 2 ^ suc h → 2 ^ h ≤ i → Told (suc h) n i s xs
    told_past b c =
        let w = way_in h (n - 2 ^ h) (i - 2 ^ h) in
        let v = way_past h n i l b c in
        let m : length xs ≡ suc (length w) = f.0 ∙ ap length v in
        let g = but_first w xs m f.1 in
        let t = fill w leaf (drop 1 xs) in
        let o = right_spot c in
        fork_tells h n i s xs (get_or xs 0 []) (root digest t) _ (each_at 32 xs 0 (omega arith) f.1) _ (inputs digest t) _
        (seen_right digest node h n i s l c) (broken_right digest node h n i s l q c p)
        (rw v) (rw v)
        (λ x y. rw o at (told (n - 2 ^ h) (i - 2 ^ h) (behind h s) (drop 1 xs) (omega arith) (omega arith) g y))
        a

  told_none : (n i s : ℕ) (xs : List (List ℕ)) → i < n → n ≤ 1 → RootIn zero n i s xs → Told zero n i s xs
  unfolding way_in seen_in difference
  told_none n i s xs p q a =
      let z : i ≡ 0 = omega arith in
      let e : s + size_of i ≡ top 0 s = omega (arith, ap size_of z, size_zero) in
      (broken_one digest node n i s q p, ap node e ∙ ap (fold digest node) (sym (peaks_full 0 n s (omega arith))) ∙ a)

  told_in : (h : ℕ) → Telling h
  told_in zero n i s xs p q f a = told_none n i s xs p q a
  told_in (suc h) n i s xs p q f a =
      by_cases (dec_le n (2 ^ h))
      (λ l.
      let e = way_low h n i l in
      rw (e, seen_low digest node h n i s l, broken_low digest node h n i s l)
      (told_in h n i s xs p l (rw e at f) (rw (e, peaks_low h n s l) at a)))
      (λ l. by_cases (dec_lt i (2 ^ h))
      (told_left h (told_in h) n i s xs p q (omega arith) f a)
      (λ c. by_cases (dec_lt n (2 ^ suc h))
      (λ b. told_past h (told_in h) n i s xs p q (omega arith) f a b (omega arith))
      (λ b. told_within h (told_in h) n i s xs p q (omega arith) f a (omega arith) (omega arith))))

  -- no height: the way to leaf i of n
  module _ (n i : ℕ) (xs : List (List ℕ)) (p : i < n) (m : length xs ≡ length (way n i)) (e : Each 32 xs)
      (r : fold digest node (peaks n) ≡ root digest (fill (way n i) leaf xs)) where
    tells : Tells (broken digest node n i) (node (size_of i)) (difference (seen digest node n i) (inputs digest (fill (way n i) leaf xs)))
    unfolding seen broken way peaks
    tells = rw (zero-add (size_of i)) at (told_in (height_of n) n i 0 xs p (height_holds n) (m, e) r)

    -- where no input differs, no node is broken
    pub agreed : difference (seen digest node n i) (inputs digest (fill (way n i) leaf xs)) ≡ agree → broken digest node n i ≡ 0
    agreed d = (rw d at tells).0

    -- where no node is broken, the leaf's node is the tree's leaf, or the first difference is a collision
    pub nodes_bind : broken digest node n i ≡ 0
        → Shown digest (node (size_of i) ≡ leaf) (difference (seen digest node n i) (inputs digest (fill (way n i) leaf xs)))
    nodes_bind b = go (difference (seen digest node n i) (inputs digest (fill (way n i) leaf xs))) refl tells
      where
        go : (d : Diff) → difference (seen digest node n i) (inputs digest (fill (way n i) leaf xs)) ≡ d
            → Tells (broken digest node n i) (node (size_of i)) d → Shown digest (node (size_of i) ≡ leaf) d
        go agree f t = t.1
        go (unequal c d) f t =
            let w = difference_each 64 (seen digest node n i) (inputs digest (fill (way n i) leaf xs)) c d
            (seen_64 digest digest_32 node node-32 n i (omega arith))
            (inputs_64 digest digest_32 (fill (way n i) leaf xs) (fill_32 (way n i) leaf xs m e leaf_32)) f in
            record { first = w.0; second = w.1; apart = t.0; one = t.1 b }
