-- What appends and the root hash is what stands at the places of the folded tree, each string as often: the appends hash within the peaks, the root
-- above them.
use mathlib.Core.Path.{◌≡◌, refl, sym, ap, ap₂, subst, ◌∙◌}
use mathlib.Core.Logic.{by_cases}
use mathlib.Core.List.{List, [], ◌∷◌, ◌++◌, map, append_assoc, append-nil}
use mathlib.Core.List.Perm
use mathlib.Core.List.{Perm, perm_middle, perm_append_singleton}
use Prim.Native.Nat.{ℕ, zero, suc, ◌+◌, ◌-◌, ◌^◌, ◌≤◌, ◌<◌}
use native.Mathlib.Nat.{add-zero, zero-add, add_assoc}
use native.Mathlib.Decide.{dec_le, dec_lt}
use native.Mathlib.Omega.{arith}
use lib.ListN.{length, length-append, length-drop, get_or, take, drop}
use Rattle.shape.specs.Sizes.{size_of, trailing_ones, height_of}
use Rattle.shape.specs.Tree.{root, inputs}
use Rattle.shape.specs.Folded.{tree_in, tree}
use Rattle.shape.specs.Nodes.{Holds, left_of, peakwise, perfect, nodes_in, nodes, climb, new_nodes}
use Rattle.shape.specs.Positions.{top, behind, peaks_in, peaks, fold}
use Rattle.shape.specs.Hashed.{climb_hashed, new_hashed, fold_hashed}
use Rattle.shape.proofs.Heights.{height_holds, height_above}
use Rattle.shape.proofs.Trailing.{trailing_top, trailing_full}
use Rattle.shape.proofs.Trees.{tree_low, tree_high}
use Rattle.shape.proofs.Nodes.{peakwise_skip, peakwise_none, peakwise_low, peakwise_any, peakwise_one, peakwise_more, perfect_root_lem}
use Rattle.shape.proofs.Nodes.{nodes_any, nodes_length}
use Rattle.shape.proofs.Held.{holds_right}
use Rattle.shape.proofs.Appends.{Grows, old, fore, left_length, more, left_same, right_more, before, new_at, right_length}
use Rattle.shape.proofs.Appends.{up, left_top, right_top, grows}
use Rattle.shape.proofs.Peaks.{peaks_low, peaks_full, peaks_more, peaks_some}
use Rattle.shape.proofs.Reading.{sides_held, left_read, right_read}

-- a string behind all others, or between them, comes to the front
perm_last : (a b c r : List (List ℕ)) (x : List ℕ) → Perm (b ++ c) r → Perm ((a ++ b) ++ (c ++ (x ∷ []))) (x ∷ (a ++ r))
perm_last a b c r x f =
    subst (λ (l : List (List ℕ)). Perm l (x ∷ (a ++ r))) (append_assoc (a ++ b) c (x ∷ []))
    (Perm.trans (perm_append_singleton x ((a ++ b) ++ c)) (Perm.cons x (rw (append_assoc a b c) (Perm.append_left a f))))

perm_between : (a b c r : List (List ℕ)) (x : List ℕ) → Perm (b ++ c) r → Perm ((a ++ b) ++ (x ∷ c)) (x ∷ (a ++ r))
perm_between a b c r x f = Perm.trans (perm_middle (a ++ b) c) (Perm.cons x (rw (append_assoc a b c) (Perm.append_left a f)))

module _ (digest : List ℕ → List ℕ) where
  -- what is hashed within one peak, within the peaks of fewer than 2^k leaves, and within those of a log
  abbrev in_peak : ℕ → List (List ℕ) → List (List ℕ)
  in_peak h ds = inputs digest (tree_in h ds)

  abbrev in_peaks : ℕ → List (List ℕ) → List (List ℕ)
  in_peaks k ds = peakwise in_peak k ds

  abbrev pub within : List (List ℕ) → List (List ℕ)
  within ds = in_peaks (suc (height_of (length ds))) ds

  -- an empty log has no peaks
  pub within_none : within [] ≡ []
  within_none = peakwise_none in_peak _

module _ (digest : List ℕ → List ℕ) (node : ℕ → List ℕ) where
  -- the nodes that an append writes are the digests of what it hashes
  climb_hashed_lem : (k j p : ℕ) (x : List ℕ) → climb digest node k j p x ≡ x ∷ map digest (climb_hashed digest node k j p x)
  unfolding climb climb_hashed
  climb_hashed_lem zero j p x = refl
  climb_hashed_lem (suc k) j p x = ap {B = List (List ℕ)} (λ r. x ∷ r) (climb_hashed_lem k (suc j) (suc p) _)

  pub new_hashed_lem : (n : ℕ) (d : List ℕ) → new_nodes digest node n d ≡ d ∷ map digest (new_hashed digest node n d)
  unfolding new_nodes new_hashed
  new_hashed_lem n d = climb_hashed_lem (trailing_ones n) 0 (size_of n) d

  -- nodes fold to the digest of the string that comes first, where there are more than one
  pub fold_hashed_lem : (p : ℕ) (ps : List ℕ) → 0 < length ps → fold digest node (p ∷ ps) ≡ digest (get_or (fold_hashed digest node (p ∷ ps)) 0 [])
  fold_hashed_lem p [] q = absurd (omega arith)
  fold_hashed_lem p (x ∷ ps) q = refl

  fold_hashed_cons : (p : ℕ) (ps : List ℕ) → 0 < length ps
      → fold_hashed digest node (p ∷ ps) ≡ (node p ++ fold digest node ps) ∷ fold_hashed digest node ps
  fold_hashed_cons p [] q = absurd (omega arith)
  fold_hashed_cons p (x ∷ ps) q = refl

  -- one string more, for the parent on top
  climb_hashed_last : (k j p : ℕ) (x : List ℕ)
      → climb_hashed digest node (suc k) j p x
      ≡ climb_hashed digest node k j p x ++ ((node (left_of (j + k) (p + k)) ++ get_or (climb digest node k j p x) k []) ∷ [])
  unfolding climb climb_hashed
  climb_hashed_last zero j p x = rw (add-zero p, add-zero j)
  climb_hashed_last (suc k) j p x =
      let e : suc p + k ≡ p + suc k = omega arith in
      let f : suc j + k ≡ j + suc k = omega arith in
      rw (climb_hashed_last k (suc j) (suc p), e, f)

  -- what is hashed within the old peaks, and by an append, is what is hashed within the peaks of one leaf more
  abbrev Grown : ℕ → List (List ℕ) → List ℕ → ℕ → Type 0
  Grown h ds d s =
      Perm (in_peaks digest (suc h) ds ++ climb_hashed digest node (trailing_ones (length ds)) 0 (s + length (nodes_in digest (suc h) ds)) d)
      (in_peaks digest (suc h) (ds ++ (d ∷ [])))

  grown_none : (ds : List (List ℕ)) (d : List ℕ) (s : ℕ) → length ds < 2 ^ 0 → Grown 0 ds d s
  unfolding peakwise tree_in climb_hashed
  grown_none [] d s p = rw (trailing_full 0 0 refl) (Perm.refl [])
  grown_none (c ∷ ds) d s p = absurd (omega arith)

  module _ (h : ℕ) (ds : List (List ℕ)) (d : List ℕ) (s : ℕ) (p : length ds < 2 ^ suc h) (q : 2 ^ h ≤ length ds) where
    abbrev ls : List (List ℕ)
    ls = in_peak digest h (take (2 ^ h) ds)

    abbrev rs : List (List ℕ)
    rs = in_peaks digest (suc h) (drop (2 ^ h) ds)

    abbrev at : ℕ
    at = s + length (fore digest node h ds d s p q) + length (old digest node h ds d s p q)

    old_peaks : in_peaks digest (suc (suc h)) ds ≡ ls ++ rs
    old_peaks = peakwise_more (in_peak digest) h ds q p

    old_end : s + length (nodes_in digest (suc (suc h)) ds) ≡ at
    old_end =
        rw (before digest node h ds d s p q, length-append)
        (sym (add_assoc s (length (fore digest node h ds d s p q)) (length (old digest node h ds d s p q))))

    module _ (ih : Grown h (drop (2 ^ h) ds) d (s + length (fore digest node h ds d s p q))) where
      -- no merge reaches the left side
      grown_apart : suc (length ds) < 2 ^ suc h → Grown (suc h) ds d s
      grown_apart l =
          let m = length-drop (2 ^ h) ds in
          let t : trailing_ones (length ds) ≡ trailing_ones (length (drop (2 ^ h) ds)) =
          ap trailing_ones (omega arith) ∙ trailing_top h (length (drop (2 ^ h) ds)) (omega arith) in
          let n = more digest node h ds d s p q in
          let e : in_peaks digest (suc (suc h)) (ds ++ (d ∷ [])) ≡ ls ++ in_peaks digest (suc h) (drop (2 ^ h) ds ++ (d ∷ [])) =
          peakwise_more (in_peak digest) h (ds ++ (d ∷ [])) (omega arith) (omega arith)
          ∙ rw (left_same digest node h ds d s p q, right_more digest node h ds d s p q) in
          rw (old_peaks, t, old_end, e, append_assoc ls rs) (Perm.append_left ls ih)

      -- the last merge joins the two sides
      module _ (e : suc (length ds) ≡ 2 ^ suc h) (g : Grows digest node h (drop (2 ^ h) ds) d (s + length (fore digest node h ds d s p q)))
          (held : Holds node s (fore digest node h ds d s p q ++ old digest node h ds d s p q)) where
        abbrev joined : List ℕ
        joined = root digest (tree_in h (take (2 ^ h) ds)) ++ root digest (tree_in h (drop (2 ^ h) ds ++ (d ∷ [])))

        many : length (drop (2 ^ h) ds ++ (d ∷ [])) ≡ 2 ^ h
        many = right_length digest node h ds d s p q g e held

        last_hashed : node (left_of h (at + h)) ++ get_or (climb digest node h 0 at d) h [] ≡ joined
        unfolding new_at up
        last_hashed =
            ap₂ (λ (x y : List ℕ). x ++ y)
            (left_top digest node h ds d s p q g e held ∙ perfect_root_lem digest h (take (2 ^ h) ds) (left_length digest node h ds d s p q))
            (right_top digest node h ds d s p q g e held ∙ perfect_root_lem digest h (drop (2 ^ h) ds ++ (d ∷ [])) many)

        new_peaks : in_peaks digest (suc (suc h)) (ds ++ (d ∷ [])) ≡ joined ∷ (ls ++ in_peak digest h (drop (2 ^ h) ds ++ (d ∷ [])))
        new_peaks =
            let n = more digest node h ds d s p q in
            peakwise_one (in_peak digest) (suc h) (ds ++ (d ∷ [])) (n ∙ e)
            ∙ ap (inputs digest) (tree_high h (ds ++ (d ∷ [])) (omega arith))
            ∙ rw (left_same digest node h ds d s p q, right_more digest node h ds d s p q)

        grown_joined : Grown (suc h) ds d s
        grown_joined =
            let m = length-drop (2 ^ h) ds in
            let t : trailing_ones (length (drop (2 ^ h) ds)) ≡ h = trailing_full h (length (drop (2 ^ h) ds)) (omega arith) in
            rw (old_peaks, trailing_full (suc h) (length ds) e, old_end, climb_hashed_last h 0 at d, zero-add h, last_hashed, new_peaks)
            (perm_last ls rs (climb_hashed digest node h 0 at d) (in_peak digest h (drop (2 ^ h) ds ++ (d ∷ []))) joined
            (rw (t, peakwise_one (in_peak digest) h (drop (2 ^ h) ds ++ (d ∷ [])) many) at ih))

  grown : (h : ℕ) (ds : List (List ℕ)) (d : List ℕ) (s : ℕ) → length ds < 2 ^ h → Holds node s (nodes_in digest (suc h) ds) → Grown h ds d s
  grown zero ds d s p f = grown_none ds d s p
  grown (suc h) ds d s p f =
      by_cases (dec_lt (length ds) (2 ^ h))
      (λ a.
      let e : nodes_in digest (suc (suc h)) ds ≡ nodes_in digest (suc h) ds = peakwise_skip (perfect digest) (suc h) ds p in
      let m : length (ds ++ (d ∷ [])) ≤ 2 ^ h = rw length-append (omega arith) in
      rw (e, peakwise_skip (in_peak digest) (suc h) ds p, peakwise_low (in_peak digest) h (ds ++ (d ∷ [])) m) (grown h ds d s a (rw e at f)))
      (λ a.
      let q : 2 ^ h ≤ length ds = omega arith in
      let m : length (drop (2 ^ h) ds) < 2 ^ h = rw length-drop (omega arith) in
      let held : Holds node s (fore digest node h ds d s p q ++ old digest node h ds d s p q) = rw (before digest node h ds d s p q) at f in
      let right-held = holds_right node s (fore digest node h ds d s p q) (old digest node h ds d s p q) held in
      let s' = s + length (fore digest node h ds d s p q) in
      let ih = grown h (drop (2 ^ h) ds) d s' m right-held in
      by_cases (dec_lt (suc (length ds)) (2 ^ suc h))
      (λ l. grown_apart h ds d s p q ih l)
      (λ l. grown_joined h ds d s p q ih (omega arith) (grows digest node h (drop (2 ^ h) ds) d s' m right-held) held))

  -- one append to the nodes of a log
  pub append_hashed_lem : (ds : List (List ℕ)) (d : List ℕ) → Holds node 0 (nodes digest ds)
      → Perm (within digest ds ++ new_hashed digest node (length ds) d) (within digest (ds ++ (d ∷ [])))
  unfolding new_hashed
  append_hashed_lem ds d f =
      let h = suc (height_of (length ds)) in
      let l : length ds < 2 ^ h = height_above (length ds) in
      let m : length (ds ++ (d ∷ [])) ≤ 2 ^ h = rw length-append (omega arith) in
      let e : nodes_in digest (suc h) ds ≡ nodes digest ds = nodes_any digest h ds (omega arith) in
      let k : 0 + length (nodes digest ds) ≡ size_of (length ds) = zero-add _ ∙ nodes_length digest ds in
      rw (e, k, peakwise_any (in_peak digest) h ds (omega arith), peakwise_any (in_peak digest) h (ds ++ (d ∷ [])) m) at (grown h ds d 0 l (rw e f))

  -- what is hashed within the peaks, and by the fold of the peaks, is what the folded tree hashes
  abbrev Folded : ℕ → ℕ → List (List ℕ) → Type 0
  Folded h s ds =
      Perm (in_peaks digest (suc h) ds ++ fold_hashed digest node (peaks_in (suc h) (length ds) s)) (inputs digest (tree_in h ds))

  -- one peak, and nothing to fold
  folded_one : (h s : ℕ) (ds : List (List ℕ)) → length ds ≡ 2 ^ h → Folded h s ds
  folded_one h s ds e =
      rw (peaks_full h (length ds) s e, append-nil (in_peaks digest (suc h) ds), peakwise_one (in_peak digest) h ds e)
      (Perm.refl (inputs digest (tree_in h ds)))

  folded_in : (h s : ℕ) (ds : List (List ℕ)) → 0 < length ds → length ds ≤ 2 ^ h → Holds node s (nodes_in digest (suc h) ds) → Folded h s ds
  folded_in zero s ds p q f = folded_one 0 s ds (omega arith)
  folded_in (suc h) s ds p q f =
      by_cases (dec_le (length ds) (2 ^ h))
      (λ a.
      rw (peaks_low h (length ds) s a, tree_low h ds a, peakwise_low (in_peak digest) h ds a)
      (folded_in h s ds p a (rw (peakwise_low (perfect digest) h ds a) at f)))
      (λ a. by_cases (dec_lt (length ds) (2 ^ suc h))
      (λ b.
      let l : 2 ^ h < length ds = omega arith in
      let k = sides_held digest node h s ds l q f in
      let m : length (drop (2 ^ h) ds) ≡ length ds - 2 ^ h = length-drop (2 ^ h) ds in
      let ih : Folded h (behind h s) (drop (2 ^ h) ds) = folded_in h (behind h s) (drop (2 ^ h) ds) (omega arith) (omega arith) k.rights in
      rw (
        peaks_more h (length ds) s l b,
        fold_hashed_cons (top h s) _ (peaks_some (suc h) (length ds - 2 ^ h) (behind h s) (omega arith) (omega arith)),
        left_read digest node h s ds l k,
        right_read digest node h s ds l q k,
        tree_high h ds l,
        peakwise_more (in_peak digest) h ds (omega arith) b,
      )
      (perm_between (in_peak digest h (take (2 ^ h) ds)) (in_peaks digest (suc h) (drop (2 ^ h) ds))
      (fold_hashed digest node (peaks_in (suc h) (length ds - 2 ^ h) (behind h s))) (in_peak digest h (drop (2 ^ h) ds))
      (root digest (tree_in h (take (2 ^ h) ds)) ++ root digest (tree_in h (drop (2 ^ h) ds))) (rw m at ih)))
      (λ b. folded_one (suc h) s ds (omega arith)))

  -- the root of a log
  pub root_hashed_lem : (ds : List (List ℕ)) → 0 < length ds → Holds node 0 (nodes digest ds)
      → Perm (within digest ds ++ fold_hashed digest node (peaks (length ds))) (inputs digest (tree ds))
  unfolding peaks tree nodes
  root_hashed_lem ds p f = folded_in (height_of (length ds)) 0 ds p (height_holds (length ds)) f
