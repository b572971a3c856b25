-- An append to the nodes of a log makes the nodes of the log with one leaf more.
use mathlib.Core.Path.{◌≡◌, refl, sym, ap, ap₂, ◌∙◌}
use mathlib.Core.Logic.{by_cases}
use mathlib.Core.List.{List, [], ◌∷◌, ◌++◌, append_assoc}
use Prim.Native.Nat.{ℕ, zero, suc, ◌+◌, ◌-◌, ◌^◌, ◌≤◌, ◌<◌}
use native.Mathlib.Nat.{add-zero, zero-add, add-suc, suc-add, add_assoc}
use native.Mathlib.Decide.{dec_lt}
use native.Mathlib.Omega.{arith}
use lib.ListN.{length, length-append, length-drop, get_or, take, drop}
use lib.Seq.{length-take-le, take-append-le, drop-append-le, get_or_at, get_or-append-add}
use lib.Pow.{pow_mono}
use lib.Count.{ones, ones-ones}
use Rattle.shape.specs.Sizes.{size_of, trailing_ones, hash_count, height_of}
use Rattle.shape.specs.Nodes.{Holds, left_of, peakwise, perfect_root, perfect, nodes_in, nodes, parent_of, climb, new_nodes}
use Rattle.powers.proofs.Powers.{lt_pow}
use Rattle.shape.proofs.Heights.{height_above}
use Rattle.shape.proofs.Trailing.{trailing_top, trailing_full, trailing_pow}
use Rattle.shape.proofs.Sizes.{size_ones, size_ge}
use Rattle.shape.proofs.Nodes.{peakwise_skip, peakwise_low, nodes_any, peakwise_one, peakwise_more}
use Rattle.shape.proofs.Nodes.{perfect_topped, perfect_length, length_in, nodes_length}
use Rattle.shape.proofs.Held.{holds_left, holds_right}

module _ (digest : List ℕ → List ℕ) (node : ℕ → List ℕ) where
  pub climb_length : (k j p : ℕ) (x : List ℕ) → length (climb digest node k j p x) ≡ suc k
  unfolding climb
  climb_length zero j p x = refl
  climb_length (suc k) j p x = ap suc (climb_length k (suc j) (suc p) _)

  -- one parent more, on top
  climb_last : (k j p : ℕ) (x : List ℕ)
      → climb digest node (suc k) j p x
      ≡ climb digest node k j p x ++ (parent_of digest node (j + k) (p + k) (get_or (climb digest node k j p x) k []) ∷ [])
  unfolding climb
  climb_last zero j p x = rw (add-zero p, add-zero j)
  climb_last (suc k) j p x =
      let e : suc p + k ≡ p + suc k = omega arith in
      let f : suc j + k ≡ j + suc k = omega arith in
      rw (climb_last k (suc j) (suc p), e, f)

  module _ (h : ℕ) (ds : List (List ℕ)) (d : List ℕ) (s : ℕ) where
    -- the old nodes from position s on and the new ones behind them are the nodes with one leaf more
    abbrev pub Grows : Type 0
    Grows =
        nodes_in digest (suc h) ds ++ climb digest node (trailing_ones (length ds)) 0 (s + length (nodes_in digest (suc h) ds)) d
        ≡ nodes_in digest (suc h) (ds ++ (d ∷ []))

  grows_none : (ds : List (List ℕ)) (d : List ℕ) (s : ℕ) → length ds < 2 ^ 0 → Grows 0 ds d s
  unfolding peakwise perfect climb
  grows_none [] d s p = ap (λ (k : ℕ). climb digest node k 0 (s + 0) d) (trailing_full 0 0 refl)
  grows_none (c ∷ ds) d s p = absurd (omega arith)

  -- 2^h leaves to the left, and a right side that grows
  module _ (h : ℕ) (ds : List (List ℕ)) (d : List ℕ) (s : ℕ) (p : length ds < 2 ^ suc h) (q : 2 ^ h ≤ length ds) where
    abbrev lefts : List (List ℕ)
    lefts = take (2 ^ h) ds

    abbrev rights : List (List ℕ)
    rights = drop (2 ^ h) ds

    abbrev pub old : List (List ℕ)
    old = nodes_in digest (suc h) rights

    abbrev pub fore : List (List ℕ)
    fore = perfect digest h lefts

    pub left_length : length lefts ≡ 2 ^ h
    left_length = length-take-le (2 ^ h) ds q

    fore_length : length fore ≡ 2 ^ suc h - 1
    fore_length = perfect_length digest h lefts left_length

    pub more : length (ds ++ (d ∷ [])) ≡ suc (length ds)
    more = length-append ds (d ∷ []) ∙ omega arith

    pub left_same : take (2 ^ h) (ds ++ (d ∷ [])) ≡ lefts
    left_same = take-append-le (2 ^ h) ds (d ∷ []) q

    pub right_more : drop (2 ^ h) (ds ++ (d ∷ [])) ≡ rights ++ (d ∷ [])
    right_more = drop-append-le (2 ^ h) ds (d ∷ []) q

    -- the nodes before the append
    pub before : nodes_in digest (suc (suc h)) ds ≡ fore ++ old
    before = peakwise_more (perfect digest) h ds q p

    module _ (ih : Grows h rights d (s + length fore)) where
      unfoldable pub new_at : ℕ
      new_at = s + length fore + length old

      at_end : s + length (fore ++ old) ≡ new_at
      unfolding new_at
      at_end = rw length-append (sym (add_assoc s (length fore) (length old)))

      -- no merge reaches the left side
      grows_apart : suc (length ds) < 2 ^ suc h → Grows (suc h) ds d s
      unfolding new_at
      grows_apart l =
          let t : trailing_ones (length ds) ≡ trailing_ones (length rights) =
          ap trailing_ones (omega (arith, length-drop (2 ^ h) ds)) ∙ trailing_top h (length rights) (rw length-drop (omega arith)) in
          let e : nodes_in digest (suc (suc h)) (ds ++ (d ∷ [])) ≡ fore ++ nodes_in digest (suc h) (rights ++ (d ∷ [])) =
          peakwise_more (perfect digest) h (ds ++ (d ∷ [])) (rw more (omega arith)) (rw more l) ∙ rw (left_same, right_more) in
          rw (before, t, at_end, e, append_assoc) (ap (λ (r : List (List ℕ)). fore ++ r) ih)

      -- the last merge joins the two sides
      module _ (e : suc (length ds) ≡ 2 ^ suc h) (held : Holds node s (fore ++ old)) where
        pub right_length : length (rights ++ (d ∷ [])) ≡ 2 ^ h
        right_length = rw (length-append, length-drop) (omega arith)

        old_length : length old + h ≡ 2 ^ suc h - 2
        old_length =
            let o : ones (length rights) ≡ h = ap ones (rw length-drop (omega arith)) ∙ ones-ones h in
            let l : length old ≡ size_of (length rights) = length_in digest (suc h) rights (rw length-drop (omega arith)) in
            omega (arith, size_ones (length rights), length-drop (2 ^ h) ds)

        unfoldable pub up : List (List ℕ)
        up = climb digest node h 0 new_at d

        right_grown : old ++ up ≡ perfect digest h (rights ++ (d ∷ []))
        unfolding up new_at
        right_grown =
            ap (λ (k : ℕ). old ++ climb digest node k 0 (s + length fore + length old) d)
            (sym (trailing_full h (length rights) (rw length-drop (omega arith))))
            ∙ ih ∙ peakwise_one (perfect digest) h (rights ++ (d ∷ [])) right_length

        pub left_top : node (left_of h (new_at + h)) ≡ perfect_root digest h lefts
        unfolding new_at
        left_top =
            let t = perfect_topped digest h lefts left_length in
            let k : length t.below < length fore = omega (arith, fore_length) in
            let e : left_of h (s + length fore + length old + h) ≡ s + length t.below = omega (arith, fore_length, old_length) in
            ap node e ∙ holds_left node s fore old held (length t.below) k
            ∙ rw t.ends (get_or_at t.below (perfect_root digest h lefts) [] [] (length t.below) refl)

        pub right_top : get_or up h [] ≡ perfect_root digest h (rights ++ (d ∷ []))
        right_top =
            let t = perfect_topped digest h (rights ++ (d ∷ [])) right_length in
            sym (get_or-append-add old up h [])
            ∙ ap (λ (l : List (List ℕ)). get_or l (length old + h) []) (right_grown ∙ t.ends)
            ∙ get_or_at t.below (perfect_root digest h (rights ++ (d ∷ []))) [] [] (length old + h) (omega (arith, old_length))

        -- the parent of the two tops
        top_parent : parent_of digest node h (new_at + h) (get_or up h [])
            ≡ digest (perfect_root digest h lefts ++ perfect_root digest h (rights ++ (d ∷ [])))
        top_parent = ap₂ (λ (x y : List ℕ). digest (x ++ y)) left_top right_top

        joined : nodes_in digest (suc (suc h)) (ds ++ (d ∷ []))
            ≡ fore ++ perfect digest h (rights ++ (d ∷ []))
            ++ (digest (perfect_root digest h lefts ++ perfect_root digest h (rights ++ (d ∷ []))) ∷ [])
        unfolding perfect perfect_root
        joined = peakwise_one (perfect digest) (suc h) (ds ++ (d ∷ [])) (more ∙ e) ∙ rw (left_same, right_more)

        grows_joined : Grows (suc h) ds d s
        unfolding up
        grows_joined =
            rw (
              before,
              trailing_full (suc h) (length ds) e,
              at_end,
              climb_last h 0 new_at d,
              zero-add h,
              top_parent,
              joined,
              ← right_grown,
            ) (simp append_assoc)

  pub grows : (h : ℕ) (ds : List (List ℕ)) (d : List ℕ) (s : ℕ) → length ds < 2 ^ h → Holds node s (nodes_in digest (suc h) ds)
      → Grows h ds d s
  grows zero ds d s p f = grows_none ds d s p
  grows (suc h) ds d s p f =
      by_cases (dec_lt (length ds) (2 ^ h))
      (λ a.
      let e : nodes_in digest (suc (suc h)) ds ≡ nodes_in digest (suc h) ds = peakwise_skip (perfect digest) (suc h) ds p in
      rw (e, peakwise_low (perfect digest) h (ds ++ (d ∷ [])) (rw length-append (omega arith))) (grows h ds d s a (rw e at f)))
      (λ a.
      let q : 2 ^ h ≤ length ds = omega arith in
      let held : Holds node s (fore h ds d s p q ++ old h ds d s p q) = rw (before h ds d s p q) at f in
      let right-held = holds_right node s (fore h ds d s p q) (old h ds d s p q) held in
      let ih = grows h (drop (2 ^ h) ds) d (s + length (fore h ds d s p q)) (rw length-drop (omega arith)) right-held in
      by_cases (dec_lt (suc (length ds)) (2 ^ suc h))
      (λ l. grows_apart h ds d s p q ih l)
      (λ l. grows_joined h ds d s p q ih (omega arith) held))

  -- an append of d to the nodes of ds makes the nodes of ds and d
  pub append_nodes : (ds : List (List ℕ)) (d : List ℕ) → Holds node 0 (nodes digest ds)
      → nodes digest ds ++ new_nodes digest node (length ds) d ≡ nodes digest (ds ++ (d ∷ []))
  unfolding new_nodes
  append_nodes ds d f =
      let h = suc (height_of (length ds)) in
      let l : length ds < 2 ^ h = height_above (length ds) in
      let e : nodes_in digest (suc h) ds ≡ nodes digest ds = nodes_any digest h ds (omega arith) in
      let k : 0 + length (nodes digest ds) ≡ size_of (length ds) = zero-add _ ∙ nodes_length digest ds in
      (rw (e, k) at (grows h ds d 0 l (rw e f))) ∙ nodes_any digest h (ds ++ (d ∷ [])) (rw length-append (omega arith))

  -- the leaf and as many parents as merges: the hash count
  pub new_length : (n : ℕ) (d : List ℕ) → length (new_nodes digest node n d) ≡ hash_count n
  unfolding new_nodes
  new_length n d = climb_length (trailing_ones n) 0 (size_of n) d ∙ omega arith

-- the left children of an append's parents stand among the old nodes
pub left_inside : (n j : ℕ) → j < trailing_ones n → (2 ^ suc j - 1 ≤ size_of n) × (left_of j (size_of n + j) < size_of n)
left_inside n j p =
    let m : 2 ^ suc j ≤ 2 ^ trailing_ones n = pow_mono {i = suc j} {j = trailing_ones n} p in
    (omega (arith, trailing_pow n, size_ge n), omega (arith, trailing_pow n, size_ge n, lt_pow (suc j)))

-- so the new nodes depend on the old ones alone
module _ (digest : List ℕ → List ℕ) (f g : ℕ → List ℕ) where
  climb_same : (k j p : ℕ) (x : List ℕ)
      → ((i : ℕ) → i < k → f (left_of (j + i) (p + i)) ≡ g (left_of (j + i) (p + i)))
      → climb digest f k j p x ≡ climb digest g k j p x
  unfolding climb
  climb_same zero j p x e = refl
  climb_same (suc k) j p x e =
      let z : f (left_of j p) ≡ g (left_of j p) = rw (add-zero p, add-zero j) at (e 0 (omega arith)) in
      rw z (ap {B = List (List ℕ)} (λ r. x ∷ r)
      (climb_same k (suc j) (suc p) (parent_of digest g j p x)
      (λ i l. rw (suc-add p i, ← add-suc p i, suc-add j i, ← add-suc j i) (e (suc i) (omega arith)))))

  pub new_local : (n : ℕ) (d : List ℕ) → ((p : ℕ) → p < size_of n → f p ≡ g p) → new_nodes digest f n d ≡ new_nodes digest g n d
  unfolding new_nodes
  new_local n d e = climb_same (trailing_ones n) 0 (size_of n) d (λ i l. rw (zero-add i) (e _ (left_inside n i l).1))
