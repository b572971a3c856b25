-- The items of a leaf, written one height after the other: the room that each call has, and what it leaves.
-- `half` stands for 2 ^ (h - 1) as the code has it.
use mathlib.Core.Path.{◌≡◌, refl, sym, ap, ap₂, ◌∙◌}
use mathlib.Core.List.{List, [], ◌∷◌, ◌++◌, map, map-append}
use Prim.Native.Nat.{ℕ, suc, ◌+◌, ◌-◌, ◌*◌, ◌%◌, ◌^◌, ◌≤◌, ◌<◌}
use native.Mathlib.Omega.{arith}
use lib.ListN.{length, length-append, length-map}
use Rattle.digest.specs.Digest.{digest_in, digest_length}
use Rattle.wire.specs.Slices.{splice, written, Each, joined}
use Rattle.wire.proofs.Splices.{splice_none, splice_length, splice_splice, written_fits, written_next}
use Rattle.shape.specs.Positions.{top, behind, peaks_in, alone, positions_in, fold}
use Rattle.shape.proofs.Powers.{Halved, halved}
use Rattle.shape.proofs.Peaks.{peaks_some}
use Rattle.shape.proofs.Reading.{fold_length}
use Rattle.shape.proofs.Positions.{positions_one, positions_low, positions_left, positions_right, positions_past}
use Rattle.nodes.specs.Nodes.{node_in, fold_from}
use Rattle.wire.proofs.Joined.{joined_length, joined_append, joined_one}
use Rattle.nodes.proofs.From.{from_any}
use Rattle.nodes.proofs.Joined.{node_length}
use Rattle.letter.proofs.ItemsOf.{items_from, from_each}

-- the position behind the left side
abbrev pub middle : ℕ → ℕ → ℕ
middle s half = s + (2 * half - 1)

-- the positions of the items on the right side
abbrev to_right : ℕ → ℕ → ℕ → ℕ → ℕ → List (List ℕ)
to_right h n i s half = positions_in (suc (h - 1)) (n - half) (i - half) (middle s half)

-- what a call asks of a buffer of `room` bytes
abbrev pub Room : ℕ → ℕ → ℕ → ℕ → ℕ → ℕ → Type 0
Room h n i s at room = (h ≤ 32) × (i < n) × (n ≤ 2 ^ h) × (s + 2 * 2 ^ h ≤ 2 ^ 34) × (at + 32 * length (positions_in (suc h) n i s) ≤ room)

-- what it leaves: the place behind the items, and the buffer with them
abbrev pub Put : List ℕ → List ℕ → ℕ → ℕ → ℕ → ℕ → ℕ → List ℕ → ℕ → List ℕ → Type 0
Put mode bs h n i s at d next last =
    (next ≡ at + 32 * length (positions_in (suc h) n i s)) × (last ≡ splice at (joined (items_from (digest_in mode) (node_in bs) h n i s)) d)

joined_cons : (x : List ℕ) (xs : List (List ℕ)) → joined (x ∷ xs) ≡ x ++ joined xs
unfolding joined
joined_cons x xs = refl

-- one leaf has no items
pub put_none : (mode bs : List ℕ) (h n i s at : ℕ) (d : List ℕ) → h ≡ 0 → Room h n i s at (length d) → Put mode bs h n i s at d at d
unfolding joined
put_none mode bs h n i s at d z r =
    let e : positions_in (suc h) n i s ≡ [] =
    ap (λ (k : ℕ). positions_in (suc k) n i s) z ∙ positions_one n i s (let q : 2 ^ h ≡ 1 = rw z in omega arith) r.1 in
    rw e (omega arith, sym (splice_none at d))

-- a call above height 0
pub record Above (h n i s at room half : ℕ) : Type 0 where
  pub some : h ≡ 0 → ⊥
  pub power : half ≡ 2 ^ (h - 1) % 2 ^ 64
  pub fits : Room h n i s at room

module _ {h n i s at room half : ℕ} (f : Above h n i s at room half) where
  halves : Halved h half
  halves = halved h half (omega (arith, f.some)) (omega (arith, f.fits.0)) f.power

  pub half_bounds : (0 < half) × (s + 4 * half ≤ 2 ^ 34)
  half_bounds = (halves.some, omega (arith, halves.whole, f.fits.3))

  -- what the positions are at the height below
  positions_at : {ps : List (List ℕ)} → positions_in (suc (suc (h - 1))) n i s ≡ ps → positions_in (suc h) n i s ≡ ps
  positions_at e = ap (λ (k : ℕ). positions_in (suc k) n i s) halves.below ∙ e

  mid_is : behind (h - 1) s ≡ middle s half
  mid_is = omega (arith, halves.double)

  top_is : top (h - 1) s ≡ middle s half - 1
  top_is = omega (arith, halves.double, half_bounds.0)

  -- ---- all leaves at the height below

  module _ (q : n ≤ half) where
    low_same : positions_in (suc h) n i s ≡ positions_in (suc (h - 1)) n i s
    low_same = positions_at (positions_low (h - 1) n i s (omega (arith, halves.is)))

    pub low_room : Room (h - 1) n i s at room
    low_room =
        (omega (arith, f.fits.0), f.fits.1, omega (arith, halves.is), omega (arith, halves, f.fits.3), rw low_same at f.fits.4)

    pub low_put : (mode bs d : List ℕ) {next : ℕ} {last : List ℕ} → Put mode bs (h - 1) n i s at d next last → Put mode bs h n i s at d next last
    low_put mode bs d p = rw low_same p

  -- ---- leaves on two sides

  -- one digest more, behind those that are there
  put_behind : (mode bs d : List ℕ) (ps : List (List ℕ)) (p : List ℕ) {next : ℕ} {side before last : List ℕ} → length d ≡ room
      → positions_in (suc h) n i s ≡ ps ++ (p ∷ []) → Each 32 (map (fold (digest_in mode) (node_in bs)) ps) → length side ≡ 32
      → next ≡ at + 32 * length ps → before ≡ splice at (joined (map (fold (digest_in mode) (node_in bs)) ps)) d
      → side ≡ fold (digest_in mode) (node_in bs) p → last ≡ written next side before → Put mode bs h n i s at d (next + 32) last
  put_behind mode bs d ps p {next} {side} {before} long e each l en eb es el =
      let read : List ℕ → List ℕ = fold (digest_in mode) (node_in bs) in
      let xs : List ℕ = joined (map read ps) in
      let k : length (positions_in (suc h) n i s) ≡ suc (length ps) = ap length e ∙ length-append ps (p ∷ []) ∙ omega arith in
      let m : length xs ≡ 32 * length ps = joined_length (map read ps) each ∙ ap (λ (x : ℕ). 32 * x) (length-map ps read) in
      let j : joined (map read (ps ++ (p ∷ []))) ≡ xs ++ read p =
      ap joined (map-append read ps (p ∷ [])) ∙ joined_append (map read ps) (read p ∷ []) ∙ ap (λ (x : List ℕ). xs ++ x) (joined_one (read p)) in (
        omega arith,
        el ∙ written_next at next xs side d before eb (omega arith) (omega (arith, f.fits.4))
            ∙ ap (λ (x : List ℕ). splice at x d) (ap (λ (x : List ℕ). xs ++ x) es ∙ sym j ∙ ap (λ (x : List (List ℕ)). joined (map read x)) (sym e)),
      )

  module _ (q : half < n) where
    -- the leaves to the right
    rest_few : (n - half ≤ half) × (0 < n - half)
    rest_few = (omega (arith, halves.whole, f.fits.2), omega arith)

    -- ---- to the left

    module _ (l : i < half) where
      left_same : positions_in (suc h) n i s ≡ positions_in (suc (h - 1)) half i s ++ (peaks_in (suc (h - 1)) (n - half) (middle s half) ∷ [])
      left_same =
          positions_at
          (positions_left (h - 1) n i s (omega (arith, halves.is)) (omega (arith, halves.double, rest_few)) (omega (arith, halves.is)))
          ∙ ap₂ {C = List (List ℕ)} (λ (x y : ℕ). positions_in (suc (h - 1)) x i s ++ (peaks_in (suc (h - 1)) (n - x) y ∷ [])) (sym halves.is) mid_is

      left_more : length (positions_in (suc h) n i s) ≡ suc (length (positions_in (suc (h - 1)) half i s))
      left_more =
          ap length left_same
          ∙ length-append (positions_in (suc (h - 1)) half i s) (peaks_in (suc (h - 1)) (n - half) (middle s half) ∷ []) ∙ omega arith

      pub left_room : Room (h - 1) half i s at room
      left_room =
          (omega (arith, f.fits.0), l, omega (arith, halves.is), omega (arith, halves, f.fits.3), omega (arith, left_more, f.fits.4))

      pub left_put : (mode bs d : List ℕ) {next : ℕ} {side before last : List ℕ} → length d ≡ room → Put mode bs (h - 1) half i s at d next before
          → side ≡ fold_from (digest_in mode) bs (n - half) (middle s half) → last ≡ written next side before
          → Put mode bs h n i s at d (next + 32) last
      left_put mode bs d {side = side} long p es el =
          let ps : List ℕ = peaks_in (suc (h - 1)) (n - half) (middle s half) in
          let e : side ≡ fold (digest_in mode) (node_in bs) ps =
          es ∙ from_any (digest_in mode) bs (n - half) (middle s half) (h - 1) (omega (arith, halves.is, rest_few)) rest_few.1
          (omega (arith, rest_few, half_bounds)) (omega (arith, half_bounds)) in
          let some : 0 < length ps =
          peaks_some (suc (h - 1)) (n - half) (middle s half) rest_few.1 (omega (arith, rest_few, halves.double, half_bounds)) in
          put_behind mode bs d (positions_in (suc (h - 1)) half i s) ps long left_same
          (from_each (digest_in mode) (node_in bs) (digest_length mode) (node_length bs) (h - 1) half i s l (omega (arith, halves.is)))
          (ap length e ∙ fold_length (digest_in mode) (node_in bs) (digest_length mode) (node_length bs) ps some) p.0 p.1 e el

    -- ---- to the right

    module _ (l : half ≤ i) where
      right_room : (from : ℕ) → from + 32 * length (to_right h n i s half) ≤ room
          → Room (h - 1) (n - half) (i - half) (middle s half) from room
      right_room from k =
          let near : middle s half + 2 * 2 ^ (h - 1) ≤ 2 ^ 34 = omega (arith, halves.is, half_bounds) in
          (omega (arith, f.fits.0), omega (arith, f.fits.1), omega (arith, halves.is, rest_few), near, k)

      right_each : (mode bs : List ℕ) → Each 32 (items_from (digest_in mode) (node_in bs) (h - 1) (n - half) (i - half) (middle s half))
      right_each mode bs =
          from_each (digest_in mode) (node_in bs) (digest_length mode) (node_length bs) (h - 1) (n - half) (i - half) (middle s half)
          (omega (arith, f.fits.1)) (omega (arith, halves.is, rest_few))

      -- within a peak
      module _ (z : n - half ≡ half) where
        within_same : positions_in (suc h) n i s ≡ to_right h n i s half ++ (alone (middle s half - 1) ∷ [])
        within_same =
            positions_at (positions_right (h - 1) n i s (omega (arith, halves.double)) (omega (arith, halves.is)) f.fits.1)
            ∙ ap₂ {C = List (List ℕ)} (λ (x y : ℕ). positions_in (suc (h - 1)) (n - x) (i - x) y ++ (alone (top (h - 1) s) ∷ []))
            (sym halves.is) mid_is
            ∙ ap {B = List (List ℕ)} (λ (x : ℕ). to_right h n i s half ++ (alone x ∷ [])) top_is

        pub within_room : Room (h - 1) (n - half) (i - half) (middle s half) at room
        within_room =
            right_room at (omega (arith, ap length within_same ∙ length-append (to_right h n i s half) (alone (middle s half - 1) ∷ []), f.fits.4))

        pub within_put : (mode bs d : List ℕ) {next : ℕ} {side before last : List ℕ} → length d ≡ room
            → Put mode bs (h - 1) (n - half) (i - half) (middle s half) at d next before
            → side ≡ node_in bs (middle s half - 1) → last ≡ written next side before → Put mode bs h n i s at d (next + 32) last
        within_put mode bs d long p es el =
            put_behind mode bs d (to_right h n i s half) (alone (middle s half - 1)) long within_same
            (right_each mode bs) (ap length es ∙ node_length bs (middle s half - 1)) p.0 p.1 es el

      -- past a peak
      module _ (z : n - half ≡ half → ⊥) where
        past_same : positions_in (suc h) n i s ≡ alone (middle s half - 1) ∷ to_right h n i s half
        past_same =
            positions_at (positions_past (h - 1) n i s (omega (arith, halves.is)) (past_fewer rest_few.0) (omega (arith, halves.is)))
            ∙ ap₂ {C = List (List ℕ)} (λ (x y : ℕ). alone (top (h - 1) s) ∷ positions_in (suc (h - 1)) (n - x) (i - x) y) (sym halves.is) mid_is
            ∙ ap {B = List (List ℕ)} (λ (x : ℕ). alone x ∷ to_right h n i s half) top_is
          where
            past_fewer : n - half ≤ half → n < 2 ^ suc (h - 1)
            past_fewer k = omega (arith, halves.double, z)

        pub past_next : at + 32 ≤ room
        past_next = omega (arith, ap length past_same, f.fits.4)

        -- the peak is written
        peak_fits : (bs d : List ℕ) {side before : List ℕ} → length d ≡ room → side ≡ node_in bs (middle s half - 1) → before ≡ written at side d
            → (length side ≡ 32) × (before ≡ splice at side d) × (length before ≡ room)
        peak_fits bs d {side} long es eb =
            let k : length side ≡ 32 = ap length es ∙ node_length bs (middle s half - 1) in
            let r : at + length side ≤ length d = omega (arith, past_next) in
            let w = eb ∙ written_fits at side d r in
            (k, w, ap length w ∙ splice_length at side d r ∙ long)

        pub past_room : (bs d : List ℕ) {side before : List ℕ} → length d ≡ room → side ≡ node_in bs (middle s half - 1)
            → before ≡ written at side d → Room (h - 1) (n - half) (i - half) (middle s half) (at + 32) (length before)
        past_room bs d long es eb = rw (peak_fits bs d long es eb).2 (right_room (at + 32) (omega (arith, ap length past_same, f.fits.4)))

        pub past_put : (mode bs d : List ℕ) {next : ℕ} {side before last : List ℕ} → length d ≡ room → side ≡ node_in bs (middle s half - 1)
            → before ≡ written at side d → Put mode bs (h - 1) (n - half) (i - half) (middle s half) (at + 32) before next last
            → Put mode bs h n i s at d next last
        past_put mode bs d {side = side} {before = before} long es eb p =
            let read : List ℕ → List ℕ = fold (digest_in mode) (node_in bs) in
            let ps : List (List ℕ) = to_right h n i s half in
            let ys : List ℕ = joined (map read ps) in
            let k = peak_fits bs d long es eb in
            let m : length ys ≡ 32 * length ps = joined_length (map read ps) (right_each mode bs) ∙ ap (λ (x : ℕ). 32 * x) (length-map ps read) in
            let b : at + 32 ≡ at + length side = omega (arith, k.0) in
            let r : at + length side + length ys ≤ length d = omega (arith, ap length past_same, f.fits.4, k.0) in (
              omega (arith, ap length past_same, p.0),
              p.1
                  ∙ ap₂ (λ (x : ℕ) (l : List ℕ). splice x ys l) b k.1
                  ∙ splice_splice at side ys d r
                  ∙ ap (λ (x : List ℕ). splice at x d)
                  (ap (λ (x : List ℕ). x ++ ys) es ∙ sym (joined_cons (node_in bs (middle s half - 1)) (map read ps)))
                  ∙ ap (λ (x : List (List ℕ)). splice at (joined (map read x)) d) (sym past_same),
            )
