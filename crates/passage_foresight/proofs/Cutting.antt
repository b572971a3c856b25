-- Records cut from joined bytes, one after the other: record i begins at byte `at`.
use mathlib.Core.Path.{◌≡◌, sym, ap, ap₂, ◌∙◌}
use mathlib.Core.List.{List, ◌∷◌}
use Prim.Native.Nat.{ℕ, ◌+◌, ◌-◌, ◌≤◌, ◌<◌}
use native.Mathlib.Omega.{arith}
use lib.ListN.{length, get_or, take, drop, drop_of_length-le, length-drop}
use lib.Seq.{length-take-le, drop-drop}
use Rattle.records.specs.Records.{total, cut}
use Rattle.records.proofs.Sums.{next_length, total_none, total_cons}
use Rattle.records.proofs.Cuts.{cut_next}
use Rattle.passage_foresight.specs.Steps.{OneEach}

module _ (is whole ks : List ℕ) where
  pub record Cutting (at i : ℕ) : Type 0 where
    pub within : i ≤ length is
    pub as_many : length ks ≡ length is
    pub left : at + total (drop i ks) ≡ length whole

  pub cutting_begin : OneEach is whole ks → Cutting 0 0
  cutting_begin e = record { within = omega arith; as_many = e.as_many; left = omega (arith, e.sum) }

  module _ {at i : ℕ} (c : Cutting at i) where
    module _ (p : i < length is) where
      -- it lies within the joined bytes
      pub cutting_room : at + get_or ks i 0 + total (drop (i + 1) ks) ≡ length whole
      cutting_room =
          omega (arith, c.left, ap total (next_length ks i (omega (arith, c.as_many))), total_cons (get_or ks i 0) (drop (i + 1) ks))

      module _ {end : ℕ} (e : end ≡ at + get_or ks i 0) where
        pub cutting_next : Cutting end (i + 1)
        cutting_next = record { within = omega arith; as_many = c.as_many; left = omega (arith, cutting_room) }

        pub cutting_length : length (take (end - at) (drop at whole)) ≡ get_or ks i 0
        cutting_length =
            length-take-le (end - at) (drop at whole) (omega (arith, length-drop at whole, cutting_room)) ∙ omega arith

        -- the record as a slice, and the others
        pub cutting_cut : cut (drop i ks) (drop at whole) ≡ take (end - at) (drop at whole) ∷ cut (drop (i + 1) ks) (drop end whole)
        cutting_cut =
            let k = get_or ks i 0 in
            let q : k ≡ end - at = omega arith in
            ap (λ (x : List ℕ). cut x (drop at whole)) (next_length ks i (omega (arith, c.as_many)))
            ∙ cut_next k (drop (i + 1) ks) (drop at whole)
            ∙ ap₂ {C = List (List ℕ)} (λ (x y : List ℕ). x ∷ cut (drop (i + 1) ks) y) (ap (λ (x : ℕ). take x (drop at whole)) q)
            (drop-drop k at whole ∙ ap (λ (x : ℕ). drop x whole) (sym e))

    -- the end
    pub cutting_end : length is ≤ i → at ≡ length whole
    cutting_end p = omega (arith, c.left, ap total (drop_of_length-le ks {i = i} (omega (arith, c.as_many))), total_none)
