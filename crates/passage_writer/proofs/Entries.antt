-- The loop that writes record after record, each behind its index and its length.
use mathlib.Core.Path.{◌≡◌, refl, sym, ap, ap₂, ◌∙◌}
use mathlib.Core.List.{List, ◌++◌}
use Prim.Native.Nat.{ℕ, ◌+◌, ◌-◌, ◌*◌, ◌≤◌, ◌<◌}
use native.Mathlib.Omega.{arith}
use lib.ListN.{length, length-append, length-drop, get_or, take, drop, drop_of_length-le}
use Rattle.wire.specs.Numbers.{be}
use Rattle.wire.specs.Slices.{splice, written}
use Rattle.wire.proofs.Numbers.{be_length}
use Rattle.wire.proofs.Splices.{splice_none, splice_length, splice_splice, written_fits, written_next}
use Rattle.records.specs.Records.{total, cut}
use Rattle.records.proofs.Sums.{next_length}
use Rattle.passage.specs.Bytes.{entries}
use Rattle.passage_writer.specs.Steps.{end_of, Fitting, Entered}
use Rattle.passage_foresight.proofs.Cutting.{Cutting, cutting_begin, cutting_room, cutting_next, cutting_length, cutting_cut, cutting_end}
use Rattle.passage_writer.proofs.Lengths.{entries_cut}

module _ (is whole ks d : List ℕ) where
  -- the records from record i on, which begins at byte `at`
  abbrev later : ℕ → ℕ → List ℕ
  later at i = entries (drop i is) (cut (drop i ks) (drop at whole))

  pub record Enters (last : List ℕ) (next at i : ℕ) : Type 0 where
    pub place : Cutting is whole ks at i
    pub there : next ≡ 10 + 12 * i + at
    pub room : end_of is whole ≤ length d
    pub long : length last ≡ length d
    pub same : splice next (later at i) last ≡ splice 10 (entries is (cut ks whole)) d

  pub enters_begin : Fitting is whole ks (length d) → Enters d 10 0 0
  enters_begin f = record { place = cutting_begin is whole ks f.each; there = refl; room = f.fits; long = refl; same = refl }

  module _ {last : List ℕ} {next at i : ℕ} (w : Enters last next at i) where
    module _ (p : i < length is) where
      -- the record fits, in the joined bytes and in the buffer
      pub enters_room : (at + get_or ks i 0 ≤ length whole) × (next + 12 + get_or ks i 0 ≤ length d)
      enters_room =
          let r = cutting_room is whole ks w.place p in
          (omega arith, omega (arith, w.there, w.room))

      module _ {end : ℕ} (e : end ≡ at + get_or ks i 0) where
        abbrev rec : List ℕ
        rec = take (end - at) (drop at whole)

        abbrev entry : List ℕ
        entry = be 8 (get_or is i 0) ++ be 4 (get_or ks i 0) ++ rec

        size : length entry ≡ 12 + get_or ks i 0
        size =
            rw (length-append, length-append, be_length 8 (get_or is i 0), be_length 4 (get_or ks i 0), cutting_length is whole ks w.place p e)

        -- the record, and the others
        split : later at i ≡ entry ++ later end (i + 1)
        unfolding entries
        split =
            ap₂ entries (next_length is i p) (cutting_cut is whole ks w.place p e)
            ∙ ap (λ (k : ℕ). be 8 (get_or is i 0) ++ be 4 k ++ rec ++ later end (i + 1)) (cutting_length is whole ks w.place p e)

        rest : length (later end (i + 1)) ≡ 12 * (length is - (i + 1)) + total (drop (i + 1) ks)
        rest =
            let c = cutting_next is whole ks w.place p e in
            entries_cut (drop (i + 1) is) (drop (i + 1) ks) (drop end whole)
            (length-drop (i + 1) ks ∙ ap (λ (k : ℕ). k - (i + 1)) c.as_many ∙ sym (length-drop (i + 1) is))
            (omega (arith, length-drop end whole, c.left))
            ∙ ap (λ (k : ℕ). 12 * k + total (drop (i + 1) ks)) (length-drop (i + 1) is)

        module _ {l₁ l₂ l₃ : List ℕ} (e₁ : l₁ ≡ written next (be 8 (get_or is i 0)) last) (e₂ : l₂ ≡ written (next + 8) (be 4 (get_or ks i 0)) l₁)
            (e₃ : l₃ ≡ written (next + 12) rec l₂) where
          spliced : l₃ ≡ splice next entry last
          spliced =
              let a = be 8 (get_or is i 0) in
              let b = be 4 (get_or ks i 0) in
              let na : length a ≡ 8 = be_length 8 (get_or is i 0) in
              let nb : length b ≡ 4 = be_length 4 (get_or ks i 0) in
              let nr : length rec ≡ get_or ks i 0 = cutting_length is whole ks w.place p e in
              let nab : length (a ++ b) ≡ 12 = length-append a b ∙ omega arith in
              let r = enters_room in
              let f₁ : l₁ ≡ splice next a last = e₁ ∙ written_fits next a last (omega (arith, w.long)) in
              let f₂ : l₂ ≡ splice next (a ++ b) last = e₂ ∙ written_next next (next + 8) a b last l₁ f₁ (omega arith) (omega (arith, w.long)) in
              e₃ ∙ written_next next (next + 12) (a ++ b) rec last l₂ f₂ (omega arith) (omega (arith, w.long))

          -- one record more
          pub enters_next : {after : ℕ} → after ≡ next + 12 + get_or ks i 0 → Enters l₃ after end (i + 1)
          enters_next {after} n =
              let c = cutting_next is whole ks w.place p e in
              let more : List ℕ = later end (i + 1) in
              let r = enters_room in
              record {
                place = c;
                there = omega (arith, w.there);
                room = w.room;
                long = ap length spliced ∙ splice_length next entry last (omega (arith, size, w.long)) ∙ w.long;
                same =
                    ap₂ (λ (x : ℕ) (y : List ℕ). splice x more y) (let z : after ≡ next + length entry = omega (arith, size) in z) spliced
                    ∙ splice_splice next entry more last (omega (arith, size, rest, w.long, w.there, w.room, c.left))
                    ∙ ap (λ (x : List ℕ). splice next x last) (sym split)
                    ∙ w.same;
              }

    -- the end
    pub enters_end : length is ≤ i → Entered is whole ks d next last
    unfolding entries
    enters_end p =
        record {
          behind = omega (arith, w.there, cutting_end is whole ks w.place p, w.place.within);
          bytes =
              sym (splice_none next last)
              ∙ ap (λ (x : List ℕ). splice next (entries x (cut (drop i ks) (drop at whole))) last) (sym (drop_of_length-le is {i = i} p))
              ∙ w.same;
        }
