-- Three lists filled from the front, one record after the other.
use mathlib.Core.Path.{◌≡◌, sym, ap, ap₂, ◌∙◌}
use mathlib.Core.List.{List, [], ◌∷◌, ◌++◌, map}
use Prim.Native.Nat.{ℕ, ◌+◌, ◌≤◌, ◌<◌}
use native.Mathlib.Numerals.{add-one}
use native.Mathlib.Omega.{arith}
use lib.ListN.{length, length-map, length-take, get_or, take, set}
use lib.Seq.{take_all, take-suc, length-take-le}
use Rattle.wire.specs.Slices.{splice}
use Rattle.wire.proofs.Splices.{splice_length, splice_none, splice_byte, splice_splice}
use Rattle.passage.specs.Bytes.{stated_at}
use Rattle.passage_records.specs.Steps.{Listable, Listed}
use Rattle.passage_records.proofs.Handing.{number_at}

-- ---- one list: its first k places are those of another

abbrev pub Front : List ℕ → List ℕ → ℕ → List ℕ → Type 0
Front xs before k d = d ≡ splice 0 (take k xs) before

module _ (xs before : List ℕ) (room : length xs ≤ length before) where
  front_length : (k : ℕ) {d : List ℕ} → Front xs before k d → length d ≡ length before
  front_length k e = ap length e ∙ splice_length 0 (take k xs) before (omega (arith, length-take k xs))

  front_more : (k : ℕ) {d : List ℕ} {v : ℕ} → Front xs before k d → k < length xs → v ≡ get_or xs k 0 → Front xs before (k + 1) (set d k v)
  front_more k {d} {v} e h f =
      let n : 0 + length (take k xs) ≡ k = omega (arith, length-take-le k xs (omega arith)) in
      splice_byte k v d (omega (arith, front_length k e))
      ∙ ap₂ (λ (j : ℕ) (b : List ℕ). splice j (v ∷ []) b) (sym n) e
      ∙ splice_splice 0 (take k xs) (v ∷ []) before (omega arith)
      ∙ ap (λ (ys : List ℕ). splice 0 ys before)
      (ap (λ (w : ℕ). take k xs ++ (w ∷ [])) f ∙ sym (take-suc xs k 0 h) ∙ ap (λ (j : ℕ). take j xs) (sym (add-one k)))

front_all : (xs before : List ℕ) (k : ℕ) {d : List ℕ} → Front xs before k d → length xs ≤ k → d ≡ splice 0 xs before
front_all xs before k e h = e ∙ ap (λ (ys : List ℕ). splice 0 ys before) (take_all k xs h)

-- ---- the three

-- the starts and the lengths of the records at these places
abbrev starts_of : List ℕ → List ℕ
starts_of places = map (λ (at : ℕ). at + 12) places

abbrev lengths_of : List ℕ → List ℕ → List ℕ
lengths_of letter places = map (stated_at letter) places

pub record Listing (letter places starts₀ lengths₀ starts lengths : List ℕ) (k : ℕ) : Type 0 where
  pub started : Front (starts_of places) starts₀ k starts
  pub measured : Front (lengths_of letter places) lengths₀ k lengths

module _ (letter given places indexes₀ starts₀ lengths₀ : List ℕ)
    (room : Listable letter given places (length indexes₀) (length starts₀) (length lengths₀)) where
  starts_room : length (starts_of places) ≤ length starts₀
  starts_room = rw length-map room.room.1

  lengths_room : length (lengths_of letter places) ≤ length lengths₀
  lengths_room = rw length-map room.room.2

  pub listing_none : Listing letter places starts₀ lengths₀ starts₀ lengths₀ 0
  listing_none = record { started = sym (splice_none 0 starts₀); measured = sym (splice_none 0 lengths₀) }

  module _ {starts lengths : List ℕ} {k : ℕ} (l : Listing letter places starts₀ lengths₀ starts lengths k) where
    pub listing_more : {stated : ℕ} → k < length places → stated ≡ stated_at letter (get_or places k 0)
        → Listing letter places starts₀ lengths₀ (set starts k (get_or places k 0 + 12)) (set lengths k stated) (k + 1)
    listing_more h e =
        let a = number_at (λ (at : ℕ). at + 12) places k h in
        let b = number_at (stated_at letter) places k h in
        record {
          started = front_more (starts_of places) starts₀ starts_room k l.started (rw length-map h) (sym a);
          measured = front_more (lengths_of letter places) lengths₀ lengths_room k l.measured (rw length-map h) (e ∙ sym b);
        }

    pub listing_all : {indexes : List ℕ} → indexes ≡ splice 0 given indexes₀ → length places ≤ k
        → Listed letter given places indexes₀ starts₀ lengths₀ indexes starts lengths
    listing_all e h =
        record {
          indexes_are = e;
          starts_are = front_all (starts_of places) starts₀ k l.started (rw length-map h);
          lengths_are = front_all (lengths_of letter places) lengths₀ k l.measured (rw length-map h);
        }
