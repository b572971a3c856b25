-- Records that pass the order one behind the other: their indexes rise and are below the leaf count, none is above 16,384 bytes, they lie within the
-- letter, and its bytes are put together from them.
use mathlib.Core.Path.{◌≡◌, refl, sym, ap, ap₂, ◌∙◌}
use mathlib.Core.List.{List, [], ◌∷◌, ◌++◌, map, append_assoc}
use Prim.Native.Nat.{ℕ, zero, suc, ◌+◌, ◌*◌, ◌≤◌}
use native.Mathlib.Omega.{arith}
use lib.ListN.{length, get_or, take, drop, length-drop, take-append-drop}
use lib.Seq.{length-take-le, drop-drop}
use Rattle.order.proofs.Laws.{Passes}
use Rattle.wire.specs.Numbers.{be, Bytes}
use Rattle.wire.specs.Slices.{part}
use Rattle.wire.proofs.Parts.{part_within, part_add}
use Rattle.wire.proofs.Places.{be_part}
use Rattle.views.specs.Passage.{Rising}
use Rattle.passage.specs.Bytes.{entries, index_at, stated_at, record_at, behind_at, places_from, end_from}
use Rattle.passage.specs.Checking.{record_order, entries_order}

-- none of these numbers is above m
abbrev pub AtMost : ℕ → List ℕ → Type 0
AtMost m [] = Unit {0}
AtMost m (k ∷ ks) = (k ≤ m) × AtMost m ks

module _ (n : ℕ) (letter : List ℕ) where
  pub entries_rising : (at floor k : ℕ) → Passes (entries_order n letter at floor k) → Rising floor n (map (index_at letter) (places_from letter at k))
  unfolding entries_order record_order places_from
  entries_rising at floor zero p = tt
  entries_rising at floor (suc k) p =
      (p.1.0, p.1.1.0, entries_rising (behind_at letter at) (suc (index_at letter at)) k p.1.1.1.1.1)

  pub entries_short : (at floor k : ℕ) → Passes (entries_order n letter at floor k) → AtMost 16384 (map (stated_at letter) (places_from letter at k))
  unfolding entries_order record_order places_from
  entries_short at floor zero p = tt
  entries_short at floor (suc k) p =
      (p.1.1.1.0, entries_short (behind_at letter at) (suc (index_at letter at)) k p.1.1.1.1.1)

  -- the place behind them is within the letter, and not far from where they begin
  pub entries_within : (at floor k : ℕ) → at ≤ length letter → Passes (entries_order n letter at floor k) → end_from letter at k ≤ length letter
  unfolding entries_order record_order end_from
  entries_within at floor zero h p = h
  entries_within at floor (suc k) h p =
      entries_within (behind_at letter at) (suc (index_at letter at)) k p.1.1.1.1.0 p.1.1.1.1.1

  pub entries_near : (at floor k : ℕ) → Passes (entries_order n letter at floor k) → end_from letter at k ≤ at + 16396 * k
  unfolding entries_order record_order end_from
  entries_near at floor zero p = omega arith
  entries_near at floor (suc k) p =
      omega (arith, p.1.1.1.0, entries_near (behind_at letter at) (suc (index_at letter at)) k p.1.1.1.1.1)

  -- each record is as long as is stated
  stated_long : (at : ℕ) → behind_at letter at ≤ length letter → length (record_at letter at) ≡ stated_at letter at
  unfolding record_at
  stated_long at h = length-take-le (stated_at letter at) (drop (at + 12) letter) (rw length-drop (omega arith))

  record_part_lem : (at : ℕ) → behind_at letter at ≤ length letter → record_at letter at ≡ part (at + 12) (stated_at letter at) letter
  unfolding record_at
  record_part_lem at h = sym (part_within (at + 12) (stated_at letter at) letter h)

  stated_bytes : (at : ℕ) → Bytes letter → be 4 (stated_at letter at) ≡ part (at + 8) 4 letter
  unfolding stated_at
  stated_bytes at b = be_part (at + 8) 4 letter b

  pub entries_stated : (at floor k : ℕ) → Passes (entries_order n letter at floor k)
      → map length (map (record_at letter) (places_from letter at k)) ≡ map (stated_at letter) (places_from letter at k)
  unfolding entries_order record_order places_from
  entries_stated at floor zero p = refl
  entries_stated at floor (suc k) p =
      ap₂ (λ (x : ℕ) (xs : List ℕ). x ∷ xs) (stated_long at p.1.1.1.1.0)
      (entries_stated (behind_at letter at) (suc (index_at letter at)) k p.1.1.1.1.1)

  -- each lies within the letter, and its bytes are that part of it
  pub entries_inside : (at floor k : ℕ) → Passes (entries_order n letter at floor k)
      → (j : ℕ)
      → get_or (map (λ (p : ℕ). p + 12) (places_from letter at k)) j 0 + get_or (map (stated_at letter) (places_from letter at k)) j 0 ≤ length letter
  unfolding entries_order record_order places_from
  entries_inside at floor zero p j = omega arith
  entries_inside at floor (suc k) p zero = p.1.1.1.1.0
  entries_inside at floor (suc k) p (suc j) =
      entries_inside (behind_at letter at) (suc (index_at letter at)) k p.1.1.1.1.1 j

  pub entries_part : (at floor k : ℕ) → Passes (entries_order n letter at floor k)
      → (j : ℕ)
      → part (get_or (map (λ (p : ℕ). p + 12) (places_from letter at k)) j 0) (get_or (map (stated_at letter) (places_from letter at k)) j 0) letter
      ≡ get_or (map (record_at letter) (places_from letter at k)) j []
  unfolding entries_order record_order places_from part
  entries_part at floor zero p j = refl
  entries_part at floor (suc k) p zero = sym (record_part_lem at p.1.1.1.1.0)
  entries_part at floor (suc k) p (suc j) =
      entries_part (behind_at letter at) (suc (index_at letter at)) k p.1.1.1.1.1 j

  -- ---- bytes that are put together from them

  one_bytes : (at : ℕ) → Bytes letter → behind_at letter at ≤ length letter
      → be 8 (index_at letter at) ++ be 4 (length (record_at letter at)) ++ record_at letter at ++ drop (behind_at letter at) letter
      ≡ drop at letter
  unfolding index_at
  one_bytes at b h =
      let s = stated_at letter at in
      let r : record_at letter at ≡ part (at + 12) s letter = record_part_lem at h in
      let f : be 4 (length (record_at letter at)) ≡ part (at + 8) 4 letter = ap (be 4) (stated_long at h) ∙ stated_bytes at b in
      let t : part at (12 + s) letter ≡ take (12 + s) (drop at letter) = part_within at (12 + s) letter (omega arith) in
      let m : at + (12 + s) ≡ behind_at letter at = omega arith in
      let u : drop (behind_at letter at) letter ≡ drop (12 + s) (drop at letter) =
      sym (drop-drop (12 + s) at letter ∙ ap (λ (k : ℕ). drop k letter) m) in
      rw (be_part at 8 letter b, f, r, ← part_add at 8 4 letter, ← part_add at 12 s letter, t, u) (take-append-drop (12 + s) (drop at letter))

  pub entries_bytes : (at floor k : ℕ) → Bytes letter → Passes (entries_order n letter at floor k)
      → entries (map (index_at letter) (places_from letter at k)) (map (record_at letter) (places_from letter at k)) ++ drop (end_from letter at k) letter
      ≡ drop at letter
  unfolding entries_order record_order places_from end_from entries
  entries_bytes at floor zero b p = refl
  entries_bytes at floor (suc k) b p =
      let next = behind_at letter at in
      append_assoc (be 8 (index_at letter at) ++ be 4 (length (record_at letter at)) ++ record_at letter at) _ _
      ∙ ap (λ (l : List ℕ). be 8 (index_at letter at) ++ be 4 (length (record_at letter at)) ++ record_at letter at ++ l)
      (entries_bytes next (suc (index_at letter at)) k b p.1.1.1.1.1)
      ∙ one_bytes at b p.1.1.1.1.0
