-- The root that a pass works out from the parts of a letter that was taken apart, as slices give them.
use mathlib.Core.Path.{◌≡◌, ap, ◌∙◌}
use mathlib.Core.List.{List, [], ◌∷◌}
use Prim.Native.Nat.{ℕ, ◌-◌, ◌^◌, ◌≤◌, ◌<◌}
use native.Mathlib.Omega.{arith}
use lib.ListN.{length, take, drop}
use Rattle.views.specs.Passage.{Rising}
use Rattle.wire.proofs.Lists.{rest_all}
use Rattle.passage.specs.Bytes.{indexes_in, end_in}
use Rattle.passage.specs.Digests.{worked_root}
use Rattle.passage_fields.specs.declared.Fields.{Fields}
use Rattle.passage_fields.specs.Fields.{fields_taken, fields_outcome}
use Rattle.passage_fields.proofs.Places.{places_count}
use Rattle.passage_fields.proofs.Fits.{fits_request}
use Rattle.passage_fields.proofs.Apart.{Apart, apart}
use Rattle.passage_root.specs.Root.{root_from}
use Rattle.passage_root.proofs.Letter.{root_worked}

-- a log that has the leaf at an index is not empty
not_empty : (n : ℕ) (is : List ℕ) → 1 ≤ length is → Rising 0 n is → 0 < n
not_empty n [] p q = absurd (omega arith)
not_empty n (i ∷ is) p q = omega arith

module _ (size n : ℕ) (letter : List ℕ) {f : Fields} (e : fields_taken f ≡ fields_outcome size n letter) where
  abbrev a : Apart size n letter e
  a = apart size n letter e

  -- no more records than the arrays have places
  pub counted_few : f.count ≤ 256
  counted_few = omega (arith, a.count, a.fits.few)

  some : 0 < n
  some = let q = fits_request size n letter a.fits in not_empty n (indexes_in letter) q.some q.rising

  pub worked_slices : (digest : List ℕ → List ℕ) → ((x : List ℕ) → length (digest x) ≡ 32) → n ≤ 2 ^ 32 → {made : List ℕ}
      → made
      ≡ root_from digest n (take f.count f.indexes) letter (take f.count f.places) (take (length letter - f.end) (drop f.end letter))
      → made ≡ worked_root digest n letter
  worked_slices digest digest_32 most g =
      let items : take (length letter - f.end) (drop f.end letter) ≡ drop (end_in letter) letter =
      rest_all f.end letter ∙ ap (λ (k : ℕ). drop k letter) a.end in
      g
      ∙ rw (a.places_are, a.indexes_are, items)
      (root_worked digest digest_32 n letter some most (omega (arith, places_count letter, a.fits.few)))
