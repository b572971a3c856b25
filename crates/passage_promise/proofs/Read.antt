-- What is read from any bytes as from a passage letter: one record for each index, and digests of 32 bytes.
use mathlib.Core.Path.{◌≡◌, sym, ◌∙◌}
use mathlib.Core.List.{List}
use Prim.Native.Nat.{ℕ}
use lib.ListN.{length, length-map}
use Rattle.wire.specs.Slices.{Each}
use Rattle.wire.proofs.Rows.{digests_length, digests_each}
use Rattle.passage.specs.Bytes.{record_at, places, indexes_in, starts_in, records_in, end_in, digests_in}
use Rattle.passage_fields.proofs.Places.{places_count, indexes_count}

module _ (letter : List ℕ) where
  pub record_each : length (records_in letter) ≡ length (indexes_in letter)
  unfolding records_in
  record_each = length-map (places letter) (record_at letter) ∙ places_count letter ∙ sym (indexes_count letter)

  pub start_each : length (starts_in letter) ≡ length (indexes_in letter)
  unfolding starts_in
  start_each = length-map (places letter) _ ∙ places_count letter ∙ sym (indexes_count letter)

  pub digests_many : (k : ℕ) → length (digests_in k letter) ≡ k
  unfolding digests_in
  digests_many k = digests_length (end_in letter) k letter

  pub digests_32 : (k : ℕ) → Each 32 (digests_in k letter)
  unfolding digests_in
  digests_32 k = digests_each (end_in letter) k letter
