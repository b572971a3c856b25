-- Numbers with zeros behind them up to 256: how many, the numbers again, one more.
use mathlib.Core.Path.{◌≡◌, sym, ap, ◌∙◌}
use mathlib.Core.List.{List, [], ◌∷◌, ◌++◌}
use Prim.Native.Nat.{ℕ, suc, ◌-◌, ◌≤◌, ◌<◌}
use native.Mathlib.Omega.{arith}
use lib.ListN.{length, take, set, length-append, length-replicate}
use lib.Seq.{take_at, set_at, append_snoc}
use Rattle.wire.specs.Slices.{zeros}
use Rattle.passage_fields.specs.Fields.{filled}

module _ (xs : List ℕ) (k : ℕ) (e : length xs ≡ k) where
  pub filled_length : k ≤ 256 → length (filled xs) ≡ 256
  filled_length h = rw (length-append, length-replicate) (omega arith)

  pub filled_front : take k (filled xs) ≡ xs
  filled_front = take_at xs (zeros (256 - length xs)) k e

  pub filled_next : (v : ℕ) → k < 256 → set (filled xs) k v ≡ filled (xs ++ (v ∷ []))
  filled_next v h =
      let n : 256 - length xs ≡ suc (256 - length (xs ++ (v ∷ []))) = rw length-append (omega arith) in
      ap (λ (m : ℕ). set (xs ++ zeros m) k v) n ∙ set_at xs 0 _ v k e ∙ sym (append_snoc xs v _)
