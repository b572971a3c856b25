-- An input written over the first bytes of a buffer.
use mathlib.Core.Path.{◌≡◌, sym, ◌∙◌}
use mathlib.Core.List.{List, ◌++◌}
use Prim.Native.Nat.{ℕ, ◌≤◌, ◌<◌}
use native.Mathlib.Omega.{arith}
use lib.ListN.{length, length-append}
use Rattle.wire.specs.Slices.{written}
use Rattle.wire.proofs.Splices.{written_fits, written_short, written_next}

module _ (d l r : List ℕ) (n : length l ≡ 32) (m : length r ≡ 32) where
  pub input_64 : length (l ++ r) ≡ 64
  input_64 = length-append l r ∙ omega arith

  -- not where it does not fit wholly
  pub put_none : length d < 64 → d ≡ written 0 (l ++ r) d
  put_none h = sym (written_short 0 (l ++ r) d (omega (arith, input_64)))

  -- two digests written in a row
  pub put_two : (mid last : List ℕ) → 64 ≤ length d → mid ≡ written 0 l d → last ≡ written 32 r mid → last ≡ written 0 (l ++ r) d
  put_two mid last h e f =
      f
      ∙ written_next 0 32 l r d mid (e ∙ written_fits 0 l d (omega arith)) (omega arith) (omega arith)
      ∙ sym (written_fits 0 (l ++ r) d (omega (arith, input_64)))
