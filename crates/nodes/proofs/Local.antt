-- Bytes beyond the nodes mean nothing: the nodes below a size, and whether a buffer is under 32 × size bytes, by its front alone.
use mathlib.Core.Path.{◌≡◌, sym, ap, ◌∙◌}
use mathlib.Core.Logic.{by_cases}
use mathlib.Core.List.{List}
use Prim.Native.Nat.{ℕ, ◌*◌, ◌<◌}
use native.Mathlib.Decide.{dec_le}
use native.Mathlib.Omega.{arith}
use borrow.Author.Tests.{le-ltb}
use lib.Dec.{ltb}
use lib.ListN.{length, take}
use lib.Seq.{take_all, length-take-le}
use Rattle.wire.proofs.Parts.{part_take}
use Rattle.nodes.specs.Nodes.{node_in}

module _ (size : ℕ) (bs : List ℕ) where
  node_front : (p : ℕ) → p < size → node_in (take (32 * size) bs) p ≡ node_in bs p
  unfolding node_in
  node_front p h =
      by_cases (dec_le (32 * size) (length bs))
      (λ a. part_take (32 * p) 32 (32 * size) bs (omega arith) a)
      (λ a. ap (λ (xs : List ℕ). node_in xs p) (take_all (32 * size) bs (omega arith)))

  short_front : ltb (length (take (32 * size) bs)) (32 * size) ≡ ltb (length bs) (32 * size)
  short_front =
      by_cases (dec_le (32 * size) (length bs))
      (λ a.
      le-ltb (length (take (32 * size) bs)) (32 * size) (omega (arith, length-take-le (32 * size) bs a))
      ∙ sym (le-ltb (length bs) (32 * size) a))
      (λ a. ap (λ (xs : List ℕ). ltb (length xs) (32 * size)) (take_all (32 * size) bs (omega arith)))

-- two buffers that agree in their first 32 × size bytes
module _ (size : ℕ) (bs cs : List ℕ) (same : take (32 * size) bs ≡ take (32 * size) cs) where
  pub node_local : (p : ℕ) → p < size → node_in bs p ≡ node_in cs p
  node_local p h = sym (node_front size bs p h) ∙ ap (λ (xs : List ℕ). node_in xs p) same ∙ node_front size cs p h

  pub short_local : ltb (length bs) (32 * size) ≡ ltb (length cs) (32 * size)
  short_local = sym (short_front size bs) ∙ ap (λ (xs : List ℕ). ltb (length xs) (32 * size)) same ∙ short_front size cs
