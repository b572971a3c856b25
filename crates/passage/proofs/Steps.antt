-- What a walk for a passage may ask of the height below, and what the two parts of its indexes are.
use Prim.Native.Nat.{ℕ, ◌+◌, ◌-◌}
use mathlib.Core.List.{List}
use native.Mathlib.Omega.{arith}
use lib.ListN.{length, length-take, length-drop, take, drop}
use Rattle.wire.proofs.Lists.{rest_all}
use Rattle.shape.proofs.Powers.{Halved}
use Rattle.passage.specs.Steps.{Countable}

module _ (h p : ℕ) (is : List ℕ) {half : ℕ} where
  pub countable_low : Halved h half → Countable h p is → Countable (h - 1) p is
  countable_low t c = record { low = omega (arith, c.low); near = omega (arith, c.near, t.is, t.whole); few = c.few }

  pub countable_left : (k : ℕ) → Halved h half → Countable h p is → Countable (h - 1) p (take k is)
  countable_left k t c =
      record { low = omega (arith, c.low); near = omega (arith, c.near, t.is, t.whole); few = rw length-take (omega (arith, c.few)) }

  -- a slice from place k on, as the code has it
  pub countable_right : (k : ℕ) → Halved h half → Countable h p is → Countable (h - 1) (p + half) (take (length is - k) (drop k is))
  countable_right k t c =
      record { low = omega (arith, c.low); near = omega (arith, c.near, t.is, t.whole); few = rw (rest_all k is, length-drop) (omega (arith, c.few)) }
