-- A shift of 1 is a power of two, and from 64 on nothing of it is left.
use mathlib.Core.Path.{sym, ap}
use Prim.Native.Nat.{ℕ, ◌%◌, ◌^◌}
use native.Mathlib.Nat.{one-mul}
use native.Mathlib.Omega.{arith}
use Rattle.shape.proofs.Powers.{power_large}
use Rattle.shape.proofs.power.Goals as goal

pub returns-then-h-lt64 : goal.returns-then-h-lt64
returns-then-h-lt64 c = ap (λ (x : ℕ). x % 2 ^ 64) (one-mul _)

pub returns-else-h-lt64 : goal.returns-else-h-lt64
returns-else-h-lt64 c = sym (power_large 64 c.args.h (omega arith))
