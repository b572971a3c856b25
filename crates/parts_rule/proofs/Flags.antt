-- Which block of its chunk a block is, by the bytes of the chunk.
use mathlib.Core.Path.{◌≡◌, refl}
use Prim.Native.Nat.{ℕ, zero, suc, ◌-◌, ◌*◌, ◌/◌, ◌≤◌, ◌<◌}
use native.Mathlib.Omega.{arith}
use Rattle.chunks.specs.Chunks.{start_flag}
use Rattle.parts_rule.specs.Subtrees.{finished}
use Rattle.parts_rule.specs.Run.{block_number}

first : (i : ℕ) → i ≡ 0 → 1 ≡ start_flag i
unfolding start_flag
first zero e = refl
first (suc i) e = absurd (omega arith)

later : (i : ℕ) → 0 < i → 0 ≡ start_flag i
unfolding start_flag
later zero l = absurd (omega arith)
later (suc i) l = refl

pub opens : (t : ℕ) → t - 1024 * finished t ≤ 64 → 1 ≡ start_flag (block_number t)
opens t l = first (block_number t) (low (t - 1024 * finished t) l)
  where
    low : (x : ℕ) → x ≤ 64 → (x - 1) / 64 ≡ 0
    low x l = omega arith

pub opened : (t : ℕ) → 64 < t - 1024 * finished t → 0 ≡ start_flag (block_number t)
opened t l = later (block_number t) (high (t - 1024 * finished t) l)
  where
    high : (x : ℕ) → 64 < x → 0 < (x - 1) / 64
    high x l = omega arith
