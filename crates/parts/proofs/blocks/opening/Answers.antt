-- Chunk start is set on the first block.
use mathlib.Core.Path.{sym, ap, ◌∙◌, subst}
use Prim.Native.Nat.{ℕ, ◌+◌, ◌-◌, ◌*◌, ◌≤◌, ◌<◌}
use native.Mathlib.Nat.{add-zero}
use native.Mathlib.Omega.{arith}
use Rattle.parts_rule.proofs.Flags.{opens, opened}
use Rattle.parts.proofs.blocks.opening.Goals as goal

pub returns-then-total-n-le64 : goal.returns-then-total-n-le64
returns-then-total-n-le64 c =
    let k = c.args in (
      ap (λ (x : ℕ). k.flag + x)
          (opens k.total (subst (λ (n : ℕ). k.total - 1024 * n ≤ 64) c.chunks_before-n.ensures c.if-total-n-le64.true)),
      omega arith,
    )

pub returns-else-total-n-le64 : goal.returns-else-total-n-le64
returns-else-total-n-le64 c =
    let k = c.args in (
      sym (add-zero k.flag)
          ∙ ap (λ (x : ℕ). k.flag + x)
          (opened k.total (subst (λ (n : ℕ). 64 < k.total - 1024 * n) c.chunks_before-n.ensures c.if-total-n-le64.false)),
      omega arith,
    )
