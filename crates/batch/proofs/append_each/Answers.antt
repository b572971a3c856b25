-- One append after the other: `Writing` has the loop's beginning, a step and its end.
use mathlib.Core.Path.{refl, ap, ◌∙◌}
use mathlib.Core.List.{List}
use Prim.Native.Nat.{ℕ}
use native.Mathlib.Omega.{arith}
use Rattle.std.specs.Borrow.{Bor}
use Rattle.batch.proofs.Writing.{appends_room, appends_next, appends_end}
use Rattle.batch.proofs.append_each.Goals as goal
use Rattle.batch.proofs.append_each.Goals.{in-Ok, in_default}

pub split_at-requires : goal.split_at-requires
split_at-requires c = omega (arith, appends_room _ _ _ _ _ c.loop-k.invariant (omega arith))

pub loop-k-preserved : goal.loop-k-preserved
loop-k-preserved c =
    let a = c.args in
    let b = c.split_at.ensures.back in
    elim c.match-append.branch [
      | in-Ok w ↦
          appends_next a.mode.now a.size a.records.now a.lengths.now a.nodes.now c.loop-k.invariant (omega arith) _ c.split_at.ensures.front
          (ap (λ (r : Bor (List ℕ)). r.now) w.rest-is ∙ b) w.grown-is refl w.in-Ok.ensures
      | in_default w ↦
          appends_next a.mode.now a.size a.records.now a.lengths.now a.nodes.now c.loop-k.invariant (omega arith) _ c.split_at.ensures.front
          (ap (λ (r : Bor (List ℕ)). r.now) w.rest-is ∙ b) w.grown-is refl w.in_default.ensures
    ]

pub returns : goal.returns
returns c = appends_end _ _ _ _ _ c.loop-k.invariant (omega arith)
