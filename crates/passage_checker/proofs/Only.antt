-- The statement leaves one answer.
use mathlib.Core.Path.{◌≡◌, refl, ap}
use Prim.Native.Nat.{ℕ}
use Rattle.std.specs.Prelude.{Result}
use Rattle.refusals.specs.declared.Refused.{Refused}
use Rattle.refusals.proofs.Laws.{outcome_apart}
use Rattle.order.proofs.Laws.{determined}
use Rattle.passage_checker.specs.Outcome.{CheckOutcome, check_refused, check_counted, checked}

pub check_only : (outcome : CheckOutcome) {r s : Result ℕ Refused} → checked r ≡ outcome → checked s ≡ outcome → r ≡ s
check_only =
    determined checked
    (outcome_apart check_refused check_counted (λ (o : CheckOutcome). o.number) (λ n. refl) (λ k. refl)
    (λ k l e. ap (λ (o : CheckOutcome). o.count) e))
