-- The statement of a check leaves one answer.
use mathlib.Core.Path.{◌≡◌, refl}
use Rattle.std.specs.Prelude.{Result}
use Rattle.order.proofs.Laws.{determined}
use Rattle.refusals.specs.declared.Refused.{Refused}
use Rattle.refusals.proofs.Laws.{outcome_apart}
use Rattle.letter.specs.declared.Fields.{Fields}
use Rattle.letter_checker.specs.Outcome.{CheckOutcome, check_refused, check_told, checked}

pub check_only : (outcome : CheckOutcome) {r s : Result Fields Refused} → checked r ≡ outcome → checked s ≡ outcome → r ≡ s
check_only =
    determined checked (outcome_apart check_refused check_told (λ o. o.number) (λ n. refl) (λ f. refl)
    (λ f g e i. record { index = (e i).index; start = (e i).start; length = (e i).length }))
