-- The statement of taking a letter apart leaves one answer.
use mathlib.Core.Path.{◌≡◌, refl}
use Rattle.std.specs.Prelude.{Result}
use Rattle.order.proofs.Laws.{determined}
use Rattle.refusals.specs.declared.Refused.{Refused}
use Rattle.refusals.proofs.Laws.{outcome_apart}
use Rattle.letter.specs.declared.Fields.{Fields}
use Rattle.letter.specs.Checking.{FieldsOutcome, fields_refused, fields_told, taken_apart}

pub fields_only : (outcome : FieldsOutcome) {r s : Result Fields Refused} → taken_apart r ≡ outcome → taken_apart s ≡ outcome → r ≡ s
fields_only =
    determined taken_apart (outcome_apart fields_refused fields_told (λ o. o.number) (λ n. refl) (λ f. refl)
    (λ f g e i. record { index = (e i).index; start = (e i).start; length = (e i).length }))
