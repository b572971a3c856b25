-- The statement of taking a letter apart leaves one answer.
use mathlib.Core.Path.{◌≡◌, refl}
use Rattle.std.specs.Prelude.{Result}
use Rattle.refusals.specs.declared.Refused.{Refused}
use Rattle.refusals.proofs.Laws.{outcome_apart}
use Rattle.order.proofs.Laws.{determined}
use Rattle.passage_fields.specs.declared.Fields.{Fields}
use Rattle.passage_fields.specs.Fields.{FieldsOutcome, fields_refused, fields_taken, taken_apart}

pub fields_only : (outcome : FieldsOutcome) {r s : Result Fields Refused} → taken_apart r ≡ outcome → taken_apart s ≡ outcome → r ≡ s
fields_only =
    determined taken_apart
    (outcome_apart fields_refused fields_taken (λ (o : FieldsOutcome). o.number) (λ n. refl) (λ f. refl)
    (λ f g e i. record { count = (e i).count; end = (e i).end; indexes = (e i).indexes; places = (e i).places }))
