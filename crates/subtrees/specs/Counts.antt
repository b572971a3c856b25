-- The order by which the counts of a state are refused.
use Rattle.std.specs.Prelude.{List, [], ◌∷◌, ℕ, ◌^◌}
use Rattle.order.specs.Order.{Refusal, ◌if◌, ◌above◌, ◌is_not◌}
use Rattle.parts_rule.specs.Counts.{held_of, stacked_of}

-- 17: a total above 2^40, or a stored count that contradicts the total
unfoldable pub count_order : ℕ → ℕ → ℕ → List Refusal
count_order total held stacked =
    17 if total above 2 ^ 40 ∷ 17 if held is_not held_of total ∷ 17 if stacked is_not stacked_of total ∷ []
