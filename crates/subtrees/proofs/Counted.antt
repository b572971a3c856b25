-- Which of the counts is refused first.
use mathlib.Core.Path.{◌≡◌}
use Prim.Native.Nat.{ℕ, ◌^◌, ◌≤◌, ◌<◌}
use native.Mathlib.Omega.{arith}
use Rattle.order.specs.Order.{first_number}
use Rattle.order.proofs.Laws.{first_is, first_none}
use Rattle.parts_rule.specs.Counts.{held_of, stacked_of}
use Rattle.subtrees.specs.Counts.{count_order}

module _ (t h k : ℕ) where
  pub count_limit : 2 ^ 40 < t → 17 ≡ first_number (count_order t h k)
  unfolding count_order
  count_limit l = first_is 17 _ (λ f. absurd (omega arith))

  pub count_held : (h ≡ held_of t → ⊥) → 17 ≡ first_number (count_order t h k)
  unfolding count_order
  count_held n = first_is 17 _ (λ f g. absurd (n g))

  pub count_stacked : (k ≡ stacked_of t → ⊥) → 17 ≡ first_number (count_order t h k)
  unfolding count_order
  count_stacked n = first_is 17 _ (λ f g i. n i)

  pub count_none : t ≤ 2 ^ 40 → h ≡ held_of t → k ≡ stacked_of t → 0 ≡ first_number (count_order t h k)
  unfolding count_order
  count_none f g i = first_none _ (f, (g, (i, tt)))
