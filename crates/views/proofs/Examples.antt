-- The views of small logs.
use mathlib.Core.Path.{◌≡◌, refl, sym, ◌∙◌}
use mathlib.Core.List.{[], ◌∷◌}
use native.Mathlib.Omega.{arith}
use Rattle.views.specs.View.{given, asked, both}
use Rattle.views.specs.Passage.{under, passage_in, passage}
use Rattle.views.specs.Start.{start_in, start, old}
use Rattle.views.proofs.Passages.{passage_any}
use Rattle.views.proofs.Starts.{start_any}

in_three : passage_in 3 7 0 (2 ∷ 4 ∷ []) ≡ both (both given (both asked given)) (both (both asked given) given)
unfolding passage_in under
in_three = refl

-- leaves 2 and 4 of 7: given are 0 and 1; 3; 5; 6
pub passage_seven : passage 7 (2 ∷ 4 ∷ []) ≡ both (both given (both asked given)) (both (both asked given) given)
passage_seven = sym (passage_any 3 7 (2 ∷ 4 ∷ []) (omega arith)) ∙ in_three

start_three : start_in 3 3 7 ≡ both (both given (both given given)) given
unfolding start_in
start_three = refl

-- 3 leaves of 7: given are the old peaks, 0 and 1; 2; then to their right 3; 4 to 6
pub start_seven : start 3 7 ≡ both (both given (both given given)) given
start_seven = sym (start_any 3 3 7 (omega arith)) ∙ start_three

old_in : start_in 2 3 3 ≡ both given given
unfolding start_in
old_in = refl

-- 3 leaves alone: the two peaks
pub old_three : old 3 ≡ both given given
old_three = sym (start_any 2 3 3 (omega arith)) ∙ old_in
