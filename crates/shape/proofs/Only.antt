-- Each promise leaves one answer: two results that meet it are equal, since no two answers have one number and value.
use mathlib.Core.Path.{◌≡◌, refl, sym, ap, ◌∙◌}
use Prim.Native.Nat.{ℕ}
use Rattle.std.specs.Prelude.{Result}
use Rattle.refusals.specs.declared.Refused.{Refused}
use Rattle.refusals.proofs.Laws.{outcome_apart}
use Rattle.shape.specs.Answers.{Answer, done, refused, answered}
use Rattle.shape.specs.Sizes.{size_answer, position_answer, count_answer}

pub answered_one : (a b : Result ℕ Refused) → answered a ≡ answered b → a ≡ b
answered_one a b e = outcome_apart refused done (λ x. x.number) (λ n. refl) (λ v. refl) (λ v w p. ap (λ (x : Answer). x.value) p) a b e

pub size_only : (n : ℕ) (a b : Result ℕ Refused) → answered a ≡ size_answer n → answered b ≡ size_answer n → a ≡ b
size_only n a b p q = answered_one a b (p ∙ sym q)

pub position_only : (i : ℕ) (a b : Result ℕ Refused) → answered a ≡ position_answer i → answered b ≡ position_answer i → a ≡ b
position_only i a b p q = answered_one a b (p ∙ sym q)

pub count_only : (s : ℕ) (a b : Result ℕ Refused) → answered a ≡ count_answer s → answered b ≡ count_answer s → a ≡ b
count_only s a b p q = answered_one a b (p ∙ sym q)
