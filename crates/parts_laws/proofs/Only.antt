-- Each statement of the digest in parts leaves one answer, in every field.
use mathlib.Core.Path.{◌≡◌, refl, sym, ap, ◌∙◌}
use mathlib.Core.List.{List}
use Prim.Native.Nat.{ℕ}
use Rattle.std.specs.Prelude.{Result}
use Rattle.refusals.specs.declared.Refused.{Refused}
use Rattle.refusals.proofs.Laws.{outcome_apart}
use Rattle.digest.specs.declared.Digest.{Digest}
use Rattle.parts.specs.declared.Parts.{Parts}
use Rattle.parts.specs.Answers.{begin_outcome, Added, add_refused, add_outcome, added, Ended, end_refused, end_outcome, ended_in}

pub begin_only : (mode : List ℕ) (a b : Parts) → a ≡ begin_outcome mode → b ≡ begin_outcome mode → a ≡ b
begin_only mode a b p q = p ∙ sym q

pub add_only : (s : Parts) (part : List ℕ) (a b : Result Parts Refused) → added s a ≡ add_outcome s part → added s b ≡ add_outcome s part → a ≡ b
add_only s part a b p q =
    outcome_apart (add_refused s) (λ state. record { number = 0; state = state }) (λ (x : Added). x.number) (λ n. refl) (λ state. refl)
    (λ x y e. ap (λ (x : Added). x.state) e) a b (p ∙ sym q)

pub end_only : (s : Parts) (a b : Result Digest Refused) → ended_in a ≡ end_outcome s → ended_in b ≡ end_outcome s → a ≡ b
end_only s a b p q =
    outcome_apart end_refused (λ digest. record { number = 0; digest = digest }) (λ (x : Ended). x.number) (λ n. refl) (λ digest. refl)
    (λ x y e. ap (λ (x : Ended). x.digest) e) a b (p ∙ sym q)
