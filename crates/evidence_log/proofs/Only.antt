-- Each statement leaves one answer, and for an append one buffer.
use mathlib.Core.Path.{◌≡◌, refl, sym, ap, ◌∙◌}
use mathlib.Core.List.{List}
use Prim.Native.Nat.{ℕ}
use Rattle.std.specs.Prelude.{Result, Ok, Err}
use Rattle.refusals.specs.declared.Refused.{Refused}
use Rattle.refusals.proofs.Laws.{outcome_apart}
use Rattle.digest.specs.declared.Digest.{Digest}
use Rattle.evidence_log.specs.declared.Appended.{Appended}
use Rattle.evidence_log.specs.Outcome.{AppendOutcome, append_refused, appended, RootOutcome, root_refused, rooted}

appended_bytes : (size : ℕ) (a : Result Appended Refused) (x : List ℕ) → (appended size a x).bytes ≡ x
appended_bytes size (Ok a) x = refl
appended_bytes size (Err why) x = refl

appended_apart : (size : ℕ) (a b : Result Appended Refused) (x : List ℕ) → appended size a x ≡ appended size b x → a ≡ b
appended_apart size a b x e =
    outcome_apart (append_refused size x) (λ c. appended size (Ok c) x) (λ o. o.number) (λ n. refl) (λ c. refl)
    (λ c d p. λ i. record { size = (p i).size; hashes = (p i).hashes }) a b e

pub append_only : (outcome : AppendOutcome) (size : ℕ) (a b : Result Appended Refused) (x y : List ℕ)
    → appended size a x ≡ outcome → appended size b y ≡ outcome → (a ≡ b) × (x ≡ y)
append_only outcome size a b x y p q =
    let same : x ≡ y = sym (appended_bytes size a x) ∙ ap (λ (o : AppendOutcome). o.bytes) (p ∙ sym q) ∙ appended_bytes size b y in
    (appended_apart size a b y (ap (appended size a) (sym same) ∙ p ∙ sym q), same)

pub root_only : (outcome : RootOutcome) (a b : Result Digest Refused) → rooted a ≡ outcome → rooted b ≡ outcome → a ≡ b
root_only outcome a b p q =
    outcome_apart root_refused (λ d. rooted (Ok d)) (λ o. o.number) (λ n. refl) (λ d. refl) (λ c d e. λ i. record { bytes = (e i).root }) a b
    (p ∙ sym q)
