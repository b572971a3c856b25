-- The statement of a comparison leaves one answer, and one content of each buffer.
use mathlib.Core.Path.{◌≡◌, refl, sym, ap, ap₂, ◌∙◌}
use mathlib.Core.List.{List}
use Prim.Native.Nat.{ℕ}
use Rattle.std.specs.Prelude.{Result, Ok, Err}
use Rattle.refusals.specs.declared.Refused.{Refused}
use Rattle.refusals.proofs.Laws.{outcome_apart}
use Rattle.difference.specs.declared.Finding.{Finding}
use Rattle.difference.specs.declared.Finding.TheVariants.{Same, Records, Pair}
use Rattle.difference.specs.Findings.{finding_of}
use Rattle.difference.specs.Outcome.{FindOutcome, find_refused, find_found, found}

-- each case is found as its own
case_only : (a b : Finding) → finding_of a ≡ finding_of b → a ≡ b
case_only Same Same e = refl
case_only Records Records e = refl
case_only Pair Pair e = refl
case_only Same Records e = absurd cc
case_only Same Pair e = absurd cc
case_only Records Same e = absurd cc
case_only Records Pair e = absurd cc
case_only Pair Same e = absurd cc
case_only Pair Records e = absurd cc

-- the buffers stand in the outcome as they are
buffers : (r : Result Finding Refused) (x y : List ℕ) → ((found r x y).first ≡ x) × ((found r x y).second ≡ y)
buffers (Ok f) x y = (refl, refl)
buffers (Err why) x y = (refl, refl)

-- what is returned, and the bytes that are left in the two buffers
pub find_only : (outcome : FindOutcome) (a b : Result Finding Refused) (x y u v : List ℕ) → found a x y ≡ outcome → found b u v ≡ outcome
    → (a ≡ b) × (x ≡ u) × (y ≡ v)
find_only outcome a b x y u v p q =
    let e : found a x y ≡ found b u v = p ∙ sym q in
    let f : x ≡ u = sym (buffers a x y).0 ∙ ap (λ (o : FindOutcome). o.first) e ∙ (buffers b u v).0 in
    let s : y ≡ v = sym (buffers a x y).1 ∙ ap (λ (o : FindOutcome). o.second) e ∙ (buffers b u v).1 in
    let one = outcome_apart (find_refused x y) (find_found x y) (λ o. o.number) (λ n. refl) (λ g. refl)
    (λ g h t. case_only g h (ap (λ (o : FindOutcome). o.finding) t)) in
    (one a b (e ∙ sym (ap₂ (found b) f s)), f, s)
