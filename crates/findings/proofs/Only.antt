-- The statement of a finder of many records leaves one answer, and one content of each buffer.
use mathlib.Core.Path.{◌≡◌, refl, sym, ap, ap₂, ◌∙◌}
use mathlib.Core.List.{List}
use Prim.Native.Nat.{ℕ}
use Rattle.std.specs.Prelude.{Result, Ok, Err}
use Rattle.refusals.specs.declared.Refused.{Refused}
use Rattle.refusals.proofs.Laws.{outcome_apart}
use Rattle.findings.specs.declared.Named.{Named}
use Rattle.findings.specs.declared.Named.TheVariants.{Same, Records, Pair}
use Rattle.findings.specs.Outcome.{NamedOutcome, finding_of, index_of, named_refused, named_found, named}

-- each case has its own finding, and "records" its own index
case_only : (a b : Named) → finding_of a ≡ finding_of b → index_of a ≡ index_of b → a ≡ b
case_only Same Same e f = refl
case_only (Records i) (Records j) e f = ap Records f
case_only Pair Pair e f = refl
case_only Same (Records j) e f = absurd cc
case_only Same Pair e f = absurd cc
case_only (Records i) Same e f = absurd cc
case_only (Records i) Pair e f = absurd cc
case_only Pair Same e f = absurd cc
case_only Pair (Records j) e f = absurd cc

-- the buffers stand in the outcome as they are
buffers : (r : Result Named Refused) (x y : List ℕ) → ((named r x y).first ≡ x) × ((named r x y).second ≡ y)
buffers (Ok n) x y = (refl, refl)
buffers (Err why) x y = (refl, refl)

-- what is returned, and the bytes that are left in the two buffers
pub named_only : (outcome : NamedOutcome) (a b : Result Named Refused) (x y u v : List ℕ) → named a x y ≡ outcome → named b u v ≡ outcome
    → (a ≡ b) × (x ≡ u) × (y ≡ v)
named_only outcome a b x y u v p q =
    let e : named a x y ≡ named b u v = p ∙ sym q in
    let f : x ≡ u = sym (buffers a x y).0 ∙ ap (λ (o : NamedOutcome). o.first) e ∙ (buffers b u v).0 in
    let s : y ≡ v = sym (buffers a x y).1 ∙ ap (λ (o : NamedOutcome). o.second) e ∙ (buffers b u v).1 in
    let one = outcome_apart (named_refused x y) (named_found x y) (λ o. o.number) (λ n. refl) (λ n. refl) (λ n m t. case_only n m (ap (λ (o : NamedOutcome). o.finding) t) (ap (λ (o : NamedOutcome). o.index) t)) in
    (one a b (e ∙ sym (ap₂ (named b) f s)), f, s)
