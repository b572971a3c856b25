-- A writer: the outcome of one that is done, and that its outcome tells any two answers and any two buffers apart.
use mathlib.Core.Path.{◌≡◌, refl, sym, ap, ◌∙◌}
use mathlib.Core.List.{List}
use Prim.Native.Nat.{ℕ}
use native.Mathlib.Omega.{arith}
use lib.ListN.{length}
use Rattle.std.specs.Prelude.{Result, Ok, Err}
use Rattle.refusals.specs.declared.Refused.{Refused}
use Rattle.refusals.proofs.Laws.{number_above, same_number}
use Rattle.wire.specs.Slices.{splice}
use Rattle.wire.specs.Writers.{WriteOutcome, wrote, write_done}

-- the answer and the bytes of a writer that is done
pub write_done_lem : (bytes out last : List ℕ) (n : ℕ) → n ≡ length bytes → last ≡ splice 0 bytes out → wrote (Ok n) last ≡ write_done bytes out
write_done_lem bytes out last n e f = cc

apart : (r s : Result ℕ Refused) (x y : List ℕ) → wrote r x ≡ wrote s y → r ≡ s
apart (Ok n) (Ok m) x y e = ap (λ (o : WriteOutcome). Ok o.length) e
apart (Ok n) (Err b) x y e = absurd (omega (arith, number_above b, ap (λ (o : WriteOutcome). o.number) e))
apart (Err a) (Ok m) x y e = absurd (omega (arith, number_above a, ap (λ (o : WriteOutcome). o.number) e))
apart (Err a) (Err b) x y e = ap Err (same_number a b (ap (λ (o : WriteOutcome). o.number) e))

bytes_of : (r : Result ℕ Refused) (x : List ℕ) → (wrote r x).bytes ≡ x
bytes_of (Ok n) x = refl
bytes_of (Err a) x = refl

-- a writer's answer, with the bytes that it leaves
pub write_only : (outcome : WriteOutcome) {p q : Result ℕ Refused × List ℕ} → wrote p.0 p.1 ≡ outcome → wrote q.0 q.1 ≡ outcome
    → p ≡ q
write_only outcome {p} {q} e f =
    let g = e ∙ sym f in
    let b : p.1 ≡ q.1 = sym (bytes_of p.0 p.1) ∙ ap (λ (o : WriteOutcome). o.bytes) g ∙ bytes_of q.0 q.1 in
    let a : p.0 ≡ q.0 = apart p.0 q.0 p.1 q.1 g in
    λ i. (a i, b i)
