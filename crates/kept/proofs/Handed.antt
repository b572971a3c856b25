-- A digest written out: how the call that does it follows from the write, and that its statement leaves one answer.
use mathlib.Core.Logic.{by_cases}
use mathlib.Core.Path.{◌≡◌, refl, sym, ap, ◌∙◌}
use mathlib.Core.List.{List}
use Prim.Native.Nat.{ℕ, ◌≤◌, ◌<◌, ◌*◌, ◌-◌}
use native.Mathlib.Decide.{dec_lt}
use native.Mathlib.Omega.{arith}
use lib.ListN.{length}
use borrow.Author.Rules.{rules}
use Rattle.order.proofs.Laws.{refuses, passes}
use Rattle.wire.specs.Slices.{splice, written}
use Rattle.wire.proofs.Splices.{written_fits}
use Rattle.kept.specs.Kept.{Filled, filled, handed}

-- a digest over the first 32 bytes
pub fits : (d out y : List ℕ) → length d ≡ 32 → 32 ≤ length out → y ≡ written 0 d out → y ≡ splice 0 d out
fits d out y l h w = w ∙ written_fits 0 d out (omega arith)

-- the output is short; the digest is written
pub handed_short : (d out : List ℕ) → length out < 32 → filled 6 out ≡ handed d out
unfolding handed
handed_short d out h = refuses 6 _ _ _ refl (search rules)

pub handed_done : (d out y : List ℕ) → length d ≡ 32 → 32 ≤ length out → y ≡ written 0 d out → filled 0 y ≡ handed d out
unfolding handed
handed_done d out y l h w = passes _ _ _ (ap (filled 0) (fits d out y l h w)) (search rules)

-- the number is at most 6, and 0 where there is room
pub handed_number : (d out : List ℕ) {n : ℕ} {y : List ℕ} → length d ≡ 32 → filled n y ≡ handed d out → (n ≤ 6) × (n ≤ 6 * (32 - length out))
handed_number d out {n = n} l e =
    by_cases (dec_lt (length out) 32)
    (λ h.
    let p = e ∙ sym (handed_short d out h) in
    let k : n ≡ 6 = λ i. (p i).number in
    (omega (arith, k), omega (arith, k)))
    (λ h.
    let p = e ∙ sym (handed_done d out (written 0 d out) l (omega arith) refl) in
    let k : n ≡ 0 = λ i. (p i).number in
    (omega (arith, k), omega (arith, k)))

-- the number, and the output buffer
pub filled_only : (x : Filled) (m n : ℕ) (bs cs : List ℕ) → filled m bs ≡ x → filled n cs ≡ x → (m ≡ n) × (bs ≡ cs)
filled_only x m n bs cs p q = let e = p ∙ sym q in (λ i. (e i).number, λ i. (e i).bytes)
