-- `passage_fields::record_at` meets its contract: as many bytes as are stated of what follows the 12 bytes, or all of it where that is less.
use mathlib.Core.Logic.{by_cases}
use mathlib.Core.Path.{◌≡◌, sym, ap, ap₂, ◌∙◌}
use mathlib.Core.List.{List}
use Prim.Native.Nat.{ℕ, min}
use native.Mathlib.Decide.{dec_le}
use native.Mathlib.Omega.{arith}
use denote.Ref.{Bor}
use lib.ListN.{length, take}
use lib.Seq.{take_all}
use Rattle.wire.specs.Lent.{Part, lent}
use Rattle.passage.specs.Bytes.{stated_at, record_at}
use Rattle.passage_fields.specs.Fields.{record_part}
use Rattle.passage_fields.specs.Steps.{rest_part}
use Rattle.passage_fields.proofs.record_at.Goals as goal

-- as many as there are
as_many : (k : ℕ) (s : List ℕ) → take (min k (length s)) s ≡ take k s
as_many k s =
    by_cases (dec_le k (length s)) (λ h. ap (λ (j : ℕ). take j s) (omega arith))
    (λ h. take_all (min k (length s)) s (omega arith) ∙ sym (take_all k s (omega arith)))

-- a part of what follows the 12 bytes, from its start on
taken : (at : ℕ) (whole rest : Bor (List ℕ)) {stated k : ℕ} → lent rest ≡ rest_part at whole → stated ≡ stated_at whole.now at
    → k ≡ min stated (length rest.now) → record { bytes = take k rest.now; place = rest.ref_ptr } ≡ record_part at whole
unfolding record_at
taken at whole rest {stated} {k} r e f =
    ap (λ (l : List ℕ). record { bytes = l; place = rest.ref_ptr }) (ap (λ (j : ℕ). take j rest.now) f ∙ as_many stated rest.now)
    ∙ ap₂ (λ (j : ℕ) (p : Part). record { bytes = take j p.bytes; place = p.place }) e r

pub returns : goal.returns
returns c = taken c.args.at c.args.letter c.rest_at-rest.result c.rest_at-rest.ensures c.stated_at-stated.ensures c.min-length.ensures
