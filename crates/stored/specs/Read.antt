-- What reading a stored node returns, and the part of the bytes that is its record.
use Rattle.std.specs.Prelude.{true, false, List, [], ◌∷◌, ◌++◌, ℕ, ◌+◌, Result, eqb, length}
use Rattle.std.specs.Borrow.{Bor}
use Rattle.refusals.specs.declared.Refused.{Refused}
use Rattle.refusals.specs.Numbers.{outcome_by}
use Rattle.wire.specs.Limits.{longest_record}
use Rattle.wire.specs.Slices.{zeros}
use Rattle.wire.specs.Lent.{Part, part_of}
use Rattle.order.specs.Order.{Refusal, ◌if◌, ◌under◌, ◌above◌, ◌is_not◌, verdict}
use Rattle.stored.specs.declared.Node.{Node}
use Rattle.stored.specs.declared.Node.TheVariants.{Inner, Leaf}
use Rattle.stored.specs.declared.Reading.{Reading}
use Rattle.stored.specs.Nodes.{flag_in, named_in, stated_in, lies}

-- the kind of a node; a refusal has none
pub data Kind : Type 0 where
  none inner leaf : Kind

-- the number, kind and digest, and the record as a part of the bytes read: where it starts in them, and its length
pub record ReadOutcome : Type 0 where
  pub number : ℕ
  pub kind : Kind
  pub digest : List ℕ
  pub start : ℕ
  pub length : ℕ

-- an inner node: the record is an empty part at the start
abbrev pub inner_read : List ℕ → ReadOutcome
inner_read digest = record { number = 0; kind = inner; digest = digest; start = 0; length = 0 }

-- a leaf: the record follows flag, digest and record length
abbrev pub leaf_read : ℕ → List ℕ → ReadOutcome
leaf_read n digest = record { number = 0; kind = leaf; digest = digest; start = 37; length = n }

-- a refusal: its number, no kind, and the record an empty part at the start
abbrev pub read_refused : List ℕ → ℕ → ReadOutcome
read_refused digest n = record { number = n; kind = none; digest = digest; start = 0; length = 0 }

-- the values of a node that was read
abbrev pub values_of : Node → List ℕ → ReadOutcome
values_of Inner digest = inner_read digest
values_of (Leaf n) digest = leaf_read n digest

-- the outcome by the answer: a refusal has the digest all zero
abbrev pub read_off : Result Reading Refused → ReadOutcome
read_off answer = outcome_by (read_refused (zeros 32)) (λ r. values_of r.node r.digest) answer

-- refusals that only a node with this flag meets
abbrev pub for_flag : ℕ → List ℕ → List Refusal → List Refusal
for_flag flag bs order = elim (eqb (flag_in bs) flag) [ true ↦ order | false ↦ [] ]

-- 11 for under 33 bytes, unknown flag, an inner node not of 33, a leaf under 37; then 3; then 11 for the exact length; then 18 for the digest
unfoldable pub read_order : (List ℕ → List ℕ) → List ℕ → List Refusal
read_order digest bs =
    (11 if length bs under 33 ∷ 11 if flag_in bs above 1 ∷ [])
    ++ for_flag 0 bs (11 if length bs is_not 33 ∷ [])
    ++ for_flag 1 bs
    (11 if length bs under 37
    ∷ 3 if stated_in bs above longest_record
    ∷ 11 if length bs is_not (37 + stated_in bs)
    ∷ 18 if lies digest bs is_not 0
    ∷ [])

-- done: an inner node, or a leaf with its stated record length
unfoldable pub read_done : List ℕ → ReadOutcome
read_done bs = elim (eqb (flag_in bs) 0) [ true ↦ inner_read (named_in bs) | false ↦ leaf_read (stated_in bs) (named_in bs) ]

-- reading a node, for any digest function: a refusal has the digest all zero
unfoldable pub read_outcome : (List ℕ → List ℕ) → List ℕ → ReadOutcome
read_outcome digest bs = verdict (read_refused (zeros 32)) (read_order digest bs) (read_done bs)

-- the record as a part of the bytes read
abbrev pub record_part : (List ℕ → List ℕ) → Bor (List ℕ) → Part
record_part digest r = let o = read_outcome digest r.now in part_of o.start o.length r
