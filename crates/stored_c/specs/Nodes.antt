-- What the calls for stored nodes answer, and what they leave behind each pointer: the outcome of the call below, with what was there kept on a
-- refusal.
use Rattle.std.specs.Prelude.{List, [], ◌∷◌, ℕ, length}
use Rattle.digest.specs.Digest.{digest_in}
use Rattle.order.specs.Order.{◌if◌, ◌is_not◌, verdict}
use Rattle.wire.specs.Slices.{splice}
use Rattle.wire.specs.Writers.{WriteOutcome}
use Rattle.stored_writer.specs.Outcome.{leaf_outcome, inner_outcome}
use Rattle.stored.specs.Read.{Kind, none, inner, leaf, ReadOutcome, read_outcome}
use Rattle.kept.specs.Kept.{or_kept, write_left, write_call, out_order}

-- ---- Written

-- the leaf of a record; the length variable held `old`
unfoldable pub store_leaf_call : List ℕ → List ℕ → List ℕ → ℕ → WriteOutcome
store_leaf_call mode rec out old = write_call (leaf_outcome (digest_in mode) rec out) old

-- the inner node of a digest: 12 where it is not 32 bytes, then as the writer answers
unfoldable pub store_inner_call : List ℕ → List ℕ → ℕ → WriteOutcome
store_inner_call digest out old =
    verdict (λ number. write_left number old out) (12 if length digest is_not 32 ∷ []) (write_call (inner_outcome digest out) old)

-- ---- Read

-- the number, the kind, the output buffer, and where the record starts in the bytes and how long it is, at return
pub record ReadLeft : Type 0 where
  pub number : ℕ
  pub kind : ℕ
  pub bytes : List ℕ
  pub start : ℕ
  pub length : ℕ

abbrev pub read_left : ℕ → ℕ → List ℕ → ℕ → ℕ → ReadLeft
read_left number kind bs start length = record { number = number; kind = kind; bytes = bs; start = start; length = length }

-- the kinds as C has them; a refusal has none and writes none
abbrev pub kind_number : Kind → ℕ
kind_number none = 0
kind_number inner = 0
kind_number leaf = 1

-- done: the kind, the digest in the first 32 bytes of the output, and the record as a part of the bytes
abbrev pub read_written : ReadOutcome → List ℕ → ReadLeft
read_written o out = read_left 0 (kind_number o.kind) (splice 0 o.digest out) o.start o.length

-- as the reader answers, then 6; the result variables held `oldKind`, `oldStart` and `oldLength`
unfoldable pub read_call : List ℕ → List ℕ → ℕ → List ℕ → ℕ → ℕ → ReadLeft
read_call mode bs oldKind out oldStart oldLength =
    let o = read_outcome (digest_in mode) bs in
    or_kept o.number
    (verdict (λ number. read_left number oldKind out oldStart oldLength) (out_order out) (read_written o out))
    (read_left o.number oldKind out oldStart oldLength)
