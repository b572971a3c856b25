-- How the calls for stored nodes follow from the calls below them.
use mathlib.Core.Logic.{◌≢◌}
use mathlib.Core.Path.{◌≡◌, refl, sym, ap, ◌∙◌}
use mathlib.Core.List.{List}
use Prim.Native.Nat.{ℕ, ◌≤◌, ◌<◌}
use lib.ListN.{length}
use borrow.Author.Rules.{rules}
use Rattle.digest.specs.Digest.{digest_in}
use Rattle.order.specs.Order.{verdict}
use Rattle.order.proofs.Laws.{refuses, passes}
use Rattle.wire.specs.Slices.{zeros, part, written}
use Rattle.wire.specs.Writers.{WriteOutcome}
use Rattle.wire.proofs.Parts.{part_whole}
use Rattle.stored_writer.specs.Outcome.{inner_outcome}
use Rattle.stored.specs.Read.{ReadOutcome, read_refused, read_outcome}
use Rattle.stored.proofs.Ends.{read_32}
use Rattle.kept.specs.Kept.{write_call, out_order}
use Rattle.stored_c.specs.Nodes.{store_inner_call, ReadLeft, read_left, kind_number, read_written, read_call}
use Rattle.kept.proofs.Kept.{kept_done, kept_left}
use Rattle.kept.proofs.Handed.{fits}

-- ---- Written

-- an inner node: the digest that was read is the one that was lent, where that has 32 bytes
pub read_whole : (digest out d : List ℕ) → length digest ≡ 32 → d ≡ part 0 32 digest → {w : WriteOutcome} → w ≡ inner_outcome d out
    → w ≡ inner_outcome digest out
read_whole digest out d h p e =
    let q : d ≡ digest = p ∙ ap (λ (k : ℕ). part 0 k digest) (sym h) ∙ part_whole digest in
    e ∙ ap (λ (d : List ℕ). inner_outcome d out) q

pub behind : (digest out : List ℕ) (old : ℕ) → length digest ≡ 32 → {w : WriteOutcome} → w ≡ write_call (inner_outcome digest out) old
    → w ≡ store_inner_call digest out old
unfolding store_inner_call
behind digest out old h f = passes _ _ _ f (h, tt)

-- ---- Read

module _ (mode bs : List ℕ) (oldKind : ℕ) (out : List ℕ) (oldStart oldLength : ℕ) where
  abbrev read_number : ReadOutcome → ℕ
  read_number o = o.number

  abbrev unread : ℕ → ReadLeft
  unread n = read_left n oldKind out oldStart oldLength

  -- the reader refuses; the output is short; the results go behind their pointers
  pub read_refused_lem : (n : ℕ) → read_refused (zeros 32) n ≡ read_outcome (digest_in mode) bs → n ≢ 0
      → unread n ≡ read_call mode bs oldKind out oldStart oldLength
  unfolding read_call
  read_refused_lem n e k = ap unread (ap read_number e) ∙ sym (kept_left _ _ _ (λ z. k (ap read_number e ∙ z)))

  -- o is what the reader's answer tells
  module _ (o : ReadOutcome) (e : o ≡ read_outcome (digest_in mode) bs) (z : o.number ≡ 0) where
    given : {y : ReadLeft} → y ≡ verdict unread (out_order out) (read_written o out) → y ≡ read_call mode bs oldKind out oldStart oldLength
    unfolding read_call
    given f =
        f
        ∙ ap (λ (o : ReadOutcome). verdict unread (out_order out) (read_written o out)) e
        ∙ sym (kept_done _ _ _ (sym (ap read_number e) ∙ z))

    pub read_short : length out < 32 → unread 6 ≡ read_call mode bs oldKind out oldStart oldLength
    read_short h = given (refuses 6 _ _ _ refl (search rules))

    -- y is the output with its digest
    pub read_done_lem : (y : List ℕ) → 32 ≤ length out → y ≡ written 0 o.digest out
        → read_left 0 (kind_number o.kind) y o.start o.length ≡ read_call mode bs oldKind out oldStart oldLength
    read_done_lem y h w =
        let d = ap (λ (o : ReadOutcome). length o.digest) e ∙ read_32 (digest_in mode) bs in
        let f = fits o.digest out y d h w in
        given (passes _ _ _ (ap (λ (l : List ℕ). read_left 0 (kind_number o.kind) l o.start o.length) f) (search rules))
