-- What append and root answer, and what an append leaves in the buffer, for every input and any digest function: over any nodes, a function from
-- position to digest, with the test of number 4 handed in; then for a log's nodes in a buffer.
use Rattle.std.specs.Prelude.{List, [], ◌∷◌, Result, ℕ, suc, ◌*◌, length}
use Rattle.wire.specs.Limits.{most_leaves, longest_record}
use Rattle.order.specs.Order.{Test, Refusal, ◌if◌, ◌is◌, ◌above◌, ◌under◌, verdict}
use Rattle.shape.specs.Sizes.{size_of, count_answer, hash_count, leaves}
use Rattle.shape.specs.Nodes.{new_nodes}
use Rattle.shape.specs.Positions.{peaks, fold}
use Rattle.wire.specs.Slices.{splice, zeros, joined}
use Rattle.nodes.specs.Nodes.{node_in}
use Rattle.refusals.specs.declared.Refused.{Refused}
use Rattle.refusals.specs.Numbers.{outcome_by}
use Rattle.digest.specs.declared.Digest.{Digest}
use Rattle.evidence_log.specs.declared.Appended.{Appended}

-- ---- Append

-- the number, the size, the hash count, and the buffer at return
pub record AppendOutcome : Type 0 where
  pub number : ℕ
  pub size : ℕ
  pub hashes : ℕ
  pub bytes : List ℕ

-- a refusal: the size that was given, count 0, and no byte changed
abbrev pub append_refused : ℕ → List ℕ → ℕ → AppendOutcome
append_refused size bs number = record { number = number; size = size; hashes = 0; bytes = bs }

-- by the answer to the size that was given, and the buffer
abbrev pub appended : ℕ → Result Appended Refused → List ℕ → AppendOutcome
appended size r bs = outcome_by (append_refused size bs) (λ a. record { number = 0; size = a.size; hashes = a.hashes; bytes = bs }) r

-- no leaf count up to 2^32 has this size; append at 2^32 leaves; record above 16,384; node buffer too short
unfoldable pub append_order : Test → ℕ → List ℕ → List Refusal
append_order short size rec =
    1 if (count_answer size).number is 1
    ∷ 2 if leaves size is most_leaves
    ∷ 3 if length rec above longest_record
    ∷ 4 if short
    ∷ []

-- done: the new size, the hash count, and the buffer with the new nodes put into it
unfoldable pub append_done : (List ℕ → List ℕ) → (ℕ → List ℕ) → (List (List ℕ) → List ℕ) → ℕ → List ℕ → AppendOutcome
append_done digest node put size rec =
    let n = leaves size in
    record { number = 0; size = size_of (suc n); hashes = hash_count n; bytes = put (new_nodes digest node n (digest rec)) }

-- over any nodes, test of number 4, and way to put new nodes into the buffer bs
unfoldable pub append_over : (List ℕ → List ℕ) → (ℕ → List ℕ) → Test → (List (List ℕ) → List ℕ) → ℕ → List ℕ → List ℕ → AppendOutcome
append_over digest node short put size rec bs = verdict (append_refused size bs) (append_order short size rec) (append_done digest node put size rec)

-- the new nodes from byte 32 × old size on, every other byte as it was
abbrev pub put_nodes : ℕ → List ℕ → List (List ℕ) → List ℕ
put_nodes size bs new = splice (32 * size) (joined new) bs

-- nodes in a buffer; 4 where it is under 32 × new size
unfoldable pub append_outcome : (List ℕ → List ℕ) → ℕ → List ℕ → List ℕ → AppendOutcome
append_outcome digest size rec bs =
    append_over digest (node_in bs) (length bs under 32 * size_of (suc (leaves size))) (put_nodes size bs) size rec bs

-- ---- Root

-- the number and the root
pub record RootOutcome : Type 0 where
  pub number : ℕ
  pub root : List ℕ

-- a refusal: a digest all zero
abbrev pub root_refused : ℕ → RootOutcome
root_refused number = record { number = number; root = zeros 32 }

-- by the answer
abbrev pub rooted : Result Digest Refused → RootOutcome
rooted r = outcome_by root_refused (λ d. record { number = 0; root = d.bytes }) r

-- no leaf count up to 2^32 has this size; root of an empty log; node buffer too short
unfoldable pub root_order : Test → ℕ → List Refusal
root_order short size = 1 if (count_answer size).number is 1 ∷ 10 if leaves size is 0 ∷ 4 if short ∷ []

-- done: the rightmost peak, folded leftward
unfoldable pub root_done : (List ℕ → List ℕ) → (ℕ → List ℕ) → ℕ → RootOutcome
root_done digest node size = record { number = 0; root = fold digest node (peaks (leaves size)) }

-- over any nodes and test of number 4
unfoldable pub root_over : (List ℕ → List ℕ) → (ℕ → List ℕ) → Test → ℕ → RootOutcome
root_over digest node short size = verdict root_refused (root_order short size) (root_done digest node size)

-- nodes in a buffer; 4 where it is under 32 × size
unfoldable pub root_outcome : (List ℕ → List ℕ) → ℕ → List ℕ → RootOutcome
root_outcome digest size bs = root_over digest (node_in bs) (length bs under 32 * size) size
