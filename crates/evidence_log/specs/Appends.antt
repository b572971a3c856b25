-- A run of appends, refused ones among them.
use Rattle.std.specs.Prelude.{true, false, List, [], ◌∷◌, ◌++◌, ◌≡◌, ℕ, ◌*◌, ◌≤◌, eqb, length, drop}
use Rattle.wire.specs.Limits.{most_leaves, longest_record}
use Rattle.shape.specs.Sizes.{size_of}
use Rattle.nodes.specs.Nodes.{Begins}
use Rattle.evidence_log.specs.Outcome.{append_outcome}

-- no record above 16,384 bytes
abbrev pub Short : List (List ℕ) → Type 0
Short [] = Unit {0}
Short (r ∷ rs) = (length r ≤ longest_record) × Short rs

-- the caller's size, the buffer, and the records that were taken
pub record State : Type 0 where
  pub size : ℕ
  pub bytes : List ℕ
  pub taken : List (List ℕ)

-- one append: a record is taken where the number is 0
unfoldable pub step : (List ℕ → List ℕ) → State → List ℕ → State
step digest s r =
    let o = append_outcome digest s.size r s.bytes in
    record {
      size = o.size;
      bytes = o.bytes;
      taken = elim (eqb o.number 0) [ true ↦ s.taken ++ (r ∷ []) | false ↦ s.taken ];
    }

-- one after the other
unfoldable pub run : (List ℕ → List ℕ) → State → List (List ℕ) → State
run digest s [] = s
run digest s (r ∷ rs) = run digest (step digest s r) rs

-- an empty log over any buffer
abbrev pub empty : List ℕ → State
empty bs = record { size = 0; bytes = bs; taken = [] }

-- what any run over the buffer bs leaves: the nodes of the records that were taken, in position order, and every byte beyond them as it was
pub record Sound (digest : List ℕ → List ℕ) (bs : List ℕ) (s : State) : Type 0 where
  pub few : length s.taken ≤ most_leaves
  pub short : Short s.taken
  pub size : s.size ≡ size_of (length s.taken)
  pub begins : Begins digest s.bytes s.taken
  pub beyond : drop (32 * s.size) s.bytes ≡ drop (32 * s.size) bs
  pub long : length s.bytes ≡ length bs
