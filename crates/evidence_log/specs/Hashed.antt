-- What an append, a root and a run of appends give to the digest, for every input and any digest function.
use Rattle.std.specs.Prelude.{true, false, List, [], ◌∷◌, ◌++◌, ℕ, eqb}
use Rattle.shape.specs.Sizes.{leaves}
use Rattle.shape.specs.Positions.{peaks}
use Rattle.shape.specs.Hashed.{new_hashed, fold_hashed}
use Rattle.nodes.specs.Nodes.{node_in}
use Rattle.evidence_log.specs.Outcome.{append_outcome, root_outcome}
use Rattle.evidence_log.specs.Appends.{State, step, run, empty}

-- an append that is done: the record, then for each parent its left child and its right; one that is refused hashes nothing
unfoldable pub append_hashed : (List ℕ → List ℕ) → ℕ → List ℕ → List ℕ → List (List ℕ)
append_hashed digest size rec bs =
    elim (eqb (append_outcome digest size rec bs).number 0)
    [ true ↦ rec ∷ new_hashed digest (node_in bs) (leaves size) (digest rec) | false ↦ [] ]

-- a root that is done: a peak and what is folded to its right, for each peak but the rightmost; one that is refused hashes nothing
unfoldable pub root_hashed : (List ℕ → List ℕ) → ℕ → List ℕ → List (List ℕ)
root_hashed digest size bs =
    elim (eqb (root_outcome digest size bs).number 0) [ true ↦ fold_hashed digest (node_in bs) (peaks (leaves size)) | false ↦ [] ]

-- a run of appends
unfoldable pub run_hashed : (List ℕ → List ℕ) → State → List (List ℕ) → List (List ℕ)
run_hashed digest s [] = []
run_hashed digest s (r ∷ rs) = append_hashed digest s.size r s.bytes ++ run_hashed digest (step digest s r) rs

-- building a log over a buffer, and then its root
abbrev pub built_hashed : (List ℕ → List ℕ) → List ℕ → List (List ℕ) → List (List ℕ)
built_hashed digest bs rs =
    let s = run digest (empty bs) rs in
    run_hashed digest (empty bs) rs ++ root_hashed digest s.size s.bytes
