-- Runs of bytes: read at a place, one or several in a row; joined; written at a place; compared.
use Rattle.std.specs.Prelude.{Bool, true, false, ◌≡◌, ℕ, zero, suc, ◌+◌, leb, length, take, drop, replicate}
use mathlib.Core.List.{List, [], ◌∷◌, ◌++◌, List-discrete}
use Rattle.std.proofs.Math.Decide.{ℕ_discrete}

-- k bytes that are 0
abbrev pub zeros : ℕ → List ℕ
zeros k = replicate k 0

-- k bytes from place at; a byte past the end is 0
unfoldable pub part : ℕ → ℕ → List ℕ → List ℕ
part at k bs = take k (drop at bs ++ zeros k)

-- k runs of w bytes in a row, from place at on
unfoldable pub rows_from : ℕ → ℕ → ℕ → List ℕ → List (List ℕ)
rows_from w at zero bs = []
rows_from w at (suc k) bs = part at w bs ∷ rows_from w (at + w) k bs

-- each run has w bytes
abbrev pub Each : ℕ → List (List ℕ) → Type 0
Each w [] = Unit {0}
Each w (x ∷ xs) = (length x ≡ w) × Each w xs

-- runs one behind the other
unfoldable pub joined : List (List ℕ) → List ℕ
joined [] = []
joined (x ∷ xs) = x ++ joined xs

-- d with xs over the bytes from place at on
unfoldable pub splice : ℕ → List ℕ → List ℕ → List ℕ
splice at xs d = take at d ++ xs ++ drop (at + length xs) d

-- what d is after xs is written at a place: a write that does not fit wholly changes nothing
unfoldable pub written : ℕ → List ℕ → List ℕ → List ℕ
written at xs d = elim (leb (at + length xs) (length d)) [ true ↦ splice at xs d | false ↦ d ]

-- a flag as a number
abbrev pub bit : Bool → ℕ
bit true = 1
bit false = 0

-- 0 where two runs are the same, else 1
unfoldable pub differ : List ℕ → List ℕ → ℕ
differ a b = elim (List-discrete ℕ_discrete a b) [ yes same ↦ 0 | no other ↦ 1 ]
