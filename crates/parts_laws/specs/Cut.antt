-- Input that was cut into parts: the state after all of them, and the parts in one.
use Rattle.std.specs.Prelude.{List, [], ◌∷◌, ◌++◌, ℕ}
use Rattle.parts.specs.declared.Parts.{Parts}
use Rattle.parts.specs.Answers.{begin_outcome, add_outcome}

-- the state after the parts, each added to what the one before left
unfoldable pub added_all : Parts → List (List ℕ) → Parts
added_all s [] = s
added_all s (part ∷ parts) = added_all (add_outcome s part).state parts

-- the same from the beginning, in a mode
abbrev pub cut_into : List ℕ → List (List ℕ) → Parts
cut_into mode parts = added_all (begin_outcome mode) parts

-- the parts in one
unfoldable pub in_one : List (List ℕ) → List ℕ
in_one [] = []
in_one (part ∷ parts) = part ++ in_one parts
