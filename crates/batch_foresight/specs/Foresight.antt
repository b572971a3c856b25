-- The first refusal that appending records one by one would meet, by numbers alone: how many leaves there are, how many bytes there are for nodes,
-- and how long each record is.
use Rattle.std.specs.Prelude.{true, false, List, [], ◌∷◌, ℕ, suc, ◌*◌, eqb}
use Rattle.order.specs.Order.{Refusal, ◌if◌, ◌above◌, ◌under◌, first_number}
use Rattle.wire.specs.Limits.{most_leaves, longest_record}
use Rattle.shape.specs.Sizes.{size_of}
use Rattle.records.specs.Records.{total}

-- a record of k bytes that makes m leaves, with so many bytes for nodes
abbrev pub one_order : ℕ → ℕ → ℕ → List Refusal
one_order room m k = 2 if m above most_leaves ∷ 3 if k above longest_record ∷ 4 if room under 32 * size_of m ∷ []

-- the first of two numbers that is not 0
unfoldable pub or_else : ℕ → ℕ → ℕ
or_else a b = elim (eqb a 0) [ true ↦ b | false ↦ a ]

-- the first refusal that records of these lengths meet one after the other behind n leaves; 0 where they meet none
unfoldable pub foreseen : ℕ → ℕ → List ℕ → ℕ
foreseen room n [] = 0
foreseen room n (k ∷ ks) = or_else (first_number (one_order room (suc n) k)) (foreseen room (suc n) ks)

-- 16 where the lengths don't add up to so many bytes, and else that refusal
unfoldable pub foresight : ℕ → ℕ → ℕ → List ℕ → ℕ
foresight bytes room n ks = elim (eqb (total ks) bytes) [ true ↦ foreseen room n ks | false ↦ 16 ]
