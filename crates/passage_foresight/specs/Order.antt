-- What a request for a passage is refused with before anything is written, over any digest function and any nodes, a function from position to
-- digest, with the test of number 4 handed in.
use Rattle.std.specs.Prelude.{List, [], ◌∷◌, ◌++◌, ℕ, length}
use Rattle.wire.specs.Limits.{longest_record}
use Rattle.order.specs.Order.{Test, Refusal, ◌if◌, ◌is_not◌, ◌above◌, ◌not_below◌}
use Rattle.records.specs.Records.{cut, sums_order}
use Rattle.letter.specs.Items.{foreign}
use Rattle.passage.specs.Request.{request_order}

-- each record in turn, by its index and its length: index not below the leaf count; record above 16,384
unfoldable pub limits_order : ℕ → List ℕ → List ℕ → List Refusal
limits_order n [] lengths = []
limits_order n (i ∷ indexes) [] = []
limits_order n (i ∷ indexes) (k ∷ lengths) = 5 if i not_below n ∷ 3 if k above longest_record ∷ limits_order n indexes lengths

-- each record in turn: its digest isn't the leaf at its place
unfoldable pub foreign_order : (List ℕ → List ℕ) → (ℕ → List ℕ) → List ℕ → List (List ℕ) → List Refusal
foreign_order digest node [] rs = []
foreign_order digest node (i ∷ indexes) [] = []
foreign_order digest node (i ∷ indexes) (r ∷ rs) = 13 if foreign digest node i r is_not 0 ∷ foreign_order digest node indexes rs

-- not a request; not one length for each index; lengths that don't add up to the joined bytes; 5 and 3 per record; node buffer too short; 13 per
-- record
abbrev pub foreseen_order : (List ℕ → List ℕ) → (ℕ → List ℕ) → Test → ℕ → List ℕ → List ℕ → List ℕ → List Refusal
foreseen_order digest node short n indexes records lengths =
    request_order indexes
    ++ sums_order (length indexes) (length records) lengths
    ++ limits_order n indexes lengths
    ++ (4 if short ∷ [])
    ++ foreign_order digest node indexes (cut lengths records)
