-- Records joined together, with a list of their lengths.
use Rattle.std.specs.Prelude.{List, [], ◌∷◌, ℕ, ◌+◌, length, take, drop}
use Rattle.order.specs.Order.{Refusal, ◌if◌, ◌is_not◌}

-- the sum of the lengths
unfoldable pub total : List ℕ → ℕ
total [] = 0
total (k ∷ ks) = k + total ks

-- the records: each the next so many bytes
unfoldable pub cut : List ℕ → List ℕ → List (List ℕ)
cut [] bs = []
cut (k ∷ ks) bs = take k bs ∷ cut ks (drop k bs)

-- not so many lengths; lengths that don't add up to so many bytes
abbrev pub sums_order : ℕ → ℕ → List ℕ → List Refusal
sums_order count bytes lengths = 16 if length lengths is_not count ∷ 16 if total lengths is_not bytes ∷ []
