-- The sixteen words that a compression starts from, written out.
use Rattle.std.proofs.Common.{◌≡◌, ℕ, ◌/◌, ◌%◌, ◌^◌, List, [], ◌∷◌, ◌++◌, length, get_or, take, sym, refl, ap, ◌∙◌, arith, take_all}
use Rattle.words.proofs.Blocks.{joined}
use Rattle.compression.specs.Compression.{starting, begun}

pub begun_words : (cv : List ℕ) (n len flags : ℕ) → length cv ≡ 8
    → get_or cv 0 0 ∷ get_or cv 1 0 ∷ get_or cv 2 0 ∷ get_or cv 3 0 ∷ get_or cv 4 0 ∷ get_or cv 5 0 ∷ get_or cv 6 0 ∷ get_or cv 7 0
    ∷ get_or starting 0 0 ∷ get_or starting 1 0 ∷ get_or starting 2 0 ∷ get_or starting 3 0
    ∷ n % 2 ^ 32 ∷ n / 2 ^ 32 ∷ len ∷ flags ∷ []
    ≡ begun cv n len flags
unfolding begun
begun_words cv n len flags e =
    joined cv (take 4 starting ++ n % 2 ^ 32 ∷ n / 2 ^ 32 ∷ len ∷ flags ∷ []) e refl
    ∙ ap (λ (x : List ℕ). x ++ (take 4 starting ++ n % 2 ^ 32 ∷ n / 2 ^ 32 ∷ len ∷ flags ∷ [])) (sym (take_all 8 cv (omega arith)))
