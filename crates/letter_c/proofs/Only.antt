-- Each statement leaves one answer, and one content behind each pointer. That of the writer is `write_left_only` of `kept`.
use mathlib.Core.Path.{◌≡◌, sym, ◌∙◌}
use mathlib.Core.List.{List}
use Prim.Native.Nat.{ℕ}
use Rattle.letter_checker.specs.Outcome.{CheckOutcome}
use Rattle.letter_c.specs.Letters.{check_left}
use Rattle.letter_c.specs.Finder.{FindLeft, find_left}

-- a letter checked: the number, and the three result variables
pub check_left_only : (x : CheckOutcome) (m n i j s t a b : ℕ) → check_left m i s a ≡ x → check_left n j t b ≡ x
    → (m ≡ n) × (i ≡ j) × (s ≡ t) × (a ≡ b)
check_left_only x m n i j s t a b p q =
    let e = p ∙ sym q in (λ i. (e i).number, λ i. (e i).index, λ i. (e i).start, λ i. (e i).length)

-- a letter compared: the number, what is found, and the two buffers
pub find_left_only : (x : FindLeft) (m n f g : ℕ) (xs ys us vs : List ℕ) → find_left m f xs ys ≡ x → find_left n g us vs ≡ x
    → (m ≡ n) × (f ≡ g) × (xs ≡ us) × (ys ≡ vs)
find_left_only x m n f g xs ys us vs p q = let e = p ∙ sym q in (λ i. (e i).number, λ i. (e i).found, λ i. (e i).first, λ i. (e i).second)
