-- Each statement leaves one answer, and one content behind each pointer. That of the writer is `write_left_only` of `kept`.
use mathlib.Core.Path.{◌≡◌, sym, ◌∙◌}
use mathlib.Core.List.{List}
use Prim.Native.Nat.{ℕ}
use Rattle.passage_checker.specs.Outcome.{CheckOutcome}
use Rattle.passage_records.specs.Outcome.{EntryOutcome, EntriesOutcome}
use Rattle.passage_c.specs.Calls.{check_left, entry_left, entries_left, FindLeft, find_left}

-- a letter checked: the number, and the result variable
pub check_left_only : (x : CheckOutcome) (m n v w : ℕ) → check_left m v ≡ x → check_left n w ≡ x → (m ≡ n) × (v ≡ w)
check_left_only x m n v w p q = let e = p ∙ sym q in (λ i. (e i).number, λ i. (e i).count)

-- one record: the number, and the three result variables
pub entry_left_only : (x : EntryOutcome) (m n i j s t a b : ℕ) → entry_left m i s a ≡ x → entry_left n j t b ≡ x
    → (m ≡ n) × (i ≡ j) × (s ≡ t) × (a ≡ b)
entry_left_only x m n i j s t a b p q = let e = p ∙ sym q in (λ i. (e i).number, λ i. (e i).index, λ i. (e i).start, λ i. (e i).length)

-- all records: the number, the result variable, and the three lists
pub entries_left_only : (x : EntriesOutcome) (m n v w : ℕ) (is js ss ts ls ks : List ℕ) → entries_left m v is ss ls ≡ x → entries_left n w js ts ks ≡ x
    → (m ≡ n) × (v ≡ w) × (is ≡ js) × (ss ≡ ts) × (ls ≡ ks)
entries_left_only x m n v w is js ss ts ls ks p q =
    let e = p ∙ sym q in (λ i. (e i).number, λ i. (e i).count, λ i. (e i).indexes, λ i. (e i).starts, λ i. (e i).lengths)

-- a letter compared: the number, what is found, the index, and the two buffers
pub find_left_only : (x : FindLeft) (m n f g i j : ℕ) (xs ys us vs : List ℕ) → find_left m f i xs ys ≡ x → find_left n g j us vs ≡ x
    → (m ≡ n) × (f ≡ g) × (i ≡ j) × (xs ≡ us) × (ys ≡ vs)
find_left_only x m n f g i j xs ys us vs p q =
    let e = p ∙ sym q in (λ i. (e i).number, λ i. (e i).found, λ i. (e i).index, λ i. (e i).first, λ i. (e i).second)
