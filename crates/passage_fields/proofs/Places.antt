-- Where records stand that follow one another: how many there are, one more at the end, the place behind them, the exact length of a letter.
use mathlib.Core.Path.{◌≡◌, refl, ap, ◌∙◌}
use mathlib.Core.List.{List, [], ◌∷◌, ◌++◌, map}
use Prim.Native.Nat.{ℕ, zero, suc, ◌+◌, ◌*◌}
use native.Mathlib.Numerals.{add-one}
use native.Mathlib.Omega.{arith}
use lib.ListN.{length, length-map}
use Rattle.records.specs.Records.{total}
use Rattle.records.proofs.Sums.{total_none, total_cons}
use Rattle.passage.specs.Bytes.{count_in, stated_at, behind_at, places_from, end_from, places, index_at, indexes_in, lengths_in, end_in}
use Rattle.passage.specs.Digests.{digest_count, exact_length}
use Rattle.passage.specs.Checking.{exact_for}

pub map_snoc : {A B : Type 0} (f : A → B) (xs : List A) (x : A) → map f (xs ++ (x ∷ [])) ≡ map f xs ++ (f x ∷ [])
map_snoc f [] x = refl
map_snoc f (y ∷ xs) x = ap (λ l. f y ∷ l) (map_snoc f xs x)

module _ (letter : List ℕ) where
  pub places_length : (at k : ℕ) → length (places_from letter at k) ≡ k
  unfolding places_from
  places_length at zero = refl
  places_length at (suc k) = ap suc (places_length (behind_at letter at) k)

  -- one more at the end
  places_last : (at k : ℕ) → places_from letter at (suc k) ≡ places_from letter at k ++ (end_from letter at k ∷ [])
  unfolding places_from end_from
  places_last at zero = refl
  places_last at (suc k) = ap (λ (ps : List ℕ). at ∷ ps) (places_last (behind_at letter at) k)

  end_last : (at k : ℕ) → end_from letter at (suc k) ≡ behind_at letter (end_from letter at k)
  unfolding end_from
  end_last at zero = refl
  end_last at (suc k) = end_last (behind_at letter at) k

  pub places_snoc : (at k : ℕ) → places_from letter at (k + 1) ≡ places_from letter at k ++ (end_from letter at k ∷ [])
  places_snoc at k = rw add-one (places_last at k)

  pub end_snoc : (at k : ℕ) → end_from letter at (k + 1) ≡ behind_at letter (end_from letter at k)
  end_snoc at k = rw add-one (end_last at k)

  -- the place behind them, by their lengths
  end_sum : (at k : ℕ) → end_from letter at k ≡ at + (12 * k + total (map (stated_at letter) (places_from letter at k)))
  unfolding places_from end_from
  end_sum at zero = omega (arith, total_none)
  end_sum at (suc k) =
      let next = behind_at letter at in
      end_sum next k ∙ omega (arith, total_cons (stated_at letter at) (map (stated_at letter) (places_from letter next k)))

  -- as many indexes, lengths and places as the letter says
  pub places_count : length (places letter) ≡ count_in letter
  unfolding places
  places_count = places_length 10 (count_in letter)

  pub indexes_count : length (indexes_in letter) ≡ count_in letter
  unfolding indexes_in
  indexes_count = length-map (places letter) (index_at letter) ∙ places_count

  pub lengths_count : length (lengths_in letter) ≡ count_in letter
  unfolding lengths_in
  lengths_count = length-map (places letter) (stated_at letter) ∙ places_count

  end_lengths : end_in letter ≡ 10 + (12 * count_in letter + total (lengths_in letter))
  unfolding end_in lengths_in places
  end_lengths = end_sum 10 (count_in letter)

  -- the exact length: the digests begin behind the records
  pub exact_end : (n : ℕ) → exact_for n letter ≡ end_in letter + 32 * digest_count n (indexes_in letter)
  unfolding exact_length
  exact_end n = omega (arith, end_lengths, indexes_count)
