-- How many digests a letter has: within the limits as many as the view gives, at most 8,192, and beyond them none.
use mathlib.Core.Path.{◌≡◌, refl, sym, ap, ◌∙◌}
use mathlib.Core.Bool.{true, false}
use mathlib.Core.Logic.{by_cases}
use mathlib.Core.List.{List}
use Prim.Native.Nat.{ℕ, ◌^◌, ◌≤◌, ◌<◌}
use native.Mathlib.Decide.{dec_le, dec_lt}
use native.Mathlib.Omega.{arith}
use lib.ListN.{length}
use lib.Pow.{pow_mono}
use borrow.Author.Tests.{le-leb, lt-leb, lt-ltb, le-ltb}
use Rattle.shape.specs.Sizes.{height_of}
use Rattle.shape.proofs.Heights.{height_holds, height_least}
use Rattle.views.specs.View.{givens}
use Rattle.views.specs.Passage.{passage_in, passage}
use Rattle.views.proofs.Passages.{passage_any}
use Rattle.views.proofs.Bounds.{passage_few}
use Rattle.passage.specs.Digests.{within, digest_count}
use Rattle.passage.specs.Steps.{Countable}

module _ (n : ℕ) (is : List ℕ) where
  pub within_yes : 0 < n → n ≤ 2 ^ 32 → length is ≤ 256 → within n is ≡ true
  unfolding within
  within_yes p q r = rw (lt-ltb 0 n p, le-leb n (2 ^ 32) q, le-leb (length is) 256 r, within)

  pub within_no : (0 < n → n ≤ 2 ^ 32 → length is ≤ 256 → ⊥) → within n is ≡ false
  unfolding within
  within_no h =
      by_cases (dec_lt 0 n)
      (λ p. by_cases (dec_le n (2 ^ 32))
      (λ q.
      let many : 256 < length is = by_cases (dec_lt 256 (length is)) (λ r. r) (λ r. absurd (h p q (omega arith))) in
      rw (lt-ltb 0 n p, le-leb n (2 ^ 32) q, lt-leb (length is) 256 many, within))
      (λ q. rw (lt-ltb 0 n p, lt-leb n (2 ^ 32) (omega arith), within)))
      (λ p. rw (le-ltb 0 n (omega arith), within))

  pub count_none : (0 < n → n ≤ 2 ^ 32 → length is ≤ 256 → ⊥) → digest_count n is ≡ 0
  unfolding digest_count
  count_none h = rw (within_no h, digest_count)

  module _ (p : 0 < n) (q : n ≤ 2 ^ 32) (r : length is ≤ 256) where
    pub count_is : digest_count n is ≡ givens (passage n is)
    unfolding digest_count
    count_is = rw (within_yes p q r, digest_count)

    -- from the height of n leaves down
    pub count_from : (h : ℕ) → h ≡ height_of n → digest_count n is ≡ givens (passage_in h n 0 is)
    count_from h e = count_is ∙ ap givens (sym (passage_any h n is (rw e (height_holds n))))

    pub countable : (h : ℕ) → h ≡ height_of n → Countable h 0 is
    countable h e =
        let low : height_of n ≤ 32 = height_least n 32 q in
        let k : 2 ^ h ≤ 2 ^ 32 = pow_mono {i = h} {j = 32} (omega arith) in
        record { low = omega arith; near = omega arith; few = r }

    within_few : digest_count n is ≤ 8192
    within_few = rw (count_from (height_of n) refl) (passage_few (height_of n) n 0 is (height_least n 32 q) r)

  pub count_few : digest_count n is ≤ 8192
  count_few =
      by_cases (dec_lt 0 n)
      (λ p. by_cases (dec_le n (2 ^ 32))
      (λ q. by_cases (dec_le (length is) 256) (λ r. within_few p q r) (λ r. rw (count_none (λ a b c. r c)) (omega arith)))
      (λ q. rw (count_none (λ a b c. q b)) (omega arith)))
      (λ p. rw (count_none (λ a b c. p a)) (omega arith))
