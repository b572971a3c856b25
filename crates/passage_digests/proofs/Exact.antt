-- The digests that nodes give for a passage: as many as are counted, 32 bytes each. Over any digest function and any nodes.
use mathlib.Core.Path.{◌≡◌, sym, ap, ◌∙◌}
use mathlib.Core.Logic.{by_cases}
use mathlib.Core.List.{List, []}
use Prim.Native.Nat.{ℕ, ◌*◌, ◌^◌, ◌≤◌, ◌<◌}
use native.Mathlib.Decide.{dec_le, dec_lt}
use lib.ListN.{length}
use Rattle.wire.specs.Slices.{Each, joined}
use Rattle.wire.proofs.Joined.{joined_length}
use Rattle.views.specs.Passage.{passage}
use Rattle.views.specs.Shows.{gives_by}
use Rattle.views.proofs.Passages.{passage_of}
use Rattle.views.proofs.Nodes.{gives_exact, gives_32}
use Rattle.passage.specs.Digests.{digest_count, digests_of}
use Rattle.passage.proofs.Digests.{within_yes, within_no, count_none, count_is}

-- within the limits, or beyond them
pub by_limits : {P : Type 0} (n : ℕ) (is : List ℕ) → (0 < n → n ≤ 2 ^ 32 → length is ≤ 256 → P)
    → ((0 < n → n ≤ 2 ^ 32 → length is ≤ 256 → ⊥) → P) → P
by_limits n is y z =
    by_cases (dec_lt 0 n)
    (λ p. by_cases (dec_le n (2 ^ 32)) (λ q. by_cases (dec_le (length is) 256) (λ r. y p q r) (λ r. z (λ a b c. r c))) (λ q. z (λ a b c. q b)))
    (λ p. z (λ a b c. p a))

module _ (digest : List ℕ → List ℕ) (node : ℕ → List ℕ) (n : ℕ) (is : List ℕ) where
  -- numbers beyond the limits have none
  pub digests_none : (0 < n → n ≤ 2 ^ 32 → length is ≤ 256 → ⊥) → digests_of digest node n is ≡ []
  unfolding digests_of
  digests_none h = rw (within_no n is h, digests_of)

  pub digests_are : 0 < n → n ≤ 2 ^ 32 → length is ≤ 256 → digests_of digest node n is ≡ gives_by digest node (passage n is) n 0
  unfolding digests_of
  digests_are p q r = rw (within_yes n is p q r, digests_of)

  pub digests_exact : length (digests_of digest node n is) ≡ digest_count n is
  digests_exact =
      by_limits n is
      (λ p q r. ap length (digests_are p q r) ∙ gives_exact digest node (passage n is) n 0 ∙ sym (count_is n is p q r))
      (λ h. ap length (digests_none h) ∙ sym (count_none n is h))

  module _ (digest_32 : (x : List ℕ) → length (digest x) ≡ 32) (node-32 : (p : ℕ) → length (node p) ≡ 32) where
    pub digests_32 : Each 32 (digests_of digest node n is)
    digests_32 =
        by_limits n is
        (λ p q r. rw (digests_are p q r) (gives_32 digest node digest_32 node-32 (passage n is) n 0 p (passage_of n is p)))
        (λ h. rw (digests_none h) tt)

    pub digests_bytes : length (joined (digests_of digest node n is)) ≡ 32 * digest_count n is
    digests_bytes = joined_length (digests_of digest node n is) digests_32 ∙ ap (λ (k : ℕ). 32 * k) digests_exact
