-- How the loop of `leaf_count` narrows the count down: with k heights left it lies in a block of 2^k.
use mathlib.Core.Path.{◌≡◌, sym, ap, ◌∙◌}
use mathlib.Core.Logic.{by_cases}
use Prim.Native.Nat.{ℕ, suc, ◌+◌, ◌-◌, ◌*◌, ◌/◌, ◌%◌, ◌^◌, ◌≤◌, ◌<◌}
use native.Mathlib.Nat.{mul_assoc}
use native.Mathlib.Decide.{dec_lt}
use native.Mathlib.Omega.{arith}
use lib.Pow.{pow_pos}
use lib.Count.{ones, ones-le}
use Rattle.shape.specs.Answers.{done, refused}
use Rattle.shape.specs.Sizes.{size_of, count_answer}
use Rattle.shape.proofs.Sizes.{size_ones, size_le, size_add, size_power, size_lt, size_mono}
use Rattle.shape.proofs.Counts.{count_size, count_none}

-- n leaves, whole blocks of 2^k, are taken and rest nodes are left; any count of this size is in the block that follows
pub record Narrowed (size k rest n : ℕ) : Type 0 where
  pub height : k ≤ 33
  pub few : n + 2 ^ k ≤ 2 ^ 33
  pub parts : size_of n + rest ≡ size
  pub blocks : ℕ
  pub whole : n ≡ blocks * 2 ^ k
  pub within : (m : ℕ) → size_of m ≡ size → (n ≤ m) × (m < n + 2 ^ k)

-- where a count can be: half its size, and at most half of 33 ones more
module _ (size : ℕ) (few : size ≤ 8589934591) where
  count_most : (m : ℕ) → size_of m ≡ size → m ≤ 2 ^ 32
  count_most m e =
      by_cases (dec_lt (2 ^ 32) m) (λ l. absurd (omega (arith, size_lt (2 ^ 32) m l, size_power 32))) (λ l. omega arith)

  count_half : (m : ℕ) → size_of m ≡ size → (size ≤ 2 * m) × (2 * m ≤ size + 33)
  count_half m e =
      let o : ones m ≤ 33 = ones-le 33 m (omega (arith, count_most m e)) in
      (omega (arith, size_ones m), omega (arith, size_ones m))

  -- n begins 32 counts in a row among which each count of this size is
  abbrev pub Near : ℕ → Type 0
  Near n = (n % 32 ≡ 0) × (n ≤ 2 ^ 32) × (size_of n ≤ size) × ((m : ℕ) → size_of m ≡ size → (n ≤ m) × (m < n + 32))

  pub near_low : size < size_of (size / 64 * 32 + 32) → Near (size / 64 * 32)
  near_low p = (
    omega arith,
    omega arith,
    omega (arith, size_le (size / 64 * 32)),
    λ m e. (
      omega (arith, count_half m e),
      by_cases (dec_lt m (size / 64 * 32 + 32)) (λ l. l) (λ l. absurd (omega (arith, size_mono (size / 64 * 32 + 32) m (omega arith)))),
    ),
  )

  pub near_next : size_of (size / 64 * 32 + 32) ≤ size → Near (size / 64 * 32 + 32)
  near_next p = (
    omega arith,
    by_cases (dec_lt (2 ^ 32) (size / 64 * 32 + 32)) (λ l. absurd (omega (arith, size_lt (2 ^ 32) (size / 64 * 32 + 32) l, size_power 32))) (λ l. omega arith),
    p,
    λ m e. (
      by_cases (dec_lt m (size / 64 * 32 + 32)) (λ l. absurd (omega (arith, size_lt m (size / 64 * 32 + 32) l))) (λ l. omega arith),
      omega (arith, count_half m e),
    ),
  )

  -- the loop begins there, with five heights left
  pub narrow_begin : (n rest : ℕ) → Near n → rest ≡ size - size_of n → Narrowed size 5 rest n
  narrow_begin n rest c e =
      record {
        height = omega arith;
        few = omega (arith, c.1);
        parts = omega (arith, c.2);
        blocks = n / 32;
        whole = omega (arith, c.0);
        within = c.3;
      }

-- one height: `span` leaves are the next block
module _ (size k rest n span : ℕ) (pos : 0 < k) (is : span ≡ 2 ^ (k - 1)) (c : Narrowed size k rest n) where
  twice : 2 ^ k ≡ 2 * span
  twice =
      let e : k ≡ suc (k - 1) = omega arith in
      ap (λ (x : ℕ). 2 ^ x) e ∙ omega arith

  some : 0 < span
  some = omega (arith, pow_pos (k - 1))

  -- no sum wraps
  pub narrow_room : (0 < span) × (n + 2 * span ≤ 2 ^ 33)
  narrow_room = (some, omega (arith, twice))

  -- the next peak's nodes stand behind those of n leaves
  next : size_of (n + span) ≡ size_of n + (2 * span - 1)
  next =
      let f : size_of span ≡ 2 * span - 1 = ap size_of is ∙ size_power (k - 1) ∙ omega arith in
      ap (λ (x : ℕ). size_of (x + span)) c.whole ∙ size_add k c.blocks span (omega (arith, twice, some))
      ∙ omega (arith, ap size_of c.whole)

  halves : (q : ℕ) → q * 2 ^ k ≡ q * 2 * 2 ^ (k - 1)
  halves q = ap (λ (x : ℕ). q * x) (twice ∙ ap (λ (x : ℕ). 2 * x) is) ∙ sym (mul_assoc q 2 (2 ^ (k - 1)))

  -- its nodes are there: the count is not below the block's end
  pub narrow_take : 2 * span - 1 ≤ rest → Narrowed size (k - 1) (rest - (2 * span - 1)) (n + span)
  narrow_take p =
      record {
        height = omega arith;
        few = omega (arith, twice);
        parts = omega (arith, next);
        blocks = c.blocks * 2 + 1;
        whole = omega (arith, halves c.blocks);
        within = λ m e. (
          by_cases (dec_lt m (n + span)) (λ l. absurd (omega (arith, size_lt m (n + span) l, next))) (λ l. omega arith),
          omega (arith, (c.within m e).1, twice),
        );
      }

  -- they are not: the count is below it
  pub narrow_skip : rest < 2 * span - 1 → Narrowed size (k - 1) rest n
  narrow_skip p =
      record {
        height = omega arith;
        few = omega (arith, twice);
        parts = c.parts;
        blocks = c.blocks * 2;
        whole = c.whole ∙ halves c.blocks;
        within = λ m e. (
          (c.within m e).0,
          by_cases (dec_lt m (n + span)) (λ l. omega arith)
              (λ l. absurd (omega (arith, size_mono (n + span) m (omega arith), next))),
        );
      }

-- no height is left
module _ (size k rest n : ℕ) (over : k ≤ 0) (c : Narrowed size k rest n) where
  one_left : 2 ^ k ≡ 1
  one_left = let e : k ≡ 0 = omega arith in ap (λ (x : ℕ). 2 ^ x) e

  -- and no node: n is the count
  pub narrow_found : rest ≡ 0 → size ≤ 8589934591 → count_answer size ≡ done n
  narrow_found z l =
      ap count_answer (omega arith) ∙ count_size n
      (by_cases (dec_lt (2 ^ 32) n)
      (λ a. absurd (omega (arith, size_lt (2 ^ 32) n a, size_power 32)))
      (λ a. omega arith))

  -- but nodes are: there is none
  pub narrow_missing : (rest ≡ 0 → ⊥) → count_answer size ≡ refused 1
  narrow_missing z =
      (count_none size).1
      (λ m p e.
      let w = c.within m e in
      let s : size_of m ≡ size_of n = ap size_of (omega (arith, one_left)) in
      z (omega arith))

-- 2^32 leaves have size 8,589,934,591, and no count up to 2^32 has a larger one
pub count_above : (size : ℕ) → 8589934591 < size → count_answer size ≡ refused 1
count_above size p = (count_none size).1 (λ m l e. omega (arith, size_mono m (2 ^ 32) l, size_power 32))
