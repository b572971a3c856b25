-- Sizes, positions and counts of a log of n leaves.
use Rattle.std.specs.Prelude.{true, false, ℕ, zero, suc, ◌+◌, ◌-◌, ◌*◌, ◌/◌, ◌%◌, ◌^◌, leb, ltb, eqb}
use Rattle.std.specs.Int.Count.{ones}
use Rattle.wire.specs.Limits.{most_leaves}
use Rattle.shape.specs.Answers.{Answer, done, refused}

-- the size of n leaves, and the position of leaf n: 2n minus the number of ones in n (`nodes_length`, `leaf_at_lem`)
unfoldable pub size_of : ℕ → ℕ
size_of n = 2 * n - ones n

-- the size of n leaves; 2 for a count above 2^32
unfoldable pub size_answer : ℕ → Answer
size_answer n = elim (leb n most_leaves) [ true ↦ done (size_of n) | false ↦ refused 2 ]

-- the position of leaf i; 5 for an index not below 2^32
unfoldable pub position_answer : ℕ → Answer
position_answer i = elim (ltb i most_leaves) [ true ↦ done (size_of i) | false ↦ refused 5 ]

-- the leaf count up to k whose size is s; 1 where there is none
unfoldable pub count_up_to : ℕ → ℕ → Answer
count_up_to zero s = elim (eqb (size_of zero) s) [ true ↦ done zero | false ↦ refused 1 ]
count_up_to (suc k) s = elim (eqb (size_of (suc k)) s) [ true ↦ done (suc k) | false ↦ count_up_to k s ]

-- the leaf count up to 2^32 whose size is s; 1 exactly when no leaf count up to 2^32 has this size (`count_none`)
unfoldable pub count_answer : ℕ → Answer
count_answer s = count_up_to most_leaves s

-- the leaf count of a size
abbrev pub leaves : ℕ → ℕ
leaves size = (count_answer size).value

-- the ones at the low end of n's k lowest digits, up to the first zero
unfoldable pub trailing_in : ℕ → ℕ → ℕ
trailing_in zero n = zero
trailing_in (suc k) n = elim (n % 2) [ zero ↦ zero | suc d ↦ suc (trailing_in k (n / 2)) ]

-- the trailing ones of n, which has at most n digits: an append to n leaves writes so many parents
unfoldable pub trailing_ones : ℕ → ℕ
unfolding trailing_in
trailing_ones n = trailing_in n n

-- the digests that an append to n leaves works out: 1 + trailing ones, which is new size minus old size (`size_suc`)
abbrev pub hash_count : ℕ → ℕ
hash_count n = 1 + trailing_ones n

-- the least height of a tree that holds n leaves, n at most 2^k
unfoldable pub height_in : ℕ → ℕ → ℕ
height_in zero n = zero
height_in (suc k) n = elim (leb n (2 ^ k)) [ true ↦ height_in k n | false ↦ suc k ]

-- the height of the folded tree of n leaves: the least h with n at most 2^h (`height_holds`, `height_least`)
unfoldable pub height_of : ℕ → ℕ
unfolding height_in
height_of n = height_in n n
