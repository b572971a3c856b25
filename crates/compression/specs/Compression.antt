-- BLAKE3's compression function, in the order of its public specification. Words are numbers below 2 ^ 32, bytes below 256.
use Rattle.std.specs.Prelude.{ℕ, zero, suc, ◌+◌, ◌-◌, ◌*◌, ◌/◌, ◌%◌, ◌^◌, List, [], ◌∷◌, ◌++◌, take, bit_xor, slice_index, slice_set}
use Rattle.words.specs.Build.{build}

-- ---- Constants

-- the starting words (IV)
abbrev pub starting : List ℕ
starting =
    0x6A09E667 ∷ 0xBB67AE85 ∷ 0x3C6EF372 ∷ 0xA54FF53A ∷ 0x510E527F ∷ 0x9B05688C ∷ 0x1F83D9AB ∷ 0x5BE0CD19 ∷ []

-- P, the permutation of the message words (MSG_PERMUTATION)
abbrev pub order : List ℕ
order = 2 ∷ 6 ∷ 3 ∷ 10 ∷ 7 ∷ 0 ∷ 4 ∷ 13 ∷ 1 ∷ 11 ∷ 12 ∷ 5 ∷ 9 ∷ 14 ∷ 15 ∷ 8 ∷ []

-- ---- The compression function

-- the word x turned right by k: its k low digits become the high ones
unfoldable pub turn_right : ℕ → ℕ → ℕ
turn_right x k = x % 2 ^ k * 2 ^ (32 - k) + x / 2 ^ k

-- a, b, c, d mixed with x and y, every addition modulo 2 ^ 32 (the function G)
unfoldable pub mixed : ℕ → ℕ → ℕ → ℕ → ℕ → ℕ → List ℕ
mixed a b c d x y =
    let a₁ = (a + b + x) % 2 ^ 32 in
    let d₁ = turn_right (bit_xor d a₁) 16 in
    let c₁ = (c + d₁) % 2 ^ 32 in
    let b₁ = turn_right (bit_xor b c₁) 12 in
    let a₂ = (a₁ + b₁ + y) % 2 ^ 32 in
    let d₂ = turn_right (bit_xor d₁ a₂) 8 in
    let c₂ = (c₁ + d₂) % 2 ^ 32 in
    let b₂ = turn_right (bit_xor b₁ c₂) 7 in
    a₂ ∷ b₂ ∷ c₂ ∷ d₂ ∷ []

-- the words at a, b, c, d of a list, mixed in place with x and y
unfoldable pub mixed_at : List ℕ → ℕ → ℕ → ℕ → ℕ → ℕ → ℕ → List ℕ
mixed_at s a b c d x y =
    let q = mixed (slice_index s a) (slice_index s b) (slice_index s c) (slice_index s d) x y in
    slice_set (slice_set (slice_set (slice_set s a (slice_index q 0)) b (slice_index q 1)) c (slice_index q 2)) d (slice_index q 3)

-- the columns, mixed with the first eight message words in pairs
unfoldable pub columned : List ℕ → List ℕ → List ℕ
columned s m =
    mixed_at (mixed_at (mixed_at (mixed_at s 0 4 8 12 (slice_index m 0) (slice_index m 1))
    1 5 9 13 (slice_index m 2) (slice_index m 3))
    2 6 10 14 (slice_index m 4) (slice_index m 5))
    3 7 11 15 (slice_index m 6) (slice_index m 7)

-- the diagonals, mixed with the last eight
unfoldable pub diagonaled : List ℕ → List ℕ → List ℕ
diagonaled s m =
    mixed_at (mixed_at (mixed_at (mixed_at s 0 5 10 15 (slice_index m 8) (slice_index m 9))
    1 6 11 12 (slice_index m 10) (slice_index m 11))
    2 7 8 13 (slice_index m 12) (slice_index m 13))
    3 4 9 14 (slice_index m 14) (slice_index m 15)

-- a round: columns, then diagonals
unfoldable pub rounded : List ℕ → List ℕ → List ℕ
rounded s m = diagonaled (columned s m) m

-- new word i is old word P[i]
unfoldable pub permuted : List ℕ → List ℕ
permuted m = build 16 (λ i. slice_index m (slice_index order i))

-- n rounds, each but the first with the message permuted once more
unfoldable pub rounds : ℕ → List ℕ → List ℕ → List ℕ
rounds zero s m = s
rounds (suc n) s m = rounds n (rounded s m) (permuted m)

-- the sixteen words: chaining words, first four starting words, counter low and high, block length, flags
unfoldable pub begun : List ℕ → ℕ → ℕ → ℕ → List ℕ
begun cv n len flags = take 8 cv ++ (take 4 starting ++ n % 2 ^ 32 ∷ n / 2 ^ 32 ∷ len ∷ flags ∷ [])

-- result word i is word i xor word i + 8
unfoldable pub halved : List ℕ → List ℕ
halved s = build 8 (λ i. bit_xor (slice_index s i) (slice_index s (i + 8)))

-- one compression: chaining words, message words, counter, block length, flags
unfoldable pub compressed : List ℕ → List ℕ → ℕ → ℕ → ℕ → List ℕ
compressed cv m n len flags = halved (rounds 7 (begun cv n len flags) m)
