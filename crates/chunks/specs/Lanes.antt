-- Four lists of eight words in one, and four whole chunks side by side.
use Rattle.std.specs.Prelude.{true, false, ◌&&◌, List, ℕ, ◌+◌, ◌*◌, ◌/◌, ◌%◌, ◌^◌, leb, eqb, length, get_or, take, drop, replicate}
use Rattle.words.specs.Build.{build}
use Rattle.chunks.specs.Chunks.{chunked}

-- ---- Word i of lane k is at 8 * k + i

-- lane k
unfoldable pub lane_of : List ℕ → ℕ → List ℕ
lane_of v k = build 8 (λ i. get_or v (8 * k + i) 0)

-- the four lanes f 0 to f 3 in one
unfoldable pub laned : (ℕ → List ℕ) → List ℕ
laned f = build 32 (λ p. get_or (f (p / 8)) (p % 8) 0)

-- ---- Four whole chunks

-- chunk k of the input
abbrev pub chunk_in : List ℕ → ℕ → List ℕ
chunk_in bs k = take 1024 (drop (1024 * k) bs)

-- the four chunks of 4,096 bytes, the first of number n and the last of a number below 2 ^ 54; zeros for other lengths and numbers
unfoldable pub chunked4 : List ℕ → ℕ → ℕ → List ℕ → List ℕ
chunked4 key flag n bs =
    elim (leb (n + 4) (2 ^ 54) && eqb (length bs) 4096)
    [ true ↦ laned (λ k. chunked key flag 0 (n + k) (chunk_in bs k)) | false ↦ replicate 32 0 ]
