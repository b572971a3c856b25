-- BLAKE3's chunks, in the order of its public specification. Words are numbers below 2 ^ 32, bytes below 256.
use Rattle.std.specs.Prelude.{List, ℕ, zero, suc, ◌+◌, ◌-◌, ◌*◌, ◌/◌, length, take, drop}
use Rattle.compression.specs.Compression.{compressed}
use Rattle.words.specs.Words.{words_of}

-- the flags CHUNK_START and CHUNK_END
abbrev pub chunk_start : ℕ
chunk_start = 1

abbrev pub chunk_end : ℕ
chunk_end = 2

-- ---- Chunks. `key` is the words that chaining begins with and `flag` a flag on every compression: together, the mode

-- chunk start is set on the first block
unfoldable pub start_flag : ℕ → ℕ
start_flag zero = chunk_start
start_flag (suc i) = 0

-- the chaining words after the first i blocks, of 64 bytes each, of chunk number n
unfoldable pub chained : List ℕ → ℕ → ℕ → List ℕ → ℕ → List ℕ
chained key flag n bs zero = key
chained key flag n bs (suc i) =
    compressed (chained key flag n bs i) (words_of 16 (take 64 (drop (64 * i) bs))) n 64 (flag + start_flag i)

-- how many blocks stand before the last one
unfoldable pub before : ℕ → ℕ
before len = (len - 1) / 64

-- chunk number n: chunk end is set on its last block, whose true length is given; `root` is the root flag or 0
unfoldable pub chunked : List ℕ → ℕ → ℕ → ℕ → List ℕ → List ℕ
chunked key flag root n bs =
    let q = before (length bs) in
    compressed (chained key flag n bs q) (words_of 16 (drop (64 * q) bs)) n (length bs - 64 * q)
    (flag + start_flag q + chunk_end + root)
