-- Words of 32 bits and their bytes, little-endian.
use Rattle.std.specs.Prelude.{List, ℕ, ◌+◌, ◌*◌, ◌/◌, ◌%◌, ◌^◌, get_or}
use Rattle.words.specs.Build.{build}

-- the word at place i of bytes; a byte past the end is 0
unfoldable pub word_at : List ℕ → ℕ → ℕ
word_at bs i =
    get_or bs i 0 + 256 * get_or bs (i + 1) 0 + 65536 * get_or bs (i + 2) 0 + 16777216 * get_or bs (i + 3) 0

-- the first k words of bytes, padded with zeros
unfoldable pub words_of : ℕ → List ℕ → List ℕ
words_of k bs = build k (λ i. word_at bs (4 * i))

-- byte i of words
unfoldable pub byte_of : List ℕ → ℕ → ℕ
byte_of ws i = get_or ws (i / 4) 0 / 2 ^ (8 * (i % 4)) % 256

-- eight words as 32 bytes
unfoldable pub bytes_of : List ℕ → List ℕ
bytes_of ws = build 32 (byte_of ws)
