-- BLAKE3 with 32 bytes of output, from its chunks on, in the order of its public specification. Words are numbers below 2 ^ 32, bytes below 256.
use Rattle.std.specs.Prelude.{List, ◌++◌, true, false, ◌&&◌, ℕ, zero, suc, ◌+◌, ◌*◌, ◌^◌, length, take, drop, replicate, leb, eqb}
use Rattle.compression.specs.Compression.{compressed, starting}
use Rattle.words.specs.Words.{bytes_of, words_of}
use Rattle.chunks.specs.Chunks.{chunked}

-- the flags PARENT, ROOT and KEYED_HASH
abbrev pub parent_node : ℕ
parent_node = 4

abbrev pub root_node : ℕ
root_node = 8

abbrev pub keyed_flag : ℕ
keyed_flag = 16

-- ---- The tree over the chunks. `key` and `flag` are the mode, as they are of a chunk

-- a parent: counter 0, length 64, over left then right chaining value
unfoldable pub parented : List ℕ → ℕ → ℕ → List ℕ → List ℕ → List ℕ
parented key flag root l r = compressed key (l ++ r) 0 64 (flag + parent_node + root)

-- the tree over at most 2 ^ h chunks, the first of number n: where there are more than 2 ^ (h - 1), these go left
unfoldable pub treed : ℕ → List ℕ → ℕ → ℕ → ℕ → List ℕ → List ℕ
treed zero key flag root n bs = chunked key flag root n bs
treed (suc h) key flag root n bs =
    elim (leb (length bs) (1024 * 2 ^ h)) [
      | true ↦ treed h key flag root n bs
      | false ↦ parented key flag root
          (treed h key flag 0 n (take (1024 * 2 ^ h) bs))
          (treed h key flag 0 (n + 2 ^ h) (drop (1024 * 2 ^ h) bs))
    ]

-- the tree over 4,096 bytes, four whole chunks of numbers below 2 ^ 54; zeros for other lengths and numbers
unfoldable pub treed4 : List ℕ → ℕ → ℕ → ℕ → List ℕ → List ℕ
treed4 key flag root n bs =
    elim (leb (n + 4) (2 ^ 54) && eqb (length bs) 4096) [ true ↦ treed 2 key flag root n bs | false ↦ replicate 8 0 ]

-- the tree over all chunks; a list of k bytes has at most 2 ^ k (`Rule` says this as the specification does)
unfoldable pub tree_of : List ℕ → ℕ → ℕ → ℕ → List ℕ → List ℕ
tree_of key flag root n bs = treed (length bs) key flag root n bs

-- ---- The digest in a mode: the root flag is on the last compression of all, and there only
unfoldable pub digested : List ℕ → ℕ → List ℕ → List ℕ
digested key flag bs = bytes_of (tree_of key flag root_node 0 bs)

-- the plain hash
unfoldable pub plain_hash : List ℕ → List ℕ
plain_hash bs = digested starting 0 bs

-- the keyed hash: the words of the key, 32 bytes, in place of the starting words, and its flag on every compression
unfoldable pub keyed_hash : List ℕ → List ℕ → List ℕ
keyed_hash key bs = digested (words_of 8 key) keyed_flag bs

-- ---- A mode as a number and a key: 0 is plain, and the key then means nothing; any other number is keyed
unfoldable pub hash_in : ℕ → List ℕ → List ℕ → List ℕ
hash_in zero key bs = plain_hash bs
hash_in (suc _) key bs = keyed_hash key bs
