-- Two digests: their 64 bytes are sixteen words, and one compression with chunk start, chunk end and root is their digest.
use mathlib.Core.Path.{◌≡◌, refl, ap, ap₂, ◌∙◌}
use mathlib.Core.List.{List, ◌++◌}
use Prim.Native.Nat.{ℕ, ◌+◌, ◌-◌, ◌*◌, ◌/◌}
use native.Mathlib.Omega.{arith}
use lib.ListN.{length, drop, length-append}
use Rattle.compression.specs.Compression.{compressed}
use Rattle.words.specs.Words.{words_of, bytes_of}
use Rattle.chunks.specs.Chunks.{start_flag, chained, before, chunked}
use Rattle.blake.specs.Blake.{digested}
use Rattle.words.proofs.Blocks.{words_joined}
use Rattle.blake.proofs.Sides.{tree_chunk, tree_enough}

-- a whole block by itself is one compression
one_block : (key : List ℕ) (flag : ℕ) (bs : List ℕ) → length bs ≡ 64 → compressed key (words_of 16 bs) 0 64 (flag + 11) ≡ chunked key flag 8 0 bs
unfolding chunked before chained start_flag
one_block key flag bs e =
    let q : 0 ≡ (length bs - 1) / 64 = omega arith in
    let r : 64 ≡ length bs - 64 * ((length bs - 1) / 64) = omega arith in
    ap (compressed key (words_of 16 bs) 0 64) (let z : flag + 11 ≡ flag + 1 + 2 + 8 = omega arith in z)
    ∙ ap₂ (λ (j len : ℕ). compressed (chained key flag 0 bs j) (words_of 16 (drop (64 * j) bs)) 0 len (flag + start_flag j + 2 + 8)) q r

block_digest : (key : List ℕ) (flag : ℕ) (bs : List ℕ) → length bs ≡ 64 → bytes_of (compressed key (words_of 16 bs) 0 64 (flag + 11)) ≡ digested key flag bs
unfolding digested
block_digest key flag bs e =
    ap bytes_of (one_block key flag bs e ∙ tree_chunk 0 key flag 8 0 bs refl ∙ tree_enough key flag 8 0 bs 0 (omega arith))

pub pair_digest : (key : List ℕ) (flag : ℕ) (l r : List ℕ) → length l ≡ 32 → length r ≡ 32
    → bytes_of (compressed key (words_of 8 l ++ words_of 8 r) 0 64 (flag + 11)) ≡ digested key flag (l ++ r)
pair_digest key flag l r hl hr =
    ap (λ (m : List ℕ). bytes_of (compressed key m 0 64 (flag + 11))) (words_joined l r hl hr)
    ∙ block_digest key flag (l ++ r) (length-append l r ∙ ap₂ ◌+◌ hl hr)
