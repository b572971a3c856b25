-- What counts of a state, how it takes a byte, and its digest, in a mode: `key` and `flag` are those of BLAKE3's definitions.
use Rattle.std.specs.Prelude.{true, false, List, [], ◌∷◌, ◌++◌, ℕ, ◌+◌, ◌-◌, ◌*◌, ◌/◌, length, drop, eqb}
use Rattle.std.specs.Int.Count.{ones}
use Rattle.compression.specs.Compression.{compressed}
use Rattle.words.specs.Words.{words_of, bytes_of}
use Rattle.chunks.specs.Chunks.{chunk_end, start_flag, chained, before}
use Rattle.blake.specs.Blake.{root_node}
use Rattle.parts_rule.specs.Subtrees.{finished, lefts_in, folded, pushed}

-- the finished subtrees, the chunk's chaining words, the bytes in the block, and how many bytes came in all
pub record Run : Type 0 where
  pub stack : List (List ℕ)
  pub chain : List ℕ
  pub block : List ℕ
  pub total : ℕ

-- of t bytes: those in the chunk that is not finished, and its blocks before the last
abbrev pub in_chunk : ℕ → ℕ
in_chunk t = t - 1024 * finished t

abbrev pub block_number : ℕ → ℕ
block_number t = (in_chunk t - 1) / 64

-- between two blocks: none is held
abbrev pub between : List (List ℕ) → List ℕ → ℕ → Run
between stack chain total = record { stack = stack; chain = chain; block = []; total = total }

-- bytes that fit are put behind those in the block
abbrev pub put : Run → List ℕ → Run
put r xs = record { stack = r.stack; chain = r.chain; block = r.block ++ xs; total = r.total + length xs }

module _ (key : List ℕ) (flag : ℕ) where
  -- the run after the bytes xs, at most 2^40 of them (2^30 chunks)
  unfoldable pub run_after : List ℕ → Run
  run_after xs =
      let t = length xs in
      record {
        stack = lefts_in key flag 30 0 xs;
        chain = chained key flag (finished t) (drop (1024 * finished t) xs) (block_number t);
        block = drop (64 * before t) xs;
        total = t;
      }

  -- the flags of the block, before its end is known
  abbrev pub opening : Run → ℕ
  opening r = flag + start_flag (block_number r.total)

  -- the block, compressed
  abbrev pub onward : Run → ℕ → List ℕ
  onward r flags = compressed r.chain (words_of 16 r.block) (finished r.total) (length r.block) flags

  -- a full block is compressed ..
  abbrev pub gone_on : Run → Run
  gone_on r = record { stack = r.stack; chain = onward r (opening r); block = []; total = r.total }

  -- .. and where it ends its chunk, the chunk's value goes on the stack: as many subtrees remain as the finished chunks have ones
  abbrev pub chunk_done : Run → Run
  chunk_done r =
      record {
        stack = pushed key flag (ones (finished r.total + 1) - 1) r.stack (onward r (opening r + chunk_end));
        chain = key;
        block = [];
        total = r.total;
      }

  unfoldable pub flushed : Run → Run
  flushed r = elim (eqb (in_chunk r.total) 1024) [ true ↦ chunk_done r | false ↦ gone_on r ]

  -- only when a byte follows
  unfoldable pub roomed : Run → Run
  roomed r = elim (eqb (length r.block) 64) [ true ↦ flushed r | false ↦ r ]

  -- bytes are taken one after the other
  unfoldable pub taken : Run → List ℕ → Run
  taken r [] = r
  taken r (b ∷ bs) = taken (put (roomed r) (b ∷ [])) bs

  -- the digest: the last block ends its chunk, and the root flag is on the last compression of all
  unfoldable pub ended : Run → List ℕ
  ended r = bytes_of (folded key flag root_node r.stack (λ root. onward r (opening r + chunk_end + root)))
