-- The finished subtrees of bytes that may go on, and how they are folded: the tree is the same as BLAKE3's (`tree_folded`).
use Rattle.std.specs.Prelude.{true, false, List, [], ◌∷◌, ◌++◌, ℕ, zero, suc, ◌+◌, ◌-◌, ◌*◌, ◌/◌, ◌^◌, length, take, drop, leb}
use Rattle.chunks.specs.Chunks.{chunked}
use Rattle.blake.specs.Blake.{parented, treed}

-- how many chunks of t bytes are finished: a chunk is when more follows it
abbrev pub finished : ℕ → ℕ
finished t = (t - 1) / 1024

module _ (key : List ℕ) (flag : ℕ) where
  -- the left sides on the way from the root of at most 2^h chunks, the first of number n, to the last chunk
  unfoldable pub lefts_in : ℕ → ℕ → List ℕ → List (List ℕ)
  lefts_in zero n bs = []
  lefts_in (suc h) n bs =
      elim (leb (length bs) (1024 * 2 ^ h)) [
        | true ↦ lefts_in h n bs
        | false ↦ treed h key flag 0 n (take (1024 * 2 ^ h) bs) ∷ lefts_in h (n + 2 ^ h) (drop (1024 * 2 ^ h) bs)
      ]

  -- the last chunk, which is not finished
  abbrev pub last_chunk : ℕ → List ℕ → ℕ → List ℕ
  last_chunk n bs root = chunked key flag root (n + finished (length bs)) (drop (1024 * finished (length bs)) bs)

  -- subtrees and what is right of them: a parent for each, from the last to the first, which has the root flag if one is given
  unfoldable pub folded : ℕ → List (List ℕ) → (ℕ → List ℕ) → List ℕ
  folded root [] last = last root
  folded root (l ∷ ls) last = parented key flag root l (folded 0 ls last)

  -- a chunk's value v on the stack: k subtrees remain, and those behind them are folded with v
  abbrev pub pushed : ℕ → List (List ℕ) → List ℕ → List (List ℕ)
  pushed k ls v = take k ls ++ (folded 0 (drop k ls) (λ root. v) ∷ [])
