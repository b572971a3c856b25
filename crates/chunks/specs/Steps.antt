-- What the code's own step is called, which no public contract cites: four compressions side by side.
use Rattle.std.specs.Prelude.{List, ℕ, ◌+◌, ◌*◌, take, drop}
use Rattle.compression.specs.Compression.{compressed}
use Rattle.words.specs.Words.{words_of}
use Rattle.chunks.specs.Lanes.{lane_of, laned}

-- lane k goes on by the block at place `at` of chunk k, whose number is n + k
unfoldable pub compressed4 : List ℕ → List ℕ → ℕ → ℕ → ℕ → List ℕ
compressed4 cv bs at n flags =
    laned (λ k. compressed (lane_of cv k) (words_of 16 (take 64 (drop (1024 * k + at) bs))) (n + k) 64 flags)
