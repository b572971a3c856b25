-- What `chunk4` answers where there are four whole chunks, and where there are not.
use mathlib.Core.Path.{◌≡◌}
use mathlib.Core.Logic.{by_cases}
use mathlib.Core.List.{List}
use Prim.Native.Nat.{ℕ, ◌+◌, ◌^◌, ◌≤◌}
use native.Mathlib.Decide.{dec_le}
use native.Mathlib.Omega.{arith}
use borrow.Author.Tests.{eq-eqb, ne_eqb, le-leb, lt-leb}
use lib.ListN.{length, replicate}
use Rattle.chunks.specs.Chunks.{chunked}
use Rattle.chunks.specs.Lanes.{laned, chunk_in, chunked4}

module _ (key : List ℕ) (flag n : ℕ) (bs : List ℕ) where
  pub chunked4_done : n + 4 ≤ 2 ^ 54 → length bs ≡ 4096 → laned (λ k. chunked key flag 0 (n + k) (chunk_in bs k)) ≡ chunked4 key flag n bs
  unfolding chunked4
  chunked4_done l e = rw (le-leb (n + 4) (2 ^ 54) l, eq-eqb (length bs) 4096 e, chunked4)

  pub chunked4_none : (n + 4 ≤ 2 ^ 54 → length bs ≡ 4096 → ⊥) → replicate 32 0 ≡ chunked4 key flag n bs
  unfolding chunked4
  chunked4_none h =
      by_cases (dec_le (n + 4) (2 ^ 54))
      (λ l. rw (le-leb (n + 4) (2 ^ 54) l, ne_eqb (length bs) 4096 (h l), chunked4))
      (λ l. rw (lt-leb (n + 4) (2 ^ 54) (omega arith), chunked4))
