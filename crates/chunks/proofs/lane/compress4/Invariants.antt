-- What each turn of the loops of `compress4` keeps.
use mathlib.Core.List.{List}
use Prim.Native.Nat.{ℕ, ◌+◌, ◌*◌}
use lib.ListN.{take, drop}
use Rattle.compression.specs.Compression.{compressed}
use Rattle.words.specs.Words.{words_of}
use Rattle.chunks.specs.Lanes.{lane_of}
use Rattle.words.proofs.Fill.{Fills}
use Rattle.chunks.proofs.Laned.{rule}
use Rattle.chunks.proofs.lane.compress4.Given as goal

-- what lane j comes to
abbrev pub lane_of_lem : List ℕ → List ℕ → ℕ → ℕ → ℕ → ℕ → List ℕ
lane_of_lem cv bytes at n flags j = compressed (lane_of cv j) (words_of 16 (take 64 (drop (1024 * j + at) bytes))) (n + j) 64 flags

abbrev pub invariant-loop-k : goal.invariant-loop-k
invariant-loop-k l = Fills (rule (lane_of_lem l.cv l.bytes l.at l.n l.flags)) 32 l.out (8 * l.k)

abbrev pub invariant-loop-i : goal.invariant-loop-i
invariant-loop-i l = Fills (rule (lane_of_lem l.cv l.bytes l.at l.n l.flags)) 32 l.out (8 * l.k + l.i)
