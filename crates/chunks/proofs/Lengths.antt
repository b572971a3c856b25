-- How long chaining words are.
use mathlib.Core.Path.{◌≡◌}
use mathlib.Core.List.{List}
use Prim.Native.Nat.{ℕ, zero, suc}
use lib.ListN.{length}
use Rattle.compression.proofs.Lengths.{compressed_length}
use Rattle.chunks.specs.Chunks.{chained, chunked}

pub chained_length : (key : List ℕ) (flag n : ℕ) (bs : List ℕ) (i : ℕ) → length key ≡ 8 → length (chained key flag n bs i) ≡ 8
unfolding chained
chained_length key flag n bs zero e = e
chained_length key flag n bs (suc i) e = compressed_length _ _ _ _ _

pub chunked_length : (key : List ℕ) (flag root n : ℕ) (bs : List ℕ) → length (chunked key flag root n bs) ≡ 8
unfolding chunked
chunked_length key flag root n bs = compressed_length _ _ _ _ _
