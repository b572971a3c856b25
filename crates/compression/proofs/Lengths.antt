-- How long the result of a compression is.
use Rattle.std.proofs.Common.{◌≡◌, ℕ, List, length}
use Rattle.words.proofs.Builds.{build_length}
use Rattle.compression.specs.Compression.{compressed, halved}

pub compressed_length : (cv m : List ℕ) (n len flags : ℕ) → length (compressed cv m n len flags) ≡ 8
unfolding compressed halved
compressed_length cv m n len flags = build_length 8 _
