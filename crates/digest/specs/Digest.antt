-- The promise of the digest: for every mode a function from bytes to 32 bytes. Its name is shut: a crate above has the laws here, and no more.
use Rattle.std.specs.Prelude.{◌≡◌, List, ℕ, ◌<◌, length, get_or}
use Rattle.std.proofs.Common.{ap}
use Rattle.blake.specs.Blake.{hash_in}
use Rattle.blake.proofs.Lengths.{hash_length, hash_byte}
use Rattle.wire.specs.Numbers.{number}
use Rattle.wire.specs.Slices.{part}
use Rattle.digest.specs.Modes.{number_in, key_in, plain_mode}
pub mod Inside

-- the digest of bytes in a mode: BLAKE3, the plain hash for number 0, and the keyed hash under the mode's key for any other
pub digest_in : List ℕ → List ℕ → List ℕ
digest_in mode bs = hash_in (number_in mode) (key_in mode) bs

-- the plain digest
abbrev pub digest_of : List ℕ → List ℕ
digest_of bs = digest_in plain_mode bs

-- a digest is 32 bytes
pub digest_length : (mode bs : List ℕ) → length (digest_in mode bs) ≡ 32
unfolding digest_in
digest_length mode bs = hash_length (number_in mode) (key_in mode) bs

-- each below 256
pub digest_byte : (mode bs : List ℕ) (k : ℕ) → get_or (digest_in mode bs) k 0 < 256
unfolding digest_in
digest_byte mode bs k = hash_byte (number_in mode) (key_in mode) bs k

-- the plain digest is that of every mode with number 0, whatever its key
pub digest_plain : (mode : List ℕ) → number_in mode ≡ 0 → (bs : List ℕ) → digest_in mode bs ≡ digest_of bs
unfolding digest_in hash_in number_in number part
digest_plain mode e bs = ap (λ (n : ℕ). hash_in n (key_in mode) bs) e
