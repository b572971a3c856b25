-- What the digest is, for this crate's own proofs: a crate above cannot name what stands on the left.
use Rattle.std.specs.Prelude.{◌≡◌, refl, List, ℕ}
use Rattle.blake.specs.Blake.{hash_in}
use Rattle.digest.specs.Modes.{number_in, key_in}
use Rattle.digest.specs.Digest.{digest_in}

pub opened : (mode bs : List ℕ) → hash_in (number_in mode) (key_in mode) bs ≡ digest_in mode bs
unfolding digest_in
opened mode bs = refl
