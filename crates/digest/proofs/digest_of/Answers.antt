-- The promise is kept by BLAKE3's hash of the slice under the mode's number and key.
use mathlib.Core.Path.{ap₂, ◌∙◌}
use mathlib.Core.List.{List}
use Prim.Native.Nat.{ℕ}
use Rattle.blake.specs.Blake.{hash_in}
use Rattle.digest.specs.Digest.Inside.{opened}
use Rattle.digest.proofs.digest_of.Goals as goal

pub returns : goal.returns
returns c =
    let a = c.args in
    let m = c.apart-number.ensures in
    c.hash.ensures
    ∙ ap₂ (λ (n : ℕ) (k : List ℕ). hash_in n k a.bytes.now) m.0 m.1
    ∙ opened a.mode.now a.bytes.now
