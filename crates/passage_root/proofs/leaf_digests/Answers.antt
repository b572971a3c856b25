-- `passage_root::leaf_digests` meets its contract: the digests of the first k records are written.
use mathlib.Core.Logic.{by_cases}
use mathlib.Core.Path.{ap, ◌∙◌}
use Prim.Native.Nat.{ℕ}
use native.Mathlib.Decide.{dec_le}
use native.Mathlib.Numerals.{add-one}
use native.Mathlib.Omega.{arith}
use lib.ListN.{length, length-take}
use lib.Seq.{get_or-take}
use Rattle.digest.specs.Digest.{digest_in, digest_length}
use Rattle.passage.specs.Bytes.{record_at}
use Rattle.passage_root.proofs.Hashed.{leaves_none, leaves_more, leaves_all, leaves_most}
use Rattle.passage_root.proofs.leaf_digests.Goals as goal

pub loop-k-init : goal.loop-k-init
loop-k-init c =
    let a = c.args in
    leaves_none (digest_in a.mode.now) (digest_length a.mode.now) a.letter.now a.places.now

pub loop-k-preserved : goal.loop-k-preserved
loop-k-preserved c =
    let a = c.args in
    let k = c.loop-k.k in
    let n = length-take c.min.result a.places.now in
    let e = c.leaf_at.ensures ∙ ap (λ (at : ℕ). digest_in a.mode.now (record_at a.letter.now at)) (get_or-take c.min.result a.places.now k 0 (omega arith)) in
    let w = leaves_more (digest_in a.mode.now) (digest_length a.mode.now) a.letter.now a.places.now k
    (omega arith) (omega arith) c.loop-k.invariant e in
    c.write_digest.ensures ∙ rw (add-one k) w

-- as many as there are, or 256
pub returns : goal.returns
returns c =
    let a = c.args in
    let k = c.loop-k.k in
    let n = length-take c.min.result a.places.now in
    c.loop-k.invariant
    ∙ by_cases (dec_le (length a.places.now) k)
    (λ h. leaves_all (digest_in a.mode.now) (digest_length a.mode.now) a.letter.now a.places.now k h)
    (λ h. leaves_most (digest_in a.mode.now) (digest_length a.mode.now) a.letter.now a.places.now k (omega arith))
