-- `passage_root::record_digest` meets its contract: a record's digest stands where its number says, and past the last place there are zeros.
use mathlib.Core.Path.{refl, sym, ◌∙◌}
use native.Mathlib.Omega.{arith}
use Rattle.digest.specs.Digest.{digest_in, digest_length}
use Rattle.passage_root.proofs.Hashed.{leaf_in_lem, leaf_out}
use Rattle.passage_root.proofs.record_digest.Goals as goal
use Rattle.passage_root.proofs.record_digest.Goals.{else-k-places-via-then-k-places+else-k, else-k-places-via-else-k-places}

pub returns-then-k : goal.returns-then-k
returns-then-k c =
    let a = c.args in
    record {
      asked = refl;
      used = refl;
      digest =
          c.leaf_at-digest.ensures
          ∙ sym (leaf_in_lem (digest_in a.mode.now) (digest_length a.mode.now) a.letter.now a.places.now a.k
          (omega arith) (omega arith));
    }

pub returns-else-k-places : goal.returns-else-k-places
returns-else-k-places c =
    let a = c.args in
    record {
      asked = refl;
      used = refl;
      digest =
          sym (leaf_out (digest_in a.mode.now) (digest_length a.mode.now) a.letter.now a.places.now a.k
          (λ p q. elim c.else-k-places.branch [ else-k-places-via-then-k-places+else-k w ↦ omega arith | else-k-places-via-else-k-places w ↦ omega arith ]));
    }
