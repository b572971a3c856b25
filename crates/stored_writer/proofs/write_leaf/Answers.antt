-- `stored_writer::write_leaf` meets its contract: a refusal leaves the buffer, and the four fields, one after the other, fill its first bytes.
use mathlib.Core.Path.{refl}
use Rattle.order.proofs.Laws.{refuses, passes}
use Rattle.digest.specs.Digest.{digest_in, digest_length}
use Rattle.stored_writer.specs.Outcome.{leaf_outcome}
use Rattle.stored_writer.proofs.Fills.{leaf_filled}
use borrow.Author.Rules.{rules}
use Rattle.stored_writer.proofs.write_leaf.Goals as goal

pub returns-then-n-gt-LONGEST_RECORD : goal.returns-then-n-gt-LONGEST_RECORD
unfolding leaf_outcome
returns-then-n-gt-LONGEST_RECORD c = refuses 3 _ _ _ refl (search rules)

pub returns-then-out-length : goal.returns-then-out-length
unfolding leaf_outcome
returns-then-out-length c = refuses 6 _ _ _ refl (search rules)

pub returns : goal.returns
unfolding leaf_outcome
returns c =
    let a = c.args in
    passes _ _ _
    (leaf_filled (digest_in a.mode.now) a.rec.now a.out.now (digest_length a.mode.now a.rec.now) (search rules) c.digest_of-digest.ensures
    c.write_byte.ensures c.write_digest.ensures c.write4.ensures c.write_run.ensures)
    (search rules)
