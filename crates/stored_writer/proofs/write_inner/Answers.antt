-- `stored_writer::write_inner` meets its contract: a refusal leaves the buffer, and flag and digest, one after the other, fill its first bytes.
use mathlib.Core.Path.{refl}
use Rattle.order.proofs.Laws.{refuses, passes}
use Rattle.stored_writer.specs.Outcome.{inner_outcome}
use Rattle.stored_writer.proofs.Fills.{inner_filled}
use borrow.Author.Rules.{rules}
use Rattle.stored_writer.proofs.write_inner.Goals as goal

pub returns-then-out-lt33 : goal.returns-then-out-lt33
unfolding inner_outcome
returns-then-out-lt33 c = refuses 6 _ _ _ refl (search rules)

pub returns : goal.returns
unfolding inner_outcome
returns c =
    let a = c.args in
    passes _ _ _ (inner_filled a.digest a.out.now (search rules) (search rules) c.write_byte.ensures c.write_digest.ensures) (search rules)
