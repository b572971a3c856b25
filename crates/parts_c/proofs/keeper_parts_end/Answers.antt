-- What the end answers, then 6, and the digest over the first 32 bytes where it is done.
use native.Mathlib.Omega.{arith}
use lib.ListN.{length}
use borrow.Author.Rules.{rules}
use Rattle.std.proofs.Common.{◌≡◌, ℕ, ap, ◌∙◌}
use Rattle.kept.specs.Kept.{filled}
use Rattle.kept.proofs.Handed.{handed_number}
use Rattle.parts_c.proofs.Parts.{end_refused_lem, end_handed}
use Rattle.parts_c.proofs.keeper_parts_end.Goals as goal

pub returns-in-Ok : goal.returns-in-Ok
returns-in-Ok c =
    let full : length c.in-Ok.digest.bytes ≡ 32 = search rules in
    ap (λ (n : ℕ). filled n c.hand.new.out) (omega (arith, handed_number _ _ full c.hand.ensures))
    ∙ end_handed _ c.args.out.now c.end.ensures c.in-Ok.is c.hand.ensures

pub returns-in-Err : goal.returns-in-Err
returns-in-Err c =
    ap (λ (n : ℕ). filled n c.args.out.now) c.from.ensures
    ∙ end_refused_lem c.args.state.now c.args.out.now c.end.ensures c.in-Err.is
