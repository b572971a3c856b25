-- `letter_checker::record_in` meets its contract: the record lies within the letter, where the check says.
use mathlib.Core.Path.{◌≡◌, refl, sym, ap, ◌∙◌}
use mathlib.Core.List.{List}
use Prim.Native.Nat.{ℕ, ◌+◌, ◌≤◌}
use native.Mathlib.Omega.{arith}
use lib.ListN.{length}
use Rattle.std.specs.Prelude.{Result, Ok}
use Rattle.refusals.specs.declared.Refused.{Refused}
use Rattle.wire.specs.Slices.{part}
use Rattle.wire.specs.Lent.{part_of}
use Rattle.wire.proofs.Lent.{slice_part, lent_part}
use Rattle.digest.specs.Digest.{digest_in}
use Rattle.letter.specs.declared.Fields.{Fields}
use Rattle.letter_checker.specs.Outcome.{CheckOutcome, checked, check_outcome}
use Rattle.letter_checker.proofs.Accepted.{record_within}
use borrow.Author.Rules.{rules}
use Rattle.letter_checker.proofs.record_in.Goals as goal

-- it ends within the letter
within : (digest : List ℕ → List ℕ) (size : ℕ) (root letter : List ℕ) {r : Result Fields Refused} {f : Fields}
    → checked r ≡ check_outcome digest size root letter → r ≡ Ok f → f.start + f.length ≤ length letter
within digest size root letter e w =
    let g = sym (ap checked w) ∙ e in
    rw (ap (λ (o : CheckOutcome). o.start) g, ap (λ (o : CheckOutcome). o.length) g)
    (record_within digest size root letter)

pub overflow_add-result : goal.overflow_add-result
overflow_add-result c =
    let a = c.args in
    let w = within (digest_in a.mode.now) a.size a.root.now a.letter.now c.check.ensures c.in-Ok.is in search rules

pub slice_bounds-result-end : goal.slice_bounds-result-end
slice_bounds-result-end c =
    let a = c.args in
    let w = within (digest_in a.mode.now) a.size a.root.now a.letter.now c.check.ensures c.in-Ok.is in omega arith

pub returns-in-Ok : goal.returns-in-Ok
returns-in-Ok c =
    let a = c.args in
    let f = c.in-Ok.c in
    let w = within (digest_in a.mode.now) a.size a.root.now a.letter.now c.check.ensures c.in-Ok.is in
    lent_part a.letter f.start f.length _ _ (slice_part f.start f.length a.letter.now w) (omega arith)
    ∙ ap (λ (o : CheckOutcome). part_of o.start o.length a.letter) (sym (ap checked c.in-Ok.is) ∙ c.check.ensures)

pub returns-in-Err : goal.returns-in-Err
unfolding part
returns-in-Err c =
    lent_part c.args.letter 0 0 _ _ refl (omega arith)
    ∙ ap (λ (o : CheckOutcome). part_of o.start o.length c.args.letter) (sym (ap checked c.in-Err.is) ∙ c.check.ensures)
