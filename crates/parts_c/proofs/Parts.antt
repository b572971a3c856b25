-- How the calls for a digest in parts, as C sees them, follow from the calls below them.
use mathlib.Core.Path.{◌≡◌, refl, sym, ap, ◌∙◌}
use mathlib.Core.List.{List}
use Prim.Native.Nat.{ℕ}
use native.Mathlib.Omega.{arith}
use Rattle.std.specs.Prelude.{Result, Ok, Err}
use Rattle.refusals.specs.declared.Refused.{Refused}
use Rattle.refusals.specs.Numbers.{number_of, number_in}
use Rattle.refusals.proofs.Laws.{number_above}
use Rattle.digest.specs.declared.Digest.{Digest}
use Rattle.parts.specs.declared.Parts.{Parts}
use Rattle.parts.specs.Answers.{Added, added, add_outcome, Ended, ended_in, end_outcome}
use Rattle.kept.specs.Kept.{value_or, Filled, filled, handed, or_kept}
use Rattle.kept.proofs.Kept.{kept_done, kept_left}
use Rattle.parts_c.specs.Parts.{parts_left, add_call, end_call}

-- a state that there is goes behind the pointer, and a refusal leaves what was there
state_put : (s : Parts) (r : Result Parts Refused) → parts_left (number_in r) (value_or s r) ≡ parts_left (added s r).number (added s r).state
state_put s (Ok next) = refl
state_put s (Err why) = refl

pub part_put : (s : Parts) (part : List ℕ) (r : Result Parts Refused) → added s r ≡ add_outcome s part → parts_left (number_in r) (value_or s r) ≡ add_call s part
unfolding add_call
part_put s part r e = state_put s r ∙ ap (λ (o : Added). parts_left o.number o.state) e

module _ (state : Parts) (out : List ℕ) where
  abbrev after : Ended → Filled
  after o = or_kept o.number (handed o.digest.bytes out) (filled o.number out)

  -- the end refuses; a digest is handed out
  pub end_refused_lem : {r : Result Digest Refused} {why : Refused} → ended_in r ≡ end_outcome state → r ≡ Err why → filled (number_of why) out ≡ end_call state out
  unfolding end_call
  end_refused_lem {why = why} e f = sym (kept_left _ _ _ (λ z. omega (arith, number_above why, z))) ∙ ap after (sym (ap ended_in f) ∙ e)

  pub end_handed : {r : Result Digest Refused} {d : Digest} {y : Filled} → ended_in r ≡ end_outcome state → r ≡ Ok d → y ≡ handed d.bytes out
      → y ≡ end_call state out
  unfolding end_call
  end_handed e f h = h ∙ sym (kept_done _ _ _ refl) ∙ ap after (sym (ap ended_in f) ∙ e)
