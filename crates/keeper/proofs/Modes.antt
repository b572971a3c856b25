-- How the call that makes a keyed mode follows from the digest's.
use mathlib.Core.Path.{◌≡◌, refl, sym, ap, ◌∙◌}
use mathlib.Core.List.{List}
use Prim.Native.Nat.{ℕ}
use native.Mathlib.Omega.{arith}
use Rattle.std.specs.Prelude.{Result, Ok, Err}
use Rattle.refusals.specs.declared.Refused.{Refused}
use Rattle.refusals.specs.Numbers.{number_in}
use Rattle.refusals.proofs.Laws.{number_above}
use Rattle.digest.specs.Modes.{Moded, moded, key_answer}
use Rattle.kept.specs.Kept.{value_or, filled, or_kept}
use Rattle.kept.proofs.Kept.{kept_done, kept_left}
use Rattle.keeper.specs.Modes.{keyed_call}

-- what is put behind the pointer: the mode of a key that is taken; a refusal leaves what was there
put_keyed : (old : List ℕ) (r : Result (List ℕ) Refused) → filled (number_in r) (value_or old r) ≡ or_kept (moded r).number (filled 0 (moded r).mode) (filled (moded r).number old)
put_keyed old (Ok mode) = sym (kept_done _ _ _ refl)
put_keyed old (Err why) = sym (kept_left _ _ _ (λ z. omega (arith, number_above why, z)))

pub key_put : (key old : List ℕ) (r : Result (List ℕ) Refused) → moded r ≡ key_answer key → filled (number_in r) (value_or old r) ≡ keyed_call key old
unfolding keyed_call
key_put key old r e = put_keyed old r ∙ ap (λ (a : Moded). or_kept a.number (filled 0 a.mode) (filled a.number old)) e
