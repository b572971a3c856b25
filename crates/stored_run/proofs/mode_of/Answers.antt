-- `stored_run::mode_of` has a key of 32 bytes, so that there is a mode.
use mathlib.Core.Path.{◌≡◌, refl}
use mathlib.Core.List.{List}
use Prim.Native.Nat.{ℕ}
use native.Mathlib.Omega.{arith}
use lib.ListN.{length}
use lib.Seq.{take_all}
use Rattle.std.specs.Prelude.{Result, Ok, Err}
use Rattle.std.specs.Result.{IsOk}
use Rattle.refusals.specs.declared.Refused.{Refused}
use Rattle.digest.specs.Modes.{moded, key_answer}
use Rattle.digest.proofs.UnderKey.{key_there}
use Rattle.stored_run.proofs.mode_of.Goals as goal

there : (key : List ℕ) (r : Result (List ℕ) Refused) → length key ≡ 32 → moded r ≡ key_answer key → IsOk r
there key (Ok mode) n e = refl
there key (Err why) n e = absurd (key_there (λ d b. 0) key {k = Err why} {why = why} (omega arith) (rw (take_all 32 key (omega arith)) e) refl)

pub unwrap-requires : goal.unwrap-requires
unwrap-requires c = there _ c.keyed.result refl c.keyed.ensures
