-- How the calls for numbers, append and root follow from the calls below them.
use mathlib.Core.Path.{◌≡◌, refl, sym, ap, ◌∙◌}
use mathlib.Core.List.{List}
use Prim.Native.Nat.{ℕ, ◌<◌}
use native.Mathlib.Omega.{arith}
use lib.ListN.{length}
use Rattle.std.specs.Prelude.{Result, Ok, Err}
use Rattle.refusals.specs.declared.Refused.{Refused}
use Rattle.refusals.specs.Numbers.{number_of, number_in}
use Rattle.refusals.proofs.Laws.{number_above}
use Rattle.digest.specs.declared.Digest.{Digest}
use Rattle.digest.specs.Digest.{digest_in}
use Rattle.shape.specs.Answers.{Answer, answered as told}
use Rattle.wire.specs.Slices.{zeros}
use Rattle.evidence_log.specs.declared.Appended.{Appended}
use Rattle.evidence_log.specs.Outcome.{appended, rooted, RootOutcome, root_outcome}
use Rattle.kept.specs.Kept.{value_or, Filled, filled, handed, or_kept}
use Rattle.keeper.specs.Calls.{answered, over, append_left, append_over, Grown, root_call}
use Rattle.kept.proofs.Kept.{kept_done, kept_left}
use Rattle.kept.proofs.Handed.{handed_short}

-- ---- Sizes, positions, counts

-- a number that there is goes behind the pointer, and a refusal leaves what was there
number_put : (old : ℕ) (r : Result ℕ Refused) → answered (number_in r) (value_or old r) ≡ over old (told r)
unfolding over
number_put old (Ok v) = sym (kept_done 0 (answered 0 v) (answered 0 old) refl)
number_put old (Err why) =
    sym (kept_left (number_of why) (told (Err why)) (answered (number_of why) old) (λ z. omega (arith, number_above why, z)))

pub answer_put : (old : ℕ) (r : Result ℕ Refused) {a : Answer} → told r ≡ a → answered (number_in r) (value_or old r) ≡ over old a
answer_put old r e = number_put old r ∙ ap (over old) e

-- ---- Append

-- a done append, of one record or of many, puts its two results behind the pointers, and a refusal leaves what was there
pub append_done_lem : (old_size old_hashes : ℕ) (a : Appended) → Grown (Ok a) old_size old_hashes 0 a.size a.hashes
unfolding append_over
append_done_lem old_size old_hashes a size bs = sym (kept_done 0 (appended size (Ok a) bs) (append_left 0 old_size old_hashes bs) refl)

pub append_refused_lem : (old_size old_hashes : ℕ) (why : Refused) → Grown (Err why) old_size old_hashes (number_of why) old_size old_hashes
unfolding append_over
append_refused_lem old_size old_hashes why size bs =
    sym (kept_left (number_of why) (appended size (Err why) bs) (append_left (number_of why) old_size old_hashes bs)
    (λ z. omega (arith, number_above why, z)))

-- ---- Root

module _ (mode : List ℕ) (size : ℕ) (bs out : List ℕ) where
  abbrev after : RootOutcome → Filled
  after o = or_kept o.number (handed o.root out) (filled o.number out)

  -- the log refuses; a root is handed out; there is no room for it
  pub root_refused_lem : {r : Result Digest Refused} {why : Refused} → rooted r ≡ root_outcome (digest_in mode) size bs → r ≡ Err why
      → filled (number_of why) out ≡ root_call mode size bs out
  unfolding root_call
  root_refused_lem {why = why} e f =
      sym (kept_left (number_of why) (handed (zeros 32) out) (filled (number_of why) out) (λ z. omega (arith, number_above why, z)))
      ∙ ap after (sym (ap rooted f) ∙ e)

  pub root_done_lem : {r : Result Digest Refused} {d : Digest} {y : Filled} → rooted r ≡ root_outcome (digest_in mode) size bs → r ≡ Ok d
      → y ≡ handed d.bytes out → y ≡ root_call mode size bs out
  unfolding root_call
  root_done_lem {d = d} e f h = h ∙ sym (kept_done 0 (handed d.bytes out) (filled 0 out) refl) ∙ ap after (sym (ap rooted f) ∙ e)

  pub root_short : {r : Result Digest Refused} {d : Digest} → rooted r ≡ root_outcome (digest_in mode) size bs → r ≡ Ok d → length out < 32
      → filled 6 out ≡ root_call mode size bs out
  root_short {d = d} e f h = root_done_lem e f (handed_short d.bytes out h)
