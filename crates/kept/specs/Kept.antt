-- What a call for C leaves behind its pointers: what the call below gives where it is done, and what was there where it refuses.
use Rattle.std.specs.Prelude.{true, false, List, [], ◌∷◌, ℕ, Result, Ok, Err, eqb, length}
use Rattle.refusals.specs.declared.Refused.{Refused}
use Rattle.order.specs.Order.{Refusal, ◌if◌, ◌under◌, verdict}
use Rattle.wire.specs.Slices.{splice}
use Rattle.wire.specs.Writers.{WriteOutcome}

-- `done` where the call below has the number 0, and `kept` where it refuses
unfoldable pub or_kept : {X : Type 0} → ℕ → X → X → X
or_kept number done kept = elim (eqb number 0) [ true ↦ done | false ↦ kept ]

-- the value of an answer, and where there is none what was there
abbrev pub value_or : {T : Type 0} → T → Result T Refused → T
value_or old (Ok value) = value
value_or old (Err why) = old

-- ---- a digest written out

-- the number, and the output buffer at return
pub record Filled : Type 0 where
  pub number : ℕ
  pub bytes : List ℕ

abbrev pub filled : ℕ → List ℕ → Filled
filled number bs = record { number = number; bytes = bs }

-- 6: a digest wants 32 bytes
abbrev pub out_order : List ℕ → List Refusal
out_order out = 6 if length out under 32 ∷ []

-- a digest, in the first 32 bytes of the output
unfoldable pub handed : List ℕ → List ℕ → Filled
handed digest out = verdict (λ number. filled number out) (out_order out) (filled 0 (splice 0 digest out))

-- ---- a writer

-- the number, the length behind its pointer, and the output buffer, at return
abbrev pub write_left : ℕ → ℕ → List ℕ → WriteOutcome
write_left number length bs = record { number = number; length = length; bytes = bs }

-- the length variable held `old`
unfoldable pub write_call : WriteOutcome → ℕ → WriteOutcome
write_call o old = or_kept o.number o (write_left o.number old o.bytes)
