-- What `begin`, `add` and `end` answer, for every mode, state and part.
use Rattle.std.specs.Prelude.{List, [], ◌∷◌, ◌++◌, ℕ, zero, suc, ◌+◌, ◌^◌, length, Result}
use Rattle.compression.specs.Compression.{starting}
use Rattle.words.specs.Words.{words_of}
use Rattle.blake.specs.Blake.{keyed_flag}
use Rattle.order.specs.Order.{Refusal, ◌if◌, ◌above◌, verdict}
use Rattle.wire.specs.Slices.{zeros}
use Rattle.digest.specs.Modes.{number_in, key_in}
use Rattle.parts_rule.specs.Run.{run_after, taken, ended}
use Rattle.subtrees.specs.Counts.{count_order}
use Rattle.parts.specs.declared.Parts.{Parts}
use Rattle.refusals.specs.declared.Refused.{Refused}
use Rattle.refusals.specs.Numbers.{outcome_by}
use Rattle.digest.specs.declared.Digest.{Digest}
use Rattle.parts.specs.State.{start_of, flag_of, run_of, stored}

-- ---- The state that holds no byte

-- in the mode of a number and a key: 0 is plain, and a key then means nothing and is not kept; any other number is kept as 1
unfoldable pub begun_in : ℕ → List ℕ → Parts
begun_in zero key = stored 0 (zeros 8) (run_after starting 0 [])
begun_in (suc _) key = stored 1 (words_of 8 key) (run_after (words_of 8 key) keyed_flag [])

unfoldable pub begin_outcome : List ℕ → Parts
begin_outcome mode = begun_in (number_in mode) (key_in mode)

-- ---- A part more

-- 17: counts that no state has
abbrev pub state_order : Parts → List Refusal
state_order s = count_order s.total s.held s.stacked

-- 17 also for a part that would pass 2^40 bytes in all
abbrev pub add_order : Parts → List ℕ → List Refusal
add_order s part = state_order s ++ (17 if (s.total + length part) above 2 ^ 40 ∷ [])

-- the number, and the state there is then
pub record Added : Type 0 where
  pub number : ℕ
  pub state : Parts

-- a refusal hands back the state given
abbrev pub add_refused : Parts → ℕ → Added
add_refused s n = record { number = n; state = s }

-- no byte changes nothing; others are taken one after the other, the mode is kept, and the places that the new counts do not name are 0
unfoldable pub after : Parts → List ℕ → Parts
after s [] = s
after s (b ∷ bs) = stored s.keyed s.key (taken (start_of s) (flag_of s) (run_of s) (b ∷ bs))

unfoldable pub add_outcome : Parts → List ℕ → Added
add_outcome s part = verdict (add_refused s) (add_order s part) (record { number = 0; state = after s part })

-- what `add` answers on a state
abbrev pub added : Parts → Result Parts Refused → Added
added s = outcome_by (add_refused s) (λ state. record { number = 0; state = state })

-- ---- The digest

-- the number, and the digest
pub record Ended : Type 0 where
  pub number : ℕ
  pub digest : Digest

-- a refusal has none
abbrev pub end_refused : ℕ → Ended
end_refused n = record { number = n; digest = record { bytes = zeros 32 } }

unfoldable pub end_outcome : Parts → Ended
end_outcome s =
    verdict end_refused (state_order s) (record { number = 0; digest = record { bytes = ended (start_of s) (flag_of s) (run_of s) } })

-- what `end` answers
abbrev pub ended_in : Result Digest Refused → Ended
ended_in = outcome_by end_refused (λ digest. record { number = 0; digest = digest })
