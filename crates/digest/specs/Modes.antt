-- The modes of the digest, and what a key is answered.
-- A mode is 36 bytes, as C lays out a number of 32 bits and a key: four bytes of the number, and 32 of the key. Number 0 is plain, and the key then
-- means nothing; any other is keyed. A number is 0 exactly where its four bytes are, so that their order means nothing.
use Rattle.std.specs.Prelude.{List, [], ◌∷◌, ◌++◌, ℕ, Result, length}
use Rattle.wire.specs.Numbers.{number}
use Rattle.wire.specs.Slices.{zeros, part}
use Rattle.order.specs.Order.{Refusal, ◌if◌, ◌is_not◌, verdict}
use Rattle.refusals.specs.declared.Refused.{Refused}
use Rattle.refusals.specs.Numbers.{outcome_by}

-- the number and the key of a mode
unfoldable pub number_in : List ℕ → ℕ
number_in mode = number (part 0 4 mode)

unfoldable pub key_in : List ℕ → List ℕ
key_in mode = part 4 32 mode

-- the plain mode
abbrev pub plain_mode : List ℕ
plain_mode = zeros 36

-- the keyed mode of a key
abbrev pub keyed_mode : List ℕ → List ℕ
keyed_mode key = (1 ∷ 0 ∷ 0 ∷ 0 ∷ []) ++ key

-- what a key is answered: the number, and the mode
pub record Moded : Type 0 where
  pub number : ℕ
  pub mode : List ℕ

-- a refusal: a mode that is not plain, under a key of zeros
abbrev pub key_refused : ℕ → Moded
key_refused number = record { number = number; mode = keyed_mode (zeros 32) }

-- a key that isn't 32 bytes
unfoldable pub key_order : List ℕ → List Refusal
key_order key = 24 if length key is_not 32 ∷ []

unfoldable pub key_answer : List ℕ → Moded
key_answer key = verdict key_refused (key_order key) (record { number = 0; mode = keyed_mode key })

-- a key that is taken: its mode
abbrev pub key_done : List ℕ → Moded
key_done mode = record { number = 0; mode = mode }

-- the outcome by the answer, the mode or why there is none
abbrev pub moded : Result (List ℕ) Refused → Moded
moded r = outcome_by key_refused key_done r
