-- The laws of a key before an input, whatever is judged behind it.
use mathlib.Core.Path.{◌≡◌, sym, ap, ap₂, ◌∙◌}
use mathlib.Core.Logic.{by_cases}
use mathlib.Core.List.{List, ◌++◌}
use Prim.Native.Nat.{ℕ, ◌+◌, ◌-◌, ◌≤◌, ◌<◌}
use native.Mathlib.Decide.{dec_lt}
use native.Mathlib.Omega.{arith}
use borrow.Author.Tests.{lt-ltb, le-ltb}
use lib.ListN.{length, take, drop}
use lib.Seq.{length-take-le, take_all, take-add, take_at, drop_at}
use Rattle.wire.proofs.Lists.{rest_all}
use Rattle.std.specs.Prelude.{Result, Ok, Err}
use Rattle.refusals.specs.declared.Refused.{Refused}
use Rattle.refusals.proofs.Laws.{number_above}
use Rattle.digest.specs.Modes.{Moded, keyed_mode, moded, key_answer}
use Rattle.digest.specs.Digest.{digest_in}
use Rattle.digest.specs.UnderKey.{under_key}
use Rattle.digest.proofs.Keys.{key_taken}

module _ (judged : (List ℕ → List ℕ) → List ℕ → ℕ) where
  -- the number under the key that is there
  under_taken : (input : List ℕ) → 32 ≤ length input → under_key judged input ≡ judged (digest_in (keyed_mode (take 32 input))) (drop 32 input)
  unfolding under_key
  under_taken input h = rw (le-ltb (length input) 32 h, under_key)

  pub under_short : (input : List ℕ) → length input < 32 → under_key judged input ≡ 24
  unfolding under_key
  under_short input h = rw (lt-ltb (length input) 32 h, under_key)

  -- 32 bytes are a key
  pub key_there : (input : List ℕ) {k : Result (List ℕ) Refused} {why : Refused} → 32 ≤ length input → moded k ≡ key_answer (take 32 input)
      → k ≡ Err why → ⊥
  key_there input {k} {why} h e f =
      let n : length (take 32 input) ≡ 32 = length-take-le 32 input h in
      absurd (omega (arith, number_above why, ap (λ (a : Moded). a.number) (sym (ap moded f) ∙ e ∙ key_taken (take 32 input) n)))

  -- what is judged of the rest in the mode that the key is answered with, as slices give the two
  pub under_read : (input : List ℕ) {k : Result (List ℕ) Refused} {mode : List ℕ} {r : ℕ} → 32 ≤ length input
      → moded k ≡ key_answer (take 32 input) → k ≡ Ok mode
      → r ≡ judged (digest_in mode) (take (length input - 32) (drop 32 input)) → r ≡ under_key judged input
  under_read input {k} {mode} h e g f =
      let n : length (take 32 input) ≡ 32 = length-take-le 32 input h in
      f
      ∙ ap₂ (λ (m x : List ℕ). judged (digest_in m) x)
      (ap (λ (a : Moded). a.mode) (sym (ap moded g) ∙ e ∙ key_taken (take 32 input) n)) (rest_all 32 input)
      ∙ sym (under_taken input h)

  -- where the first k bytes are enough to be judged, 32 more are enough with a key before them
  pub under_front : (k : ℕ) → ((digest : List ℕ → List ℕ) (input : List ℕ) → judged digest (take k input) ≡ judged digest input)
      → (input : List ℕ) → under_key judged (take (32 + k) input) ≡ under_key judged input
  under_front k enough input =
      by_cases (dec_lt (32 + k) (length input))
      (λ h.
      let l : length (take (32 + k) input) ≡ 32 + k = length-take-le (32 + k) input (omega arith) in
      let t : take (32 + k) input ≡ take 32 input ++ take k (drop 32 input) = take-add 32 k input in
      let n : length (take 32 input) ≡ 32 = length-take-le 32 input (omega arith) in
      let a : take 32 (take (32 + k) input) ≡ take 32 input = ap (take 32) t ∙ take_at (take 32 input) _ 32 n in
      let d : drop 32 (take (32 + k) input) ≡ take k (drop 32 input) = ap (drop 32) t ∙ drop_at (take 32 input) _ 32 n in
      under_taken (take (32 + k) input) (omega arith)
      ∙ ap₂ (λ (x y : List ℕ). judged (digest_in (keyed_mode x)) y) a d
      ∙ enough (digest_in (keyed_mode (take 32 input))) (drop 32 input)
      ∙ sym (under_taken input (omega arith)))
      (λ h. ap (under_key judged) (take_all (32 + k) input (omega arith)))
