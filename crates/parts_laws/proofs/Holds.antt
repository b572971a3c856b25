-- What a state holds, from call to call: `begin` holds none, `add` holds a part more, and `end` is the digest of what is held.
use mathlib.Core.Path.{◌≡◌, refl, sym, ap, ap₂, ◌∙◌, subst, subst⁻¹}
use mathlib.Core.List.{List, [], ◌∷◌, ◌++◌, append-nil}
use Prim.Native.Nat.{ℕ, zero, suc, ◌+◌, ◌^◌, ◌≤◌, zero-le}
use native.Mathlib.Omega.{arith}
use lib.ListN.{length, length-append}
use Rattle.words.specs.Words.{words_of}
use Rattle.blake.specs.Modes.{words_in, flag_in}
use Rattle.blake.proofs.Modes.{mode_hash}
use Rattle.digest.specs.Digest.{digest_in}
use Rattle.digest.specs.Digest.Inside.{opened}
use Rattle.digest.specs.Modes.{number_in, key_in}
use Rattle.wire.specs.Slices.{zeros}
use Rattle.parts_rule.specs.Run.{Run, run_after, taken, ended}
use Rattle.parts_rule.proofs.Takes.{ended_after, taken_after}
use Rattle.parts.specs.declared.Parts.{Parts}
use Rattle.parts.specs.Answers.{Added}
use Rattle.parts.specs.State.{start_in, start_of, flag_of, Counted, Holds, run_of, stored}
use Rattle.parts.specs.Answers.{begun_in, begin_outcome, after, add_outcome, end_outcome}
use Rattle.parts.proofs.Answering.{add_done, end_done}
use Rattle.parts_laws.proofs.Shapes.{stored_counted, stored_run}

-- ---- the mode, by its words and its flag

module _ (mode : List ℕ) where
  abbrev words : List ℕ
  words = words_in (number_in mode) (key_in mode)

  abbrev flag : ℕ
  flag = flag_in (number_in mode)

  -- a state that keeps the mode, and what is stored of the run after xs, hold xs
  pub stored_holds : (keyed : ℕ) (key xs : List ℕ) → start_in keyed key ≡ words → flag_in keyed ≡ flag → length xs ≤ 2 ^ 40
      → Holds mode (stored keyed key (run_after words flag xs)) xs
  stored_holds keyed key xs es ef l =
      record { start = es; flag = ef; counted = stored_counted words flag keyed key xs l; run = stored_run words flag keyed key xs }

  -- ---- `begin` holds none

  begun_holds : (number : ℕ) (key : List ℕ) → number_in mode ≡ number → key_in mode ≡ key → Holds mode (begun_in number key) []
  unfolding begun_in start_in words_in flag_in
  begun_holds zero key en ek =
      let ew : words_in 0 key ≡ words = ap₂ words_in (sym en) (sym ek) in
      let ef : flag_in 0 ≡ flag = ap flag_in (sym en) in
      subst (λ (r : Run). Holds mode (stored 0 (zeros 8) r) []) (ap₂ (λ (w : List ℕ) (f : ℕ). run_after w f []) (sym ew) (sym ef))
      (stored_holds 0 (zeros 8) [] ew ef zero-le)
  begun_holds (suc n) key en ek =
      let ew : words_in (suc n) key ≡ words = ap₂ words_in (sym en) (sym ek) in
      let ef : flag_in (suc n) ≡ flag = ap flag_in (sym en) in
      subst (λ (r : Run). Holds mode (stored 1 (words_of 8 key) r) []) (ap₂ (λ (w : List ℕ) (f : ℕ). run_after w f []) (sym ew) (sym ef))
      (stored_holds 1 (words_of 8 key) [] ew ef zero-le)

  pub begin_holds : Holds mode (begin_outcome mode) []
  unfolding begin_outcome
  begin_holds = begun_holds (number_in mode) (key_in mode) refl refl

  -- ---- `add` holds a part more, and is done below the limit

  module _ (s : Parts) (xs : List ℕ) (h : Holds mode s xs) where
    pub total_held : s.total ≡ length xs
    unfolding run_after
    total_held = ap (λ (r : Run). r.total) h.run

    -- what a part of one byte or more comes to, as a run
    pub taken_held : (part : List ℕ) → length xs + length part ≤ 2 ^ 40
        → taken (start_of s) (flag_of s) (run_of s) part ≡ run_after words flag (xs ++ part)
    taken_held part l =
        ap₂ (λ (w : List ℕ) (f : ℕ). taken w f (run_of s) part) h.start h.flag ∙ ap (λ (r : Run). taken words flag r part) h.run
        ∙ taken_after words flag xs part l

    after_holds : (part : List ℕ) → length xs + length part ≤ 2 ^ 40 → Holds mode (after s part) (xs ++ part)
    unfolding after
    after_holds [] l = subst⁻¹ (Holds mode s) (append-nil xs) h
    after_holds (b ∷ bs) l =
        subst⁻¹ (λ (r : Run). Holds mode (stored s.keyed s.key r) (xs ++ (b ∷ bs))) (taken_held (b ∷ bs) l)
        (stored_holds s.keyed s.key (xs ++ (b ∷ bs)) h.start h.flag (omega (arith, length-append xs (b ∷ bs))))

    pub add_is : (part : List ℕ) → length xs + length part ≤ 2 ^ 40 → record { number = 0; state = after s part } ≡ add_outcome s part
    add_is part l = add_done s part h.counted (omega (arith, total_held)) refl

    pub add_holds : (part : List ℕ) → length xs + length part ≤ 2 ^ 40
        → ((add_outcome s part).number ≡ 0) × Holds mode (add_outcome s part).state (xs ++ part)
    add_holds part l =
        let e = add_is part l in
        (sym (ap (λ (a : Added). a.number) e), subst (λ (a : Added). Holds mode a.state (xs ++ part)) e (after_holds part l))

    -- ---- `end` is the digest of what is held

    pub end_digest : end_outcome s ≡ record { number = 0; digest = record { bytes = digest_in mode xs } }
    end_digest =
        let l : length xs ≤ 2 ^ 40 = subst (λ (n : ℕ). n ≤ 2 ^ 40) total_held h.counted.limit in
        sym (end_done s h.counted
        (sym (ap₂ (λ (w : List ℕ) (f : ℕ). ended w f (run_of s)) h.start h.flag ∙ ap (ended words flag) h.run ∙ ended_after words flag xs l
        ∙ mode_hash (number_in mode) (key_in mode) xs ∙ opened mode xs)))

-- ---- a part of no bytes changes nothing, in any state that is not refused

pub add_nothing : (s : Parts) → Counted s → add_outcome s [] ≡ record { number = 0; state = s }
unfolding after
add_nothing s g = sym (add_done s [] g (omega (arith, g.limit)) refl)
