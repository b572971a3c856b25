-- The digest of input in parts is that of the whole, however it was cut.
use mathlib.Core.Path.{◌≡◌, refl, sym, ap, ap₂, ◌∙◌, subst, subst⁻¹}
use mathlib.Core.List.{List, [], ◌∷◌, ◌++◌, append-nil, append_assoc}
use Prim.Native.Nat.{ℕ, zero, suc, ◌+◌, ◌^◌, ◌≤◌}
use native.Mathlib.Omega.{arith}
use lib.ListN.{length, length-append}
use Rattle.words.specs.Words.{words_of}
use Rattle.blake.specs.Modes.{words_in, flag_in}
use Rattle.digest.specs.Digest.{digest_in}
use Rattle.digest.specs.Modes.{number_in, key_in}
use Rattle.wire.specs.Slices.{zeros}
use Rattle.parts_rule.specs.Run.{run_after}
use Rattle.parts.specs.declared.Parts.{Parts}
use Rattle.parts.specs.Answers.{Added}
use Rattle.parts.specs.State.{start_in, Holds, stored}
use Rattle.parts.specs.Answers.{begun_in, begin_outcome, after, add_outcome, end_outcome}
use Rattle.parts_laws.specs.Cut.{added_all, cut_into, in_one}
use Rattle.parts_laws.proofs.Holds.{stored_holds, begin_holds, taken_held, add_is, add_holds, end_digest}

-- parts, one behind the other, on a state that holds xs
all_hold : (mode : List ℕ) (s : Parts) (xs : List ℕ) (ps : List (List ℕ)) → Holds mode s xs → length xs + length (in_one ps) ≤ 2 ^ 40
    → Holds mode (added_all s ps) (xs ++ in_one ps)
unfolding added_all in_one
all_hold mode s xs [] h l = subst⁻¹ (Holds mode s) (append-nil xs) h
all_hold mode s xs (p ∷ ps) h l =
    let n : length (p ++ in_one ps) ≡ length p + length (in_one ps) = length-append p (in_one ps) in
    let next = (add_holds mode s xs h p (omega arith)).1 in
    subst (Holds mode (added_all (add_outcome s p).state ps)) (append_assoc xs p (in_one ps))
    (all_hold mode (add_outcome s p).state (xs ++ p) ps next (omega (arith, length-append xs p)))

-- a state that `begin` and `add` made holds the parts in one
pub cut_holds : (mode : List ℕ) (ps : List (List ℕ)) → length (in_one ps) ≤ 2 ^ 40 → Holds mode (cut_into mode ps) (in_one ps)
cut_holds mode ps l = all_hold mode (begin_outcome mode) [] ps (begin_holds mode) (omega arith)

-- .. and is never refused below the limit: neither a part more nor the end
pub never_refused : (mode : List ℕ) (ps : List (List ℕ)) (part : List ℕ) → length (in_one ps) + length part ≤ 2 ^ 40
    → ((add_outcome (cut_into mode ps) part).number ≡ 0) × ((end_outcome (cut_into mode ps)).number ≡ 0)
never_refused mode ps part l =
    let h = cut_holds mode ps (omega arith) in
    ((add_holds mode (cut_into mode ps) (in_one ps) h part l).0, ap (λ e. e.number) (end_digest mode (cut_into mode ps) (in_one ps) h))

-- however the input was cut into parts, with at most 2^40 bytes in all, the answer is the digest of the whole
pub however_cut : (mode : List ℕ) (ps : List (List ℕ)) → length (in_one ps) ≤ 2 ^ 40
    → end_outcome (cut_into mode ps) ≡ record { number = 0; digest = record { bytes = digest_in mode (in_one ps) } }
however_cut mode ps l = end_digest mode (cut_into mode ps) (in_one ps) (cut_holds mode ps l)

-- two ways to cut, from one beginning
both : (s : Parts) (f : List ℕ → Parts) → s ≡ f []
    → ((ps : List (List ℕ)) → length {A = ℕ} [] + length (in_one ps) ≤ 2 ^ 40 → added_all (f []) ps ≡ f ([] ++ in_one ps)) → (ps qs : List (List ℕ))
    → in_one ps ≡ in_one qs → length (in_one ps) ≤ 2 ^ 40 → added_all s ps ≡ added_all s qs
both s f e g ps qs same l =
    let m : length (in_one qs) ≤ 2 ^ 40 = subst (λ (xs : List ℕ). length xs ≤ 2 ^ 40) same l in
    ap (λ (x : Parts). added_all x ps) e ∙ g ps (omega arith) ∙ ap f same ∙ sym (ap (λ (x : Parts). added_all x qs) e ∙ g qs (omega arith))

-- ---- the state itself depends on the mode and on the bytes alone

module _ (mode : List ℕ) where
  -- what is stored in the mode after xs, where `begin` kept this number and this key
  abbrev after_bytes : ℕ → List ℕ → List ℕ → Parts
  after_bytes keyed key xs = stored keyed key (run_after (words_in (number_in mode) (key_in mode)) (flag_in (number_in mode)) xs)

  module _ (keyed : ℕ) (key : List ℕ) (es : start_in keyed key ≡ words_in (number_in mode) (key_in mode)) (ef : flag_in keyed ≡ flag_in (number_in mode)) where
    after_part : (xs part : List ℕ) → length xs + length part ≤ 2 ^ 40 → after (after_bytes keyed key xs) part ≡ after_bytes keyed key (xs ++ part)
    unfolding after
    after_part xs [] l = ap (after_bytes keyed key) (sym (append-nil xs))
    after_part xs (b ∷ bs) l =
        ap (stored keyed key) (taken_held mode (after_bytes keyed key xs) xs (stored_holds mode keyed key xs es ef (omega arith)) (b ∷ bs) l)

    added_part : (xs part : List ℕ) → length xs + length part ≤ 2 ^ 40
        → (add_outcome (after_bytes keyed key xs) part).state ≡ after_bytes keyed key (xs ++ part)
    added_part xs part l =
        sym (ap (λ (a : Added). a.state) (add_is mode (after_bytes keyed key xs) xs (stored_holds mode keyed key xs es ef (omega arith)) part l))
        ∙ after_part xs part l

    added_all_lem : (xs : List ℕ) (ps : List (List ℕ)) → length xs + length (in_one ps) ≤ 2 ^ 40
        → added_all (after_bytes keyed key xs) ps ≡ after_bytes keyed key (xs ++ in_one ps)
    unfolding added_all in_one
    added_all_lem xs [] l = ap (after_bytes keyed key) (sym (append-nil xs))
    added_all_lem xs (p ∷ ps) l =
        let n : length (p ++ in_one ps) ≡ length p + length (in_one ps) = length-append p (in_one ps) in
        ap (λ (s : Parts). added_all s ps) (added_part xs p (omega arith))
        ∙ added_all_lem (xs ++ p) ps (omega (arith, length-append xs p))
        ∙ ap (after_bytes keyed key) (append_assoc xs p (in_one ps))

  -- from the beginning on
  begun_all : (number : ℕ) (key : List ℕ) → number_in mode ≡ number → key_in mode ≡ key → (ps qs : List (List ℕ)) → in_one ps ≡ in_one qs
      → length (in_one ps) ≤ 2 ^ 40 → added_all (begun_in number key) ps ≡ added_all (begun_in number key) qs
  unfolding begun_in start_in words_in flag_in
  begun_all zero key en ek ps qs e l =
      let ew : words_in 0 key ≡ words_in (number_in mode) (key_in mode) = ap₂ words_in (sym en) (sym ek) in
      let ef : flag_in 0 ≡ flag_in (number_in mode) = ap flag_in (sym en) in
      let s : begun_in 0 key ≡ after_bytes 0 (zeros 8) [] = ap₂ (λ (w : List ℕ) (f : ℕ). stored 0 (zeros 8) (run_after w f [])) ew ef in
      both (begun_in 0 key) (after_bytes 0 (zeros 8)) s (added_all_lem 0 (zeros 8) ew ef []) ps qs e l
  begun_all (suc n) key en ek ps qs e l =
      let ew : words_in (suc n) key ≡ words_in (number_in mode) (key_in mode) = ap₂ words_in (sym en) (sym ek) in
      let ef : flag_in (suc n) ≡ flag_in (number_in mode) = ap flag_in (sym en) in
      let s : begun_in (suc n) key ≡ after_bytes 1 (words_of 8 key) [] = ap₂ (λ (w : List ℕ) (f : ℕ). stored 1 (words_of 8 key) (run_after w f [])) ew ef in
      both (begun_in (suc n) key) (after_bytes 1 (words_of 8 key)) s (added_all_lem 1 (words_of 8 key) ew ef []) ps qs e l

  -- however the same bytes were cut, the state is the same, in every field
  pub same_state : (ps qs : List (List ℕ)) → in_one ps ≡ in_one qs → length (in_one ps) ≤ 2 ^ 40 → cut_into mode ps ≡ cut_into mode qs
  unfolding begin_outcome
  same_state ps qs e l = begun_all (number_in mode) (key_in mode) refl refl ps qs e l
