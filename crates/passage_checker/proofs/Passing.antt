-- One pass over a letter: its answer once the letter is taken apart, and what the answer tells.
use mathlib.Core.Logic.{◌≢◌}
use mathlib.Core.Path.{◌≡◌, refl, sym, ap, ◌∙◌}
use mathlib.Core.List.{List, [], ◌∷◌}
use Prim.Native.Nat.{ℕ, ◌<◌}
use native.Mathlib.Omega.{arith}
use lib.Dec.{T}
use lib.ListN.{length}
use Rattle.order.specs.Order.{◌if◌, ◌is◌, ◌is_not◌, verdict, first_number}
use Rattle.order.proofs.Laws.{Passes, numbered, numbered_append, number_is, verdict_map, accepted, refused_by}
use Rattle.order.proofs.Laws.{passes, refuses, pass_parts, early, late}
use Rattle.wire.specs.Slices.{differ}
use Rattle.shape.specs.Sizes.{count_answer, leaves}
use Rattle.passage.specs.Digests.{worked_root}
use Rattle.passage.specs.Checking.{fields_order, from7}
use Rattle.passage_fields.specs.declared.Fields.{Fields}
use Rattle.passage_fields.specs.Fields.{FieldsOutcome, fields_refused, fields_taken, fields_done, fields_outcome}
use Rattle.passage_fields.proofs.Numbered.{fields_numbered}
use Rattle.passage_fields.proofs.Apart.{apart_number}
use Rattle.passage_checker.specs.Outcome.{CheckOutcome, check_order, pass_outcome, check_outcome}

module _ (digest : List ℕ → List ℕ) (size : ℕ) (root letter : List ℕ) where
  -- every number is above 0
  pub check_numbered : T (numbered (check_order digest size root letter))
  unfolding check_order from7
  check_numbered = numbered_append (fields_order size (leaves size) letter) _ (fields_numbered size (leaves size) letter) tt

  -- ---- how it is answered

  pub size_refuses : {o : FieldsOutcome} → (count_answer size).number ≡ 1 → o ≡ fields_refused 1 → o ≡ pass_outcome digest size root letter
  unfolding pass_outcome check_order
  size_refuses e f = refuses 1 fields_refused (check_order digest size root letter) (fields_done letter) f (λ h. absurd (h e))

  pub width_refuses : {o : FieldsOutcome} → (count_answer size).number ≡ 0 → length root ≢ 32 → o ≡ fields_refused 12
      → o ≡ pass_outcome digest size root letter
  unfolding pass_outcome check_order
  width_refuses e w f = refuses 12 fields_refused (check_order digest size root letter) (fields_done letter) f ((λ z. omega arith), λ h. absurd (w h))

  module _ (counted : (count_answer size).number ≡ 0) (wide : length root ≡ 32) where
    -- past 1 and 12
    from_7 : {o : FieldsOutcome} → o ≡ verdict fields_refused (from7 digest size (leaves size) root letter) (fields_done letter)
        → o ≡ pass_outcome digest size root letter
    unfolding pass_outcome check_order
    from_7 f =
        late fields_refused (1 if (count_answer size).number is 1 ∷ 12 if length root is_not 32 ∷ []) (from7 digest size (leaves size) root letter)
        (fields_done letter) ((λ z. omega arith), (wide, tt)) f

    -- a field refuses
    pub fields_refuse : {k : ℕ} → 0 < k → fields_refused k ≡ fields_outcome size (leaves size) letter
        → fields_refused k ≡ pass_outcome digest size root letter
    unfolding from7
    fields_refuse {k} z e =
        let n : k ≡ first_number (fields_order size (leaves size) letter) = apart_number size (leaves size) letter e in
        from_7 (early fields_refused (fields_order size (leaves size) letter) _ (fields_done letter) (ap fields_refused n) (λ y. omega arith))

    -- none does
    module _ {f : Fields} (e : fields_taken f ≡ fields_outcome size (leaves size) letter) {made : List ℕ}
        (w : made ≡ worked_root digest (leaves size) letter) where
      all_taken : Passes (fields_order size (leaves size) letter) × (fields_taken f ≡ fields_done letter)
      unfolding fields_outcome
      all_taken =
          accepted (λ (o : FieldsOutcome). o.number) fields_refused (fields_order size (leaves size) letter) (fields_done letter) (λ k. refl) refl e
          (fields_numbered size (leaves size) letter) refl

      pub root_refuses : differ root made ≢ 0 → fields_refused 9 ≡ pass_outcome digest size root letter
      unfolding from7
      root_refuses h =
          from_7 (late fields_refused (fields_order size (leaves size) letter) _ (fields_done letter) all_taken.0
          (refuses 9 fields_refused _ (fields_done letter) refl (λ y. absurd (h (ap (differ root) w ∙ y)))))

      pub all_pass : differ root made ≡ 0 → fields_taken f ≡ pass_outcome digest size root letter
      unfolding from7
      all_pass h =
          from_7 (late fields_refused (fields_order size (leaves size) letter) _ (fields_done letter) all_taken.0
          (passes fields_refused _ (fields_done letter) all_taken.1 (sym (ap (differ root) w) ∙ h, tt)))

  -- ---- what an answer tells

  module _ {o : FieldsOutcome} (e : o ≡ pass_outcome digest size root letter) where
    pub pass_number : o.number ≡ first_number (check_order digest size root letter)
    unfolding pass_outcome
    pass_number =
        number_is (λ (o : FieldsOutcome). o.number) fields_refused (check_order digest size root letter) (fields_done letter) (λ k. refl) refl e

    -- the check answers its number, and how many records there are
    pub check_handed : record { number = o.number; count = o.count } ≡ check_outcome digest size root letter
    unfolding pass_outcome check_outcome
    check_handed =
        let count : FieldsOutcome → CheckOutcome = λ o. record { number = o.number; count = o.count } in
        ap count e ∙ verdict_map count fields_refused (check_order digest size root letter) (fields_done letter)

    -- every call refuses by its number
    pub pass_refused : {X : Type 0} (refused : ℕ → X) (done : X) → 0 < o.number
        → refused o.number ≡ verdict refused (check_order digest size root letter) done
    pass_refused refused done z =
        ap refused pass_number ∙ sym (refused_by refused done (check_order digest size root letter) (λ y. omega (arith, pass_number)))

  -- none of the order applies, and the letter is taken apart
  pub pass_taken : {f : Fields} → fields_taken f ≡ pass_outcome digest size root letter
      → Passes (check_order digest size root letter) × (fields_taken f ≡ fields_outcome size (leaves size) letter)
  unfolding pass_outcome check_order from7 fields_outcome
  pass_taken e =
      let a = accepted (λ (o : FieldsOutcome). o.number) fields_refused (check_order digest size root letter) (fields_done letter) (λ k. refl) refl e
      check_numbered refl in
      let p = pass_parts (fields_order size (leaves size) letter) _ a.0.1.1 in
      (a.0, passes fields_refused (fields_order size (leaves size) letter) (fields_done letter) a.1 p.0)
