-- The finder's order in its parts, over any nodes: the outcome goes through one after the other, no refusal applies where none of any part does, and
-- none where "same" is said.
use mathlib.Core.Path.{◌≡◌, refl, sym, ap, ◌∙◌}
use mathlib.Core.List.{List, [], ◌∷◌, ◌++◌}
use Prim.Native.Nat.{ℕ}
use native.Mathlib.Decide.{ℕ_discrete}
use lib.Dec.{T}
use Rattle.order.specs.Order.{Test, Refusal, ◌if◌, ◌is_not◌, verdict}
use Rattle.order.proofs.Laws.{Passes, numbered, accepted, refusal, pass_parts, pass_whole, verdict_append}
use Rattle.wire.specs.Slices.{differ}
use Rattle.shape.specs.Difference.{agree}
use Rattle.shape.specs.Sizes.{leaves}
use Rattle.evidence_log.specs.Outcome.{root_order}
use Rattle.letter.specs.Bytes.{index_in, record_in}
use Rattle.letter.specs.Items.{worked_root}
use Rattle.letter.specs.Checking.{behind_order, fields_order, from7}
use Rattle.difference.specs.Findings.{Same}
use Rattle.difference.specs.Outcome.{FindOutcome, find_refused, find_done, room_order, settled}
use Rattle.letter_finder.specs.Outcome.{own_root, first_difference, own_order, find_order, find_over}
use Rattle.difference.proofs.Settled.{done_zero, same_done, same_refused}

module _ (digest : List ℕ → List ℕ) (node : ℕ → List ℕ) (size : ℕ) (rec letter first second : List ℕ) where
  abbrev n : ℕ
  n = leaves size

  -- the checking order from 7 with the root of its own nodes
  abbrev checking : List Refusal
  checking = from7 digest size n (own_root digest node n) letter

  abbrev own : List Refusal
  own = own_order digest node n rec (index_in letter)

  -- root worked out from the letter differs
  abbrev pub root_differs : List Refusal
  root_differs = 9 if differ (own_root digest node n) (worked_root digest n letter) is_not 0 ∷ []

  -- the last part, and what is done
  abbrev pub last : FindOutcome
  last = settled (first_difference digest node n letter) (differ rec (record_in letter)) first second

  module _ (short : Test) where
    -- every number is above 0
    pub find_numbered : T (numbered (find_order digest node short size rec letter first second))
    unfolding find_order root_order from7 fields_order behind_order own_order room_order
    find_numbered = tt

    pub find_parts : find_over digest node short size rec letter first second
        ≡ verdict (find_refused first second) (root_order short size)
        (verdict (find_refused first second) (fields_order size n letter)
        (verdict (find_refused first second) root_differs (verdict (find_refused first second) own last)))
    unfolding find_over find_order from7
    find_parts =
        let R = find_refused first second in
        let done = find_done (first_difference digest node n letter) (differ rec (record_in letter)) first second in
        verdict_append R (root_order short size ++ checking ++ own) (room_order first second) done
        ∙ verdict_append R (root_order short size ++ checking) own last
        ∙ verdict_append R (root_order short size) checking (verdict R own last)
        ∙ ap (verdict R (root_order short size)) (verdict_append R (fields_order size n letter) root_differs (verdict R own last))

    -- no refusal applies where none of any part does
    pub find_pass : Passes (root_order short size) → Passes checking → Passes own → Passes (room_order first second)
        → Passes (find_order digest node short size rec letter first second)
    unfolding find_order
    find_pass p q r s =
        pass_whole (root_order short size ++ checking ++ own) (room_order first second)
        (pass_whole (root_order short size ++ checking) own (pass_whole (root_order short size) checking p q) r) s

    -- what passes the whole passes each part
    pub record PassedParts : Type 0 where
      pub rooted : Passes (root_order short size)
      pub checked : Passes checking
      pub owned : Passes own

    pub find_passed : Passes (find_order digest node short size rec letter first second) → PassedParts
    unfolding find_order
    find_passed p =
        let a = (pass_parts (root_order short size ++ checking ++ own) (room_order first second) p).0 in
        let b = pass_parts (root_order short size ++ checking) own a in
        let c = pass_parts (root_order short size) checking b.0 in
        record { rooted = c.0; checked = c.1; owned = b.1 }

    -- where "same" is said, no refusal applies, and nothing differs
    pub find_same : (find_over digest node short size rec letter first second).finding ≡ Same
        → Passes (find_order digest node short size rec letter first second)
        × (first_difference digest node n letter ≡ agree) × (differ rec (record_in letter) ≡ 0)
    unfolding find_over
    find_same e =
        let number : FindOutcome → ℕ = λ o. o.number in
        let outcome = find_over digest node short size rec letter first second in
        let order = find_order digest node short size rec letter first second in
        let done = find_done (first_difference digest node n letter) (differ rec (record_in letter)) first second in
        let z : number done ≡ 0 = done_zero (first_difference digest node n letter) _ first second in
        elim (ℕ_discrete (number outcome) 0) [
          | yes h ↦
              let o = accepted number (find_refused first second) order done (λ m. refl) z {r = outcome} refl find_numbered h in
              let d = same_done (first_difference digest node n letter) _ first second (sym (ap (λ (x : FindOutcome). x.finding) o.1) ∙ e) in
              (o.0, d.0, d.1)
          | no h ↦
              let r = refusal number (find_refused first second) order done (λ m. refl) z {r = outcome} refl h in
              absurd (same_refused (sym (ap (λ (x : FindOutcome). x.finding) r) ∙ e))
        ]
