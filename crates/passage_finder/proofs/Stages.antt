-- The finder's order in its parts, over any nodes: the outcome goes through one after the other, no refusal applies where none of any part does, and
-- none where "same" is said.
use mathlib.Core.Path.{◌≡◌, refl, sym, ap, ◌∙◌}
use mathlib.Core.List.{List, [], ◌∷◌, ◌++◌}
use Prim.Native.Nat.{ℕ}
use native.Mathlib.Decide.{ℕ_discrete}
use lib.Dec.{T}
use Rattle.order.specs.Order.{Test, Refusal, ◌if◌, ◌is_not◌, verdict}
use Rattle.order.proofs.Laws.{Passes, numbered, accepted, refusal, pass_parts, pass_whole, verdict_append, numbered_append}
use Rattle.wire.specs.Slices.{differ}
use Rattle.shape.specs.Difference.{agree}
use Rattle.shape.specs.Sizes.{leaves}
use Rattle.evidence_log.specs.Outcome.{root_order}
use Rattle.letter_finder.specs.Outcome.{own_root}
use Rattle.difference.specs.Findings.{Same}
use Rattle.difference.specs.Outcome.{room_order}
use Rattle.difference.proofs.Settled.{same_refused}
use Rattle.findings.specs.Outcome.{nowhere, NamedOutcome, named_refused, named_done, named_settled}
use Rattle.findings.proofs.Settled.{done_zero, same_done}
use Rattle.passage.specs.Bytes.{indexes_in}
use Rattle.passage.specs.Digests.{worked_root}
use Rattle.passage.specs.Checking.{fields_order, from7}
use Rattle.passage_fields.proofs.Numbered.{fields_numbered}
use Rattle.passage_finder.specs.Outcome.{first_difference, own_order, records_apart, find_order, find_over}
use Rattle.passage_finder.specs.Steps.{comparing}
use Rattle.passage_finder.proofs.Owned.{own_numbered}

module _ (digest : List ℕ → List ℕ) (node : ℕ → List ℕ) (size : ℕ) (records lengths letter first second : List ℕ) where
  abbrev n : ℕ
  n = leaves size

  -- the checking order from 7 with the root of its own nodes
  abbrev checking : List Refusal
  checking = from7 digest size n (own_root digest node n) letter

  abbrev own : List Refusal
  own = own_order digest node n (indexes_in letter) records lengths

  -- what is done where nothing refuses
  abbrev done : NamedOutcome
  done = named_done (first_difference digest node n letter) (records_apart records lengths letter) first second

  checking_numbered : T (numbered checking)
  unfolding from7
  checking_numbered = numbered_append (fields_order size n letter) _ (fields_numbered size n letter) tt

  module _ (short : Test) where
    -- every number is above 0
    pub find_numbered : T (numbered (find_order digest node short size records lengths letter first second))
    unfolding find_order root_order room_order
    find_numbered =
        let a = numbered_append (root_order short size) checking tt checking_numbered in
        let b = numbered_append (root_order short size ++ checking) own a (own_numbered digest node n (indexes_in letter) records lengths) in
        numbered_append (root_order short size ++ checking ++ own) (room_order first second) b tt

    pub find_parts : find_over digest node short size records lengths letter first second
        ≡ verdict (named_refused first second) (root_order short size)
        (verdict (named_refused first second) (fields_order size n letter) (comparing digest node n records lengths letter first second))
    unfolding find_over find_order from7 comparing
    find_parts =
        let R = named_refused first second in
        let last = named_settled (first_difference digest node n letter) (records_apart records lengths letter) first second in
        let root_differs = 9 if differ (own_root digest node n) (worked_root digest n letter) is_not 0 ∷ [] in
        verdict_append R (root_order short size ++ checking ++ own) (room_order first second) done
        ∙ verdict_append R (root_order short size ++ checking) own last
        ∙ verdict_append R (root_order short size) checking (verdict R own last)
        ∙ ap (verdict R (root_order short size)) (verdict_append R (fields_order size n letter) root_differs (verdict R own last))

    -- no refusal applies where none of any part does
    pub find_pass : Passes (root_order short size) → Passes checking → Passes own → Passes (room_order first second)
        → Passes (find_order digest node short size records lengths letter first second)
    unfolding find_order
    find_pass p q r s =
        pass_whole (root_order short size ++ checking ++ own) (room_order first second)
        (pass_whole (root_order short size ++ checking) own (pass_whole (root_order short size) checking p q) r) s

    -- what passes the whole passes each part
    pub record PassedParts : Type 0 where
      pub rooted : Passes (root_order short size)
      pub checked : Passes checking
      pub owned : Passes own

    pub find_passed : Passes (find_order digest node short size records lengths letter first second) → PassedParts
    unfolding find_order
    find_passed p =
        let a = (pass_parts (root_order short size ++ checking ++ own) (room_order first second) p).0 in
        let b = pass_parts (root_order short size ++ checking) own a in
        let c = pass_parts (root_order short size) checking b.0 in
        record { rooted = c.0; checked = c.1; owned = b.1 }

    -- where "same" is said, no refusal applies, and nothing differs
    pub find_same : (find_over digest node short size records lengths letter first second).finding ≡ Same
        → Passes (find_order digest node short size records lengths letter first second)
        × (first_difference digest node n letter ≡ agree) × (records_apart records lengths letter ≡ nowhere)
    unfolding find_over
    find_same e =
        let number : NamedOutcome → ℕ = λ o. o.number in
        let outcome = find_over digest node short size records lengths letter first second in
        let order = find_order digest node short size records lengths letter first second in
        let z : number done ≡ 0 = done_zero (first_difference digest node n letter) _ first second in
        elim (ℕ_discrete (number outcome) 0) [
          | yes h ↦
              let o = accepted number (named_refused first second) order done (λ m. refl) z {r = outcome} refl find_numbered h in
              let d = same_done (first_difference digest node n letter) _ first second (sym (ap (λ (x : NamedOutcome). x.finding) o.1) ∙ e) in
              (o.0, d.0, d.1)
          | no h ↦
              let r = refusal number (named_refused first second) order done (λ m. refl) z {r = outcome} refl h in
              absurd (same_refused (sym (ap (λ (x : NamedOutcome). x.finding) r) ∙ e))
        ]
