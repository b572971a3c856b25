-- The answer of a finder of many records: as a finder of one record settles it; once nothing refuses, by a difference, and with none by the records.
-- What an answer tells of these.
use mathlib.Core.Path.{◌≡◌, refl, sym, ap, ◌∙◌}
use mathlib.Core.List.{List}
use Prim.Native.Nat.{ℕ, zero, suc}
use Rattle.std.specs.Prelude.{Option, None, Some, Ok, Err}
use Rattle.refusals.specs.declared.Refused.{Refused}
use Rattle.order.specs.Order.{verdict}
use Rattle.wire.specs.Slices.{splice}
use Rattle.order.proofs.Laws.{verdict_map}
use Rattle.shape.specs.Difference.{Diff, agree, unequal}
use Rattle.inputs.specs.declared.Unequal.{Unequal}
use Rattle.inputs.specs.Inputs.{bytes_of, told}
use Rattle.difference.specs.declared.Finding.{Finding as Found}
use Rattle.difference.specs.Findings.{Nothing, Same, Records, Pair}
use Rattle.difference.specs.Outcome.{FindOutcome, found, find_refused, find_done, room_order, settled}
use Rattle.findings.specs.declared.Named.{Named}
use Rattle.findings.specs.Outcome.{Apart, nowhere, from, NamedOutcome, named, by_records, named_refused, named_done, named_settled}

-- the outcome of a finder of one record, with records that are compared anew
abbrev with_records : Apart → FindOutcome → NamedOutcome
with_records a o =
    elim o.finding [
      | Nothing ↦ named_refused o.first o.second o.number
      | Same ↦ by_records a o.first o.second
      | Records ↦ by_records a o.first o.second
      | Pair ↦ record { number = 0; finding = Pair; index = 0; first = o.first; second = o.second }
    ]

module _ (d : Diff) (m : ℕ) (a : Apart) (first second x y : List ℕ) where
  settled_with : with_records a (settled d m first second) ≡ named_settled d a first second
  settled_with = verdict_map (with_records a) (find_refused first second) (room_order first second) (find_done d m first second)
      ∙ ap (verdict (named_refused first second) (room_order first second)) (done d m)
    where
      done : (d : Diff) (m : ℕ) → with_records a (find_done d m first second) ≡ named_done d a first second
      done agree zero = refl
      done agree (suc m) = refl
      done (unequal ours theirs) m = refl

  -- the same refusal
  pub as_refused : (why : Refused) → found (Err why) x y ≡ settled d m first second → named (Err why) x y ≡ named_settled d a first second
  as_refused why e = ap (with_records a) e ∙ settled_with

  -- the same pair
  pub as_pair : (f : Found) → f ≡ Found.Pair → found (Ok f) x y ≡ settled d m first second → named (Ok Named.Pair) x y ≡ named_settled d a first second
  as_pair f p e = ap (λ (f : Found). with_records a (found (Ok f) x y)) (sym p) ∙ ap (with_records a) e ∙ settled_with

  -- and no pair
  pub as_records : (f : Found) → (f ≡ Found.Pair → ⊥) → found (Ok f) x y ≡ settled d m first second → by_records a x y ≡ named_settled d a first second
  as_records Found.Same n e = ap (with_records a) e ∙ settled_with
  as_records Found.Records n e = ap (with_records a) e ∙ settled_with
  as_records Found.Pair n e = absurd (n refl)

-- the two inputs are written
pub done_pair : (d : Option Unequal) (u : Unequal) (a : Apart) (first second : List ℕ) {x y : List ℕ} → d ≡ Some u
    → x ≡ splice 0 (bytes_of u.ours) first → y ≡ splice 0 (bytes_of u.theirs) second → named (Ok Named.Pair) x y ≡ named_done (told d) a first second
done_pair d u a first second h e f = rw (h, e, f)

-- nothing is
pub done_records : (d : Option Unequal) (i : ℕ) (first second : List ℕ) → d ≡ None
    → named (Ok (Named.Records i)) first second ≡ named_done (told d) (from i) first second
done_records d i first second z = rw z

pub done_same : (d : Option Unequal) (first second : List ℕ) → d ≡ None → named (Ok Named.Same) first second ≡ named_done (told d) nowhere first second
done_same d first second z = rw z

-- ---- what an answer tells

-- done has the number 0, whatever was found
pub done_zero : (d : Diff) (a : Apart) (first second : List ℕ) → (named_done d a first second).number ≡ 0
done_zero agree nowhere first second = refl
done_zero agree (from i) first second = refl
done_zero (unequal x y) a first second = refl

-- "same" is said where nothing differs
pub same_done : (d : Diff) (a : Apart) (first second : List ℕ) → (named_done d a first second).finding ≡ Same → (d ≡ agree) × (a ≡ nowhere)
same_done agree nowhere first second e = (refl, refl)
same_done agree (from i) first second e = absurd cc
same_done (unequal x y) a first second e = absurd cc
