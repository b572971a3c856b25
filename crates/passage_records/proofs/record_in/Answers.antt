-- `passage_records::record_in` meets its contract: the record lies within the letter, where `entry` says.
use mathlib.Core.Path.{◌≡◌, sym, ap, ap₂, ◌∙◌}
use mathlib.Core.List.{List}
use Prim.Native.Nat.{ℕ, ◌+◌, ◌≤◌}
use native.Mathlib.Omega.{arith}
use lib.ListN.{length}
use Rattle.wire.specs.Lent.{part_of}
use Rattle.wire.proofs.Lent.{slice_part, lent_part}
use Rattle.digest.specs.Digest.{digest_in}
use Rattle.passage_records.specs.Outcome.{EntryOutcome, handed_back, handed, entry_outcome}
use Rattle.passage_records.specs.declared.place.Handed.{Handed}
use Rattle.std.specs.Result.{result_unwrap_or}
use Rattle.std.specs.Prelude.{Option, Some, None, Result, Ok, Err}
use Rattle.refusals.specs.declared.Refused.{Refused}
use Rattle.passage_records.proofs.Handing.{entry_within}
use borrow.Author.Rules.{rules}
use Rattle.passage_records.proofs.record_in.Goals as goal

-- the record that is answered; and where there is none, the empty part at the start
answered : (r : Result (Option Handed) Refused) {o : EntryOutcome} {h : Handed} → handed r ≡ o → result_unwrap_or r None ≡ Some h
    → record { number = 0; index = h.index; start = h.start; length = h.length } ≡ o
answered (Ok f) e p = sym (ap handed_back p) ∙ e
answered (Err why) e p = cc

empty : (r : Result (Option Handed) Refused) {o : EntryOutcome} → handed r ≡ o → result_unwrap_or r None ≡ None → (o.start ≡ 0) × (o.length ≡ 0)
empty (Ok f) e p =
    let g = sym (ap handed_back p) ∙ e in
    (sym (ap (λ (o : EntryOutcome). o.start) g), sym (ap (λ (o : EntryOutcome). o.length) g))
empty (Err why) e p = (sym (ap (λ (o : EntryOutcome). o.start) e), sym (ap (λ (o : EntryOutcome). o.length) e))

pub returns-in_default : goal.returns-in_default
returns-in_default c =
    let a = c.args in
    let z = empty c.entry.result c.entry.ensures.part (sym c.unwrap_or.ensures ∙ c.in_default.is) in
    lent_part a.letter 0 0 _ _ (slice_part 0 0 a.letter.now (omega arith)) (omega arith)
    ∙ ap₂ (λ (s l : ℕ). part_of s l a.letter) (sym z.0) (sym z.1)

-- it ends within the letter
inside : (digest : List ℕ → List ℕ) (size : ℕ) (root letter : List ℕ) (k : ℕ) (h : Handed)
    → record { number = 0; index = h.index; start = h.start; length = h.length } ≡ entry_outcome digest size root letter k
    → h.start + h.length ≤ length letter
inside digest size root letter k h e =
    rw (ap (λ (o : EntryOutcome). o.start) e, ap (λ (o : EntryOutcome). o.length) e) (entry_within digest size root letter k)

pub overflow_add-result : goal.overflow_add-result
overflow_add-result c =
    let a = c.args in
    let w = inside (digest_in a.mode.now) a.size a.root.now a.letter.now a.k c.in-Some.e
    (answered c.entry.result c.entry.ensures.part (sym c.unwrap_or.ensures ∙ c.in-Some.is)) in
    search rules

pub slice_bounds-result-end-2 : goal.slice_bounds-result-end-2
slice_bounds-result-end-2 c =
    let a = c.args in
    let w = inside (digest_in a.mode.now) a.size a.root.now a.letter.now a.k c.in-Some.e
    (answered c.entry.result c.entry.ensures.part (sym c.unwrap_or.ensures ∙ c.in-Some.is)) in
    omega arith

pub returns : goal.returns
returns c =
    let a = c.args in
    let h = c.in-Some.e in
    let p = answered c.entry.result c.entry.ensures.part (sym c.unwrap_or.ensures ∙ c.in-Some.is) in
    let w = inside (digest_in a.mode.now) a.size a.root.now a.letter.now a.k h p in
    lent_part a.letter h.start h.length _ _ (slice_part h.start h.length a.letter.now w) (omega arith)
    ∙ ap (λ (o : EntryOutcome). part_of o.start o.length a.letter) p
