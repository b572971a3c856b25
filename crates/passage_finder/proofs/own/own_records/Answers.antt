-- 16 by the lengths; then one record after the other: `Records` has the loop's beginning, a step and its end.
use mathlib.Core.Path.{◌≡◌, refl, sym, ap, ap₂, ◌∙◌}
use mathlib.Core.List.{List}
use Prim.Native.Nat.{ℕ, ◌+◌, ◌-◌, ◌≤◌}
use native.Mathlib.Omega.{arith}
use borrow.Author.Rules.{rules}
use Rattle.std.specs.Prelude.{Err}
use Rattle.refusals.proofs.Laws.{number_above}
use Rattle.findings.specs.Outcome.{apart_of, apart_at}
use lib.ListN.{length, get_or, take, drop}
use Rattle.digest.specs.Digest.{digest_in}
use Rattle.wire.specs.Slices.{bit, differ}
use Rattle.wire.specs.Lent.{Part}
use Rattle.wire.proofs.Differences.{same_of_differ}
use Rattle.order.specs.Order.{first_number}
use Rattle.nodes.specs.Nodes.{node_in}
use Rattle.passage.specs.Bytes.{record_at}
use Rattle.passage_finder.specs.Steps.{own_off, soonest, one_order}
use Rattle.passage_finder.proofs.Records.{going_fits, going_none, going_all, going_refused, going_next, going_end}
use Rattle.records.proofs.Sums.{sums_met}
use Rattle.passage_finder.proofs.own.own_records.Goals as goal

-- the record, as the code has it
rec_is : (at long : ℕ) (records : List ℕ) → take (at + long - at) (drop at records) ≡ take long (drop at records)
rec_is at long records = let e : at + long - at ≡ long = omega arith in ap (λ (m : ℕ). take m (drop at records)) e

pub returns-in_err-sums_refusal : goal.returns-in_err-sums_refusal
returns-in_err-sums_refusal c =
    let a = c.args in
    let why = c.in_err-sums_refusal.field-0.0 in
    let e : c.from_residual.result ≡ Err why = search rules in
    ap own_off e
    ∙ going_none (digest_in a.mode.now) (node_in a.nodes.now) a.is.now a.places.now a.records.now a.lengths.now a.letter.now
    (number_above why) c.in_err-sums_refusal.ensures

pub loop-k-init : goal.loop-k-init
loop-k-init c =
    let a = c.args in
    going_all (digest_in a.mode.now) (node_in a.nodes.now) a.is.now a.places.now a.records.now a.lengths.now a.letter.now
    c.in_ok-sums_refusal.ensures

pub offset_bounds-lengths-k : goal.offset_bounds-lengths-k
offset_bounds-lengths-k c =
    let a = c.args in
    let each : length a.lengths.now ≡ length a.is.now =
    (sums_met (length a.is.now) (length a.records.now) a.lengths.now c.in_ok-sums_refusal.ensures refl).0 in
    omega (arith, c.requires.few)

pub bounds-lengths-k : goal.bounds-lengths-k
bounds-lengths-k c =
    let a = c.args in
    let each : length a.lengths.now ≡ length a.is.now =
    (sums_met (length a.is.now) (length a.records.now) a.lengths.now c.in_ok-sums_refusal.ensures refl).0 in
    omega (arith, c.requires.few)

pub overflow_add-end : goal.overflow_add-end
overflow_add-end c =
    let a = c.args in
    let each : length a.lengths.now ≡ length a.is.now =
    (sums_met (length a.is.now) (length a.records.now) a.lengths.now c.in_ok-sums_refusal.ensures refl).0 in
    let fits : c.loop-k.at + get_or a.lengths.now c.loop-k.k 0 ≤ length a.records.now =
    going_fits (digest_in a.mode.now) (node_in a.nodes.now) a.is.now a.places.now a.records.now a.lengths.now a.letter.now
    c.loop-k.invariant (omega arith) c.requires.many each in
    omega (arith, fits)

pub slice_bounds-rec-start : goal.slice_bounds-rec-start
slice_bounds-rec-start c =
    let a = c.args in
    let each : length a.lengths.now ≡ length a.is.now =
    (sums_met (length a.is.now) (length a.records.now) a.lengths.now c.in_ok-sums_refusal.ensures refl).0 in
    let fits : c.loop-k.at + get_or a.lengths.now c.loop-k.k 0 ≤ length a.records.now =
    going_fits (digest_in a.mode.now) (node_in a.nodes.now) a.is.now a.places.now a.records.now a.lengths.now a.letter.now
    c.loop-k.invariant (omega arith) c.requires.many each in
    omega (arith, fits)

pub slice_bounds-rec-end : goal.slice_bounds-rec-end
slice_bounds-rec-end c =
    let a = c.args in
    let each : length a.lengths.now ≡ length a.is.now =
    (sums_met (length a.is.now) (length a.records.now) a.lengths.now c.in_ok-sums_refusal.ensures refl).0 in
    let fits : c.loop-k.at + get_or a.lengths.now c.loop-k.k 0 ≤ length a.records.now =
    going_fits (digest_in a.mode.now) (node_in a.nodes.now) a.is.now a.places.now a.records.now a.lengths.now a.letter.now
    c.loop-k.invariant (omega arith) c.requires.many each in
    omega (arith, fits)

pub offset_bounds-places-k : goal.offset_bounds-places-k
offset_bounds-places-k c = omega (arith, c.requires.many, c.requires.few)

pub bounds-places-k : goal.bounds-places-k
bounds-places-k c = omega (arith, c.requires.many, c.requires.few)

-- where it does not differ, the letter's leaf is its digest
pub record_refusal-requires : goal.record_refusal-requires
record_refusal-requires c z =
    let a = c.args in
    c.node_at-leaf.ensures
    ∙ c.requires.leaf c.loop-k.k (omega (arith, c.requires.many))
    ∙ ap (digest_in a.mode.now)
    (sym (ap (λ (x : Part). x.bytes) c.record_at.ensures) ∙ sym (same_of_differ _ _ (sym c.differ-apart.ensures ∙ ap bit z)))

-- what the record there is refused with
module _ (digest : List ℕ → List ℕ) (node : ℕ → List ℕ) (i at long : ℕ) (records : List ℕ) where
  refused_here : {number : ℕ} → number ≡ first_number (one_order digest node i (take (at + long - at) (drop at records)))
      → number ≡ first_number (one_order digest node i (take long (drop at records)))
  refused_here e = e ∙ ap (λ (r : List ℕ). first_number (one_order digest node i r)) (rec_is at long records)

pub returns-in_err-record_refusal : goal.returns-in_err-record_refusal
returns-in_err-record_refusal c =
    let l = c.loop-k in
    let a = c.args in
    let each : length a.lengths.now ≡ length a.is.now =
    (sums_met (length a.is.now) (length a.records.now) a.lengths.now c.in_ok-sums_refusal.ensures refl).0 in
    let why = c.in_err-record_refusal.field-0.0 in
    let e : c.from_residual-in_err-record_refusal.result ≡ Err why = search rules in
    let r = refused_here (digest_in a.mode.now) (node_in a.nodes.now) (get_or a.is.now l.k 0) l.at (get_or a.lengths.now l.k 0) a.records.now
    c.in_err-record_refusal.ensures in
    ap own_off e
    ∙ going_refused (digest_in a.mode.now) (node_in a.nodes.now) a.is.now a.places.now a.records.now a.lengths.now a.letter.now
    l.invariant (omega arith) c.requires.many each (number_above why) r

pub loop-k-preserved : goal.loop-k-preserved
loop-k-preserved c =
    let l = c.loop-k in
    let a = c.args in
    let each : length a.lengths.now ≡ length a.is.now =
    (sums_met (length a.is.now) (length a.records.now) a.lengths.now c.in_ok-sums_refusal.ensures refl).0 in
    let r = refused_here (digest_in a.mode.now) (node_in a.nodes.now) (get_or a.is.now l.k 0) l.at (get_or a.lengths.now l.k 0) a.records.now
    c.in_ok-record_refusal.ensures in
    -- whether it differs from the letter's
    let apart : bit c.differ-apart.result ≡ differ (take (get_or a.lengths.now l.k 0) (drop l.at a.records.now)) (record_at a.letter.now (get_or a.places.now l.k 0)) =
    c.differ-apart.ensures
    ∙ ap₂ differ (rec_is l.at (get_or a.lengths.now l.k 0) a.records.now) (ap (λ (x : Part). x.bytes) c.record_at.ensures) in
    going_next (digest_in a.mode.now) (node_in a.nodes.now) a.is.now a.places.now a.records.now a.lengths.now a.letter.now
    l.invariant (omega arith) c.requires.many each r
    (c.sooner-first.ensures ∙ ap (λ (m : ℕ). soonest (apart_at l.first) (apart_of m (get_or a.is.now l.k 0))) apart)

pub returns : goal.returns
returns c =
    let a = c.args in
    going_end (digest_in a.mode.now) (node_in a.nodes.now) a.is.now a.places.now a.records.now a.lengths.now a.letter.now
    c.loop-k.invariant (omega (arith, c.loop-k-test.false))
