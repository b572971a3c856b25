-- Each statement leaves one answer; for a list of all records, one answer and three lists.
use mathlib.Core.Path.{◌≡◌, refl, sym, ap, ap₂, path_j, ◌∙◌}
use mathlib.Core.List.{List}
use Prim.Native.Nat.{ℕ, ◌<◌}
use native.Mathlib.Omega.{arith}
use native.Mathlib.Bridge.{le_prop}
use Rattle.std.specs.Prelude.{Option, Some, None, Result, Ok, Err}
use Rattle.refusals.specs.declared.Refused.{Refused}
use Rattle.refusals.proofs.Laws.{number_above, same_number}
use Rattle.passage_records.specs.declared.place.Handed.{Handed}
use Rattle.passage_records.specs.Outcome.{EntryOutcome, handed, EntriesOutcome, listed}

-- a record that is handed out, by its three fields
abbrev placed : (i s l : ℕ) → 0 < s → Handed
placed i s l behind = record { index = i; start = s; length = l; behind = behind }

same_start : (i l : ℕ) {s t : ℕ} → s ≡ t → (x : 0 < s) (y : 0 < t) → placed i s l x ≡ placed i t l y
same_start i l {s} p x y = path_j (λ t q. (z : 0 < t) → placed i s l x ≡ placed i t l z) (λ z j. placed i s l (le_prop x z j)) p y

same_handed : (a b : Handed) → a.index ≡ b.index → a.start ≡ b.start → a.length ≡ b.length → a ≡ b
same_handed a b i s l = ap₂ (λ (x y : ℕ). placed x a.start y a.behind) i l ∙ same_start b.index b.length s a.behind b.behind

-- no record is handed out at the start of a letter, which is where the empty part is
no_start : (a : Handed) {n : ℕ} → a.start ≡ n → n ≡ 0 → ⊥
no_start a e z = omega (arith, a.behind, e, z)

pub entry_only : (outcome : EntryOutcome) {r s : Result (Option Handed) Refused} → handed r ≡ outcome → handed s ≡ outcome → r ≡ s
entry_only outcome {r = Ok (Some a)} {s = Ok (Some b)} e f =
    let g = e ∙ sym f in
    ap (λ (h : Handed). Ok (Some h))
    (same_handed a b (ap (λ (o : EntryOutcome). o.index) g) (ap (λ (o : EntryOutcome). o.start) g) (ap (λ (o : EntryOutcome). o.length) g))
entry_only outcome {r = Ok (Some a)} {s = Ok None} e f = absurd (no_start a (ap (λ (o : EntryOutcome). o.start) (e ∙ sym f)) refl)
entry_only outcome {r = Ok None} {s = Ok (Some b)} e f = absurd (no_start b (ap (λ (o : EntryOutcome). o.start) (f ∙ sym e)) refl)
entry_only outcome {r = Ok None} {s = Ok None} e f = refl
entry_only outcome {r = Ok (Some a)} {s = Err b} e f = absurd (omega (arith, number_above b, ap (λ (o : EntryOutcome). o.number) (e ∙ sym f)))
entry_only outcome {r = Ok None} {s = Err b} e f = absurd (omega (arith, number_above b, ap (λ (o : EntryOutcome). o.number) (e ∙ sym f)))
entry_only outcome {r = Err a} {s = Ok (Some b)} e f = absurd (omega (arith, number_above a, ap (λ (o : EntryOutcome). o.number) (e ∙ sym f)))
entry_only outcome {r = Err a} {s = Ok None} e f = absurd (omega (arith, number_above a, ap (λ (o : EntryOutcome). o.number) (e ∙ sym f)))
entry_only outcome {r = Err a} {s = Err b} e f = ap Err (same_number a b (ap (λ (o : EntryOutcome). o.number) (e ∙ sym f)))

-- the answer and the three lists, read off the outcome
same : (r s : Result ℕ Refused) (i j k u v w : List ℕ) → listed r i j k ≡ listed s u v w → r ≡ s
same (Ok x) (Ok y) i j k u v w e = ap (λ (o : EntriesOutcome). Ok o.count) e
same (Ok x) (Err b) i j k u v w e = absurd (omega (arith, number_above b, ap (λ (o : EntriesOutcome). o.number) e))
same (Err a) (Ok y) i j k u v w e = absurd (omega (arith, number_above a, ap (λ (o : EntriesOutcome). o.number) e))
same (Err a) (Err b) i j k u v w e = ap Err (same_number a b (ap (λ (o : EntriesOutcome). o.number) e))

lists : (r : Result ℕ Refused) (i j k : List ℕ)
    → ((listed r i j k).indexes ≡ i) × ((listed r i j k).starts ≡ j) × ((listed r i j k).lengths ≡ k)
lists (Ok x) i j k = (refl, refl, refl)
lists (Err a) i j k = (refl, refl, refl)

pub entries_only : (outcome : EntriesOutcome) {p q : Result ℕ Refused × List ℕ × List ℕ × List ℕ} → listed p.0 p.1 p.2 p.3 ≡ outcome
    → listed q.0 q.1 q.2 q.3 ≡ outcome → p ≡ q
entries_only outcome {p} {q} e f =
    let g = e ∙ sym f in
    let a = lists p.0 p.1 p.2 p.3 in
    let b = lists q.0 q.1 q.2 q.3 in
    let x = same p.0 q.0 p.1 p.2 p.3 q.1 q.2 q.3 g in
    let i = sym a.0 ∙ ap (λ (o : EntriesOutcome). o.indexes) g ∙ b.0 in
    let j = sym a.1 ∙ ap (λ (o : EntriesOutcome). o.starts) g ∙ b.1 in
    let k = sym a.2 ∙ ap (λ (o : EntriesOutcome). o.lengths) g ∙ b.2 in
    λ t. (x t, i t, j t, k t)
