-- Any run of appends to an empty log leaves the nodes of the records that were taken; within the limits and with room all are taken.
-- Over any digest function.
use mathlib.Core.Path.{◌≡◌, refl, sym, ap, ◌∙◌, subst}
use mathlib.Core.Logic.{by_cases, ◌≢◌}
use mathlib.Core.Bool.{true, false}
use mathlib.Core.List.{List, [], ◌∷◌, ◌++◌, append_assoc, append-nil}
use Prim.Native.Nat.{ℕ, zero, suc, ◌+◌, ◌-◌, ◌*◌, ◌^◌, ◌≤◌, ◌<◌}
use native.Mathlib.Decide.{ℕ_discrete}
use native.Mathlib.Omega.{arith}
use borrow.Author.Tests.{eq-eqb, ne_eqb}
use lib.Dec.{eqb}
use lib.ListN.{length, get_or, take, drop, length-append, length-drop}
use lib.Seq.{take_at, drop_at, drop-drop}
use Rattle.shape.specs.Sizes.{size_of, hash_count, leaves}
use Rattle.shape.proofs.Nodes.{nodes_empty}
use Rattle.shape.proofs.Sizes.{size_zero, size_mono}
use Rattle.nodes.specs.Nodes.{nodes_of, Begins}
use Rattle.wire.specs.Slices.{joined}
use Rattle.evidence_log.specs.Outcome.{AppendOutcome, append_refused, append_order, append_outcome}
use Rattle.evidence_log.specs.Appends.{Short, State, step, run, empty, Sound}
use Rattle.shape.proofs.Counting.{counts_size}
use Rattle.evidence_log.proofs.Grown.{nodes_bytes, append_grows}
use Rattle.evidence_log.proofs.Told.{told_refused, told_done}

-- one record more, and the one at a place
snoc_length : (rs : List (List ℕ)) (r : List ℕ) → length (rs ++ (r ∷ [])) ≡ suc (length rs)
snoc_length rs r = length-append rs (r ∷ []) ∙ omega arith

short_snoc : (rs : List (List ℕ)) (r : List ℕ) → Short rs → length r ≤ 16384 → Short (rs ++ (r ∷ []))
short_snoc [] r s l = (l, tt)
short_snoc (x ∷ rs) r s l = (s.0, short_snoc rs r s.1 l)

pub short_at : (rs : List (List ℕ)) (i : ℕ) → Short rs → i < length rs → length (get_or rs i []) ≤ 16384
short_at [] i s p = absurd (omega arith)
short_at (r ∷ rs) zero s p = s.0
short_at (r ∷ rs) (suc i) s p = short_at rs i s.1 (omega arith)

module _ (digest : List ℕ → List ℕ) (digest_32 : (x : List ℕ) → length (digest x) ≡ 32) where
  -- a step whose append is done, and one whose append is refused
  pub step_taken : (s : State) (r : List ℕ) (o : AppendOutcome) → append_outcome digest s.size r s.bytes ≡ o → o.number ≡ 0
      → step digest s r ≡ record { size = o.size; bytes = o.bytes; taken = s.taken ++ (r ∷ []) }
  unfolding step
  step_taken s r o e z =
      let t : eqb (append_outcome digest s.size r s.bytes).number 0 ≡ true = eq-eqb _ _ (ap (λ (x : AppendOutcome). x.number) e ∙ z) in
      rw (t, e)

  pub step_left : (s : State) (r : List ℕ) (o : AppendOutcome) → append_outcome digest s.size r s.bytes ≡ o → o.number ≢ 0
      → step digest s r ≡ record { size = o.size; bytes = o.bytes; taken = s.taken }
  unfolding step
  step_left s r o e z =
      let t : eqb (append_outcome digest s.size r s.bytes).number 0 ≡ false =
      ne_eqb _ _ (λ h. z (sym (ap (λ (x : AppendOutcome). x.number) e) ∙ h)) in
      rw (t, e)

  module _ (bs : List ℕ) (s : State) (g : Sound digest bs s) (r : List ℕ) where
    -- the record within the limits, and room
    sound_taken : length s.taken < 2 ^ 32 → length r ≤ 16384 → 32 * size_of (suc (length s.taken)) ≤ length s.bytes
        → ((step digest s r).taken ≡ s.taken ++ (r ∷ [])) × Sound digest bs (step digest s r)
    sound_taken few short room =
        let ns = nodes_of digest (s.taken ++ (r ∷ [])) in
        let at = 32 * size_of (suc (length s.taken)) in
        let o : AppendOutcome = record {
          number = 0;
          size = size_of (suc (length s.taken));
          hashes = hash_count (length s.taken);
          bytes = ns ++ drop at s.bytes;
        } in
        let e : append_outcome digest s.size r s.bytes ≡ o =
        ap (λ (x : ℕ). append_outcome digest x r s.bytes) g.size
        ∙ append_grows digest digest_32 s.taken r s.bytes few g.begins short room in
        let st = step_taken s r o e refl in
        let l : length (s.taken ++ (r ∷ [])) ≡ suc (length s.taken) = snoc_length s.taken r in
        let long : length ns ≡ at = nodes_bytes digest digest_32 (s.taken ++ (r ∷ [])) ∙ ap (λ (x : ℕ). 32 * size_of x) l in
        let q : 32 * s.size + (at - 32 * s.size) ≡ at =
        omega (arith, g.size, size_mono (length s.taken) (suc (length s.taken)) (omega arith)) in
        let far : drop at s.bytes ≡ drop at bs =
        ap (λ (x : ℕ). drop x s.bytes) (sym q) ∙ sym (drop-drop (at - 32 * s.size) (32 * s.size) s.bytes)
        ∙ ap (drop (at - 32 * s.size)) g.beyond
        ∙ drop-drop (at - 32 * s.size) (32 * s.size) bs ∙ ap (λ (x : ℕ). drop x bs) q in
        let whole : Sound digest bs (record { size = o.size; bytes = o.bytes; taken = s.taken ++ (r ∷ []) }) =
        record {
          few = omega arith;
          short = short_snoc s.taken r g.short short;
          size = ap size_of (sym l);
          begins = ap (λ (x : ℕ). take (32 * size_of x) (ns ++ drop at s.bytes)) l ∙ take_at ns (drop at s.bytes) at long;
          beyond = drop_at ns (drop at s.bytes) at long ∙ far;
          long = length-append ns (drop at s.bytes) ∙ omega (arith, length-drop at s.bytes, g.long);
        } in
        (ap (λ (x : State). x.taken) st, subst (λ (x : State). Sound digest bs x) (sym st) whole)

    -- the append, over the buffer as it is
    abbrev outcome : AppendOutcome
    outcome = append_outcome digest s.size r s.bytes

    -- refused: all as it was
    sound_left : outcome.number ≢ 0 → Sound digest bs (step digest s r)
    sound_left z =
        let e = told_refused digest s.size r s.bytes z in
        subst (λ (x : State). Sound digest bs x) (sym (step_left s r (append_refused s.size s.bytes outcome.number) e z)) g

    -- done: the record was within the limits, and there was room
    sound_done : outcome.number ≡ 0 → Sound digest bs (step digest s r)
    unfolding append_order
    sound_done z =
        let a = (told_done digest s.size r s.bytes z).0 in
        let k = counts_size (length s.taken) g.few in
        let v : leaves s.size ≡ length s.taken = ap leaves g.size ∙ k.value in
        let w : 32 * size_of (suc (length s.taken)) ≤ length s.bytes =
        subst (λ (x : ℕ). 32 * size_of (suc x) ≤ length s.bytes) v a.1.1.1.0 in
        (sound_taken (omega (arith, g.few, a.1.0)) a.1.1.0 w).1

    pub step_sound : Sound digest bs (step digest s r)
    step_sound = by_cases (ℕ_discrete outcome.number 0) sound_done sound_left

  -- no nodes
  begins_empty : (bs : List ℕ) → Begins digest bs []
  unfolding nodes_of joined
  begins_empty bs = ap (λ (x : ℕ). take (32 * x) bs) size_zero ∙ sym (ap joined (nodes_empty digest))

  pub empty_sound : (bs : List ℕ) → Sound digest bs (empty bs)
  empty_sound bs = record { few = omega arith; short = tt; size = sym size_zero; begins = begins_empty bs; beyond = refl; long = refl }

  runs_sound : (bs : List ℕ) (s : State) (rs : List (List ℕ)) → Sound digest bs s → Sound digest bs (run digest s rs)
  unfolding run
  runs_sound bs s [] g = g
  runs_sound bs s (r ∷ rs) g = runs_sound bs (step digest s r) rs (step_sound bs s g r)

  -- any run of appends to an empty log, refused ones among them
  pub run_sound : (bs : List ℕ) (rs : List (List ℕ)) → Sound digest bs (run digest (empty bs) rs)
  run_sound bs rs = runs_sound bs (empty bs) rs (empty_sound bs)

  runs_all : (bs : List ℕ) (s : State) (rs : List (List ℕ)) → Sound digest bs s → Short rs → length s.taken + length rs ≤ 2 ^ 32
      → 32 * size_of (length s.taken + length rs) ≤ length bs → (run digest s rs).taken ≡ s.taken ++ rs
  unfolding run
  runs_all bs s [] g short few room = sym (append-nil s.taken)
  runs_all bs s (r ∷ rs) g short few room =
      let n = length s.taken in
      let m : size_of (suc n) ≤ size_of (n + suc (length rs)) = size_mono (suc n) (n + suc (length rs)) (omega arith) in
      let t = sound_taken bs s g r (omega arith) short.0 (omega (arith, g.long)) in
      let l : length (step digest s r).taken ≡ suc n = ap length t.0 ∙ snoc_length s.taken r in
      let q : length (step digest s r).taken + length rs ≡ n + suc (length rs) = omega arith in
      runs_all bs (step digest s r) rs t.1 short.1 (omega arith) (subst (λ (x : ℕ). 32 * size_of x ≤ length bs) (sym q) room)
      ∙ ap (λ (x : List (List ℕ)). x ++ rs) t.0
      ∙ append_assoc s.taken (r ∷ []) rs

  -- records within the limits, appended one by one to an empty log with room, are all taken
  pub run_all : (bs : List ℕ) (rs : List (List ℕ)) → Short rs → length rs ≤ 2 ^ 32 → 32 * size_of (length rs) ≤ length bs
      → (run digest (empty bs) rs).taken ≡ rs
  run_all bs rs short few room =
      let z : 0 + length rs ≡ length rs = omega arith in
      runs_all bs (empty bs) rs (empty_sound bs) short (omega arith) (subst (λ (x : ℕ). 32 * size_of x ≤ length bs) (sym z) room)
