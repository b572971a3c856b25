-- The root call answers by the plain rule, over any digest function with digests of 32 bytes, and for BLAKE3 in every mode.
use mathlib.Core.Path.{◌≡◌, refl, sym, ap, subst, ◌∙◌}
use mathlib.Core.List.{List, [], ◌∷◌}
use Prim.Native.Nat.{ℕ}
use native.Mathlib.Omega.{arith}
use borrow.Author.Rules.{rules}
use lib.ListN.{length}
use Rattle.digest.specs.Digest.{digest_in, digest_length}
use Rattle.order.proofs.Laws.{refuses}
use Rattle.shape.specs.Sizes.{size_of}
use Rattle.shape.proofs.Counting.{counts_size}
use Rattle.nodes.specs.Nodes.{node_in}
use Rattle.evidence_log.specs.Outcome.{RootOutcome, root_refused, root_order, root_done, root_over, root_outcome}
use Rattle.evidence_log.proofs.Grown.{root_of_log}
use Rattle.evidence_log.proofs.Appends.{run_sound}
use Rattle.batch_laws.proofs.Calls.{calls_sound}
use Rattle.plain_rule.specs.Root.{Answers, none, root, RootAnswers, SoundAnswers, RunAnswers, CallsAnswers, AnswersOnly}
use Rattle.plain_rule.proofs.Splits.{split_some, split_long}
use Rattle.plain_rule.proofs.Folded.{plain_root_lem, plain_only}

-- no record: 10, over any buffer
root_of_none : (digest : List ℕ → List ℕ) (bs : List ℕ) → root_outcome digest (size_of 0) bs ≡ root_refused 10
unfolding root_outcome root_over root_order
root_of_none digest bs =
    let c = counts_size 0 (omega arith) in
    sym (refuses 10 root_refused _ (root_done digest (node_in bs) (size_of 0)) refl (search rules))

-- a list of records has one answer
pub answers_only : (digest : List ℕ → List ℕ) → AnswersOnly digest
answers_only digest rs o p none none = refl
answers_only digest rs o p none (root t) = absurd (omega (arith, split_long t))
answers_only digest rs o p (root s) none = absurd (omega (arith, split_long s))
answers_only digest rs o p (root s) (root t) = ap (λ (d : List ℕ). record { number = 0; root = d }) (plain_only digest rs s t)

module _ (digest : List ℕ → List ℕ) (digest_32 : (x : List ℕ) → length (digest x) ≡ 32) where
  -- of any buffer that begins with the records' nodes
  pub root_answers_over : RootAnswers digest
  root_answers_over [] few bs b = subst (λ (o : RootOutcome). Answers digest [] o) (sym (root_of_none digest bs)) none
  root_answers_over (r ∷ rs) few bs b =
      let s = split_some (r ∷ rs) (omega arith) in
      let e : root_outcome digest (size_of (length (r ∷ rs))) bs ≡ record { number = 0; root = _ } =
      root_of_log digest digest_32 (r ∷ rs) bs (omega arith) few b
      ∙ ap (λ (d : List ℕ). record { number = 0; root = d }) (sym (plain_root_lem digest s)) in
      subst (λ (o : RootOutcome). Answers digest (r ∷ rs) o) (sym e) (root s)

  -- of whatever leaves what appending one by one leaves
  pub sound_answers_over : SoundAnswers digest
  sound_answers_over bs s g =
      subst (λ (x : ℕ). Answers digest s.taken (root_outcome digest x s.bytes)) (sym g.size)
      (root_answers_over s.taken g.few s.bytes g.begins)

  -- of any run of appends
  pub run_answers_over : RunAnswers digest
  run_answers_over bs rs = sound_answers_over bs _ (run_sound digest digest_32 bs rs)

  -- of any run of appends and batches
  pub calls_answers_over : CallsAnswers digest
  calls_answers_over bs cs = sound_answers_over bs _ (calls_sound digest digest_32 bs cs)

-- ---- for BLAKE3, plain or keyed

pub root_answers : (mode : List ℕ) → RootAnswers (digest_in mode)
root_answers mode = root_answers_over (digest_in mode) (digest_length mode)

pub sound_answers : (mode : List ℕ) → SoundAnswers (digest_in mode)
sound_answers mode = sound_answers_over (digest_in mode) (digest_length mode)

pub run_answers : (mode : List ℕ) → RunAnswers (digest_in mode)
run_answers mode = run_answers_over (digest_in mode) (digest_length mode)

pub calls_answers : (mode : List ℕ) → CallsAnswers (digest_in mode)
calls_answers mode = calls_answers_over (digest_in mode) (digest_length mode)
