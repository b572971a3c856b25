-- Of a log's own records, over any digest function: the writer's outcome is our letter. (The indexes are js here: `is` is a test of the order.)
use mathlib.Core.Path.{◌≡◌, sym, ap, ◌∙◌}
use mathlib.Core.List.{List, [], ◌∷◌, ◌++◌, map}
use Prim.Native.Nat.{ℕ, suc, ◌*◌, ◌≤◌}
use native.Mathlib.Omega.{arith}
use lib.ListN.{length, length-map}
use Rattle.order.specs.Order.{Refusal, ◌if◌, ◌is◌, ◌is_not◌, ◌under◌}
use Rattle.order.proofs.Laws.{Passes, passes, pass_whole}
use Rattle.wire.specs.Slices.{joined}
use Rattle.wire.specs.Writers.{write_refused, write_done}
use Rattle.records.specs.Records.{total, cut}
use Rattle.records.proofs.Cuts.{joined_cut, joined_total}
use Rattle.shape.specs.Sizes.{count_answer, leaves}
use Rattle.nodes.specs.Nodes.{node_in}
use Rattle.views.specs.Passage.{Rising}
use Rattle.letter_promise.specs.Terms.{log_size}
use Rattle.passage.specs.Request.{request_order, Request}
use Rattle.passage.proofs.Rising.{request_passes}
use Rattle.passage_fields.proofs.Entries.{AtMost}
use Rattle.passage_foresight.specs.Order.{limits_order, foreign_order}
use Rattle.passage_writer.specs.Outcome.{our_passage, write_order, write_over, write_outcome}
use Rattle.passage_promise.specs.Terms.{records_at}
use Rattle.passage_promise.specs.Promise.{ours}
use Rattle.letter_promise.proofs.Kept.{Kept, counts, not_foreign}
use Rattle.passage_promise.proofs.Short.{own_short}
use Rattle.passage_promise.proofs.Ours.{own_many}

-- 5 and 3 for no record
limits_pass : (n p : ℕ) (js lengths : List ℕ) → Rising p n js → AtMost 16384 lengths → Passes (limits_order n js lengths)
unfolding limits_order
limits_pass n p [] lengths q s = tt
limits_pass n p (j ∷ js) [] q s = tt
limits_pass n p (j ∷ js) (l ∷ lengths) q s = (q.1, (s.0, limits_pass n (suc j) js lengths q.2 s.1))

module _ {digest : List ℕ → List ℕ} {rs : List (List ℕ)} {bs : List ℕ} (k : Kept digest rs bs) where
  -- 13 for no record
  foreign_pass : (p : ℕ) (js : List ℕ) → Rising p (length rs) js → Passes (foreign_order digest (node_in bs) js (records_at rs js))
  unfolding foreign_order
  foreign_pass p [] q = tt
  foreign_pass p (j ∷ js) q = (not_foreign k j q.1, foreign_pass (suc j) js q.2)

  module _ (js : List ℕ) (q : Request (length rs) js) (out : List ℕ) (room : length (ours digest rs bs js) ≤ length out) where
    abbrev ts : List (List ℕ)
    ts = records_at rs js

    abbrev lengths : List ℕ
    lengths = map length ts

    -- 1 and 19; 16; 5 and 3; 4; 13
    abbrev first : List Refusal
    first = 1 if (count_answer (log_size rs)).number is 1 ∷ request_order js

    abbrev second : List Refusal
    second = 16 if length lengths is_not length js ∷ 16 if total lengths is_not length (joined ts) ∷ []

    abbrev third : List Refusal
    third = limits_order (leaves (log_size rs)) js lengths

    abbrev fourth : List Refusal
    fourth = 4 if length bs under 32 * log_size rs ∷ []

    abbrev fifth : List Refusal
    fifth = foreign_order digest (node_in bs) js (cut lengths (joined ts))

    write_pass : Passes (write_order digest (node_in bs) (length bs under 32 * log_size rs) (log_size rs) js (joined ts) lengths out)
    unfolding write_order
    write_pass =
        let c = counts k in
        let e = joined_cut ts in
        let a : Passes first = ((λ z. omega (arith, c.number)), request_passes (length rs) js q) in
        let b : Passes second = (length-map ts length ∙ own_many k js q, (joined_total ts, tt)) in
        let d : Passes third = rw c.value (limits_pass (length rs) 0 js lengths q.rising (own_short k 0 js q.rising)) in
        let f : Passes fifth = rw e (foreign_pass 0 js q.rising) in
        pass_whole (first ++ second ++ third ++ fourth ++ fifth) _
        (pass_whole (first ++ second ++ third ++ fourth) fifth
        (pass_whole (first ++ second ++ third) fourth
        (pass_whole (first ++ second) third (pass_whole first second a b) d) (k.room, tt)) f)
        (rw e (room, tt))

    pub ours_written : write_outcome digest (log_size rs) js (joined ts) lengths bs out ≡ write_done (ours digest rs bs js) out
    unfolding write_outcome write_over
    ours_written =
        let given : List (List ℕ) → List ℕ = λ xs. our_passage digest (log_size rs) js xs (node_in bs) in
        sym (passes (write_refused out) (write_order digest (node_in bs) (length bs under 32 * log_size rs) (log_size rs) js (joined ts) lengths out)
        (write_done (given (cut lengths (joined ts))) out) (ap (λ (xs : List (List ℕ)). write_done (given xs) out) (sym (joined_cut ts))) write_pass)
