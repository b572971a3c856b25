-- The part of the finder's order that tests the records that it was given and its nodes, 16, 3, 13 and 14: it passes where each of these facts holds.
use mathlib.Core.Path.{◌≡◌}
use mathlib.Core.List.{List}
use Prim.Native.Nat.{ℕ}
use lib.ListN.{length}
use Rattle.order.proofs.Laws.{Passes, pass_parts, pass_whole}
use Rattle.records.specs.Records.{total, cut}
use Rattle.views.specs.Passage.{passage}
use Rattle.views.specs.Shows.{broken_by}
use Rattle.passage_finder.specs.Outcome.{records_order, own_order}

module _ (digest : List ℕ → List ℕ) (node : ℕ → List ℕ) (n : ℕ) (is records lengths : List ℕ) where
  pub record Owned : Type 0 where
    pub one_each : length lengths ≡ length is
    pub adds_up : total lengths ≡ length records
    pub own_leaves : Passes (records_order digest node is (cut lengths records))
    pub sound : broken_by digest node (passage n is) n 0 ≡ 0

  pub owned_pass : Owned → Passes (own_order digest node n is records lengths)
  unfolding own_order
  owned_pass o = (o.one_each, (o.adds_up, pass_whole (records_order digest node is (cut lengths records)) _ o.own_leaves (o.sound, tt)))

  pub pass_owned : Passes (own_order digest node n is records lengths) → Owned
  unfolding own_order
  pass_owned p =
      let b = pass_parts (records_order digest node is (cut lengths records)) _ p.1.1 in
      record { one_each = p.0; adds_up = p.1.0; own_leaves = b.0; sound = b.1.0 }
