-- What the number of an append tells, over any digest function: over any nodes and test of number 4, then for nodes in a buffer.
use mathlib.Core.Path.{◌≡◌, refl}
use mathlib.Core.Logic.{◌≢◌}
use mathlib.Core.List.{List}
use Prim.Native.Nat.{ℕ, suc, ◌*◌}
use lib.ListN.{length}
use Rattle.order.specs.Order.{Test, ◌under◌, first_number}
use Rattle.order.proofs.Laws.{Passes, number_is, accepted, refusal}
use Rattle.shape.specs.Sizes.{size_of, leaves}
use Rattle.nodes.specs.Nodes.{node_in}
use Rattle.evidence_log.specs.Outcome.{AppendOutcome, append_refused, append_order, append_done, append_over, put_nodes, append_outcome}

module _ (digest : List ℕ → List ℕ) (node : ℕ → List ℕ) (short : Test) (put : List (List ℕ) → List ℕ) (size : ℕ) (rec bs : List ℕ) where
  abbrev outcome : AppendOutcome
  outcome = append_over digest node short put size rec bs

  abbrev done : AppendOutcome
  done = append_done digest node put size rec

  -- it is that of the order
  pub append_number : outcome.number ≡ first_number (append_order short size rec)
  unfolding append_over append_done
  append_number =
      number_is (λ (x : AppendOutcome). x.number) (append_refused size bs) (append_order short size rec) done (λ m. refl) refl {r = outcome} refl

  -- another than 0: refused
  pub append_refused_lem : outcome.number ≢ 0 → outcome ≡ append_refused size bs outcome.number
  unfolding append_over append_done
  append_refused_lem z =
      refusal (λ (x : AppendOutcome). x.number) (append_refused size bs) (append_order short size rec) done (λ m. refl) refl {r = outcome} refl z

  -- 0: no test applies, and it is done
  pub append_pass : outcome.number ≡ 0 → Passes (append_order short size rec) × (outcome ≡ done)
  unfolding append_over append_order append_done
  append_pass z =
      accepted (λ (x : AppendOutcome). x.number) (append_refused size bs) (append_order short size rec) done (λ m. refl) refl {r = outcome} refl tt z

-- ---- nodes in a buffer

module _ (digest : List ℕ → List ℕ) (size : ℕ) (rec bs : List ℕ) where
  -- the test of number 4
  abbrev pub lacking : Test
  lacking = length bs under 32 * size_of (suc (leaves size))

  pub told_number : (append_outcome digest size rec bs).number ≡ first_number (append_order lacking size rec)
  unfolding append_outcome
  told_number = append_number digest (node_in bs) lacking (put_nodes size bs) size rec bs

  pub told_refused : (append_outcome digest size rec bs).number ≢ 0
      → append_outcome digest size rec bs ≡ append_refused size bs (append_outcome digest size rec bs).number
  unfolding append_outcome
  told_refused z = append_refused_lem digest (node_in bs) lacking (put_nodes size bs) size rec bs z

  pub told_done : (append_outcome digest size rec bs).number ≡ 0
      → Passes (append_order lacking size rec) × (append_outcome digest size rec bs ≡ append_done digest (node_in bs) (put_nodes size bs) size rec)
  unfolding append_outcome
  told_done z = append_pass digest (node_in bs) lacking (put_nodes size bs) size rec bs z
