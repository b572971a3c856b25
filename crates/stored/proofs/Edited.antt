-- A leaf that was edited, its record or its digest: 18, unless two strings have one digest.
use mathlib.Core.Logic.{◌≢◌, ◌⊎◌, inl, inr}
use mathlib.Core.Path.{◌≡◌, refl, sym, ap, ◌∙◌}
use mathlib.Core.List.{List, List-discrete}
use Prim.Native.Nat.{ℕ, ◌+◌, ◌≤◌}
use native.Mathlib.Decide.{ℕ_discrete}
use borrow.Author.Rules.{rules}
use lib.ListN.{length}
use Rattle.wire.specs.Numbers.{Bytes}
use Rattle.wire.specs.Slices.{zeros}
use Rattle.wire.proofs.Differences.{differ_other}
use Rattle.order.proofs.Laws.{refuses}
use Rattle.stored.specs.Nodes.{leaf_bytes, flag_in, named_in, stated_in, record_in, lies}
use Rattle.stored.specs.Read.{leaf, read_refused, read_outcome}
use Rattle.stored.proofs.Fields.{leaf_whole}
use Rattle.stored.proofs.Flags.{on_leaf, read_leaf}
use Rattle.stored.proofs.Ends.{of_leaf}

module _ (digest : List ℕ → List ℕ) (bs : List ℕ) where
  -- a leaf of the exact length whose digest isn't that of its record gets 18
  pub lying_leaf : flag_in bs ≡ 1 → stated_in bs ≤ 16384 → length bs ≡ 37 + stated_in bs → digest (record_in bs) ≢ named_in bs
      → read_outcome digest bs ≡ read_refused (zeros 32) 18
  unfolding lies
  lying_leaf f w e o =
      let d : lies digest bs ≡ 1 = differ_other _ _ o in
      read_leaf digest bs f ∙ sym (refuses 18 _ (on_leaf digest bs) _ refl (search rules))

  -- the digest in a leaf that is read as done is that of its record
  pub leaf_true : (read_outcome digest bs).kind ≡ leaf → (read_outcome digest bs).digest ≡ digest (record_in bs)
  leaf_true k = let n = of_leaf digest bs k in rw n.outcome (sym n.true_digest)

  -- bytes that are read as a leaf are the leaf of their record, as it is written
  pub leaf_own : Bytes bs → (read_outcome digest bs).kind ≡ leaf → leaf_bytes digest (record_in bs) ≡ bs
  leaf_own b k = let n = of_leaf digest bs k in leaf_whole bs b n.flag n.exact digest n.true_digest

-- ---- a record that was logged, and a leaf that names its digest

-- the leaf is the record's own, as it is written; or the record in it is another, and the two are two strings with one digest. So a leaf whose
-- record was edited is never done unless the two records have one digest
pub edited_leaf : (digest : List ℕ → List ℕ) (rec bs : List ℕ) → Bytes bs
    → (read_outcome digest bs).kind ≡ leaf → (read_outcome digest bs).digest ≡ digest rec
    → (bs ≡ leaf_bytes digest rec) ⊎ ((record_in bs ≢ rec) × (digest (record_in bs) ≡ digest rec))
edited_leaf digest rec bs b k d = elim (List-discrete ℕ_discrete (record_in bs) rec) [
  | yes e ↦ inl (sym (leaf_own digest bs b k) ∙ ap (leaf_bytes digest) e)
  | no o ↦ inr (o, sym (leaf_true digest bs k) ∙ d)
]
