-- Which bytes are read as an inner node or a leaf, and that a reading with such a kind had them.
use mathlib.Core.Path.{◌≡◌, refl, sym, ◌∙◌}
use mathlib.Core.List.{List}
use Prim.Native.Nat.{ℕ, ◌+◌, ◌≤◌, ◌<◌}
use native.Mathlib.Omega.{arith}
use native.Mathlib.Decide.{ℕ_discrete}
use borrow.Author.Rules.{rules}
use lib.ListN.{length}
use Rattle.wire.specs.Slices.{zeros}
use Rattle.wire.proofs.Parts.{part_length}
use Rattle.wire.proofs.Differences.{differ_same, same_of_differ}
use Rattle.order.proofs.Laws.{refuses, passes, accepted, refusal}
use Rattle.stored.specs.Nodes.{flag_in, named_in, stated_in, record_in, lies}
use Rattle.stored.specs.Read.{inner, leaf, ReadOutcome, read_refused, inner_read, leaf_read, read_order, read_outcome}
use Rattle.stored.proofs.Flags.{on_inner, read_inner, on_leaf, read_leaf}

-- bytes that are read as an inner node
pub record InnerNode (digest : List ℕ → List ℕ) (bs : List ℕ) : Type 0 where
  pub flag : flag_in bs ≡ 0
  pub exact : length bs ≡ 33
  pub outcome : read_outcome digest bs ≡ inner_read (named_in bs)

-- bytes that are read as a leaf
pub record LeafNode (digest : List ℕ → List ℕ) (bs : List ℕ) : Type 0 where
  pub flag : flag_in bs ≡ 1
  pub within : stated_in bs ≤ 16384
  pub exact : length bs ≡ 37 + stated_in bs
  pub true_digest : digest (record_in bs) ≡ named_in bs
  pub outcome : read_outcome digest bs ≡ leaf_read (stated_in bs) (named_in bs)

-- which bytes are
module _ (digest : List ℕ → List ℕ) (bs : List ℕ) where
  pub inner_node : flag_in bs ≡ 0 → length bs ≡ 33 → InnerNode digest bs
  inner_node f e =
      record { flag = f; exact = e; outcome = read_inner digest bs f ∙ sym (passes _ (on_inner bs) _ refl (search rules)) }

  pub leaf_node : flag_in bs ≡ 1 → stated_in bs ≤ 16384 → length bs ≡ 37 + stated_in bs → digest (record_in bs) ≡ named_in bs → LeafNode digest bs
  unfolding lies
  leaf_node f w e t =
      let d : lies digest bs ≡ 0 = differ_same _ _ t in
      record {
        flag = f;
        within = w;
        exact = e;
        true_digest = t;
        outcome = read_leaf digest bs f ∙ sym (passes _ (on_leaf digest bs) _ refl (search rules));
      }

-- a reading ends as one of the two or as a refusal
data Ends (digest : List ℕ → List ℕ) (bs : List ℕ) : Type 0 where
  at_inner : InnerNode digest bs → Ends digest bs
  at_leaf : LeafNode digest bs → Ends digest bs
  refused : (n : ℕ) → read_outcome digest bs ≡ read_refused (zeros 32) n → Ends digest bs

abbrev number : ReadOutcome → ℕ
number o = o.number

module _ (digest : List ℕ → List ℕ) (bs : List ℕ) where
  ends_inner : flag_in bs ≡ 0 → Ends digest bs
  ends_inner f = elim (ℕ_discrete (read_outcome digest bs).number 0) [
    | yes z ↦ at_inner (inner_node digest bs f (accepted number _ (on_inner bs) _ (λ n. refl) refl (read_inner digest bs f) tt z).0.1.1.0)
    | no z ↦ refused _ (refusal number _ (on_inner bs) _ (λ n. refl) refl (read_inner digest bs f) z)
  ]

  ends_leaf : flag_in bs ≡ 1 → Ends digest bs
  unfolding lies
  ends_leaf f = elim (ℕ_discrete (read_outcome digest bs).number 0) [
    | yes z ↦
        let p = (accepted number _ (on_leaf digest bs) _ (λ n. refl) refl (read_leaf digest bs f) tt z).0 in
        at_leaf (leaf_node digest bs f p.1.1.1.0 p.1.1.1.1.0 (same_of_differ _ _ p.1.1.1.1.1.0))
    | no z ↦ refused _ (refusal number _ (on_leaf digest bs) _ (λ n. refl) refl (read_leaf digest bs f) z)
  ]

  ends_unknown : 1 < flag_in bs → Ends digest bs
  unfolding read_outcome read_order
  ends_unknown f = refused 11 (sym (refuses 11 _ _ _ refl (λ h h'. absurd (omega arith))))

  ended : Ends digest bs
  ended = elim (ℕ_discrete (flag_in bs) 0) [
    | yes f ↦ ends_inner f
    | no f ↦ elim (ℕ_discrete (flag_in bs) 1) [ yes g ↦ ends_leaf g | no g ↦ ends_unknown (omega arith) ]
  ]

  -- what a reading says of the bytes
  pub of_inner : (read_outcome digest bs).kind ≡ inner → InnerNode digest bs
  of_inner k = elim ended [
    | at_inner h ↦ h
    | at_leaf h ↦ let z : ◌≡◌ {A = ℕ} 0 1 = cc in absurd (omega arith)
    | refused n o ↦ let z : ◌≡◌ {A = ℕ} 0 1 = cc in absurd (omega arith)
  ]

  pub of_leaf : (read_outcome digest bs).kind ≡ leaf → LeafNode digest bs
  of_leaf k = elim ended [
    | at_inner h ↦ let z : ◌≡◌ {A = ℕ} 0 1 = cc in absurd (omega arith)
    | at_leaf h ↦ h
    | refused n o ↦ let z : ◌≡◌ {A = ℕ} 0 1 = cc in absurd (omega arith)
  ]

  -- the digest of a reading has 32 bytes, whatever is read
  pub read_32 : length (read_outcome digest bs).digest ≡ 32
  unfolding named_in
  read_32 = elim ended [
    | at_inner h ↦ rw h.outcome (part_length 1 32 bs)
    | at_leaf h ↦ rw h.outcome (part_length 1 32 bs)
    | refused n o ↦ rw o refl
  ]
