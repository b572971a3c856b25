-- The nodes of a log: a perfect tree for each one-bit, its top the last; as many nodes as the size; each of 32 bytes.
use mathlib.Core.Path.{◌≡◌, refl, sym, ap, ap₂, ◌∙◌}
use mathlib.Core.Logic.{by_cases}
use mathlib.Core.List.{List, [], ◌∷◌, ◌++◌, append-nil}
use Prim.Native.Nat.{ℕ, zero, suc, ◌+◌, ◌-◌, ◌^◌, ◌≤◌, ◌<◌}
use native.Mathlib.Decide.{dec_lt}
use native.Mathlib.Omega.{arith}
use lib.ListN.{length, length-append, length-drop, drop_of_length-le, take, drop}
use lib.Seq.{length-take-le, take_all}
use lib.Pow.{pow_pos}
use borrow.Author.Tests.{le-leb, lt-leb}
use Rattle.shape.specs.Sizes.{size_of, height_of}
use Rattle.wire.specs.Slices.{Each}
use Rattle.shape.specs.Tree.{root}
use Rattle.shape.specs.Folded.{tree_in}
use Rattle.shape.specs.Nodes.{peakwise, perfect_root, perfect, nodes_in, nodes}
use Rattle.shape.proofs.Heights.{height_above, any_height}
use Rattle.shape.proofs.Sizes.{size_zero, size_peak}
use Rattle.wire.proofs.Each.{each_append, each_take, each_drop}
use Rattle.shape.proofs.Trees.{tree_high}

-- what each peak gives, whatever it is
module _ (give : ℕ → List (List ℕ) → List (List ℕ)) where
  pub peakwise_skip : (k : ℕ) (ds : List (List ℕ)) → length ds < 2 ^ k → peakwise give (suc k) ds ≡ peakwise give k ds
  unfolding peakwise
  peakwise_skip k ds p = rw (lt-leb (2 ^ k) (length ds) p, peakwise)

  pub peakwise_take : (k : ℕ) (ds : List (List ℕ)) → 2 ^ k ≤ length ds
      → peakwise give (suc k) ds ≡ give k (take (2 ^ k) ds) ++ peakwise give k (drop (2 ^ k) ds)
  unfolding peakwise
  peakwise_take k ds p = rw (le-leb (2 ^ k) (length ds) p, peakwise)

  pub peakwise_none : (k : ℕ) → peakwise give k [] ≡ []
  unfolding peakwise
  peakwise_none zero = refl
  peakwise_none (suc k) = peakwise_skip k [] (pow_pos k) ∙ peakwise_none k

  pub peakwise_low : (h : ℕ) (ds : List (List ℕ)) → length ds ≤ 2 ^ h → peakwise give (suc (suc h)) ds ≡ peakwise give (suc h) ds
  peakwise_low h ds p = peakwise_skip (suc h) ds (omega (arith, pow_pos h))

  pub peakwise_any : (h : ℕ) (ds : List (List ℕ)) → length ds ≤ 2 ^ h → peakwise give (suc h) ds ≡ peakwise give (suc (height_of (length ds))) ds
  peakwise_any h ds p = any_height (λ (k : ℕ). peakwise give (suc k) ds) (length ds) (λ k q. peakwise_low k ds q) h p

  -- one peak is all
  pub peakwise_one : (h : ℕ) (ds : List (List ℕ)) → length ds ≡ 2 ^ h → peakwise give (suc h) ds ≡ give h ds
  peakwise_one h ds e =
      peakwise_take h ds (omega arith)
      ∙ rw (take_all (2 ^ h) ds (omega arith), drop_of_length-le ds {i = 2 ^ h} (omega arith), peakwise_none h) (append-nil (give h ds))

  -- more than one: the tallest first, then those of the rest
  pub peakwise_more : (h : ℕ) (ds : List (List ℕ)) → 2 ^ h ≤ length ds → length ds < 2 ^ suc h
      → peakwise give (suc (suc h)) ds ≡ give h (take (2 ^ h) ds) ++ peakwise give (suc h) (drop (2 ^ h) ds)
  peakwise_more h ds p q =
      peakwise_skip (suc h) ds q ∙ peakwise_take h ds p
      ∙ ap (λ (r : List (List ℕ)). give h (take (2 ^ h) ds) ++ r) (sym (peakwise_skip h (drop (2 ^ h) ds) (rw length-drop (omega arith))))

module _ (digest : List ℕ → List ℕ) where
  -- an empty log has no nodes
  pub nodes_empty : nodes digest [] ≡ []
  unfolding nodes
  nodes_empty = peakwise_none (perfect digest) _

  pub nodes_any : (h : ℕ) (ds : List (List ℕ)) → length ds ≤ 2 ^ h → nodes_in digest (suc h) ds ≡ nodes digest ds
  unfolding nodes
  nodes_any h ds p = peakwise_any (perfect digest) h ds p

  -- the top of a perfect tree is its last node
  pub record Topped (h : ℕ) (ds : List (List ℕ)) : Type 0 where
    pub below : List (List ℕ)
    pub ends : perfect digest h ds ≡ below ++ (perfect_root digest h ds ∷ [])
    pub size : length below + 2 ≡ 2 ^ suc h

  topped_length : {h : ℕ} {ds : List (List ℕ)} → Topped h ds → length (perfect digest h ds) + 1 ≡ 2 ^ suc h
  topped_length t = rw (t.ends, length-append) (omega arith)

  pub perfect_topped : (h : ℕ) (ds : List (List ℕ)) → length ds ≡ 2 ^ h → Topped h ds
  unfolding perfect perfect_root
  perfect_topped zero [] e = absurd (omega arith)
  perfect_topped zero (d ∷ []) e = record { below = []; ends = refl; size = refl }
  perfect_topped zero (d ∷ c ∷ ds) e = absurd (omega arith)
  perfect_topped (suc h) ds e =
      let l = topped_length (perfect_topped h (take (2 ^ h) ds) (length-take-le (2 ^ h) ds (omega arith))) in
      let r = topped_length (perfect_topped h (drop (2 ^ h) ds) (length-drop (2 ^ h) ds ∙ omega arith)) in
      record {
        below = perfect digest h (take (2 ^ h) ds) ++ perfect digest h (drop (2 ^ h) ds);
        ends = refl;
        size = rw length-append (omega arith);
      }

  pub perfect_length : (h : ℕ) (ds : List (List ℕ)) → length ds ≡ 2 ^ h → length (perfect digest h ds) ≡ 2 ^ suc h - 1
  perfect_length h ds e = omega (arith, topped_length (perfect_topped h ds e))

  pub length_in : (k : ℕ) (ds : List (List ℕ)) → length ds < 2 ^ k → length (nodes_in digest k ds) ≡ size_of (length ds)
  unfolding peakwise
  length_in zero [] p = sym size_zero
  length_in zero (d ∷ ds) p = absurd (omega arith)
  length_in (suc k) ds p =
      by_cases (dec_lt (length ds) (2 ^ k))
      (λ a. rw (peakwise_skip (perfect digest) k ds a) (length_in k ds a))
      (λ a.
      let e : 2 ^ k + length (drop (2 ^ k) ds) ≡ length ds = rw length-drop (omega arith) in
      let b : length (drop (2 ^ k) ds) < 2 ^ k = omega arith in
      rw (
        peakwise_take (perfect digest) k ds (omega arith),
        length-append,
        perfect_length k (take (2 ^ k) ds) (length-take-le (2 ^ k) ds (omega arith)),
        length_in k (drop (2 ^ k) ds) b,
      ) (sym (ap size_of (sym e) ∙ size_peak k (length (drop (2 ^ k) ds)) b)))

  -- RULES 6.1: the size of n leaves is 2n minus the ones in n
  pub nodes_length : (ds : List (List ℕ)) → length (nodes digest ds) ≡ size_of (length ds)
  unfolding nodes
  nodes_length ds = length_in (suc (height_of (length ds))) ds (height_above (length ds))

  -- the folded tree of 2^h leaves is the perfect tree
  pub perfect_root_lem : (h : ℕ) (ds : List (List ℕ)) → length ds ≡ 2 ^ h → perfect_root digest h ds ≡ root digest (tree_in h ds)
  unfolding perfect_root tree_in
  perfect_root_lem zero ds e = refl
  perfect_root_lem (suc h) ds e =
      rw (tree_high h ds (omega (arith, pow_pos h)))
      (ap₂ (λ (x y : List ℕ). digest (x ++ y))
      (perfect_root_lem h (take (2 ^ h) ds) (length-take-le (2 ^ h) ds (omega arith)))
      (perfect_root_lem h (drop (2 ^ h) ds) (length-drop (2 ^ h) ds ∙ omega arith)))

  module _ (digest_32 : (x : List ℕ) → length (digest x) ≡ 32) where
    perfect_32 : (h : ℕ) (ds : List (List ℕ)) → length ds ≡ 2 ^ h → Each 32 ds → Each 32 (perfect digest h ds)
    unfolding perfect perfect_root
    perfect_32 zero ds e p = p
    perfect_32 (suc h) ds e p =
        each_append 32 (perfect digest h (take (2 ^ h) ds) ++ perfect digest h (drop (2 ^ h) ds)) (perfect_root digest (suc h) ds ∷ [])
        (each_append 32 (perfect digest h (take (2 ^ h) ds)) (perfect digest h (drop (2 ^ h) ds))
        (perfect_32 h (take (2 ^ h) ds) (length-take-le (2 ^ h) ds (omega arith)) (each_take 32 (2 ^ h) ds p))
        (perfect_32 h (drop (2 ^ h) ds) (length-drop (2 ^ h) ds ∙ omega arith) (each_drop 32 (2 ^ h) ds p)))
        (digest_32 _, tt)

    each_in : (k : ℕ) (ds : List (List ℕ)) → Each 32 ds → Each 32 (nodes_in digest k ds)
    unfolding peakwise
    each_in zero ds p = tt
    each_in (suc k) ds p =
        by_cases (dec_lt (length ds) (2 ^ k))
        (λ a. rw (peakwise_skip (perfect digest) k ds a) (each_in k ds p))
        (λ a.
        rw (peakwise_take (perfect digest) k ds (omega arith))
        (each_append 32 (perfect digest k (take (2 ^ k) ds)) (nodes_in digest k (drop (2 ^ k) ds))
        (perfect_32 k (take (2 ^ k) ds) (length-take-le (2 ^ k) ds (omega arith)) (each_take 32 (2 ^ k) ds p))
        (each_in k (drop (2 ^ k) ds) (each_drop 32 (2 ^ k) ds p))))

    -- each node has 32 bytes
    pub nodes_32 : (ds : List (List ℕ)) → Each 32 ds → Each 32 (nodes digest ds)
    unfolding nodes
    nodes_32 ds p = each_in (suc (height_of (length ds))) ds p
