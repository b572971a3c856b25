-- Where the letter's root stands on top and nothing differs, the letter holds what the nodes give, and no node looked into is broken.
use mathlib.Core.Path.{◌≡◌, refl, sym, ap, ap₂, ◌∙◌}
use mathlib.Core.List.{List, [], ◌∷◌, ◌++◌}
use Prim.Native.Nat.{ℕ, ◌-◌, ◌^◌, ◌<◌}
use native.Mathlib.Nat.{suc_inj}
use native.Mathlib.Omega.{arith}
use lib.ListN.{length, drop}
use lib.Pow.{pow_pos}
use Rattle.wire.specs.Slices.{Each}
use Rattle.wire.proofs.Differences.{differ_same}
use Rattle.shape.specs.Tree.{tip, fork, Tips32, root, inputs}
use Rattle.shape.specs.Positions.{behind}
use Rattle.shape.specs.Seen.{sides}
use Rattle.shape.specs.Difference.{decided, agree, unequal, difference}
use Rattle.shape.proofs.Difference.{difference_same, difference_other}
use Rattle.shape.proofs.Bind.{root_32, fronts, backs}
use Rattle.views.specs.View.{View, given, asked, both, givens, askeds, plant, side, ViewOf}
use Rattle.views.specs.Shows.{on_top, broken_top, seen_by, broken_by, gives_by, leaves_by, tree_by}
use Rattle.views.specs.Compared.{compared}
use Rattle.views.proofs.Sides.{side_holds, side_below, top_one, sides_tops, broken_top_lem}
use Rattle.views.proofs.Planted.{Exact, exact_enough, exact_same, plant_inj, plant_32}
use Rattle.views.proofs.Nodes.{gives_exact, leaves_exact, planted, top_32}
use Rattle.views.proofs.Compare.{seen_as_many}

-- two lists of one length of which nothing differs
difference_agree : (xs ys : List (List ℕ)) → length xs ≡ length ys → difference xs ys ≡ agree → xs ≡ ys
unfolding difference
difference_agree [] [] n e = refl
difference_agree [] (y ∷ ys) n e = absurd (omega arith)
difference_agree (x ∷ xs) [] n e = absurd (omega arith)
difference_agree (x ∷ xs) (y ∷ ys) n e = elim (decided x y) [
  | yes f ↦
      ap₂ (λ (z : List ℕ) (zs : List (List ℕ)). z ∷ zs) f (difference_agree xs ys (suc_inj n) (sym (difference_same x y xs ys f) ∙ e))
  | no f ↦
      let g : unequal x y ≡ agree = sym (difference_other x y xs ys f) ∙ e in
      absurd (let z : ◌≡◌ {A = ℕ} 0 1 = cc in omega arith)
]

module _ (digest : List ℕ → List ℕ) (node : ℕ → List ℕ)
    (digest_32 : (x : List ℕ) → length (digest x) ≡ 32) (node-32 : (p : ℕ) → length (node p) ≡ 32) where
  -- the tree that the nodes make is the letter's, and no node looked into is broken
  tree_agrees : (v : View) (n s : ℕ) (ds xs : List (List ℕ)) → 0 < n → ViewOf n v → Tips32 (plant v ds xs)
      → on_top digest node n s ≡ root digest (plant v ds xs) → seen_by digest node v n s ≡ inputs digest (plant v ds xs)
      → (tree_by digest node v n s ≡ plant v ds xs) × (broken_by digest node v n s ≡ 0)
  tree_agrees given n s ds xs p o t e f = (ap tip e, refl)
  tree_agrees asked n s ds xs p o t e f = (ap tip (sym (top_one digest node s) ∙ ap (λ (k : ℕ). on_top digest node k s) (sym o) ∙ e), refl)
  tree_agrees (both l r) n s ds xs p o t e f =
      let h = side n in
      let b = side_below n o.0 in
      let q = side_holds n o.0 in
      let left = plant l ds xs in
      let right = plant r (drop (askeds l) ds) (drop (givens l) xs) in
      let m : sides digest node h n s ≡ root digest left ++ root digest right = cc in
      let k : on_top digest node (2 ^ h) s ++ on_top digest node (n - 2 ^ h) (behind h s) ≡ root digest left ++ root digest right =
      sym (sides_tops digest node h n s b q) ∙ m in
      let c : length (on_top digest node (2 ^ h) s) ≡ length (root digest left) =
      top_32 digest node digest_32 node-32 (2 ^ h) s (pow_pos h) ∙ sym (root_32 digest digest_32 left t.0) in
      let g : seen_by digest node l (2 ^ h) s ++ seen_by digest node r (n - 2 ^ h) (behind h s) ≡ inputs digest left ++ inputs digest right = cc in
      let d = seen_as_many digest node l (2 ^ h) s ds xs in
      let y = on_top digest node (2 ^ h) s in
      let ys = seen_by digest node l (2 ^ h) s in
      let z : broken_top digest node h n s ≡ 0 = broken_top_lem digest node h n s b q ∙ differ_same _ _ (e ∙ ap digest (sym m)) in
      let u = tree_agrees l (2 ^ h) s ds xs (pow_pos h) o.1 t.0
      (fronts y _ (root digest left) _ c k) (fronts ys _ (inputs digest left) _ d g) in
      let w = tree_agrees r (n - 2 ^ h) (behind h s) (drop (askeds l) ds) (drop (givens l) xs) (omega arith) o.2 t.1
      (backs y _ (root digest left) _ c k) (backs ys _ (inputs digest left) _ d g) in
      (ap₂ fork u.0 w.0, rw (z, u.1, w.1))

  module _ (v : View) (n s : ℕ) (ds xs : List (List ℕ)) (p : 0 < n) (o : ViewOf n v) (m : Exact v ds xs) (a : Each 32 ds) (b : Each 32 xs)
      (e : on_top digest node n s ≡ root digest (plant v ds xs)) (f : compared digest node v n s ds xs ≡ agree) where
    agreed : (tree_by digest node v n s ≡ plant v ds xs) × (broken_by digest node v n s ≡ 0)
    agreed =
        tree_agrees v n s ds xs p o (plant_32 v ds xs (exact_enough v ds xs m) a b) e
        (difference_agree (seen_by digest node v n s) (inputs digest (plant v ds xs)) (seen_as_many digest node v n s ds xs) f)

    pub compared_agree : (leaves_by digest node v n s ≡ ds) × (gives_by digest node v n s ≡ xs)
    compared_agree =
        let ls = leaves_by digest node v n s in
        let gs = gives_by digest node v n s in
        let k : Exact v ls gs = (leaves_exact digest node v n s, gives_exact digest node v n s) in
        exact_same v ls ds gs xs k m
        (plant_inj v ls ds gs xs (exact_enough v ls gs k) (exact_enough v ds xs m) (planted digest node v n s ∙ agreed.0))

    pub compared_sound : broken_by digest node v n s ≡ 0
    compared_sound = agreed.1
