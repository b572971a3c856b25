-- The tree that the plain rule makes is the folded tree, and its turns to a record are the way there: so there is one root.
use mathlib.Core.Path.{◌≡◌, refl, sym, ap, ap₂, ◌∙◌}
use mathlib.Core.Logic.{by_cases}
use mathlib.Core.List.{List, [], ◌∷◌, ◌++◌, map}
use Prim.Native.Nat.{ℕ, zero, suc, ◌+◌, ◌-◌, ◌^◌, ◌≤◌, ◌<◌}
use native.Mathlib.Decide.{dec_lt}
use native.Mathlib.Omega.{arith}
use borrow.Author.Tests.{lt-ltb, le-ltb}
use lib.Dec.{eqb}
use lib.ListN.{length, length-map, length-drop, take, drop}
use lib.Seq.{length-take-le}
use Rattle.powers.specs.Largest.{LargestPowerBelow}
use Rattle.powers.proofs.Largest.{largest_next}
use Rattle.shape.specs.Tree.{fork, Turn, left, root}
use Rattle.shape.specs.Folded.{tree_in, tree}
use Rattle.shape.specs.Letter.{rightward}
use Rattle.shape.specs.Way.{way_in, way}
use Rattle.shape.proofs.Trees.{tree_any, tree_split}
use Rattle.shape.proofs.Leaves.{leaf_digest}
use Rattle.shape.proofs.Ways.{way_left, way_turn, way_any, way_leads}
use Rattle.plain_rule.specs.Rule.{Split, one, more, plain_root, PlainOnly}
use Rattle.plain_rule.specs.Tree.{plain_tree, turns, TreeRoot, TurnsLead}

-- ---- the tree

map_take : (f : List ℕ → List ℕ) (n : ℕ) (rs : List (List ℕ)) → take n (map f rs) ≡ map f (take n rs)
map_take f zero rs = refl
map_take f (suc n) [] = refl
map_take f (suc n) (r ∷ rs) = ap (f r ∷◌) (map_take f n rs)

map_drop : (f : List ℕ → List ℕ) (n : ℕ) (rs : List (List ℕ)) → drop n (map f rs) ≡ map f (drop n rs)
map_drop f zero rs = refl
map_drop f (suc n) [] = refl
map_drop f (suc n) (r ∷ rs) = map_drop f n rs

module _ (digest : List ℕ → List ℕ) where
  -- the folded tree is split as the rule says
  tree_halves : (rs : List (List ℕ)) (m : ℕ) → LargestPowerBelow (length rs) m
      → tree (map digest rs) ≡ fork (tree (map digest (take m rs))) (tree (map digest (drop m rs)))
  tree_halves rs m p =
      let n : length (map digest rs) ≡ length rs = length-map rs digest in
      let k = p.exponent in
      tree_split k (map digest rs) (omega (arith, p.power, p.below)) (omega (arith, largest_next p))
      ∙ ap (λ (x : ℕ). fork (tree (take x (map digest rs))) (tree (drop x (map digest rs)))) (sym p.power)
      ∙ ap₂ (λ (x y : List (List ℕ)). fork (tree x) (tree y)) (map_take digest m rs) (map_drop digest m rs)

  pub plain_tree_lem : {rs : List (List ℕ)} (s : Split rs) → plain_tree digest s ≡ tree (map digest rs)
  unfolding tree_in
  plain_tree_lem (one r) = tree_any 0 (digest r ∷ []) (omega arith)
  plain_tree_lem (more rs m p l r) = ap₂ fork (plain_tree_lem l) (plain_tree_lem r) ∙ sym (tree_halves rs m p)

-- and the root of that tree is the rule's
pub tree_root : TreeRoot
tree_root digest xs (one r) = refl
tree_root digest xs (more rs m p l r) =
    ap₂ (λ (x y : List ℕ). digest (x ++ y)) (tree_root digest (take m rs) l) (tree_root digest (drop m rs) r)

pub plain_root_lem : (digest : List ℕ → List ℕ) {rs : List (List ℕ)} (s : Split rs) → plain_root digest s ≡ root digest (tree (map digest rs))
plain_root_lem digest {rs} s = sym (tree_root digest rs s) ∙ ap (root digest) (plain_tree_lem digest s)

pub plain_only : PlainOnly
plain_only digest rs s t = plain_root_lem digest s ∙ sym (plain_root_lem digest t)

-- ---- the turns

module _ (n m i : ℕ) (p : LargestPowerBelow n m) where
  way_to_left : i < m → way n i ≡ left ∷ way m i
  way_to_left c =
      let k = p.exponent in
      sym (way_any (suc k) n i (largest_next p))
      ∙ way_left k n i (omega (arith, p.power, p.below)) (omega (arith, p.power))
      ∙ ap (left ∷◌) (way_any k (2 ^ k) i (omega arith) ∙ ap (λ (x : ℕ). way x i) (sym p.power))

  way_to_right : m ≤ i → way n i ≡ rightward (eqb n (m + m)) ∷ way (n - m) (i - m)
  way_to_right c =
      let k = p.exponent in
      let both : 2 ^ suc k ≡ m + m = omega (arith, p.power) in
      sym (way_any (suc k) n i (largest_next p))
      ∙ way_turn k n i (omega (arith, p.power, p.below)) (omega (arith, p.power))
      ∙ ap₂ (λ (x : ℕ) (w : List Turn). rightward (eqb n x) ∷ w) both
      (way_any k (n - 2 ^ k) (i - 2 ^ k) (omega (arith, largest_next p)) ∙ ap (λ (x : ℕ). way (n - x) (i - x)) (sym p.power))

pub plain_turns : {rs : List (List ℕ)} (s : Split rs) (i : ℕ) → turns s i ≡ way (length rs) i
unfolding way_in
plain_turns (one r) i = way_any 0 1 i (omega arith)
plain_turns (more rs m p l r) i =
    by_cases (dec_lt i m)
    (λ c.
    let n : length (take m rs) ≡ m = length-take-le m rs (omega (arith, p.below)) in
    rw (lt-ltb i m c, turns)
    (ap (left ∷◌) (plain_turns l i ∙ ap (λ (x : ℕ). way x i) n) ∙ sym (way_to_left (length rs) m i p c)))
    (λ c.
    let n : length (drop m rs) ≡ length rs - m = length-drop m rs in
    rw (le-ltb i m (omega arith), turns)
    (ap (rightward (eqb (length rs) (m + m)) ∷◌) (plain_turns r (i - m) ∙ ap (λ (x : ℕ). way x (i - m)) n)
    ∙ sym (way_to_right (length rs) m i p (omega arith))))

-- so they lead to the record
pub turns_lead : TurnsLead
turns_lead digest rs s i p =
    let n : length (map digest rs) ≡ length rs = length-map rs digest in
    rw (plain_tree_lem digest s, plain_turns s i, ← n, ← leaf_digest digest rs i p) (way_leads (map digest rs) i (omega arith))
