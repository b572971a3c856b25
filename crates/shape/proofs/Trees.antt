-- The folded tree keeps the split rule, at every height that holds its leaves.
use mathlib.Core.Path.{◌≡◌, sym, ap₂, ◌∙◌}
use mathlib.Core.Logic.{by_cases}
use mathlib.Core.List.{List, [], ◌∷◌}
use Prim.Native.Nat.{ℕ, zero, suc, ◌-◌, ◌^◌, ◌≤◌, ◌<◌}
use native.Mathlib.Decide.{dec_le}
use native.Mathlib.Omega.{arith}
use lib.ListN.{length, length-drop, take, drop}
use lib.Seq.{length-take-le}
use borrow.Author.Tests.{le-leb, lt-leb}
use Rattle.shape.specs.Tree.{fork, Tips32}
use Rattle.wire.specs.Slices.{Each}
use Rattle.shape.specs.Folded.{tree_in, tree}
use Rattle.shape.proofs.Heights.{any_height, height_holds}
use Rattle.wire.proofs.Each.{each_take, each_drop}

pub tree_low : (h : ℕ) (ds : List (List ℕ)) → length ds ≤ 2 ^ h → tree_in (suc h) ds ≡ tree_in h ds
unfolding tree_in
tree_low h ds p = rw (le-leb (length ds) (2 ^ h) p, tree_in)

pub tree_high : (h : ℕ) (ds : List (List ℕ)) → 2 ^ h < length ds
    → tree_in (suc h) ds ≡ fork (tree_in h (take (2 ^ h) ds)) (tree_in h (drop (2 ^ h) ds))
unfolding tree_in
tree_high h ds p = rw (lt-leb (length ds) (2 ^ h) p, tree_in)

pub tree_any : (h : ℕ) (ds : List (List ℕ)) → length ds ≤ 2 ^ h → tree_in h ds ≡ tree ds
unfolding tree
tree_any h ds p = any_height (λ (k : ℕ). tree_in k ds) (length ds) (λ k q. tree_low k ds q) h p

-- the split rule: 2^k is the largest power of two below the number of leaves
pub tree_split : (k : ℕ) (ds : List (List ℕ)) → 2 ^ k < length ds → length ds ≤ 2 ^ suc k
    → tree ds ≡ fork (tree (take (2 ^ k) ds)) (tree (drop (2 ^ k) ds))
tree_split k ds p q =
    let n : length (take (2 ^ k) ds) ≡ 2 ^ k = length-take-le (2 ^ k) ds (omega arith) in
    let m : length (drop (2 ^ k) ds) ≡ length ds - 2 ^ k = length-drop (2 ^ k) ds in
    sym (tree_any (suc k) ds q) ∙ tree_high k ds p
    ∙ ap₂ fork (tree_any k (take (2 ^ k) ds) (omega arith)) (tree_any k (drop (2 ^ k) ds) (omega arith))

tips_in : (h : ℕ) (ds : List (List ℕ)) → Each 32 ds → 0 < length ds → length ds ≤ 2 ^ h → Tips32 (tree_in h ds)
unfolding tree_in
tips_in zero [] e p q = absurd (omega arith)
tips_in zero (d ∷ ds) e p q = e.0
tips_in (suc h) ds e p q =
    by_cases (dec_le (length ds) (2 ^ h))
    (λ a. rw (tree_low h ds a) (tips_in h ds e p a))
    (λ a.
    let n : length (take (2 ^ h) ds) ≡ 2 ^ h = length-take-le (2 ^ h) ds (omega arith) in
    let m : length (drop (2 ^ h) ds) ≡ length ds - 2 ^ h = length-drop (2 ^ h) ds in
    rw (tree_high h ds (omega arith)) (
      tips_in h (take (2 ^ h) ds) (each_take 32 (2 ^ h) ds e) (omega arith) (omega arith),
      tips_in h (drop (2 ^ h) ds) (each_drop 32 (2 ^ h) ds e) (omega arith) (omega arith),
    ))

-- a log's tree takes 32 bytes for each leaf
pub tree_32 : (ds : List (List ℕ)) → Each 32 ds → 0 < length ds → Tips32 (tree ds)
unfolding tree
tree_32 ds e p = tips_in _ ds e p (height_holds (length ds))
