-- The subtrees as they lie on the stack.
use mathlib.Core.Path.{◌≡◌, refl, sym, ap, ap₂, ◌∙◌}
use mathlib.Core.List.{List, [], ◌∷◌, ◌++◌, append-nil, append_assoc}
use Prim.Native.Nat.{ℕ, zero, suc, ◌+◌, ◌-◌, ◌*◌, ◌≤◌, ◌<◌}
use native.Mathlib.Omega.{arith}
use lib.ListN.{length, take, drop, length-append, length-drop, drop_of_length-le, take-append-drop}
use lib.Seq.{paste, take_at, drop_at, drop-append-le, take-append-le, take_all, take-add, length-take-le, length-paste}
use lib.Count.{ones}
use Rattle.blake.specs.Blake.{parented, root_node}
use Rattle.parts_rule.specs.Subtrees.{folded, pushed}
use Rattle.parts_rule.proofs.Folds.{folded_cons, folded_snoc, folded_length}
use Rattle.parts_rule.specs.Stack.{subtree_at, subtrees, joined}
use Rattle.parts_rule.specs.Steps.{Pushes}

pub subtrees_suc : (ws : List ℕ) (k : ℕ) → subtrees ws (suc k) ≡ subtrees ws k ++ (subtree_at ws k ∷ [])
unfolding subtrees
subtrees_suc ws k = refl

pub subtrees_length : (ws : List ℕ) (k : ℕ) → length (subtrees ws k) ≡ k
unfolding subtrees
subtrees_length ws zero = refl
subtrees_length ws (suc k) = length-append (subtrees ws k) (subtree_at ws k ∷ []) ∙ ap (λ (n : ℕ). n + 1) (subtrees_length ws k) ∙
    (let e : k + 1 ≡ suc k = omega arith in e)

-- one behind the other they are the first words
joined_snoc : (ls : List (List ℕ)) (l : List ℕ) → joined (ls ++ (l ∷ [])) ≡ joined ls ++ l
unfolding joined
joined_snoc [] l = append-nil l
joined_snoc (x ∷ ls) l = ap (λ (r : List ℕ). x ++ r) (joined_snoc ls l) ∙ sym (append_assoc x (joined ls) l)

pub joined_take : (ws : List ℕ) (k : ℕ) → joined (subtrees ws k) ≡ take (8 * k) ws
unfolding subtrees joined
joined_take ws zero = refl
joined_take ws (suc k) =
    joined_snoc (subtrees ws k) (subtree_at ws k) ∙ ap (λ (r : List ℕ). r ++ subtree_at ws k) (joined_take ws k)
    ∙ sym (take-add (8 * k) 8 ws) ∙ ap (λ (n : ℕ). take n ws) (let e : 8 * k + 8 ≡ 8 * suc k = omega arith in e)

-- the first k of more
pub subtrees_take : (ws : List ℕ) (k d : ℕ) → take k (subtrees ws (d + k)) ≡ subtrees ws k
unfolding subtrees
subtrees_take ws k zero = ap (λ (j : ℕ). take k (subtrees ws j)) (let e : 0 + k ≡ k = omega arith in e) ∙ take_all k (subtrees ws k)
    (omega (arith, subtrees_length ws k))
subtrees_take ws k (suc d) =
    ap (λ (j : ℕ). take k (subtrees ws j)) (let e : suc d + k ≡ suc (d + k) = omega arith in e)
    ∙ take-append-le k (subtrees ws (d + k)) (subtree_at ws (d + k) ∷ []) (omega (arith, subtrees_length ws (d + k)))
    ∙ subtrees_take ws k d

-- words behind the first 8k do not count for the first k
subtrees_front : (xs rest : List ℕ) (k : ℕ) → 8 * k ≤ length xs → subtrees (xs ++ rest) k ≡ subtrees xs k
unfolding subtrees
subtrees_front xs rest zero l = refl
subtrees_front xs rest (suc k) l =
    ap₂ (λ (ls : List (List ℕ)) (x : List ℕ). ls ++ (x ∷ [])) (subtrees_front xs rest k (omega arith))
    (ap (take 8) (drop-append-le (8 * k) xs rest (omega arith)) ∙ take-append-le 8 (drop (8 * k) xs) rest (omega (arith, length-drop (8 * k) xs)))

-- v in place k
pub subtrees_with : (ws v : List ℕ) (k : ℕ) → 8 * k + 8 ≤ length ws → length v ≡ 8
    → subtrees (paste ws (8 * k) v 8) (suc k) ≡ subtrees ws k ++ (v ∷ [])
subtrees_with ws v k l e =
    let a = take (8 * k) ws in
    let b = drop (8 * k + 8) ws in
    let la : length a ≡ 8 * k = length-take-le (8 * k) ws (omega arith) in
    let ev : take 8 v ≡ v = take_all 8 v (omega arith) in
    let ep : paste ws (8 * k) v 8 ≡ a ++ (v ++ b) = append_assoc a (take 8 v) b ∙ ap (λ (x : List ℕ). a ++ (x ++ b)) ev in
    ap (λ (x : List ℕ). subtrees x (suc k)) ep ∙ subtrees_suc (a ++ (v ++ b)) k
    ∙ ap₂ (λ (ls : List (List ℕ)) (x : List ℕ). ls ++ (x ∷ []))
    (subtrees_front a (v ++ b) k (omega arith) ∙ sym (subtrees_front a (drop (8 * k) ws) k (omega arith))
    ∙ ap (λ (x : List ℕ). subtrees x k) (take-append-drop (8 * k) ws))
    (ap (take 8) (drop_at a (v ++ b) (8 * k) la) ∙ take_at v b 8 e)

module _ (key : List ℕ) (flag : ℕ) where
  -- the fold of subtrees from number `from` on, one less
  pub fold_next : (ws : List ℕ) (from at : ℕ) (v : List ℕ) → from ≤ at
      → folded key flag 0 (drop from (subtrees ws (suc at))) (λ root. v)
      ≡ folded key flag 0 (drop from (subtrees ws at)) (λ root. parented key flag 0 (subtree_at ws at) v)
  fold_next ws from at v l =
      ap (λ (ls : List (List ℕ)). folded key flag 0 (drop from ls) (λ root. v)) (subtrees_suc ws at)
      ∙ ap (λ (ls : List (List ℕ)). folded key flag 0 ls (λ root. v))
      (drop-append-le from (subtrees ws at) (subtree_at ws at ∷ []) (omega (arith, subtrees_length ws at)))
      ∙ folded_snoc key flag (drop from (subtrees ws at)) (subtree_at ws at) v

  pub fold_none : (ws : List ℕ) (from at : ℕ) (v : List ℕ) → at ≤ from → folded key flag 0 (drop from (subtrees ws at)) (λ root. v) ≡ v
  unfolding folded
  fold_none ws from at v l =
      ap (λ (ls : List (List ℕ)). folded key flag 0 ls (λ root. v))
      (drop_of_length-le (subtrees ws at) {i = from} (omega (arith, subtrees_length ws at)))

-- the fold down to number `at`: w is what the subtrees from there on and v come to
pub record Folds (key : List ℕ) (flag : ℕ) (ws : List ℕ) (from top : ℕ) (v : List ℕ) (at : ℕ) (w : List ℕ) : Type 0 where
  pub low : from ≤ at
  pub high : at ≤ top
  pub is : folded key flag 0 (drop from (subtrees ws at)) (λ root. w) ≡ folded key flag 0 (drop from (subtrees ws top)) (λ root. v)

pub folds_none : (key : List ℕ) (flag : ℕ) (ws : List ℕ) (from top : ℕ) (v : List ℕ) → from ≤ top → Folds key flag ws from top v top v
folds_none key flag ws from top v l = record { low = l; high = omega arith; is = refl }

pub folds_more : (key : List ℕ) (flag : ℕ) {ws : List ℕ} {from top : ℕ} {v : List ℕ} {at : ℕ} {w l next : List ℕ} → from < at
    → l ≡ subtree_at ws (at - 1) → next ≡ parented key flag 0 l w
    → Folds key flag ws from top v at w → Folds key flag ws from top v (at - 1) next
folds_more key flag {ws} {from} {top} {v} {at} {w} {l} {next} b el en g =
    let s : at ≡ suc (at - 1) = omega arith in
    record {
      low = omega arith;
      high = omega arith;
      is =
          ap (λ (x : List ℕ). folded key flag 0 (drop from (subtrees ws (at - 1))) (λ root. x)) (en ∙ ap (λ (x : List ℕ). parented key flag 0 x w) el)
          ∙ sym (fold_next key flag ws from (at - 1) w (omega arith))
          ∙ ap (λ (j : ℕ). folded key flag 0 (drop from (subtrees ws j)) (λ root. w)) (sym s)
          ∙ g.is;
    }

pub folds_all : (key : List ℕ) (flag : ℕ) {ws : List ℕ} {from top : ℕ} {v : List ℕ} {at : ℕ} {w : List ℕ} → at ≤ from
    → Folds key flag ws from top v at w → w ≡ folded key flag 0 (drop from (subtrees ws top)) (λ root. v)
folds_all key flag {ws} {from} {top} {v} {at} {w} b g = sym (fold_none key flag ws from at w b) ∙ g.is

-- a value pushed on the stored stack
module _ (key : List ℕ) (flag : ℕ) (ws v : List ℕ) (m stacked : ℕ) (f : Pushes m stacked) (size : length ws ≡ 240) (eight : length v ≡ 8) where
  abbrev k : ℕ
  k = ones m - 1

  abbrev w : List ℕ
  w = folded key flag 0 (drop k (subtrees ws stacked)) (λ root. v)

  low : 8 * k + 8 ≤ 240
  low = omega (arith, f.some, f.fits)

  lw : length w ≡ 8
  lw = folded_length key flag (drop k (subtrees ws stacked)) v eight

  pub pushed_size : length (paste ws (8 * k) w 8) ≡ 240
  pushed_size = length-paste ws (8 * k) w 8 (omega (arith, low)) (omega (arith, lw)) ∙ size

  pub pushed_stored : subtrees (paste ws (8 * k) w 8) (ones m) ≡ pushed key flag k (subtrees ws stacked) v
  pushed_stored =
      let under : stacked ≡ (stacked - k) + k = omega (arith, f.under) in
      ap (subtrees (paste ws (8 * k) w 8)) (let e : ones m ≡ suc k = omega (arith, f.some) in e)
      ∙ subtrees_with ws w k (omega (arith, low)) lw
      ∙ ap (λ (ls : List (List ℕ)). ls ++ (w ∷ []))
      (sym (subtrees_take ws k (stacked - k)) ∙ ap (λ (j : ℕ). take k (subtrees ws j)) (sym under))

-- the first subtree and the others
subtrees_some : (ws : List ℕ) (k : ℕ) → (ls : List (List ℕ)) × (subtrees ws (suc k) ≡ subtree_at ws 0 ∷ ls)
unfolding subtrees
subtrees_some ws zero = ([], refl)
subtrees_some ws (suc k) =
    let m = subtrees_some ws k in
    (m.0 ++ (subtree_at ws (suc k) ∷ []), ap (λ (ls : List (List ℕ)). ls ++ (subtree_at ws (suc k) ∷ [])) m.1)

subtrees_first : (ws : List ℕ) (k : ℕ) → 0 < k → subtrees ws k ≡ subtree_at ws 0 ∷ drop 1 (subtrees ws k)
subtrees_first ws zero l = absurd (omega arith)
subtrees_first ws (suc k) l =
    let m = subtrees_some ws k in
    m.1 ∙ ap (λ (ls : List (List ℕ)). subtree_at ws 0 ∷ drop 1 ls) (sym m.1)

-- the root over them
pub rooted : (key : List ℕ) (flag : ℕ) (ws : List ℕ) (stacked : ℕ) (v : List ℕ) {w l r : List ℕ} → 0 < stacked
    → w ≡ folded key flag 0 (drop 1 (subtrees ws stacked)) (λ root. v) → l ≡ subtree_at ws 0 → r ≡ parented key flag root_node l w
    → r ≡ folded key flag root_node (subtrees ws stacked) (λ root. v)
rooted key flag ws stacked v {w} {l} {r} some ew el er =
    er ∙ ap₂ (parented key flag root_node) el ew
    ∙ sym (folded_cons key flag root_node (subtree_at ws 0) (drop 1 (subtrees ws stacked)) (λ root. v))
    ∙ ap (λ (ls : List (List ℕ)). folded key flag root_node ls (λ root. v)) (sym (subtrees_first ws stacked some))
