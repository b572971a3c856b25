-- The letter of one leaf: our items give the tree's root, and items that give it are ours, or the first difference is a collision.
use mathlib.Core.Path.{◌≡◌, refl, sym, ap, ap₂, ◌∙◌}
use mathlib.Core.List.{List, [], ◌∷◌, ◌++◌}
use Prim.Native.Nat.{ℕ, suc}
use native.Mathlib.Omega.{arith}
use lib.ListN.{length, length-append, length-drop, get_or, take, drop}
use lib.Seq.{take_at, get_or_at, take-suc, take_all, drop-cons, length-take-le}
use Rattle.shape.specs.Tree.{Tree, tip, Tips32, Alike, tips, forks, Turn, left, right, past, root, inputs, Pruned, cut, kept}
use Rattle.wire.specs.Slices.{Each}
use Rattle.shape.specs.Letter.{Leads, here, to_left, to_right_lem, to_past, fill, items}
use Rattle.shape.specs.Difference.{difference, ShownAt}
use Rattle.shape.proofs.Difference.{shown_at_map}
use Rattle.wire.proofs.Each.{each_append, each_take, each_drop, each_at}
use Rattle.shape.proofs.Bind.{root_32}
use Rattle.shape.proofs.Prune.{pruned_root, pruned_bind}

-- all but the last string of a list, and the last
snoc : (xs : List (List ℕ)) (n : ℕ) → length xs ≡ suc n → xs ≡ take n xs ++ (get_or xs n [] ∷ [])
snoc xs n e = sym (take_all (suc n) xs (omega arith)) ∙ take-suc xs n [] (omega arith)

uncons : (xs : List (List ℕ)) (n : ℕ) → length xs ≡ suc n → xs ≡ get_or xs 0 [] ∷ drop 1 xs
uncons xs n e = drop-cons xs 0 [] (omega arith)

pub fill_alike : (w : List Turn) (d e : List ℕ) (xs ys : List (List ℕ)) → Alike (fill w d xs) (fill w e ys)
fill_alike [] d e xs ys = tips
fill_alike (left ∷ w) d e xs ys = forks (fill_alike w d e (take (length w) xs) (take (length w) ys)) tips
fill_alike (right ∷ w) d e xs ys = forks tips (fill_alike w d e (take (length w) xs) (take (length w) ys))
fill_alike (past ∷ w) d e xs ys = forks tips (fill_alike w d e (drop 1 xs) (drop 1 ys))

length_most : (xs : List (List ℕ)) (n : ℕ) → length xs ≡ suc n → length (take n xs) ≡ n
length_most xs n e = length-take-le n xs (omega arith)

length_rest : (xs : List (List ℕ)) (n : ℕ) → length xs ≡ suc n → length (drop 1 xs) ≡ n
length_rest xs n e = length-drop 1 xs ∙ omega arith

pub fill_32 : (w : List Turn) (d : List ℕ) (xs : List (List ℕ)) → length xs ≡ length w → Each 32 xs → length d ≡ 32
    → Tips32 (fill w d xs)
fill_32 [] d xs n p q = q
fill_32 (left ∷ w) d xs n p q = (
  fill_32 w d (take (length w) xs) (length_most xs (length w) n) (each_take 32 (length w) xs p) q,
  each_at 32 xs (length w) (omega arith) p,
)
fill_32 (right ∷ w) d xs n p q = (
  each_at 32 xs (length w) (omega arith) p,
  fill_32 w d (take (length w) xs) (length_most xs (length w) n) (each_take 32 (length w) xs p) q,
)
fill_32 (past ∷ w) d xs n p q = (
  each_at 32 xs 0 (omega arith) p,
  fill_32 w d (drop 1 xs) (length_rest xs (length w) n) (each_drop 32 1 xs p) q,
)

-- one tree has one leaf and one list of items
pub fill_inj : (w : List Turn) (d e : List ℕ) (xs ys : List (List ℕ)) → length xs ≡ length w → length ys ≡ length w
    → fill w d xs ≡ fill w e ys → (d ≡ e) × (xs ≡ ys)
fill_inj [] d e [] [] n m p = ((cc), refl)
fill_inj [] d e [] (y ∷ ys) n m p = absurd (omega arith)
fill_inj [] d e (x ∷ xs) ys n m p = absurd (omega arith)
fill_inj (left ∷ w) d e xs ys n m p =
    let k = fill_inj w d e (take (length w) xs) (take (length w) ys) (length_most xs (length w) n) (length_most ys (length w) m) (cc) in
    (k.0, snoc xs (length w) n ∙ ap₂ (λ (r : List (List ℕ)) (z : List ℕ). r ++ (z ∷ [])) k.1 (cc) ∙ sym (snoc ys (length w) m))
fill_inj (right ∷ w) d e xs ys n m p =
    let k = fill_inj w d e (take (length w) xs) (take (length w) ys) (length_most xs (length w) n) (length_most ys (length w) m) (cc) in
    (k.0, snoc xs (length w) n ∙ ap₂ (λ (r : List (List ℕ)) (z : List ℕ). r ++ (z ∷ [])) k.1 (cc) ∙ sym (snoc ys (length w) m))
fill_inj (past ∷ w) d e xs ys n m p =
    let k = fill_inj w d e (drop 1 xs) (drop 1 ys) (length_rest xs (length w) n) (length_rest ys (length w) m) (cc) in
    (k.0, uncons xs (length w) n ∙ ap₂ (λ (z : List ℕ) (r : List (List ℕ)). z ∷ r) (cc) k.1 ∙ sym (uncons ys (length w) m))

pub leaf_32 : {t : Tree} {w : List Turn} {d : List ℕ} → Leads t w d → Tips32 t → length d ≡ 32
leaf_32 here s = s
leaf_32 (to_left p) s = leaf_32 p s.0
leaf_32 (to_right_lem p) s = leaf_32 p s.1
leaf_32 (to_past p) s = leaf_32 p s.1

module _ (digest : List ℕ → List ℕ) where
  -- an item for each turn
  pub items_length : {t : Tree} {w : List Turn} {d : List ℕ} → Leads t w d → length (items digest t w) ≡ length w
  items_length here = refl
  items_length (to_left p) = rw (length-append, items_length p) (omega arith)
  items_length (to_right_lem p) = rw (length-append, items_length p) (omega arith)
  items_length (to_past p) = ap suc (items_length p)

  -- the tree that a leaf and its items make is the whole tree with all beside the way not looked into
  pub fill_pruned : {t : Tree} {w : List Turn} {d : List ℕ} → Leads t w d → Pruned digest t (fill w d (items digest t w))
  fill_pruned (here {d}) = cut (tip d)
  fill_pruned (to_left {l} {r} {w} p) =
      rw (
        take_at (items digest l w) (root digest r ∷ []) (length w) (items_length p),
        get_or_at (items digest l w) (root digest r) [] [] (length w) (items_length p),
      ) (kept (fill_pruned p) (cut r))
  fill_pruned (to_right_lem {l} {r} {w} p) =
      rw (
        take_at (items digest r w) (root digest l ∷ []) (length w) (items_length p),
        get_or_at (items digest r w) (root digest l) [] [] (length w) (items_length p),
      ) (kept (cut l) (fill_pruned p))
  fill_pruned (to_past {l} {r} {w} p) = kept (cut l) (fill_pruned p)

  -- our items give the log's root
  pub complete : {t : Tree} {w : List Turn} {d : List ℕ} → Leads t w d → root digest (fill w d (items digest t w)) ≡ root digest t
  complete p = pruned_root digest (fill_pruned p)

  module _ (digest_32 : (x : List ℕ) → length (digest x) ≡ 32) where
    pub items_32 : {t : Tree} {w : List Turn} {d : List ℕ} → Leads t w d → Tips32 t → Each 32 (items digest t w)
    items_32 here s = tt
    items_32 (to_left {l} {r} {w} p) s =
        each_append 32 (items digest l w) (root digest r ∷ []) (items_32 p s.0) (root_32 digest digest_32 r s.1, tt)
    items_32 (to_right_lem {l} {r} {w} p) s =
        each_append 32 (items digest r w) (root digest l ∷ []) (items_32 p s.1) (root_32 digest digest_32 l s.0, tt)
    items_32 (to_past {l} {r} {w} p) s = (root_32 digest digest_32 l s.0, items_32 p s.1)

    -- the log's own letter takes 32 bytes for the leaf and each item
    own_32 : {t : Tree} {w : List Turn} {d : List ℕ} → Leads t w d → Tips32 t → Tips32 (fill w d (items digest t w))
    own_32 {t} {w} {d} p s = fill_32 w d (items digest t w) (items_length p) (items_32 p s) (leaf_32 p s)

    -- a leaf and items of the right number that give the log's root are the log's; or the first difference of the inputs is a collision, at one
    -- place of the log's tree and the letter's
    pub letter_bind : {t : Tree} {w : List Turn} {d : List ℕ} → Leads t w d → Tips32 t → (e : List ℕ) (xs : List (List ℕ))
        → length e ≡ 32 → Each 32 xs → length xs ≡ length w → root digest (fill w e xs) ≡ root digest t
        → ShownAt digest t (fill w e xs) ((d ≡ e) × (items digest t w ≡ xs))
        (difference (inputs digest (fill w d (items digest t w))) (inputs digest (fill w e xs)))
    letter_bind {t} {w} {d} p s e xs n q m k =
        shown_at_map digest t (fill w e xs) (fill w d (items digest t w) ≡ fill w e xs) _
        (difference (inputs digest (fill w d (items digest t w))) (inputs digest (fill w e xs)))
        (fill_inj w d e (items digest t w) xs (items_length p) m)
        (pruned_bind digest digest_32 (fill_pruned p) (fill_alike w d e (items digest t w) xs) (own_32 p s) (fill_32 w e xs m q n) k)
