-- The tree that a letter's digests make under a view: one tree has one list of digests, and one root binds them.
use mathlib.Core.Path.{◌≡◌, refl, sym, ap, ap₂, ◌∙◌}
use mathlib.Core.List.{List, [], ◌∷◌, ◌++◌}
use Prim.Native.Nat.{ℕ, ◌+◌, ◌≤◌, ◌<◌}
use native.Mathlib.Omega.{arith}
use lib.ListN.{length, length-drop, get_or, take, drop, take-append-drop, get_or-append}
use lib.Seq.{take-add, take_all, length-take-le, drop-append-le, get_or-drop}
use Rattle.wire.specs.Slices.{Each}
use Rattle.shape.specs.Tree.{Tree, tip, fork, Tips32, Alike, tips, forks, root, inputs, Pruned}
use Rattle.shape.specs.Difference.{Diff, agree, unequal, difference, Shown, ShownAt}
use Rattle.shape.proofs.Difference.{shown_map, shown_at_map}
use Rattle.wire.proofs.Each.{each_drop, each_at}
use Rattle.shape.proofs.Bind.{bind}
use Rattle.shape.proofs.Prune.{pruned_bind}
use Rattle.views.specs.View.{View, given, asked, both, givens, askeds, plant, plant_at}
use Rattle.views.specs.Compared.{or_else}

-- enough leaf digests and enough given digests for a view
abbrev pub Enough : View → List (List ℕ) → List (List ℕ) → Type 0
Enough v ds xs = (askeds v ≤ length ds) × (givens v ≤ length xs)

enough_left : (l r : View) (ds xs : List (List ℕ)) → Enough (both l r) ds xs → Enough l ds xs
enough_left l r ds xs e = (omega arith, omega arith)

enough_right : (l r : View) (ds xs : List (List ℕ)) → Enough (both l r) ds xs → Enough r (drop (askeds l) ds) (drop (givens l) xs)
enough_right l r ds xs e = (omega (arith, length-drop (askeds l) ds), omega (arith, length-drop (givens l) xs))

pub plant_alike : (v : View) (ds es xs ys : List (List ℕ)) → Alike (plant v ds xs) (plant v es ys)
plant_alike given ds es xs ys = tips
plant_alike asked ds es xs ys = tips
plant_alike (both l r) ds es xs ys = forks (plant_alike l ds es xs ys) (plant_alike r _ _ _ _)

pub plant_32 : (v : View) (ds xs : List (List ℕ)) → Enough v ds xs → Each 32 ds → Each 32 xs → Tips32 (plant v ds xs)
plant_32 given ds xs n p q = each_at 32 xs 0 (omega arith) q
plant_32 asked ds xs n p q = each_at 32 ds 0 (omega arith) p
plant_32 (both l r) ds xs n p q = (
  plant_32 l ds xs (enough_left l r ds xs n) p q,
  plant_32 r (drop (askeds l) ds) (drop (givens l) xs) (enough_right l r ds xs n) (each_drop 32 (askeds l) ds p) (each_drop 32 (givens l) xs q),
)

first_of : (xs : List (List ℕ)) → 1 ≤ length xs → take 1 xs ≡ get_or xs 0 [] ∷ []
first_of [] p = absurd (omega arith)
first_of (x ∷ xs) p = refl

first_same : (xs ys : List (List ℕ)) → 1 ≤ length xs → 1 ≤ length ys → get_or xs 0 [] ≡ get_or ys 0 [] → take 1 xs ≡ take 1 ys
first_same xs ys p q e = first_of xs p ∙ rw e (sym (first_of ys q))

take_both : (j k : ℕ) (xs ys : List (List ℕ)) → take j xs ≡ take j ys → take k (drop j xs) ≡ take k (drop j ys)
    → take (j + k) xs ≡ take (j + k) ys
take_both j k xs ys e f = take-add j k xs ∙ ap₂ (λ (a b : List (List ℕ)). a ++ b) e f ∙ sym (take-add j k ys)

-- the leaf digests and the given digests that a view takes
abbrev pub SameTaken : View → List (List ℕ) → List (List ℕ) → List (List ℕ) → List (List ℕ) → Type 0
SameTaken v ds es xs ys = (take (askeds v) ds ≡ take (askeds v) es) × (take (givens v) xs ≡ take (givens v) ys)

-- one tree has one list of leaf digests and one of given digests
pub plant_inj : (v : View) (ds es xs ys : List (List ℕ)) → Enough v ds xs → Enough v es ys → plant v ds xs ≡ plant v es ys
    → SameTaken v ds es xs ys
plant_inj given ds es xs ys n m e = (refl, first_same xs ys n.1 m.1 (cc))
plant_inj asked ds es xs ys n m e = (first_same ds es n.0 m.0 (cc), refl)
plant_inj (both l r) ds es xs ys n m e =
    let a = plant_inj l ds es xs ys (enough_left l r ds xs n) (enough_left l r es ys m) (cc) in
    let b = plant_inj r (drop (askeds l) ds) (drop (askeds l) es) (drop (givens l) xs) (drop (givens l) ys)
    (enough_right l r ds xs n) (enough_right l r es ys m) (cc) in
    (take_both (askeds l) (askeds r) ds es a.0 b.0, take_both (givens l) (givens r) xs ys a.1 b.1)

-- what follows is not read
pub plant_more : (v : View) (ds es xs ys : List (List ℕ)) → Enough v ds xs → plant v (ds ++ es) (xs ++ ys) ≡ plant v ds xs
plant_more given ds es xs ys n = ap tip (get_or-append xs ys [] 0 (omega arith))
plant_more asked ds es xs ys n = ap tip (get_or-append ds es [] 0 (omega arith))
plant_more (both l r) ds es xs ys n =
    rw (drop-append-le (askeds l) ds es (omega arith), drop-append-le (givens l) xs ys (omega arith))
    (ap₂ fork (plant_more l ds es xs ys (enough_left l r ds xs n))
    (plant_more r (drop (askeds l) ds) es (drop (givens l) xs) ys (enough_right l r ds xs n)))

pub plant_taken : (v : View) (ds xs : List (List ℕ)) → Enough v ds xs
    → plant v (take (askeds v) ds) (take (givens v) xs) ≡ plant v ds xs
plant_taken v ds xs n =
    sym (plant_more v (take (askeds v) ds) (drop (askeds v) ds) (take (givens v) xs) (drop (givens v) xs)
    (omega (arith, length-take-le (askeds v) ds n.0), omega (arith, length-take-le (givens v) xs n.1)))
    ∙ ap₂ (plant v) (take-append-drop (askeds v) ds) (take-append-drop (givens v) xs)

-- by their numbers: `ds` are the leaf digests from number i on, `xs` the given digests from number j on
pub plant_at_lem : (leaf item : ℕ → List ℕ) (v : View) (i j : ℕ) (ds xs : List (List ℕ))
    → ((k : ℕ) → k < askeds v → get_or ds k [] ≡ leaf (i + k)) → ((k : ℕ) → k < givens v → get_or xs k [] ≡ item (j + k))
    → plant v ds xs ≡ plant_at leaf item v i j
plant_at_lem leaf item given i j ds xs f g = ap tip (g 0 (omega arith) ∙ ap item (omega arith))
plant_at_lem leaf item asked i j ds xs f g = ap tip (f 0 (omega arith) ∙ ap leaf (omega arith))
plant_at_lem leaf item (both l r) i j ds xs f g =
    ap₂ fork (plant_at_lem leaf item l i j ds xs (λ k p. f k (omega arith)) (λ k p. g k (omega arith)))
    (plant_at_lem leaf item r (i + askeds l) (j + givens l) (drop (askeds l) ds) (drop (givens l) xs)
    (λ k p. get_or-drop (askeds l) ds k [] ∙ f (askeds l + k) (omega arith) ∙ ap leaf (omega arith))
    (λ k p. get_or-drop (givens l) xs k [] ∙ g (givens l + k) (omega arith) ∙ ap item (omega arith)))

-- just as many as the view takes
abbrev pub Exact : View → List (List ℕ) → List (List ℕ) → Type 0
Exact v ds xs = (length ds ≡ askeds v) × (length xs ≡ givens v)

pub exact_enough : (v : View) (ds xs : List (List ℕ)) → Exact v ds xs → Enough v ds xs
exact_enough v ds xs n = (omega arith, omega arith)

-- all that they hold
pub exact_same : (v : View) (ds es xs ys : List (List ℕ)) → Exact v ds xs → Exact v es ys → SameTaken v ds es xs ys → (ds ≡ es) × (xs ≡ ys)
exact_same v ds es xs ys n m e = (
  sym (take_all (askeds v) ds (omega arith)) ∙ e.0 ∙ take_all (askeds v) es (omega arith),
  sym (take_all (givens v) xs (omega arith)) ∙ e.1 ∙ take_all (givens v) ys (omega arith),
)

module _ (digest : List ℕ → List ℕ) where
  -- what two comparisons show, one after the other
  pub shown_or : (P Q : Type 0) (c d : Diff) → Shown digest Q c → (Q → Shown digest P d) → Shown digest P (or_else c d)
  shown_or P Q agree d s k = k s
  shown_or P Q (unequal a b) d s k = s

  module _ (digest_32 : (x : List ℕ) → length (digest x) ≡ 32) (v : View) (ds es xs ys : List (List ℕ)) (n : Exact v ds xs) (m : Exact v es ys)
      (a : Each 32 ds) (b : Each 32 es) (c : Each 32 xs) (d : Each 32 ys) where
    abbrev both_inputs : Diff
    both_inputs = difference (inputs digest (plant v ds xs)) (inputs digest (plant v es ys))

    same : plant v ds xs ≡ plant v es ys → (ds ≡ es) × (xs ≡ ys)
    same k = exact_same v ds es xs ys n m (plant_inj v ds es xs ys (exact_enough v ds xs n) (exact_enough v es ys m) k)

    ours_32 : Tips32 (plant v ds xs)
    ours_32 = plant_32 v ds xs (exact_enough v ds xs n) a c

    theirs_32 : Tips32 (plant v es ys)
    theirs_32 = plant_32 v es ys (exact_enough v es ys m) b d

    -- two letters under one view with one root hold the same digests, or the first difference of the inputs is a collision
    pub plant_bind : root digest (plant v ds xs) ≡ root digest (plant v es ys)
        → Shown digest ((ds ≡ es) × (xs ≡ ys)) (difference (inputs digest (plant v ds xs)) (inputs digest (plant v es ys)))
    plant_bind e = shown_map digest _ _ both_inputs same (bind digest digest_32 (plant_alike v ds es xs ys) ours_32 theirs_32 e)

    -- a tree of which the first shows parts: the collision stands at one place of that tree and of the second
    pub plant_bind_at : {t : Tree} → Pruned digest t (plant v ds xs) → root digest (plant v es ys) ≡ root digest t
        → ShownAt digest t (plant v es ys) ((ds ≡ es) × (xs ≡ ys)) (difference (inputs digest (plant v ds xs)) (inputs digest (plant v es ys)))
    plant_bind_at {t} p e =
        shown_at_map digest t (plant v es ys) _ _ both_inputs same
        (pruned_bind digest digest_32 p (plant_alike v ds es xs ys) ours_32 theirs_32 e)
