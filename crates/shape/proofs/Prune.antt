-- A tree with parts not looked into has the whole tree's root, and hashes what the whole tree hashes at its places; so a tree of its shape with that
-- root is the same, or the first difference of their inputs is a collision at one place of the whole tree too.
use mathlib.Core.Path.{◌≡◌, refl, sym, ap, ap₂, subst, ◌∙◌}
use mathlib.Core.Logic.Or
use mathlib.Core.List.{List, [], ◌∷◌, ◌++◌, map, map-map, map-append, Mem, Mem-prop, Subset, nil-subset, map-subset, cons-subset}
use mathlib.Core.List.{mem-append, mem-append_left, mem-append_right, mem-cons_self, mem-cons_of_mem}
use Prim.Native.Nat.{ℕ}
use lib.ListN.{length}
use Rattle.shape.specs.Tree.{Tree, tip, fork, Tips32, Alike, tips, forks, Turn, left, right, places, root, inputs, hashed_at, Pruned, cut, kept}
use Rattle.shape.specs.Tree.{OnePlace}
use Rattle.shape.specs.Difference.{Diff, agree, unequal, difference, Shown, ShownAt}
use Rattle.shape.proofs.Difference.{difference_map}
use Rattle.shape.proofs.Bind.{bind}

subset_append : {A : Type 0} (xs ys us vs : List A) → Subset xs us → Subset ys vs → Subset (xs ++ ys) (us ++ vs)
subset_append xs ys us vs f g a m =
    Or.elim (Mem-prop {a = a} {l = us ++ vs}) ((mem-append {s = xs} {t = ys}).0 m)
    (λ x. mem-append_left vs (f a x)) (λ y. mem-append_right us (g a y))

alike_places : {t u : Tree} → Alike t u → places t ≡ places u
alike_places tips = refl
alike_places (forks a b) = rw (alike_places a, alike_places b)

module _ (digest : List ℕ → List ℕ) where
  pub pruned_root : {t u : Tree} → Pruned digest t u → root digest u ≡ root digest t
  pruned_root (cut t) = refl
  pruned_root (kept p q) = rw (pruned_root p, pruned_root q)

  pub pruned_inputs : {t u : Tree} → Pruned digest t u → inputs digest u ≡ map (hashed_at digest t) (places u)
  pruned_inputs (cut t) = refl
  pruned_inputs (kept {l} {m} {r} {s} p q) =
      rw (
        map-append (hashed_at digest (fork l r)) (map (left ∷◌) (places m)) (map (right ∷◌) (places s)),
        map-map (hashed_at digest (fork l r)) (left ∷◌) (places m),
        map-map (hashed_at digest (fork l r)) (right ∷◌) (places s),
        pruned_root p,
        pruned_root q,
        pruned_inputs p,
        pruned_inputs q,
      )

  whole : (t : Tree) → Pruned digest t t
  whole (tip d) = cut (tip d)
  whole (fork l r) = kept (whole l) (whole r)

  -- the inputs are what is hashed at the places, in their order
  pub inputs_placed : (t : Tree) → inputs digest t ≡ map (hashed_at digest t) (places t)
  inputs_placed t = pruned_inputs (whole t)

  -- its places are places of the whole tree
  pruned_places : {t u : Tree} → Pruned digest t u → Subset (places u) (places t)
  pruned_places (cut t) = nil-subset (places t)
  pruned_places (kept {l} {m} {r} {s} p q) =
      let ls = map (left ∷◌) (places l) in
      let rs = map (right ∷◌) (places r) in
      let below : Subset (map (left ∷◌) (places m) ++ map (right ∷◌) (places s)) (ls ++ rs) =
      subset_append (map (left ∷◌) (places m)) (map (right ∷◌) (places s)) ls rs (map-subset (left ∷◌) (pruned_places p)) (map-subset (right ∷◌) (pruned_places q)) in
      cons-subset.1 (mem-cons_self, λ a x. mem-cons_of_mem [] (below a x))

  -- the first difference of two trees' inputs stands at one place, of the whole tree too where parts of it were not looked into
  first_place : {t v u : Tree} (a b : List ℕ) → Pruned digest t v → Alike v u → difference (inputs digest v) (inputs digest u) ≡ unequal a b
      → OnePlace digest t u a b
  first_place {t} {v} {u} a b p q e =
      let f : difference (map (hashed_at digest t) (places v)) (map (hashed_at digest u) (places v)) ≡ unequal a b =
      ap₂ difference (sym (pruned_inputs p)) (ap (map (hashed_at digest u)) (alike_places q) ∙ sym (inputs_placed u)) ∙ e in
      let w = difference_map (hashed_at digest t) (hashed_at digest u) (places v) a b f in
      record {
        place = w.0;
        in_first = pruned_places p w.0 w.1;
        in_second = subst (λ (ps : List (List Turn)). Mem w.0 ps) (alike_places q) w.1;
        ours = w.2;
        theirs = w.3;
      }

  -- whatever a letter shows of a tree, and however it is laid out
  pub pruned_bind : ((x : List ℕ) → length (digest x) ≡ 32) → {t v u : Tree} → Pruned digest t v → Alike v u → Tips32 v → Tips32 u
      → root digest u ≡ root digest t → ShownAt digest t u (v ≡ u) (difference (inputs digest v) (inputs digest u))
  pruned_bind digest_32 {t} {v} {u} p q m n e =
      go (difference (inputs digest v) (inputs digest u)) refl (bind digest digest_32 q m n (pruned_root p ∙ sym e))
    where
      go : (d : Diff) → difference (inputs digest v) (inputs digest u) ≡ d → Shown digest (v ≡ u) d → ShownAt digest t u (v ≡ u) d
      go agree f s = s
      go (unequal a b) f s = (s, first_place a b p q f)
