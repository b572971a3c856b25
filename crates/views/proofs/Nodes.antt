-- What any nodes show under a view: where no node looked into is broken, it is what the tree that they make hashes; and one root binds it.
use mathlib.Core.Path.{◌≡◌, refl, sym, ap, ap₂, ◌∙◌}
use mathlib.Core.List.{List, [], ◌++◌, append_assoc, append-nil}
use Prim.Native.Nat.{ℕ, suc, ◌-◌, ◌^◌, ◌<◌}
use native.Mathlib.Omega.{arith}
use lib.ListN.{length, length-append}
use lib.Seq.{drop_at}
use lib.Pow.{pow_pos}
use Rattle.shape.specs.Sizes.{height_of}
use Rattle.wire.specs.Slices.{Each}
use Rattle.shape.specs.Tree.{fork, root, inputs}
use Rattle.shape.specs.Positions.{behind, peaks_in}
use Rattle.shape.specs.Difference.{Shown}
use Rattle.shape.proofs.Heights.{height_above}
use Rattle.wire.proofs.Each.{each_append}
use Rattle.wire.proofs.Differences.{same_of_differ}
use Rattle.shape.proofs.Peaks.{peaks_some}
use Rattle.shape.proofs.Beside.{either_zero}
use Rattle.shape.proofs.Reading.{fold_length}
use Rattle.views.specs.View.{View, given, asked, both, givens, askeds, plant, side, ViewOf}
use Rattle.views.specs.Shows.{on_top, broken_top, seen_by, broken_by, gives_by, leaves_by, tree_by}
use Rattle.views.specs.Compared.{compared}
use Rattle.views.proofs.Sides.{side_holds, side_below, top_one, sides_tops, broken_top_lem}
use Rattle.views.proofs.Planted.{Exact, plant_bind}

module _ (digest : List ℕ → List ℕ) (node : ℕ → List ℕ) where
  -- as many as the view takes
  pub gives_exact : (v : View) (n s : ℕ) → length (gives_by digest node v n s) ≡ givens v
  gives_exact given n s = refl
  gives_exact asked n s = refl
  gives_exact (both l r) n s =
      rw (length-append, gives_exact l (2 ^ side n) s, gives_exact r (n - 2 ^ side n) (behind (side n) s))

  pub leaves_exact : (v : View) (n s : ℕ) → length (leaves_by digest node v n s) ≡ askeds v
  leaves_exact given n s = refl
  leaves_exact asked n s = refl
  leaves_exact (both l r) n s =
      rw (length-append, leaves_exact l (2 ^ side n) s, leaves_exact r (n - 2 ^ side n) (behind (side n) s))

  -- the tree is what their leaves and digests make, whatever follows them
  pub planted_more : (v : View) (n s : ℕ) (ds xs : List (List ℕ))
      → plant v (leaves_by digest node v n s ++ ds) (gives_by digest node v n s ++ xs) ≡ tree_by digest node v n s
  planted_more given n s ds xs = refl
  planted_more asked n s ds xs = refl
  planted_more (both l r) n s ds xs =
      let h = side n in
      let a = leaves_by digest node l (2 ^ h) s in
      let b = leaves_by digest node r (n - 2 ^ h) (behind h s) in
      let x = gives_by digest node l (2 ^ h) s in
      let y = gives_by digest node r (n - 2 ^ h) (behind h s) in
      rw (
        append_assoc a b ds,
        append_assoc x y xs,
        drop_at a (b ++ ds) (askeds l) (leaves_exact l (2 ^ h) s),
        drop_at x (y ++ xs) (givens l) (gives_exact l (2 ^ h) s),
      ) (ap₂ fork (planted_more l (2 ^ h) s (b ++ ds) (y ++ xs)) (planted_more r (n - 2 ^ h) (behind h s) ds xs))

  pub planted : (v : View) (n s : ℕ) → plant v (leaves_by digest node v n s) (gives_by digest node v n s) ≡ tree_by digest node v n s
  planted v n s =
      ap₂ (plant v) (sym (append-nil (leaves_by digest node v n s))) (sym (append-nil (gives_by digest node v n s))) ∙ planted_more v n s [] []

  -- no node is broken: on top stands the tree's root ..
  pub root_by_lem : (v : View) (n s : ℕ) → ViewOf n v → broken_by digest node v n s ≡ 0 → root digest (tree_by digest node v n s) ≡ on_top digest node n s
  root_by_lem given n s o z = refl
  root_by_lem asked n s o z = sym (top_one digest node s) ∙ ap (λ (k : ℕ). on_top digest node k s) (sym o)
  root_by_lem (both l r) n s o z =
      let h = side n in
      let p = side_below n o.0 in
      let q = side_holds n o.0 in
      let b = either_zero (broken_top digest node h n s) _ z in
      let c = either_zero (broken_by digest node l (2 ^ h) s) _ b.1 in
      rw (
        root_by_lem l (2 ^ h) s o.1 c.0,
        root_by_lem r (n - 2 ^ h) (behind h s) o.2 c.1,
        ← sides_tops digest node h n s p q,
      ) (sym (same_of_differ _ _ (sym (broken_top_lem digest node h n s p q) ∙ b.0)))

  -- .. and what the nodes show is what the tree hashes
  pub seen_by_lem : (v : View) (n s : ℕ) → ViewOf n v → broken_by digest node v n s ≡ 0
      → seen_by digest node v n s ≡ inputs digest (tree_by digest node v n s)
  seen_by_lem given n s o z = refl
  seen_by_lem asked n s o z = refl
  seen_by_lem (both l r) n s o z =
      let h = side n in
      let p = side_below n o.0 in
      let q = side_holds n o.0 in
      let b = either_zero (broken_top digest node h n s) _ z in
      let c = either_zero (broken_by digest node l (2 ^ h) s) _ b.1 in
      rw (
        sides_tops digest node h n s p q,
        root_by_lem l (2 ^ h) s o.1 c.0,
        root_by_lem r (n - 2 ^ h) (behind h s) o.2 c.1,
        seen_by_lem l (2 ^ h) s o.1 c.0,
        seen_by_lem r (n - 2 ^ h) (behind h s) o.2 c.1,
      )

  module _ (digest_32 : (x : List ℕ) → length (digest x) ≡ 32) (node-32 : (p : ℕ) → length (node p) ≡ 32) where
    pub top_32 : (n s : ℕ) → 0 < n → length (on_top digest node n s) ≡ 32
    unfolding on_top
    top_32 n s p = fold_length digest node digest_32 node-32 (peaks_in (suc (height_of n)) n s) (peaks_some (suc (height_of n)) n s p (height_above n))

    pub gives_32 : (v : View) (n s : ℕ) → 0 < n → ViewOf n v → Each 32 (gives_by digest node v n s)
    gives_32 given n s p o = (top_32 n s p, tt)
    gives_32 asked n s p o = tt
    gives_32 (both l r) n s p o =
        let h = side n in
        each_append 32 (gives_by digest node l (2 ^ h) s) (gives_by digest node r (n - 2 ^ h) (behind h s))
        (gives_32 l (2 ^ h) s (pow_pos h) o.1) (gives_32 r (n - 2 ^ h) (behind h s) (omega (arith, side_below n o.0)) o.2)

    pub leaves_32 : (v : View) (n s : ℕ) → Each 32 (leaves_by digest node v n s)
    leaves_32 given n s = tt
    leaves_32 asked n s = (node-32 s, tt)
    leaves_32 (both l r) n s =
        let h = side n in
        each_append 32 (leaves_by digest node l (2 ^ h) s) (leaves_by digest node r (n - 2 ^ h) (behind h s))
        (leaves_32 l (2 ^ h) s) (leaves_32 r (n - 2 ^ h) (behind h s))

    -- any nodes, none broken, and a letter with the root that stands on top: they agree, or the first difference is a collision
    pub nodes_bind : (v : View) (n s : ℕ) (ds xs : List (List ℕ)) → 0 < n → ViewOf n v → Exact v ds xs → Each 32 ds → Each 32 xs
        → on_top digest node n s ≡ root digest (plant v ds xs) → broken_by digest node v n s ≡ 0
        → Shown digest ((leaves_by digest node v n s ≡ ds) × (gives_by digest node v n s ≡ xs))
        (compared digest node v n s ds xs)
    nodes_bind v n s ds xs p o m a b e z =
        let ls = leaves_by digest node v n s in
        let gs = gives_by digest node v n s in
        let t = planted v n s in
        rw (seen_by_lem v n s o z ∙ ap (inputs digest) (sym t))
        (plant_bind digest digest_32 v ls ds gs xs (leaves_exact v n s, gives_exact v n s) m (leaves_32 v n s) a (gives_32 v n s p o) b
        (ap (root digest) t ∙ root_by_lem v n s o z ∙ e))
