-- A letter under a view of a log's tree: our digests give the root, and digests that give it are ours, or the first difference is a collision.
use mathlib.Core.Path.{◌≡◌, sym, ap, ap₂, ◌∙◌}
use mathlib.Core.List.{List}
use Prim.Native.Nat.{ℕ, ◌<◌}
use lib.ListN.{length}
use Rattle.wire.specs.Slices.{Each}
use Rattle.shape.specs.Tree.{Tree, tip, fork, Tips32, root, inputs}
use Rattle.shape.specs.Folded.{tree}
use Rattle.shape.specs.Nodes.{Holds, nodes}
use Rattle.shape.specs.Difference.{agree, ShownAt}
use Rattle.wire.proofs.Each.{each_append}
use Rattle.shape.proofs.Difference.{difference_none}
use Rattle.shape.proofs.Bind.{root_32}
use Rattle.shape.proofs.Trees.{tree_32}
use Rattle.views.specs.View.{View, given, asked, both, plant, ViewOf, leaves_of, gives_of}
use Rattle.views.specs.Shows.{seen_by}
use Rattle.views.specs.Compared.{compared}
use Rattle.views.proofs.Planted.{Exact, plant_bind_at}
use Rattle.views.proofs.Nodes.{planted}
use Rattle.views.proofs.Own.{own_by, seen_own, own_tree, plant_pruned, own_exact}

pub leaves_of_32 : (v : View) (t : Tree) → Tips32 t → Each 32 (leaves_of v t)
leaves_of_32 given t p = tt
leaves_of_32 asked (tip d) p = (p, tt)
leaves_of_32 asked (fork t u) p = tt
leaves_of_32 (both l r) (tip d) p = tt
leaves_of_32 (both l r) (fork t u) p = each_append 32 (leaves_of l t) (leaves_of r u) (leaves_of_32 l t p.0) (leaves_of_32 r u p.1)

module _ (digest : List ℕ → List ℕ) (node : ℕ → List ℕ) (v : View) (ds : List (List ℕ)) (some : 0 < length ds) (o : ViewOf (length ds) v)
    (f : Holds node 0 (nodes digest ds)) where
  -- what any buffer that holds the log's nodes shows is what the tree of the log's own letter hashes ..
  pub own_inputs : seen_by digest node v (length ds) 0 ≡ inputs digest (own_tree digest v ds some o)
  own_inputs =
      let w = own_by digest node v 0 ds some o f in
      seen_own digest node v 0 ds some o f
      ∙ ap (inputs digest) (sym (planted digest node v (length ds) 0) ∙ ap₂ (plant v) w.leaves w.gives)

  -- .. so nothing differs from it
  pub own_compared : compared digest node v (length ds) 0 (leaves_of v (tree ds)) (gives_of digest v (tree ds)) ≡ agree
  own_compared = rw own_inputs (difference_none (inputs digest (own_tree digest v ds some o)))

module _ (digest : List ℕ → List ℕ) (digest_32 : (x : List ℕ) → length (digest x) ≡ 32) where
  pub gives_of_32 : (v : View) (t : Tree) → Tips32 t → Each 32 (gives_of digest v t)
  gives_of_32 given t p = (root_32 digest digest_32 t p, tt)
  gives_of_32 asked t p = tt
  gives_of_32 (both l r) (tip d) p = tt
  gives_of_32 (both l r) (fork t u) p =
      each_append 32 (gives_of digest l t) (gives_of digest r u) (gives_of_32 l t p.0) (gives_of_32 r u p.1)

  module _ (v : View) (ds : List (List ℕ)) (some : 0 < length ds) (each : Each 32 ds) (o : ViewOf (length ds) v)
      (es xs : List (List ℕ)) (n : Exact v es xs) (p : Each 32 es) (q : Each 32 xs) where
    ours : Each 32 (leaves_of v (tree ds)) × Each 32 (gives_of digest v (tree ds))
    ours = let t = tree_32 ds each some in (leaves_of_32 v (tree ds) t, gives_of_32 v (tree ds) t)

    -- leaf digests and given digests of the right number that give the log's root are the log's; or the first difference is a collision, at
    -- one place of the log's tree and the letter's
    pub log_bind : (node : ℕ → List ℕ) → Holds node 0 (nodes digest ds) → root digest (plant v es xs) ≡ root digest (tree ds)
        → ShownAt digest (tree ds) (plant v es xs) ((leaves_of v (tree ds) ≡ es) × (gives_of digest v (tree ds) ≡ xs))
        (compared digest node v (length ds) 0 es xs)
    log_bind node f k =
        rw (own_inputs digest node v ds some o f)
        (plant_bind_at digest digest_32 v (leaves_of v (tree ds)) es (gives_of digest v (tree ds)) xs (own_exact digest v ds some o) n
        ours.0 p ours.1 q (plant_pruned digest v ds some o) k)
