-- Passages: nodes and a letter with one root agree, or the comparison finds a collision. What is cited: `passage_bind`, `passage_agrees`,
-- `passage_whole`, `passage_complete`, `passage_exact`, `passage_sound`, `passage_gives_lem`, `passage_top`, `passage_same`, `passage_log`.
use mathlib.Core.Path.{◌≡◌, sym, ◌∙◌}
use mathlib.Core.List.{List, [], map, map-map}
use Prim.Native.Nat.{ℕ, ◌<◌}
use native.Mathlib.Omega.{arith}
use lib.ListN.{length, length-map, get_or}
use Rattle.shape.specs.Sizes.{size_of}
use Rattle.wire.specs.Slices.{Each}
use Rattle.shape.specs.Tree.{root}
use Rattle.shape.specs.Folded.{tree}
use Rattle.shape.specs.Nodes.{Holds, nodes}
use Rattle.shape.specs.Difference.{agree, Shown, ShownAt}
use Rattle.wire.proofs.Each.{each_map}
use Rattle.shape.proofs.Leaves.{leaf_digest}
use Rattle.views.specs.View.{givens, plant, ViewOf, leaves_of}
use Rattle.views.specs.Compared.{compared}
use Rattle.views.specs.Passage.{Rising, passage, asks_of, passage_gives}
use Rattle.views.specs.Shows.{on_top, broken_by, gives_by}
use Rattle.views.proofs.Planted.{Exact}
use Rattle.views.proofs.Nodes.{nodes_bind}
use Rattle.views.proofs.Own.{OwnBy, own_by, top_own, plant_complete, own_exact}
use Rattle.views.proofs.Letters.{log_bind, own_compared}
use Rattle.views.proofs.Agreed.{compared_agree, compared_sound}
use Rattle.views.proofs.Passages.{map_rising, passage_of, passage_askeds, passage_leaves, passage_asked}

-- ---- any nodes, and a letter's leaf digests and given digests

module _ (digest : List ℕ → List ℕ) (digest_32 : (x : List ℕ) → length (digest x) ≡ 32)
    (node : ℕ → List ℕ) (node-32 : (p : ℕ) → length (node p) ≡ 32)
    (n : ℕ) (is : List ℕ) (some : 0 < n) (rising : Rising 0 n is)
    (ds xs : List (List ℕ)) (one_each : length ds ≡ length is) (exact : length xs ≡ givens (passage n is))
    (leaves-each : Each 32 ds) (each : Each 32 xs) where
  view_exact : Exact (passage n is) ds xs
  view_exact = (one_each ∙ sym (passage_askeds n is rising), exact)

  -- no node looked into is broken and the letter's root stands on top: the leaves and the digests agree, or the first difference is a collision
  pub passage_bind : broken_by digest node (passage n is) n 0 ≡ 0
      → on_top digest node n 0 ≡ root digest (plant (passage n is) ds xs)
      → Shown digest ((map (λ i. node (size_of i)) is ≡ ds) × (gives_by digest node (passage n is) n 0 ≡ xs))
      (compared digest node (passage n is) n 0 ds xs)
  passage_bind z e =
      rw (passage_leaves digest node n is rising) at
      (nodes_bind digest node digest_32 node-32 (passage n is) n 0 ds xs some (passage_of n is some) view_exact leaves-each each e z)

  -- the letter's root stands on top and nothing differs: the leaves and the digests agree ..
  pub passage_agrees : on_top digest node n 0 ≡ root digest (plant (passage n is) ds xs)
      → compared digest node (passage n is) n 0 ds xs ≡ agree
      → (map (λ i. node (size_of i)) is ≡ ds) × (gives_by digest node (passage n is) n 0 ≡ xs)
  passage_agrees e d =
      rw (passage_leaves digest node n is rising) at
      (compared_agree digest node digest_32 node-32 (passage n is) n 0 ds xs some (passage_of n is some) view_exact leaves-each each e d)

  -- .. and no node looked into is broken
  pub passage_whole : on_top digest node n 0 ≡ root digest (plant (passage n is) ds xs)
      → compared digest node (passage n is) n 0 ds xs ≡ agree → broken_by digest node (passage n is) n 0 ≡ 0
  passage_whole e d =
      compared_sound digest node digest_32 node-32 (passage n is) n 0 ds xs some (passage_of n is some) view_exact leaves-each each e d

-- ---- a log of records

module _ (digest : List ℕ → List ℕ) (rs : List (List ℕ)) (is : List ℕ) (some : 0 < length rs) (rising : Rising 0 (length rs) is) where
  lengths : length (map digest rs) ≡ length rs
  lengths = length-map rs digest

  leaves_some : 0 < length (map digest rs)
  leaves_some = omega (arith, lengths)

  view : ViewOf (length (map digest rs)) (passage (length rs) is)
  view = rw lengths (passage_of (length rs) is some)

  digests_of_lem : (js : List ℕ) → Rising 0 (length rs) js → map (λ i. get_or (map digest rs) i []) js ≡ map digest (map (λ i. get_or rs i []) js)
  digests_of_lem js a =
      map_rising (λ i. get_or (map digest rs) i []) (λ i. digest (get_or rs i [])) 0 (length rs) js a (λ i p q. leaf_digest digest rs i q)
      ∙ sym (map-map digest (λ i. get_or rs i []) js)

  asked_leaves : leaves_of (passage (length rs) is) (tree (map digest rs)) ≡ map digest (asks_of rs is)
  asked_leaves = (rw lengths at (passage_asked digest (map digest rs) is leaves_some (rw lengths rising))) ∙ digests_of_lem is rising

  -- our letter gives the log's root, with as many digests as the view takes
  pub passage_complete : root digest (plant (passage (length rs) is) (map digest (asks_of rs is)) (passage_gives digest rs is))
      ≡ root digest (tree (map digest rs))
  passage_complete = rw asked_leaves at (plant_complete digest (passage (length rs) is) (map digest rs) leaves_some view)

  pub passage_exact : length (passage_gives digest rs is) ≡ givens (passage (length rs) is)
  passage_exact = (own_exact digest (passage (length rs) is) (map digest rs) leaves_some view).1

  -- with any buffer that holds the log's nodes
  module _ (node : ℕ → List ℕ) (held : Holds node 0 (nodes digest (map digest rs))) where
    own : OwnBy digest node (passage (length rs) is) 0 (map digest rs)
    own = own_by digest node (passage (length rs) is) 0 (map digest rs) leaves_some view held

    -- no node looked into is broken
    pub passage_sound : broken_by digest node (passage (length rs) is) (length rs) 0 ≡ 0
    passage_sound = rw lengths at own.sound

    -- the nodes give what our letter gives
    pub passage_gives_lem : gives_by digest node (passage (length rs) is) (length rs) 0 ≡ passage_gives digest rs is
    passage_gives_lem = rw lengths at own.gives

    -- the log's root stands on top
    pub passage_top : on_top digest node (length rs) 0 ≡ root digest (tree (map digest rs))
    passage_top = rw lengths at (top_own digest node 0 (map digest rs) leaves_some held)

    -- with our own letter nothing differs
    pub passage_same : compared digest node (passage (length rs) is) (length rs) 0 (map digest (asks_of rs is)) (passage_gives digest rs is) ≡ agree
    passage_same = rw (lengths, asked_leaves) at (own_compared digest node (passage (length rs) is) (map digest rs) leaves_some view held)

    -- a letter of the right form with the log's root holds our leaves and our digests; or the first difference is a collision, at one place of
    -- the log's tree and the letter's
    pub passage_log : ((x : List ℕ) → length (digest x) ≡ 32) → (ds xs : List (List ℕ)) → length ds ≡ length is
        → length xs ≡ givens (passage (length rs) is) → Each 32 ds → Each 32 xs
        → root digest (tree (map digest rs)) ≡ root digest (plant (passage (length rs) is) ds xs)
        → ShownAt digest (tree (map digest rs)) (plant (passage (length rs) is) ds xs)
        ((map digest (asks_of rs is) ≡ ds) × (passage_gives digest rs is ≡ xs))
        (compared digest node (passage (length rs) is) (length rs) 0 ds xs)
    passage_log digest_32 ds xs one_each exact leaves-each each e =
        rw (lengths, asked_leaves) at
        (log_bind digest digest_32 (passage (length rs) is) (map digest rs) leaves_some (each_map 32 digest digest_32 rs) view
        ds xs (one_each ∙ sym (passage_askeds (length rs) is rising), exact) leaves-each each node held (sym e))
