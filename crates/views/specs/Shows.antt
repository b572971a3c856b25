-- What any nodes show under a view, a log's or not, over any digest function.
use Rattle.std.specs.Prelude.{true, false, List, [], ◌∷◌, ◌++◌, ℕ, zero, suc, ◌-◌, ◌^◌, leb, eqb}
use Rattle.wire.specs.Slices.{differ}
use Rattle.shape.specs.Sizes.{height_of}
use Rattle.shape.specs.Positions.{top, behind, peaks_in, fold}
use Rattle.shape.specs.Tree.{Tree, tip, fork}
use Rattle.shape.specs.Seen.{either, sides}
use Rattle.views.specs.View.{View, given, asked, both, side}
use Rattle.views.specs.Start.{full}

module _ (digest : List ℕ → List ℕ) (node : ℕ → List ℕ) where
  -- what stands on top of n leaves from position s on: their peaks folded
  unfoldable pub on_top : ℕ → ℕ → List ℕ
  on_top n s = fold digest node (peaks_in (suc (height_of n)) n s)

  -- n leaves, above 2^h and at most 2^(h+1): 1 where they are one peak and its node isn't the digest of its two children, else 0
  unfoldable pub broken_top : ℕ → ℕ → ℕ → ℕ
  broken_top h n s =
      elim (eqb n (2 ^ suc h)) [
        | true ↦ differ (node (top (suc h) s)) (digest (node (top h s) ++ node (top h (behind h s))))
        | false ↦ 0
      ]

  -- the strings that are hashed at the places looked into: from the top, left before right
  abbrev pub seen_by : View → ℕ → ℕ → List (List ℕ)
  seen_by given n s = []
  seen_by asked n s = []
  seen_by (both l r) n s =
      let h = side n in
      sides digest node h n s ∷ seen_by l (2 ^ h) s ++ seen_by r (n - 2 ^ h) (behind h s)

  -- 1 where a node looked into, within its peak, isn't the digest of its two children, else 0
  abbrev pub broken_by : View → ℕ → ℕ → ℕ
  broken_by given n s = 0
  broken_by asked n s = 0
  broken_by (both l r) n s =
      let h = side n in
      either (broken_top h n s) (either (broken_by l (2 ^ h) s) (broken_by r (n - 2 ^ h) (behind h s)))

  -- the digests that are given
  abbrev pub gives_by : View → ℕ → ℕ → List (List ℕ)
  gives_by given n s = on_top n s ∷ []
  gives_by asked n s = []
  gives_by (both l r) n s =
      let h = side n in
      gives_by l (2 ^ h) s ++ gives_by r (n - 2 ^ h) (behind h s)

  -- the leaves that are asked for
  abbrev pub leaves_by : View → ℕ → ℕ → List (List ℕ)
  leaves_by given n s = []
  leaves_by asked n s = node s ∷ []
  leaves_by (both l r) n s =
      let h = side n in
      leaves_by l (2 ^ h) s ++ leaves_by r (n - 2 ^ h) (behind h s)

  -- the tree that these make: each leaf and each digest given is taken as it stands
  abbrev pub tree_by : View → ℕ → ℕ → Tree
  tree_by given n s = tip (on_top n s)
  tree_by asked n s = tip (node s)
  tree_by (both l r) n s =
      let h = side n in
      fork (tree_by l (2 ^ h) s) (tree_by r (n - 2 ^ h) (behind h s))

  -- the strings hashed under the peaks of n leaves, n below 2^k, from position s on: peak by peak, tallest first
  unfoldable pub inside_in : ℕ → ℕ → ℕ → List (List ℕ)
  inside_in zero n s = []
  inside_in (suc k) n s =
      elim (leb (2 ^ k) n) [
        | true ↦ seen_by (full k) (2 ^ k) s ++ inside_in k (n - 2 ^ k) (behind k s)
        | false ↦ inside_in k n s
      ]

  -- 1 where a node at any place isn't the digest of its two children, else 0
  unfoldable pub unsound_in : ℕ → ℕ → ℕ → ℕ
  unsound_in zero n s = 0
  unsound_in (suc k) n s =
      elim (leb (2 ^ k) n) [
        | true ↦ either (broken_by (full k) (2 ^ k) s) (unsound_in k (n - 2 ^ k) (behind k s))
        | false ↦ unsound_in k n s
      ]

  -- the strings that a log's nodes show under the peaks of its first n leaves
  unfoldable pub inside : ℕ → List (List ℕ)
  inside n = inside_in (suc (height_of n)) n 0

  -- 1 where a node of n leaves, at any place, isn't the digest of its two children, else 0
  unfoldable pub unsound : ℕ → ℕ
  unsound n = unsound_in (suc (height_of n)) n 0
