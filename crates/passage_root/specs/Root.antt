-- The digests of a letter's records in a row, and the root that these and the digests given make.
use Rattle.std.specs.Prelude.{true, false, ◌≡◌, List, map, ℕ, ◌*◌, take}
use Rattle.wire.specs.Slices.{zeros, joined, splice}
use Rattle.shape.specs.Tree.{root}
use Rattle.views.specs.View.{plant_at}
use Rattle.views.specs.Passage.{passage}
use Rattle.nodes.specs.Nodes.{node_in}
use Rattle.passage.specs.Bytes.{record_at}
use Rattle.passage.specs.Request.{most_records}
use Rattle.passage.specs.Digests.{within, digest_count}
use Rattle.passage_root.specs.declared.Rooted.{Rooted}

module _ (digest : List ℕ → List ℕ) where
  -- the digest of the record at each of the first 256 places, one behind the other, and zeros behind them: 8,192 bytes
  unfoldable pub leaf_digests : List ℕ → List ℕ → List ℕ
  leaf_digests letter places =
      splice 0 (joined (map (λ (at : ℕ). digest (record_at letter at)) (take most_records places))) (zeros (32 * most_records))

  -- the root of n leaves from the digests of the records at these places of a letter, one for each index, and the digests given, each by its number;
  -- zeros where there are no digests
  unfoldable pub root_from : ℕ → List ℕ → List ℕ → List ℕ → List ℕ → List ℕ
  root_from n is letter places items =
      elim (within n is) [
        | true ↦ root digest (plant_at (node_in (leaf_digests letter places)) (node_in items) (passage n is) 0 0)
        | false ↦ zeros 32
      ]

  -- that root, and how many digests are given
  pub record RootOf (n : ℕ) (is letter places items : List ℕ) (r : Rooted) : Type 0 where
    pub root_is : r.digest.bytes ≡ root_from n is letter places items
    pub used_is : r.used ≡ digest_count n is
