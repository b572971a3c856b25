-- No later leaf changes an earlier node; leaf i stands at 2i minus the ones in i, and is the digest of record i.
use mathlib.Core.Path.{◌≡◌, refl, sym, ap, ◌∙◌}
use mathlib.Core.List.{List, [], ◌∷◌, ◌++◌, map, append_assoc, append-nil}
use Prim.Native.Nat.{ℕ, zero, suc, ◌<◌}
use native.Mathlib.Nat.{zero-add}
use native.Mathlib.Omega.{arith}
use lib.ListN.{length, get_or, take, drop}
use lib.Seq.{length-take-le, get_or_at, take_at, split_at}
use Rattle.shape.specs.Sizes.{size_of, trailing_ones}
use Rattle.shape.specs.Nodes.{Holds, nodes, climb, new_nodes}
use Rattle.shape.proofs.Sizes.{size_lt}
use Rattle.shape.proofs.Nodes.{nodes_length}
use Rattle.shape.proofs.Appends.{append_nodes}

module _ (digest : List ℕ → List ℕ) where
  -- the log with one leaf more, by the buffer that its own nodes are
  own : List (List ℕ) → ℕ → List ℕ
  own ds p = get_or (nodes digest ds) p []

  one_more : (ds : List (List ℕ)) (d : List ℕ) → nodes digest ds ++ new_nodes digest (own ds) (length ds) d ≡ nodes digest (ds ++ (d ∷ []))
  unfolding own
  one_more ds d = append_nodes digest (own ds) ds d (λ k p. ap (λ (x : ℕ). get_or (nodes digest ds) x []) (zero-add k))

  begins : (xs ys : List (List ℕ)) → (more : List (List ℕ)) × (nodes digest (xs ++ ys) ≡ nodes digest xs ++ more)
  begins xs [] = ([], rw (append-nil xs, append-nil (nodes digest xs)))
  begins xs (y ∷ ys) =
      let b = begins (xs ++ (y ∷ [])) ys in (
        new_nodes digest (own xs) (length xs) y ++ b.0,
        rw (← append_assoc xs (y ∷ []) ys, b.1, ← one_more xs y)
            (append_assoc (nodes digest xs) (new_nodes digest (own xs) (length xs) y) b.0),
      )

  -- later leaves change no earlier node
  pub later_keeps : (xs ys : List (List ℕ)) → take (size_of (length xs)) (nodes digest (xs ++ ys)) ≡ nodes digest xs
  later_keeps xs ys =
      let b = begins xs ys in
      rw b.1 (take_at (nodes digest xs) b.0 (size_of (length xs)) (nodes_length digest xs))

  new_first : (node : ℕ → List ℕ) (n : ℕ) (d : List ℕ) → (more : List (List ℕ)) × (new_nodes digest node n d ≡ d ∷ more)
  unfolding new_nodes climb
  new_first node n d = go (trailing_ones n)
    where
      go : (k : ℕ) → (more : List (List ℕ)) × (climb digest node k 0 (size_of n) d ≡ d ∷ more)
      go zero = ([], refl)
      go (suc k) = (_, refl)

  appended_at : (xs : List (List ℕ)) (y : List ℕ) (ys : List (List ℕ)) → get_or (nodes digest (xs ++ (y ∷ ys))) (size_of (length xs)) [] ≡ y
  appended_at xs y ys =
      let b = begins (xs ++ (y ∷ [])) ys in
      let c = new_first (own xs) (length xs) y in
      rw (← append_assoc xs (y ∷ []) ys, b.1, ← one_more xs y, c.1, append_assoc)
      (get_or_at (nodes digest xs) y (c.0 ++ b.0) [] (size_of (length xs)) (nodes_length digest xs))

  -- RULES 6.2: leaf i stands at 2i minus the ones in i
  pub leaf_at_lem : (ds : List (List ℕ)) (i : ℕ) → i < length ds → get_or (nodes digest ds) (size_of i) [] ≡ get_or ds i []
  leaf_at_lem ds i p =
      let n : length (take i ds) ≡ i = length-take-le i ds (omega arith) in
      ap (λ (l : List (List ℕ)). get_or (nodes digest l) (size_of i) []) (split_at ds i [] p)
      ∙ (rw n at (appended_at (take i ds) (get_or ds i []) (drop (suc i) ds)))

  -- so it does in every buffer that holds the nodes
  pub leaf_read_lem : (node : ℕ → List ℕ) (ds : List (List ℕ)) (i : ℕ) → i < length ds → Holds node 0 (nodes digest ds)
      → node (size_of i) ≡ get_or ds i []
  leaf_read_lem node ds i p f =
      ap node (sym (zero-add (size_of i))) ∙ f (size_of i) (rw (nodes_length digest ds) (size_lt i (length ds) p)) ∙ leaf_at_lem ds i p

  -- over the digests of records it is the digest of record i
  pub leaf_digest : (rs : List (List ℕ)) (i : ℕ) → i < length rs → get_or (map digest rs) i [] ≡ digest (get_or rs i [])
  leaf_digest [] i p = absurd (omega arith)
  leaf_digest (r ∷ rs) zero p = refl
  leaf_digest (r ∷ rs) (suc i) p = leaf_digest rs i (omega arith)
