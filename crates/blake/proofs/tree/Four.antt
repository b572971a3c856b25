-- The tree over four whole chunks, from their lanes.
use mathlib.Core.Path.{◌≡◌, refl, sym, ap, ap₂, ◌∙◌}
use mathlib.Core.Logic.{by_cases}
use mathlib.Core.List.{List}
use Prim.Native.Nat.{ℕ, ◌+◌, ◌-◌, ◌≤◌, ◌<◌, ◌^◌}
use native.Mathlib.Decide.{dec_le}
use native.Mathlib.Omega.{arith}
use borrow.Author.Tests.{eq-eqb, ne_eqb, le-leb, lt-leb}
use lib.ListN.{length, take, drop, length-drop, replicate}
use lib.Seq.{take_all, take-take, drop-drop, length-take-le}
use Rattle.chunks.specs.Chunks.{chunked}
use Rattle.chunks.specs.Lanes.{lane_of, chunk_in, chunked4}
use Rattle.chunks.proofs.Lengths.{chunked_length}
use Rattle.chunks.proofs.Laned.{lane_laned}
use Rattle.chunks.proofs.Parts.{drop_take}
use Rattle.chunks.proofs.Answers.{chunked4_done}
use Rattle.blake.specs.Blake.{parented, treed, treed4}
use Rattle.blake.proofs.Sides.{tree_long, tree_chunk}

module _ (key : List ℕ) (flag n : ℕ) (bs : List ℕ) where
  two : (root m : ℕ) (l : List ℕ) → length l ≡ 2048
      → parented key flag root (chunked key flag 0 m (take 1024 l)) (chunked key flag 0 (m + 1) (drop 1024 l)) ≡ treed 1 key flag root m l
  two root m l e =
      ap₂ (parented key flag root) (tree_chunk 0 key flag 0 m (take 1024 l) refl) (tree_chunk 0 key flag 0 (m + 1) (drop 1024 l) refl)
      ∙ tree_long key flag root m l 1 (λ h. let z : 1 ≡ 0 = h in omega arith) (omega arith)

  pub four : (root : ℕ) → length bs ≡ 4096
      → parented key flag root
      (parented key flag 0 (chunked key flag 0 (n + 0) (chunk_in bs 0)) (chunked key flag 0 (n + 1) (chunk_in bs 1)))
      (parented key flag 0 (chunked key flag 0 (n + 2) (chunk_in bs 2)) (chunked key flag 0 (n + 3) (chunk_in bs 3)))
      ≡ treed 2 key flag root n bs
  four root e =
      let a : n + 0 ≡ n = omega arith in
      let b : n + 2 + 1 ≡ n + 3 = omega arith in
      let p0 : take 1024 (take 2048 bs) ≡ chunk_in bs 0 = take-take 1024 2048 bs (omega arith) in
      let p1 : drop 1024 (take 2048 bs) ≡ chunk_in bs 1 = drop_take 1024 2048 bs in
      let p3 : chunk_in bs 3 ≡ drop 3072 bs = take_all 1024 (drop 3072 bs) (omega (arith, length-drop 3072 bs)) in
      let p3' : drop 1024 (drop 2048 bs) ≡ drop 3072 bs = drop-drop 1024 2048 bs in
      let left = two 0 n (take 2048 bs) (length-take-le 2048 bs (omega arith)) in
      let right = two 0 (n + 2) (drop 2048 bs) (length-drop 2048 bs ∙ ap (λ (x : ℕ). x - 2048) e) in
      ap₂ (parented key flag root)
      (ap₂ (parented key flag 0) (ap₂ (chunked key flag 0) a (sym p0)) (ap (chunked key flag 0 (n + 1)) (sym p1)) ∙ left)
      (ap (parented key flag 0 (chunked key flag 0 (n + 2) (chunk_in bs 2))) (ap₂ (chunked key flag 0) (sym b) (p3 ∙ sym p3')) ∙ right)
      ∙ tree_long key flag root n bs 2 (λ h. let z : 2 ≡ 0 = h in omega arith) (omega arith)

  pub quad_from : (root : ℕ) {v a b r l0 l1 l2 l3 : List ℕ} → length bs ≡ 4096 → n + 4 ≤ 2 ^ 54 → v ≡ chunked4 key flag n bs
      → l0 ≡ lane_of v 0 → l1 ≡ lane_of v 1 → l2 ≡ lane_of v 2 → l3 ≡ lane_of v 3
      → a ≡ parented key flag 0 l0 l1 → b ≡ parented key flag 0 l2 l3 → r ≡ parented key flag root a b
      → r ≡ treed 2 key flag root n bs
  quad_from root {v} e few w e0 e1 e2 e3 ea eb er =
      let is : (k : ℕ) → k < 4 → lane_of v k ≡ chunked key flag 0 (n + k) (chunk_in bs k) =
      λ k l. ap (λ (x : List ℕ). lane_of x k) (w ∙ sym (chunked4_done key flag n bs few e))
      ∙ lane_laned (λ j. chunked key flag 0 (n + j) (chunk_in bs j)) k l (chunked_length key flag 0 (n + k) (chunk_in bs k)) in
      er
      ∙ ap₂ (parented key flag root)
      (ea ∙ ap₂ (parented key flag 0) (e0 ∙ is 0 (omega arith)) (e1 ∙ is 1 (omega arith)))
      (eb ∙ ap₂ (parented key flag 0) (e2 ∙ is 2 (omega arith)) (e3 ∙ is 3 (omega arith)))
      ∙ four root e

-- ---- what `quad` answers where there are four whole chunks, and where there are not

module _ (key : List ℕ) (flag root n : ℕ) (bs : List ℕ) where
  pub treed4_done : n + 4 ≤ 2 ^ 54 → length bs ≡ 4096 → treed4 key flag root n bs ≡ treed 2 key flag root n bs
  unfolding treed4
  treed4_done l e = rw (le-leb (n + 4) (2 ^ 54) l, eq-eqb (length bs) 4096 e, treed4)

  pub treed4_none : (n + 4 ≤ 2 ^ 54 → length bs ≡ 4096 → ⊥) → replicate 8 0 ≡ treed4 key flag root n bs
  unfolding treed4
  treed4_none h =
      by_cases (dec_le (n + 4) (2 ^ 54))
      (λ l. rw (le-leb (n + 4) (2 ^ 54) l, ne_eqb (length bs) 4096 (h l), treed4))
      (λ l. rw (lt-leb (n + 4) (2 ^ 54) (omega arith), treed4))
