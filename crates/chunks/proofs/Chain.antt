-- A chunk's blocks, one after the other.
use mathlib.Core.Path.{◌≡◌, refl, subst}
use mathlib.Core.List.{List}
use Prim.Native.Nat.{ℕ, suc, ◌+◌, ◌-◌, ◌*◌, ◌/◌, ◌≤◌, zero-le}
use native.Mathlib.Omega.{arith}
use lib.ListN.{length, take, drop, length-drop}
use lib.Seq.{take_all}
use Rattle.compression.specs.Compression.{compressed}
use Rattle.words.specs.Words.{words_of}
use Rattle.chunks.specs.Chunks.{start_flag, chained, before, chunked}

-- cv holds the chaining words where block i begins, and `start` that block's start flag
pub record Chains (key : List ℕ) (flag n : ℕ) (bs cv : List ℕ) (start i : ℕ) : Type 0 where
  pub small : start ≤ 1
  pub first : start ≡ start_flag i
  pub words : cv ≡ chained key flag n bs i

module _ (key : List ℕ) (flag n : ℕ) (bs : List ℕ) where
  pub chains_none : Chains key flag n bs key 1 0
  unfolding chained start_flag
  chains_none = record { small = omega arith; first = refl; words = refl }

  pub chains_more : {cv m next : List ℕ} {start i : ℕ} → next ≡ compressed cv m n 64 (flag + start)
      → m ≡ words_of 16 (take (64 * i + 64 - 64 * i) (drop (64 * i) bs))
      → Chains key flag n bs cv start i → Chains key flag n bs next 0 (i + 1)
  unfolding chained start_flag
  chains_more {next = next} {i = i} e b g =
      let k : 64 * i + 64 - 64 * i ≡ 64 = omega arith in
      subst (Chains key flag n bs next 0) (let z : suc i ≡ i + 1 = omega arith in z)
      (record { small = zero-le; first = refl; words = cc })

  pub chains_all : (root i : ℕ) {cv m r : List ℕ} {start j : ℕ} → i ≡ (length bs - 1) / 64 → j ≡ i
      → r ≡ compressed cv m n (length (take (length bs - 64 * i) (drop (64 * i) bs))) (flag + start + 2 + root)
      → m ≡ words_of 16 (take (length bs - 64 * i) (drop (64 * i) bs))
      → Chains key flag n bs cv start j → r ≡ chunked key flag root n bs
  unfolding chunked before
  chains_all root i q s e b g =
      let d : length (drop (64 * i) bs) ≡ length bs - 64 * i = length-drop (64 * i) bs in
      let w : take (length bs - 64 * i) (drop (64 * i) bs) ≡ drop (64 * i) bs = take_all (length bs - 64 * i) (drop (64 * i) bs) (omega (arith, d)) in
      cc
