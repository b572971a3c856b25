-- Four chunks go on side by side, block after block.
use mathlib.Core.Path.{◌≡◌, refl, sym, ap, ap₂, ◌∙◌, subst}
use mathlib.Core.List.{List}
use Prim.Native.Nat.{ℕ, suc, ◌+◌, ◌-◌, ◌*◌, ◌/◌, ◌≤◌, ◌<◌, zero-le}
use native.Mathlib.Omega.{arith}
use lib.ListN.{length, take, drop, length-drop}
use lib.Seq.{take-take, drop-drop, length-take-le}
use Rattle.compression.specs.Compression.{compressed}
use Rattle.words.specs.Words.{words_of}
use Rattle.chunks.specs.Chunks.{start_flag, chained, before, chunked}
use Rattle.chunks.specs.Lanes.{laned, chunk_in}
use Rattle.chunks.specs.Steps.{compressed4}
use Rattle.chunks.proofs.Lengths.{chained_length}
use Rattle.chunks.proofs.Laned.{laned_same, lane_laned}
use Rattle.chunks.proofs.Parts.{drop_take}

-- ---- A block of chunk k, found in the whole

from_part : (bs : List ℕ) (k at : ℕ) → drop at (chunk_in bs k) ≡ take (1024 - at) (drop (1024 * k + at) bs)
from_part bs k at = drop_take at 1024 (drop (1024 * k) bs) ∙ ap (take (1024 - at)) (drop-drop at (1024 * k) bs)

block_in : (bs : List ℕ) (k at : ℕ) → at ≤ 960 → take 64 (drop at (chunk_in bs k)) ≡ take 64 (drop (1024 * k + at) bs)
block_in bs k at h = ap (take 64) (from_part bs k at) ∙ take-take 64 (1024 - at) (drop (1024 * k + at) bs) (omega arith)

-- ---- Block after block

compressed4_laned : (f : ℕ → List ℕ) (bs : List ℕ) (at n flags : ℕ) → ((k : ℕ) → length (f k) ≡ 8)
    → compressed4 (laned f) bs at n flags ≡ laned (λ k. compressed (f k) (words_of 16 (take 64 (drop (1024 * k + at) bs))) (n + k) 64 flags)
unfolding compressed4
compressed4_laned f bs at n flags e =
    laned_same _ _
    (λ k l. ap (λ (x : List ℕ). compressed x (words_of 16 (take 64 (drop (1024 * k + at) bs))) (n + k) 64 flags) (lane_laned f k l (e k)))

-- cv holds the four lists of chaining words where block b begins, and `start` that block's start flag
pub record Chains4 (key : List ℕ) (flag n : ℕ) (bs cv : List ℕ) (start b : ℕ) : Type 0 where
  pub within : b ≤ 15
  pub small : start ≤ 1
  pub first : start ≡ start_flag b
  pub words : cv ≡ laned (λ k. chained key flag (n + k) (chunk_in bs k) b)

module _ (key : List ℕ) (flag n : ℕ) (bs : List ℕ) (size : length key ≡ 8) where
  pub chains4_none : {cv : List ℕ} → cv ≡ laned (λ k. key) → Chains4 key flag n bs cv 1 0
  unfolding chained start_flag
  chains4_none e = record { within = zero-le; small = omega arith; first = refl; words = e }

  pub chains4_more : {cv next : List ℕ} {start b : ℕ} → b < 15 → next ≡ compressed4 cv bs (64 * b) n (flag + start)
      → Chains4 key flag n bs cv start b → Chains4 key flag n bs next 0 (b + 1)
  unfolding chained start_flag
  chains4_more {cv} {next} {start} {b} h e g =
      subst (Chains4 key flag n bs next 0) (let z : suc b ≡ b + 1 = omega arith in z)
      record {
        within = omega arith;
        small = zero-le;
        first = refl;
        words =
            e
            ∙ ap₂ (λ (x : List ℕ) (s : ℕ). compressed4 x bs (64 * b) n (flag + s)) g.words g.first
            ∙ compressed4_laned (λ k. chained key flag (n + k) (chunk_in bs k) b) bs (64 * b) n (flag + start_flag b)
            (λ k. chained_length key flag (n + k) (chunk_in bs k) b size)
            ∙ laned_same _ _
            (λ k l. ap (λ (x : List ℕ). compressed (chained key flag (n + k) (chunk_in bs k) b) (words_of 16 x) (n + k) 64 (flag + start_flag b))
            (sym (block_in bs k (64 * b) (omega arith))));
      }

  last_block : (k : ℕ) → length (chunk_in bs k) ≡ 1024
      → compressed (chained key flag (n + k) (chunk_in bs k) 15) (words_of 16 (take 64 (drop (1024 * k + 960) bs))) (n + k) 64 (flag + 0 + 2)
      ≡ chunked key flag 0 (n + k) (chunk_in bs k)
  unfolding chunked before start_flag
  last_block k e =
      let x = chunk_in bs k in
      let q : 15 ≡ (length x - 1) / 64 = omega arith in
      let r : 64 ≡ length x - 64 * ((length x - 1) / 64) = omega arith in
      let w : take 64 (drop (1024 * k + 960) bs) ≡ drop (64 * 15) x = sym (from_part bs k 960) in
      let z : flag + 0 + 2 ≡ flag + start_flag 15 + 2 + 0 = omega arith in
      ap₂ (λ (m : List ℕ) (flags : ℕ). compressed (chained key flag (n + k) x 15) (words_of 16 m) (n + k) 64 flags) w z
      ∙ ap₂ (λ (j len : ℕ). compressed (chained key flag (n + k) x j) (words_of 16 (drop (64 * j) x)) (n + k) len (flag + start_flag j + 2 + 0)) q r

  pub chains4_all : {cv r : List ℕ} {start b : ℕ} → length bs ≡ 4096 → 15 ≤ b → r ≡ compressed4 cv bs 960 n (flag + start + 2)
      → Chains4 key flag n bs cv start b → r ≡ laned (λ k. chunked key flag 0 (n + k) (chunk_in bs k))
  unfolding start_flag
  chains4_all {cv} {r} {start} {b} len done e g =
      let z : b ≡ 15 = omega (arith, g.within) in
      e
      ∙ ap₂ (λ (x : List ℕ) (s : ℕ). compressed4 x bs 960 n (flag + s + 2))
      (g.words ∙ ap (λ (j : ℕ). laned (λ k. chained key flag (n + k) (chunk_in bs k) j)) z) (g.first ∙ ap start_flag z)
      ∙ compressed4_laned (λ k. chained key flag (n + k) (chunk_in bs k) 15) bs 960 n (flag + 0 + 2)
      (λ k. chained_length key flag (n + k) (chunk_in bs k) 15 size)
      ∙ laned_same _ _ (λ k l. last_block k (length-take-le 1024 (drop (1024 * k) bs) (omega (arith, length-drop (1024 * k) bs))))
