-- The left children, saved one behind the other: what holds after j of them.
use mathlib.Core.Path.{◌≡◌, sym, ap, ◌∙◌}
use mathlib.Core.List.{List}
use Prim.Native.Nat.{ℕ, suc, ◌+◌, ◌-◌, ◌*◌, ◌^◌, ◌≤◌, ◌<◌}
use native.Mathlib.Nat.{pow-suc}
use native.Mathlib.Numerals.{add-one}
use native.Mathlib.Omega.{arith}
use borrow.Author.Count.{below_more}
use lib.ListN.{length}
use lib.Pow.{pow_pos, pow_mono}
use Rattle.wire.specs.Slices.{part, splice, written}
use Rattle.wire.proofs.Parts.{part_length}
use Rattle.wire.proofs.Splices.{part_before, part_splice, written_fits, written_length}
use Rattle.nodes.specs.Nodes.{node_in}
use Rattle.new_nodes.specs.Steps.{left_in}

pub record Saves (bs : List ℕ) (s m : ℕ) (saved : List ℕ) (span j : ℕ) : Type 0 where
  pub within : j ≤ m
  pub power : span ≡ 2 ^ j
  pub room : length saved ≡ 1024
  pub each : (i : ℕ) → i < j → left_in saved i ≡ node_in bs (s + i - (2 ^ suc i - 1))

module _ {bs : List ℕ} {s m : ℕ} {saved : List ℕ} where
  module _ {span j : ℕ} (g : Saves bs s m saved span j) (h : j < m) where
    -- the left child stands at a position
    pub span_fits : 2 ^ m ≤ s + 1 → (0 < span) × (2 * span ≤ s + 1)
    span_fits f =
        let p : 2 ^ suc j ≤ 2 ^ m = pow_mono {i = suc j} {j = m} h in
        (omega (arith, pow_pos j, g.power), omega (arith, pow-suc 2 j, g.power))

    pub saves_more : {more d : List ℕ} → m ≤ 32 → more ≡ written (32 * j) d saved → d ≡ node_in bs (s + j - (2 * span - 1))
        → Saves bs s m more (2 * span) (j + 1)
    unfolding node_in
    saves_more {more} {d} few e f =
        let size : length d ≡ 32 = ap length f ∙ part_length (32 * (s + j - (2 * span - 1))) 32 bs in
        let w : more ≡ splice (32 * j) d saved = e ∙ written_fits (32 * j) d saved (omega (arith, g.room)) in
        let q : 2 * span ≡ 2 ^ suc j = omega (arith, pow-suc 2 j, g.power) in
        record {
          within = omega arith;
          power = q ∙ ap (λ (k : ℕ). 2 ^ k) (sym (add-one j));
          room = ap length e ∙ written_length (32 * j) d saved ∙ g.room;
          each =
              below_more (λ (i : ℕ). left_in more i ≡ node_in bs (s + i - (2 ^ suc i - 1))) j
              (λ i l. ap (part (32 * i) 32) w ∙ part_before (32 * j) d saved (omega (arith, g.room)) (32 * i) 32 (omega arith) ∙ g.each i l)
              (ap (part (32 * j) 32) w ∙ part_splice (32 * j) 32 d saved size (omega (arith, g.room)) ∙ f
              ∙ ap (λ (x : ℕ). node_in bs (s + j - (x - 1))) q);
        }
