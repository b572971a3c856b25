-- A fold of peaks, one height after the other: the room that each call has, and what it gives. `half` stands for 2 ^ (k - 1) as the code has it.
use mathlib.Core.Path.{◌≡◌, sym, ap, ap₂, ◌∙◌}
use mathlib.Core.List.{List, ◌∷◌, ◌++◌}
use Prim.Native.Nat.{ℕ, zero, suc, ◌+◌, ◌-◌, ◌*◌, ◌%◌, ◌^◌, ◌≤◌, ◌<◌}
use native.Mathlib.Omega.{arith}
use Rattle.shape.specs.Positions.{top, behind, peaks_in, fold}
use Rattle.shape.proofs.Powers.{Halved, halved}
use Rattle.shape.proofs.Peaks.{peaks_skip, peaks_take, peaks_none, peaks_some}
use Rattle.shape.proofs.Reading.{fold_cons}
use Rattle.nodes.specs.Steps.{Foldable}

module _ (k n s : ℕ) (room : Foldable k n s) where
  pub fold_height : 0 < k
  fold_height = go k room.few
    where
      go : (j : ℕ) → n < 2 ^ j → 0 < j
      go zero h = absurd (omega (arith, room.some))
      go (suc j) h = omega arith

  module _ (half : ℕ) (e : half ≡ 2 ^ (k - 1) % 2 ^ 64) where
    halves : Halved k half
    halves = halved k half fold_height (omega (arith, room.low)) e

    pub room_skip : n < half → Foldable (k - 1) n s
    room_skip h = record { low = omega (arith, room.low); some = room.some; few = omega (arith, halves.is); near = omega (arith, halves, room.near) }

    pub room_rest : half ≤ n → (n - half ≡ 0 → ⊥) → Foldable (k - 1) (n - half) (s + (2 * half - 2) + 1)
    room_rest h z =
        record {
          low = omega (arith, room.low);
          some = omega arith;
          few = omega (arith, halves, room.few);
          near = omega (arith, halves, room.near, halves.some);
        }

    module _ (digest : List ℕ → List ℕ) (node : ℕ → List ℕ) where
      pub fold_skip : n < half → fold digest node (peaks_in (k - 1) n s) ≡ fold digest node (peaks_in k n s)
      fold_skip h =
          ap (fold digest node) (sym (ap (λ (j : ℕ). peaks_in j n s) halves.below ∙ peaks_skip (k - 1) n s (omega (arith, halves.is))))

      -- the tallest peak, and the rest
      tallest : half ≤ n → peaks_in k n s ≡ (s + (2 * half - 2)) ∷ peaks_in (k - 1) (n - half) (s + (2 * half - 2) + 1)
      tallest h =
          let q : 2 ^ suc (k - 1) ≡ 2 * half = halves.double in
          let b : behind (k - 1) s ≡ s + (2 * half - 2) + 1 = omega (arith, halves.some) in
          let t : top (k - 1) s ≡ s + (2 * half - 2) = omega arith in
          ap (λ (j : ℕ). peaks_in j n s) halves.below
          ∙ peaks_take (k - 1) n s (omega (arith, halves.is))
          ∙ ap₂ {C = List ℕ} (λ (p : ℕ) (ps : List ℕ). p ∷ ps) t
          (ap₂ (λ (m p : ℕ). peaks_in (k - 1) m p) (let z : n - 2 ^ (k - 1) ≡ n - half = omega (arith, halves.is) in z) b)

      pub fold_one : half ≤ n → n - half ≡ 0 → node (s + (2 * half - 2)) ≡ fold digest node (peaks_in k n s)
      fold_one h z =
          sym (ap (fold digest node)
          (tallest h ∙ ap {B = List ℕ} (λ ps. (s + (2 * half - 2)) ∷ ps)
          (ap (λ (m : ℕ). peaks_in (k - 1) m (s + (2 * half - 2) + 1)) z ∙ peaks_none (k - 1) (s + (2 * half - 2) + 1))))

      pub fold_more : {d l r : List ℕ} → half ≤ n → (n - half ≡ 0 → ⊥) → d ≡ digest (l ++ r) → l ≡ node (s + (2 * half - 2))
          → r ≡ fold digest node (peaks_in (k - 1) (n - half) (s + (2 * half - 2) + 1)) → d ≡ fold digest node (peaks_in k n s)
      fold_more h z e el er =
          let rest = room_rest h z in
          e ∙ ap₂ (λ (x y : List ℕ). digest (x ++ y)) el er
          ∙ sym (ap (fold digest node) (tallest h)
          ∙ fold_cons digest node (s + (2 * half - 2)) (peaks_in (k - 1) (n - half) (s + (2 * half - 2) + 1))
          (peaks_some (k - 1) (n - half) (s + (2 * half - 2) + 1) rest.some rest.few))
