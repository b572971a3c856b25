-- The room that each call of the tree's function has, and what it gives; p stands for 2 ^ (h - 1) as the code has it.
use mathlib.Core.Path.{◌≡◌, refl, ap, ap₂, ◌∙◌, subst⁻¹}
use mathlib.Core.List.{List}
use mathlib.Core.Logic.{by_cases}
use Prim.Native.Nat.{ℕ, zero, suc, ◌+◌, ◌-◌, ◌*◌, ◌/◌, ◌^◌, ◌≤◌, ◌<◌}
use native.Mathlib.Nat.{pow-suc, mul_comm}
use native.Mathlib.Decide.{dec_lt}
use native.Mathlib.Omega.{arith}
use lib.ListN.{length, take, drop, length-drop}
use lib.Seq.{length-take-le, take_all}
use lib.Count.{count_leading_zeros, leading_top}
use lib.Pow.{pow_mono}
use Rattle.blake.specs.Blake.{parented, treed}
use Rattle.blake.specs.Steps.{Room}
use Rattle.blake.proofs.Sides.{tree_short, tree_long}

twice : (h : ℕ) → (h ≡ 0 → ⊥) → 2 ^ h ≡ 2 * 2 ^ (h - 1)
twice zero ne = absurd (ne refl)
twice (suc k) ne = pow-suc 2 k ∙ mul_comm (2 ^ k) 2 ∙ ap (λ (j : ℕ). 2 * 2 ^ j) (let e : k ≡ suc k - 1 = omega arith in e)

module _ (h n p : ℕ) (bs : List ℕ) (some : h ≡ 0 → ⊥) (e : p ≡ 2 ^ (h - 1)) (room : Room h n (length bs)) where
  -- what is right of the first p chunks, as the code lends it
  abbrev rest : List ℕ
  rest = take (length bs - 1024 * p) (drop (1024 * p) bs)

  rest_whole : rest ≡ drop (1024 * p) bs
  rest_whole = take_all (length bs - 1024 * p) (drop (1024 * p) bs) (omega (arith, length-drop (1024 * p) bs))

  pub room_short : length bs ≤ 1024 * p → Room (h - 1) n (length bs)
  room_short l =
      let w : 2 ^ h ≡ 2 * 2 ^ (h - 1) = twice h some in
      record { height = omega arith; bytes = omega arith; chunks = omega arith }

  pub room_left : 1024 * p < length bs → Room (h - 1) n (length (take (1024 * p) bs))
  room_left l =
      let w : 2 ^ h ≡ 2 * 2 ^ (h - 1) = twice h some in
      let k : length (take (1024 * p) bs) ≡ 1024 * p = length-take-le (1024 * p) bs (omega arith) in
      record { height = omega arith; bytes = omega arith; chunks = omega arith }

  pub room_right : 1024 * p < length bs → Room (h - 1) (n + p) (length rest)
  room_right l =
      let w : 2 ^ h ≡ 2 * 2 ^ (h - 1) = twice h some in
      let k : length rest ≡ length bs - 1024 * p = ap length rest_whole ∙ length-drop (1024 * p) bs in
      record { height = omega arith; bytes = omega arith; chunks = omega arith }

  pub fits_short : (key : List ℕ) (flag root : ℕ) → length bs ≤ 1024 * p → treed (h - 1) key flag root n bs ≡ treed h key flag root n bs
  fits_short key flag root l = tree_short key flag root n bs h some (omega arith)

  pub fits_long : (key : List ℕ) (flag root : ℕ) (l r : List ℕ) → 1024 * p < length bs
      → l ≡ treed (h - 1) key flag 0 n (take (1024 * p) bs)
      → r ≡ treed (h - 1) key flag 0 (n + p) rest
      → parented key flag root l r ≡ treed h key flag root n bs
  fits_long key flag root l r b el er =
      ap₂ (parented key flag root)
      (el ∙ ap (λ (x : ℕ). treed (h - 1) key flag 0 n (take (1024 * x) bs)) e)
      (er
      ∙ ap (treed (h - 1) key flag 0 (n + p)) rest_whole
      ∙ ap (λ (x : ℕ). treed (h - 1) key flag 0 (n + x) (drop (1024 * x) bs)) e)
      ∙ tree_long key flag root n bs h some (omega arith)

-- more than one chunk has a height
pub room_some : (h n len : ℕ) → Room h n len → 1024 < len → h ≡ 0 → ⊥
room_some h n len room l e =
    let w : 2 ^ h ≡ 1 = ap (λ (k : ℕ). 2 ^ k) e in
    omega (arith, room.bytes)

pub room_quad : (h n len : ℕ) → Room h n len → len ≡ 4096 → n + 4 ≤ 2 ^ 54
room_quad h n len room e = omega (arith, room.bytes, room.chunks)

-- the height of a length, by its leading zeros
pub high_enough : (len : ℕ) → 1024 < len → len < 2 ^ 64
    → (64 - count_leading_zeros 64 ((len - 1) / 1024) ≤ 54) × (len ≤ 1024 * 2 ^ (64 - count_leading_zeros 64 ((len - 1) / 1024)))
high_enough len some fits =
    let a = (len - 1) / 1024 in
    let top = leading_top 64 a (omega arith) (omega arith) in
    let j = top.0 in
    let e : 64 - count_leading_zeros 64 a ≡ suc j = omega (arith, top.1) in
    let low : j < 54 =
    by_cases (dec_lt j 54) (λ l. l)
    (λ l. let m : 2 ^ 54 ≤ 2 ^ j = pow_mono {i = 54} {j = j} (omega arith) in omega (arith, top.2)) in
    (omega arith, subst⁻¹ (λ (k : ℕ). len ≤ 1024 * 2 ^ k) e (omega (arith, top.3)))
