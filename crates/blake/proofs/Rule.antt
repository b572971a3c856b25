-- The tree keeps the specification's rule.
use mathlib.Core.Path.{◌≡◌, refl, sym, ap, ap₂, ◌∙◌}
use mathlib.Core.List.{List}
use Prim.Native.Nat.{ℕ, suc, ◌+◌, ◌-◌, ◌*◌, ◌^◌, ◌≤◌, ◌<◌}
use native.Mathlib.Nat.{pow-suc}
use native.Mathlib.Omega.{arith}
use lib.ListN.{length, take, drop, length-drop}
use lib.Seq.{length-take-le}
use lib.Count.{leading_top}
use lib.Pow.{pow_pos}
use Rattle.powers.specs.Largest.{LargestPowerBelow}
use Rattle.powers.proofs.Largest.{largest_next, largest_of}
use Rattle.blake.specs.Blake.{parented, tree_of}
use Rattle.blake.specs.Rule.{chunks, TreeRule}
use Rattle.powers.proofs.Powers.{lt_pow}
use Rattle.blake.proofs.Sides.{tree_chunk, tree_enough, tree_split}

-- every number above 1 has a largest power of two below it
largest_power : (c : ℕ) → 1 < c → (p : ℕ) × LargestPowerBelow c p
largest_power c h =
    let top = leading_top (c - 1) (c - 1) (omega arith) (lt_pow (c - 1)) in
    let high : c - 1 < 2 ^ suc top.0 = top.3 in
    (2 ^ top.0, largest_of top.0 c (omega (arith, top.2)) (omega arith))

module _ (bs : List ℕ) (p : ℕ) (rule : LargestPowerBelow (chunks bs) p) where
  -- the left side leaves something over, and not more than itself
  left_short : 1024 * p < length bs
  unfolding chunks
  left_short =
      let pos : 1 ≤ 2 ^ rule.exponent = pow_pos rule.exponent in
      omega (arith, rule.power, rule.below)

  right_short : length bs ≤ 1024 * (2 * p)
  unfolding chunks
  right_short = omega (arith, rule.power, largest_next rule)

  left_whole : length (take (1024 * p) bs) ≡ 1024 * p
  left_whole = length-take-le (1024 * p) bs (omega (arith, left_short))

  left_chunks : chunks (take (1024 * p) bs) ≡ p
  unfolding chunks
  left_chunks = let pos : 1 ≤ 2 ^ rule.exponent = pow_pos rule.exponent in omega (arith, left_whole, rule.power)

  more : (key : List ℕ) (flag root n : ℕ)
      → tree_of key flag root n bs
      ≡ parented key flag root (tree_of key flag 0 n (take (1024 * p) bs)) (tree_of key flag 0 (n + p) (drop (1024 * p) bs))
  more key flag root n =
      let k = rule.exponent in
      let e : 2 ^ k ≡ p = sym rule.power in
      let d : 2 ^ suc k ≡ 2 ^ k * 2 = pow-suc 2 k in
      tree_split key flag root n bs k (omega (arith, left_short)) (omega (arith, right_short))
      ∙ ap₂ (parented key flag root)
      (tree_enough key flag 0 n (take (1024 * 2 ^ k) bs) k (omega (arith, length-take-le (1024 * 2 ^ k) bs (omega (arith, left_short))))
      ∙ ap (λ (x : ℕ). tree_of key flag 0 n (take (1024 * x) bs)) e)
      (tree_enough key flag 0 (n + 2 ^ k) (drop (1024 * 2 ^ k) bs) k (omega (arith, right_short, length-drop (1024 * 2 ^ k) bs))
      ∙ ap (λ (x : ℕ). tree_of key flag 0 (n + x) (drop (1024 * x) bs)) e)

pub tree_rule : (key : List ℕ) (flag root n : ℕ) (bs : List ℕ) → TreeRule key flag root n bs
unfolding chunks
tree_rule key flag root n bs =
    record {
      one = λ e. sym (tree_chunk 0 key flag root n bs refl ∙ tree_enough key flag root n bs 0 (omega arith));
      power = λ h. largest_power (chunks bs) h;
      left = λ p r. (left_chunks bs p r, left_whole bs p r);
      more = λ p r. more bs p r key flag root n;
    }
