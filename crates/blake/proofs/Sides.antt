-- The tree over chunks: what a height adds, and that any height that holds the bytes gives the same tree.
use mathlib.Core.Path.{◌≡◌, refl, sym, ap, ◌∙◌, subst}
use mathlib.Core.List.{List}
use Prim.Native.Nat.{ℕ, zero, suc, ◌+◌, ◌-◌, ◌*◌, ◌^◌, ◌≤◌, ◌<◌}
use native.Mathlib.Nat.{add_comm, le_trans, mul-le-mul_left}
use native.Mathlib.Numerals.{sub-one}
use native.Mathlib.Omega.{arith}
use lib.ListN.{length, take, drop}
use lib.Pow.{pow_mono}
use borrow.Author.Tests.{le-leb, lt-leb}
use Rattle.powers.proofs.Powers.{lt_pow}
use Rattle.chunks.specs.Chunks.{chunked}
use Rattle.blake.specs.Blake.{parented, treed, tree_of}

-- a height of 0 is one chunk
pub tree_chunk : (h : ℕ) (key : List ℕ) (flag root n : ℕ) (bs : List ℕ) → h ≡ 0 → chunked key flag root n bs ≡ treed h key flag root n bs
unfolding treed
tree_chunk h key flag root n bs e =
    let z : chunked key flag root n bs ≡ treed 0 key flag root n bs = refl in
    z ∙ ap (λ (k : ℕ). treed k key flag root n bs) (sym e)

module _ (key : List ℕ) (flag root n : ℕ) (bs : List ℕ) where
  -- the parent of the first 2 ^ k chunks and the rest
  abbrev pub sides : ℕ → List ℕ
  sides k = parented key flag root (treed k key flag 0 n (take (1024 * 2 ^ k) bs)) (treed k key flag 0 (n + 2 ^ k) (drop (1024 * 2 ^ k) bs))

  -- what fits under the left side alone is that side
  pub short_suc : (k : ℕ) → length bs ≤ 1024 * 2 ^ k → treed k key flag root n bs ≡ treed (suc k) key flag root n bs
  unfolding treed
  short_suc k l = rw (le-leb (length bs) (1024 * 2 ^ k) l, treed)

  pub tree_short : (h : ℕ) → (h ≡ 0 → ⊥) → length bs ≤ 1024 * 2 ^ (h - 1) → treed (h - 1) key flag root n bs ≡ treed h key flag root n bs
  tree_short zero ne l = absurd (ne refl)
  tree_short (suc k) ne l =
      ap (λ (j : ℕ). treed j key flag root n bs) (sub-one (suc k))
      ∙ short_suc k (subst (λ (j : ℕ). length bs ≤ 1024 * 2 ^ j) (sub-one (suc k)) l)

  -- what does not is a parent
  pub long_suc : (k : ℕ) → 1024 * 2 ^ k < length bs → sides k ≡ treed (suc k) key flag root n bs
  unfolding treed
  long_suc k l = rw (lt-leb (length bs) (1024 * 2 ^ k) l, treed)

  pub tree_long : (h : ℕ) → (h ≡ 0 → ⊥) → 1024 * 2 ^ (h - 1) < length bs → sides (h - 1) ≡ treed h key flag root n bs
  tree_long zero ne l = absurd (ne refl)
  tree_long (suc k) ne l =
      ap sides (sub-one (suc k)) ∙ long_suc k (subst (λ (j : ℕ). 1024 * 2 ^ j < length bs) (sub-one (suc k)) l)

  -- a height more changes nothing where the bytes fit
  tree_more : (h j : ℕ) → length bs ≤ 1024 * 2 ^ h → treed h key flag root n bs ≡ treed (j + h) key flag root n bs
  tree_more h zero l = ap (λ (k : ℕ). treed k key flag root n bs) (let e : h ≡ 0 + h = omega arith in e)
  tree_more h (suc j) l =
      tree_more h j l
      ∙ short_suc (j + h) (le_trans l (mul-le-mul_left 1024 (pow_mono {i = h} (let e : h ≤ j + h = omega arith in e))))
      ∙ ap (λ (k : ℕ). treed k key flag root n bs) (let e : suc (j + h) ≡ suc j + h = omega arith in e)

  -- any height that holds the bytes gives their tree
  pub tree_enough : (h : ℕ) → length bs ≤ 1024 * 2 ^ h → treed h key flag root n bs ≡ tree_of key flag root n bs
  unfolding tree_of
  tree_enough h l =
      tree_more h (length bs) l
      ∙ ap (λ (k : ℕ). treed k key flag root n bs) (add_comm (length bs) h)
      ∙ sym (tree_more (length bs) h (let p : length bs < 2 ^ length bs = lt_pow (length bs) in omega arith))

  pub tree_same : (g h : ℕ) → length bs ≤ 1024 * 2 ^ g → length bs ≤ 1024 * 2 ^ h → treed g key flag root n bs ≡ treed h key flag root n bs
  tree_same g h l m = tree_enough g l ∙ sym (tree_enough h m)

  -- more than 2 ^ k chunks and at most 2 ^ (k + 1) are split after the first 2 ^ k
  pub tree_split : (k : ℕ) → 1024 * 2 ^ k < length bs → length bs ≤ 1024 * 2 ^ suc k → tree_of key flag root n bs ≡ sides k
  tree_split k more most = sym (tree_enough (suc k) most) ∙ sym (long_suc k more)
