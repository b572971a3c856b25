-- The counts, from block to block.
use mathlib.Core.Path.{◌≡◌, sym, ap, ◌∙◌}
use Prim.Native.Nat.{ℕ, ◌+◌, ◌-◌, ◌*◌, ◌/◌, ◌%◌, ◌^◌, ◌≤◌, ◌<◌}
use native.Mathlib.Omega.{arith}
use lib.Count.{ones, ones-le}
use Rattle.parts_rule.specs.Subtrees.{finished}
use Rattle.parts_rule.specs.Run.{in_chunk}
use Rattle.parts_rule.proofs.Numbers.{ones_some, ones_suc}
use Rattle.parts_rule.proofs.Fours.{ones_four}
use Rattle.parts_rule.specs.Counts.{held_of, stacked_of}
use Rattle.parts_rule.specs.Steps.{Pushes, Full, Ready}

-- a state within the limit has at most thirty subtrees, and a block at most 64 bytes
pub stacked_low : (t : ℕ) → t ≤ 2 ^ 40 → stacked_of t ≤ 30
stacked_low t l = ones-le 30 (finished t) (omega arith)

pub held_low : (t : ℕ) → held_of t ≤ 64
held_low t = omega arith

-- a chunk that is not full has fewer bytes
pub chunk_below : (t : ℕ) → (in_chunk t ≡ 1024 → ⊥) → in_chunk t < 1024
chunk_below t h = less (in_chunk t) (omega arith) h
  where
    less : (x : ℕ) → x ≤ 1024 → (x ≡ 1024 → ⊥) → x < 1024
    less x a b = omega arith

-- one chunk more, and four
module _ (c stacked : ℕ) (count : stacked ≡ ones c) where
  pub pushes_one : c + 1 < 2 ^ 30 → Pushes (c + 1) stacked
  pushes_one l =
      record {
        some = ones_some 30 (c + 1) (omega arith) l;
        fits = ones-le 30 (c + 1) l;
        under = omega (arith, ones_suc c);
        most = omega (arith, ones-le 30 c (omega arith));
      }

  pub pushes_four : c % 4 ≡ 0 → c + 4 < 2 ^ 30 → Pushes (c + 4) stacked
  pushes_four even l =
      record {
        some = ones_some 30 (c + 4) (omega arith) l;
        fits = ones-le 30 (c + 4) l;
        under = omega (arith, ones_four c even);
        most = omega (arith, ones-le 30 c (omega arith));
      }

-- a full block that ends its chunk
pub pushes_at : (total stacked : ℕ) {n : ℕ} → Full total stacked → n ≡ finished total → total - 1024 * n ≡ 1024 → Pushes (n + 1) stacked
pushes_at total stacked {n} f e l =
    pushes_one n stacked (f.high ∙ ap ones (sym e)) (small total n f.limit l)
  where
    small : (t m : ℕ) → t < 2 ^ 40 → t - 1024 * m ≡ 1024 → m + 1 < 2 ^ 30
    small t m a b = omega arith

-- a full block, 64 bytes behind the last
module _ (t : ℕ) where
  pub full_chunks : held_of t ≡ 64 → in_chunk t ≡ 1024 → finished t + 1 ≡ t / 1024
  full_chunks h e = omega arith

  pub same_chunks : held_of t ≡ 64 → (in_chunk t ≡ 1024 → ⊥) → finished t ≡ t / 1024
  same_chunks h e = omega (arith, chunk_below t e)

  pub next_full : t % 64 ≡ 0 → held_of (t + 64) ≡ 64
  next_full e = omega arith

  pub next_before : t % 64 ≡ 0 → t / 1024 ≡ finished (t + 64)
  next_before e = omega arith

-- between two blocks, a chunk's first among them
module _ (stacked total len : ℕ) (r : Ready stacked total len) where
  pub ready_one : 1024 < len → Pushes (total / 1024 + 1) stacked
  ready_one l = pushes_one (total / 1024) stacked r.count (omega (arith, r.limit))

  pub ready_four : total % 4096 ≡ 0 → 4096 < len → Pushes (total / 1024 + 4) stacked
  ready_four e l = pushes_four (total / 1024) stacked r.count (omega arith) (omega (arith, r.limit))

pub ready_full : (stacked total len : ℕ) → Ready stacked total len → 64 < len → Full (total + 64) stacked
ready_full stacked total len r l =
    record { limit = omega (arith, r.limit); held = next_full total r.even; high = r.count ∙ ap ones (next_before total r.even) }
