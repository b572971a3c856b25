-- Four lanes in one list: what each place holds, and what each lane is.
use mathlib.Core.Path.{◌≡◌, refl, sym, ap, ap₂, ◌∙◌}
use mathlib.Core.List.{List}
use Prim.Native.Nat.{ℕ, ◌+◌, ◌-◌, ◌*◌, ◌/◌, ◌%◌, ◌<◌}
use native.Mathlib.Omega.{arith}
use Rattle.std.proofs.Common.{length, get_or}
use borrow.Rule.Slice.PartMut.{put_mid}
use Rattle.words.proofs.Fill.{Fills, fills_less, fills_put}
use Rattle.words.specs.Build.{build}
use Rattle.words.proofs.Builds.{build_length, build_at, build_same, build_self}
use Rattle.chunks.specs.Lanes.{lane_of, laned}

-- the word at place p
abbrev pub rule : (ℕ → List ℕ) → ℕ → ℕ
rule f p = get_or (f (p / 8)) (p % 8) 0

pub rule_at : (f : ℕ → List ℕ) (k i : ℕ) {v : List ℕ} → i < 8 → v ≡ f k → get_or v i 0 ≡ rule f (8 * k + i)
rule_at f k i {v} h e =
    let a : (8 * k + i) / 8 ≡ k = omega arith in
    let b : (8 * k + i) % 8 ≡ i = omega arith in
    ap₂ (λ (l : List ℕ) (j : ℕ). get_or l j 0) (e ∙ ap f (sym a)) (sym b)

pub laned_same : (f g : ℕ → List ℕ) → ((k : ℕ) → k < 4 → f k ≡ g k) → laned f ≡ laned g
unfolding laned
laned_same f g h = build_same 32 (rule f) (rule g) (λ p l. ap (λ (x : List ℕ). get_or x (p % 8) 0) (h (p / 8) (omega arith)))

pub lane_laned : (f : ℕ → List ℕ) (k : ℕ) → k < 4 → length (f k) ≡ 8 → lane_of (laned f) k ≡ f k
unfolding lane_of laned
lane_laned f k h e =
    build_same 8 (λ i. get_or (build 32 (rule f)) (8 * k + i) 0) (λ i. get_or (f k) i 0)
    (λ i l. build_at 32 (rule f) (8 * k + i) (omega arith) ∙ sym (rule_at f k i l refl))
    ∙ sym (build_self 8 (f k) e)

pub lane_length : (v : List ℕ) (k : ℕ) → length (lane_of v k) ≡ 8
unfolding lane_of
lane_length v k = build_length 8 _

-- lane k, stored
pub fills_lane : (f : ℕ → List ℕ) {k : ℕ} {out v new : List ℕ} → v ≡ f k → length (f k) ≡ 8 → k < 4 → new ≡ v
    → Fills (rule f) 32 out (8 * k) → Fills (rule f) 32 (put_mid (8 * k) (8 * k + 8 - 8 * k) out new) (8 * (k + 1))
fills_lane f {k} {v = v} e s h w g =
    let long : length v ≡ 8 = ap length e ∙ s in
    fills_less (omega arith)
    (fills_put v w (omega arith) (omega arith) (λ i l. rule_at f k i (omega arith) e) g)
