-- Fields that are written one after the other fill the first bytes of the output buffer with the node.
use mathlib.Core.Path.{◌≡◌, refl, sym, ◌∙◌}
use mathlib.Core.List.{List, [], ◌∷◌, ◌++◌}
use Prim.Native.Nat.{ℕ, ◌+◌, ◌≤◌}
use native.Mathlib.Omega.{arith}
use lib.ListN.{length}
use Rattle.std.specs.Prelude.{Ok}
use Rattle.wire.specs.Numbers.{be}
use Rattle.wire.specs.Slices.{splice, written}
use Rattle.wire.specs.Writers.{wrote, write_done}
use Rattle.wire.proofs.Numbers.{be_length}
use Rattle.wire.proofs.Writers.{write_done_lem}
use Rattle.wire.proofs.Splices.{written_fits, written_next}
use Rattle.stored.specs.Nodes.{inner_bytes, leaf_bytes}
use Rattle.stored.proofs.Fields.{head_length, leaf_length}

-- flag and digest, the fields that both kinds begin with
head_filled : (flag : ℕ) (digest out : List ℕ) {l₁ l₂ : List ℕ} → 1 + length digest ≤ length out
    → l₁ ≡ written 0 (flag ∷ []) out → l₂ ≡ written 1 digest l₁ → l₂ ≡ splice 0 (flag ∷ digest) out
head_filled flag digest out {l₁} h e₁ e₂ =
    e₂ ∙ written_next 0 1 (flag ∷ []) digest out l₁ (e₁ ∙ written_fits 0 (flag ∷ []) out (omega arith)) refl h

pub inner_filled : (digest out : List ℕ) {l₁ l₂ : List ℕ} → length digest ≡ 32 → 33 ≤ length out
    → l₁ ≡ written 0 (0 ∷ []) out → l₂ ≡ written 1 digest l₁
    → wrote (Ok 33) l₂ ≡ write_done (inner_bytes digest) out
unfolding inner_bytes
inner_filled digest out {l₁} {l₂} h k e₁ e₂ =
    write_done_lem (0 ∷ digest) out l₂ 33 (omega arith) (head_filled 0 digest out (omega arith) e₁ e₂)

pub leaf_filled : (digest : List ℕ → List ℕ) (rec out : List ℕ) {d l₁ l₂ l₃ l₄ : List ℕ} → length (digest rec) ≡ 32
    → 37 + length rec ≤ length out → d ≡ digest rec
    → l₁ ≡ written 0 (1 ∷ []) out → l₂ ≡ written 1 d l₁ → l₃ ≡ written 33 (be 4 (length rec)) l₂ → l₄ ≡ written 37 rec l₃
    → wrote (Ok (37 + length rec)) l₄ ≡ write_done (leaf_bytes digest rec) out
unfolding leaf_bytes
leaf_filled digest rec out {d} {l₁} {l₂} {l₃} {l₄} h k e e₁ e₂ e₃ e₄ =
    let x : List ℕ = digest rec in
    let b : List ℕ = be 4 (length rec) in
    let n : length b ≡ 4 = be_length 4 (length rec) in
    let m : length (1 ∷ x ++ b) ≡ 37 = head_length digest rec h in
    let f₂ : l₂ ≡ splice 0 (1 ∷ x) out = head_filled 1 x out (omega arith) e₁ (e₂ ∙ rw e) in
    let f₃ : l₃ ≡ splice 0 (1 ∷ x ++ b) out = e₃ ∙ written_next 0 33 (1 ∷ x) b out l₂ f₂ (omega arith) (omega arith) in
    let f₄ : l₄ ≡ splice 0 (1 ∷ x ++ b ++ rec) out = e₄ ∙ written_next 0 37 (1 ∷ x ++ b) rec out l₃ f₃ (omega arith) (omega arith) in
    write_done_lem (1 ∷ x ++ b ++ rec) out l₄ (37 + length rec) (sym (leaf_length digest rec h)) f₄
