-- The new nodes, written one behind the other: what holds after the leaf and j parents.
use mathlib.Core.Path.{◌≡◌, refl, sym, ap, ap₂, ◌∙◌}
use mathlib.Core.List.{List, [], ◌∷◌, ◌++◌}
use Prim.Native.Nat.{ℕ, suc, ◌+◌, ◌-◌, ◌*◌, ◌≤◌, ◌<◌, zero-le}
use native.Mathlib.Numerals.{add-one}
use native.Mathlib.Omega.{arith}
use lib.ListN.{length, drop}
use lib.Seq.{drop-append-add, drop-drop}
use Rattle.digest.specs.Digest.{digest_in, digest_length}
use Rattle.wire.specs.Slices.{splice, written, joined}
use Rattle.wire.proofs.Splices.{splice_front, splice_length, written_fits, written_next}
use Rattle.new_nodes.specs.Steps.{up, ups}
use Rattle.wire.proofs.Joined.{joined_length, joined_append, joined_one}
use Rattle.new_nodes.proofs.Climbs.{ups_length, ups_sized}

-- what is written over the front hides what was written there before
pub splice_over : (x xs d : List ℕ) → length x ≤ length xs → splice 0 xs (splice 0 x d) ≡ splice 0 xs d
splice_over x xs d h =
    let k = length xs - length x in
    let e : length xs ≡ length x + k = omega arith in
    let w : drop (length xs) (x ++ drop (length x) d) ≡ drop (length xs) d =
    ap (λ (n : ℕ). drop n (x ++ drop (length x) d)) e ∙ drop-append-add x (drop (length x) d) k ∙ drop-drop k (length x) d
    ∙ ap (λ (n : ℕ). drop n d) (sym e) in
    splice_front xs (splice 0 x d)
    ∙ ap (λ (l : List ℕ). xs ++ drop (length xs) l) (splice_front x d)
    ∙ ap (λ (l : List ℕ). xs ++ l) w
    ∙ sym (splice_front xs d)

-- x and j parents, where the left children are given by height, over the front of what was there
pub record Writes (mode : List ℕ) (left : ℕ → List ℕ) (x first tail top : List ℕ) (m j : ℕ) : Type 0 where
  pub within : j ≤ m
  pub size : length x ≡ 32
  pub room : 32 * (1 + m) ≤ length first
  pub last : top ≡ up mode left j x
  pub bytes : tail ≡ splice 0 (joined (ups mode left j x)) first

pub ups_bytes : (mode : List ℕ) (left : ℕ → List ℕ) (m : ℕ) (x : List ℕ) → length x ≡ 32 → length (joined (ups mode left m x)) ≡ 32 * (1 + m)
ups_bytes mode left m x e = joined_length (ups mode left m x) (ups_sized mode left m x e) ∙ omega (arith, ups_length mode left m x)

pub writes_none : (mode : List ℕ) (left : ℕ → List ℕ) (x d : List ℕ) (m : ℕ) {first : List ℕ} → length x ≡ 32 → 32 * (1 + m) ≤ length d → first ≡ written 0 x d
    → Writes mode left x first first x m 0
unfolding up ups
writes_none mode left x d m {first} e h w =
    let f : first ≡ splice 0 x d = w ∙ written_fits 0 x d (omega arith) in
    record {
      within = zero-le;
      size = e;
      room = omega (arith, ap length f, splice_length 0 x d (omega arith));
      last = refl;
      bytes = f ∙ sym (ap (λ (l : List ℕ). splice 0 x l) f ∙ splice_over x x d (omega arith)) ∙ ap (λ (l : List ℕ). splice 0 l first) (sym (joined_one x));
    }

module _ {mode : List ℕ} {left : ℕ → List ℕ} {x first tail top : List ℕ} {m j : ℕ} (g : Writes mode left x first tail top m j) where
  pub writes_more : {next more : List ℕ} → j < m → next ≡ digest_in mode (left j ++ top) → more ≡ written (32 * (j + 1)) next tail
      → Writes mode left x first more next m (j + 1)
  unfolding up ups
  writes_more {next} {more} h e w =
      let y : next ≡ up mode left (suc j) x = e ∙ ap (λ (t : List ℕ). digest_in mode (left j ++ t)) g.last in
      let n : length next ≡ 32 = ap length e ∙ digest_length mode (left j ++ top) in
      let l : length (joined (ups mode left j x)) ≡ 32 * (1 + j) = ups_bytes mode left j x g.size in
      record {
        within = omega arith;
        size = g.size;
        room = g.room;
        last = y ∙ ap (λ (k : ℕ). up mode left k x) (sym (add-one j));
        bytes =
            w
            ∙ written_next 0 (32 * (j + 1)) (joined (ups mode left j x)) next first tail g.bytes (omega arith) (omega (arith, g.room))
            ∙ ap (λ (b : List ℕ). splice 0 b first)
            (ap (λ (b : List ℕ). joined (ups mode left j x) ++ b) (y ∙ sym (joined_one (up mode left (suc j) x)))
            ∙ sym (joined_append (ups mode left j x) (up mode left (suc j) x ∷ [])))
            ∙ ap (λ (k : ℕ). splice 0 (joined (ups mode left k x)) first) (sym (add-one j));
      }

  -- all of it, over what was there before the leaf
  pub writes_all : (d : List ℕ) → m ≤ j → first ≡ written 0 x d → 32 * (1 + m) ≤ length d → tail ≡ splice 0 (joined (ups mode left m x)) d
  writes_all d h w r =
      let z : j ≡ m = omega (arith, g.within) in
      g.bytes
      ∙ ap₂ (λ (k : ℕ) (l : List ℕ). splice 0 (joined (ups mode left k x)) l) z (w ∙ written_fits 0 x d (omega (arith, g.size)))
      ∙ splice_over x (joined (ups mode left m x)) d (omega (arith, ups_bytes mode left m x g.size, g.size))
