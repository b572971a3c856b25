-- The fields of a stored node: each is read where it was put, and put together they are the node again.
use mathlib.Core.Path.{◌≡◌, refl, sym, ap, ap₂, ◌∙◌}
use mathlib.Core.List.{List, [], ◌∷◌, ◌++◌, append_assoc}
use Prim.Native.Nat.{ℕ, ◌+◌, ◌-◌, ◌^◌, ◌≤◌, ◌<◌}
use native.Mathlib.Omega.{arith}
use lib.ListN.{length, take, drop, length-append}
use Rattle.wire.specs.Numbers.{be, Bytes}
use Rattle.wire.specs.Slices.{part, differ}
use Rattle.wire.proofs.Numbers.{be_length}
use Rattle.wire.proofs.Parts.{part_length, part_whole, part_past, part_field, part_add}
use Rattle.wire.proofs.Lent.{slice_part}
use Rattle.wire.proofs.Places.{number_field, be_part}
use Rattle.stored.specs.Nodes.{inner_bytes, leaf_bytes, flag_in, named_in, stated_in, record_in, lies}

-- ---- as they were put

pub inner_digest : (digest : List ℕ) → length digest ≡ 32 → named_in (inner_bytes digest) ≡ digest
unfolding named_in inner_bytes
inner_digest digest h = part_past 1 0 32 (0 ∷ []) digest refl ∙ rw (← h) (part_whole digest)

module _ (digest : List ℕ → List ℕ) (rec : List ℕ) (h : length (digest rec) ≡ 32) where
  pub head_length : length (1 ∷ digest rec ++ be 4 (length rec)) ≡ 37
  head_length = rw (length-append, be_length) (omega arith)

  pub leaf_length : length (leaf_bytes digest rec) ≡ 37 + length rec
  unfolding leaf_bytes
  leaf_length = rw (length-append, head_length)

  pub leaf_digest : named_in (leaf_bytes digest rec) ≡ digest rec
  unfolding named_in leaf_bytes
  leaf_digest =
      let b : List ℕ = be 4 (length rec) in
      rw (append_assoc (1 ∷ digest rec) b rec) (part_field 1 32 (1 ∷ []) (digest rec) (b ++ rec) refl h)

  pub leaf_stated : length rec < 256 ^ 4 → stated_in (leaf_bytes digest rec) ≡ length rec
  unfolding stated_in leaf_bytes
  leaf_stated l = number_field 33 4 (length rec) (1 ∷ digest rec) rec (omega arith) l

  pub leaf_record : part 37 (length rec) (leaf_bytes digest rec) ≡ rec
  unfolding leaf_bytes
  leaf_record =
      part_past 37 0 (length rec) (1 ∷ digest rec ++ be 4 (length rec)) rec head_length ∙ part_whole rec

-- ---- put together

flag_part : (bs : List ℕ) → part 0 1 bs ≡ flag_in bs ∷ []
unfolding part
flag_part [] = refl
flag_part (b ∷ bs) = refl

module _ (bs : List ℕ) where
  head : part 0 33 bs ≡ flag_in bs ∷ named_in bs
  unfolding named_in
  head = part_add 0 1 32 bs ∙ rw (flag_part bs)

  whole : (n : ℕ) → length bs ≡ n → part 0 n bs ≡ bs
  whole n e = rw (← e) (part_whole bs)

  pub inner_whole : flag_in bs ≡ 0 → length bs ≡ 33 → inner_bytes (named_in bs) ≡ bs
  unfolding inner_bytes
  inner_whole f e = rw (← f, ← head) (whole 33 e)

  pub leaf_whole : Bytes bs → flag_in bs ≡ 1 → length bs ≡ 37 + stated_in bs
      → (digest : List ℕ → List ℕ) → digest (record_in bs) ≡ named_in bs → leaf_bytes digest (record_in bs) ≡ bs
  unfolding stated_in record_in leaf_bytes
  leaf_whole b f e digest h =
      let n : ℕ = stated_in bs in
      let p : part 0 (37 + n) bs ≡ flag_in bs ∷ named_in bs ++ part 33 4 bs ++ part 37 n bs
      = part_add 0 37 n bs ∙ rw (part_add 0 33 4 bs, head) in
      rw (h, ← f, part_length, be_part 33 4 bs b) (sym p ∙ whole (37 + n) e)

-- ---- compared

-- in a leaf of the exact length the record is all that stands behind the record length
pub record_slice_lem : (bs : List ℕ) → length bs ≡ 37 + stated_in bs → take (length bs - 37) (drop 37 bs) ≡ record_in bs
unfolding record_in
record_slice_lem bs e = ap (λ (n : ℕ). take (n - 37) (drop 37 bs)) e ∙ slice_part 37 (stated_in bs) bs (omega arith)

-- what was worked out, compared with the digest that stands there
pub lies_by : (digest : List ℕ → List ℕ) (bs : List ℕ) {worked : List ℕ} → worked ≡ digest (record_in bs) → 33 ≤ length bs
    → differ worked (take 32 (drop 1 bs)) ≡ lies digest bs
unfolding lies named_in
lies_by digest bs w l = ap₂ differ w (slice_part 1 32 bs l)
