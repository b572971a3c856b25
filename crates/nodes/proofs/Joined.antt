-- A node as bytes: 32 of them, wherever it is; copied from its place; and the one at a position of joined digests.
use mathlib.Core.Path.{◌≡◌, sym, ap, ◌∙◌}
use mathlib.Core.List.{List, [], ◌∷◌, ◌++◌, append_assoc}
use Prim.Native.Nat.{ℕ, zero, suc, ◌+◌, ◌-◌, ◌*◌, ◌≤◌, ◌<◌}
use native.Mathlib.Omega.{arith}
use lib.ListN.{length, get_or, take, drop}
use Rattle.wire.specs.Slices.{part, Each, joined}
use Rattle.wire.proofs.Lent.{slice_part}
use Rattle.wire.proofs.Parts.{part_length, part_front, part_past, part_whole}
use Rattle.nodes.specs.Nodes.{node_in}

-- a node has 32 bytes, wherever it is
pub node_length : (bs : List ℕ) (p : ℕ) → length (node_in bs p) ≡ 32
unfolding node_in
node_length bs p = part_length _ 32 bs

-- 32 bytes copied from a place on
pub copied : (bs : List ℕ) (at : ℕ) {s x : List ℕ} → at + 32 ≤ length bs → s ≡ take (at + 32 - at) (drop at bs) → x ≡ s → x ≡ part at 32 bs
copied bs at h f e = e ∙ f ∙ slice_part at 32 bs h

-- position p of joined digests, whatever follows them
pub node_joined : (ds : List (List ℕ)) (rest : List ℕ) (p : ℕ) → Each 32 ds → p < length ds → node_in (joined ds ++ rest) p ≡ get_or ds p []
unfolding node_in joined
node_joined [] rest p a h = absurd (omega arith)
node_joined (d ∷ ds) rest zero a h =
    ap (part 0 32) (append_assoc d (joined ds) rest)
    ∙ part_front 0 32 d (joined ds ++ rest) (omega (arith, a.0))
    ∙ ap (λ (k : ℕ). part 0 k d) (sym a.0) ∙ part_whole d
node_joined (d ∷ ds) rest (suc p) a h =
    let e : 32 * suc p ≡ 32 + 32 * p = omega arith in
    ap (part (32 * suc p) 32) (append_assoc d (joined ds) rest)
    ∙ ap (λ (at : ℕ). part at 32 (d ++ (joined ds ++ rest))) e
    ∙ part_past 32 (32 * p) 32 d (joined ds ++ rest) a.0
    ∙ node_joined ds rest p a.1 (omega arith)
