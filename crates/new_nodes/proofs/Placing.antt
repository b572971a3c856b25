-- What is left in the buffer: the leaf alone, or the leaf and its parents.
use mathlib.Core.Path.{◌≡◌, sym, ap, ap₂, ◌∙◌}
use mathlib.Core.List.{List, ◌++◌}
use Prim.Native.Nat.{ℕ, ◌+◌, ◌-◌, ◌*◌, ◌≤◌}
use native.Mathlib.Nat.{add-zero}
use native.Mathlib.Omega.{arith}
use lib.ListN.{length, take, drop}
use Rattle.digest.specs.Digest.{digest_in, digest_length}
use Rattle.wire.specs.Slices.{splice, written, joined}
use Rattle.wire.proofs.Splices.{splice_lent, written_fits}
use Rattle.wire.proofs.Joined.{joined_one}
use Rattle.shape.specs.Nodes.{climb}
use Rattle.nodes.specs.Nodes.{node_in}
use Rattle.new_nodes.specs.Outcome.{put_bytes}
use Rattle.new_nodes.specs.Steps.{Lefts, left_in, ups}
use Rattle.new_nodes.proofs.Climbs.{ups_climb}
use Rattle.new_nodes.proofs.Writing.{ups_bytes}

module _ (mode : List ℕ) (s m : ℕ) (rec bs : List ℕ) (room : 32 * (s + (1 + m)) ≤ length bs) where
  -- no parent
  pub leaf_bytes_lem : m ≡ 0 → {leaf last : List ℕ} → last ≡ written (32 * s) leaf bs → leaf ≡ digest_in mode rec
      → last ≡ put_bytes (digest_in mode) s m rec bs
  unfolding put_bytes climb
  leaf_bytes_lem z w d =
      w
      ∙ ap (λ (x : List ℕ). written (32 * s) x bs) d
      ∙ written_fits (32 * s) (digest_in mode rec) bs (omega (arith, digest_length mode rec))
      ∙ ap (λ (x : List ℕ). splice (32 * s) x bs)
      (sym (joined_one (digest_in mode rec))
      ∙ ap (λ (j : ℕ). joined (climb (digest_in mode) (node_in bs) j 0 s (digest_in mode rec))) (sym z))

  -- the part from byte 32 × s on, as it was lent and came back
  pub new_bytes : {saved tail last : List ℕ} → Lefts bs s m saved
      → tail ≡ splice 0 (joined (ups mode (left_in saved) m (digest_in mode rec))) (take (length bs - 32 * s) (drop (32 * s) bs))
      → last ≡ take (32 * s) bs ++ (tail ++ drop (length bs - 32 * s) (drop (32 * s) bs))
      → last ≡ put_bytes (digest_in mode) s m rec bs
  unfolding put_bytes
  new_bytes {saved} {tail} {last} l t w =
      let xs = joined (ups mode (left_in saved) m (digest_in mode rec)) in
      let long : length xs ≡ 32 * (1 + m) = ups_bytes mode (left_in saved) m (digest_in mode rec) (digest_length mode rec) in
      w
      ∙ ap (λ (x : List ℕ). take (32 * s) bs ++ (x ++ drop (length bs - 32 * s) (drop (32 * s) bs))) t
      ∙ splice_lent (32 * s) (length bs - 32 * s) 0 xs bs (omega arith) (omega arith)
      ∙ ap₂ (λ (at : ℕ) (x : List ℕ). splice at x bs) (add-zero (32 * s))
      (ap joined (ups_climb mode (node_in bs) (left_in saved) s (digest_in mode rec) m (λ i h. l.each i h)))
