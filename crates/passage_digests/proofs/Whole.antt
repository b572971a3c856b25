-- The digests for a passage, written whole or not at all.
use mathlib.Core.Path.{◌≡◌, sym, ap, ◌∙◌}
use mathlib.Core.Logic.{by_cases}
use mathlib.Core.List.{List, []}
use Prim.Native.Nat.{ℕ, ◌+◌, ◌*◌, ◌^◌, ◌≤◌, ◌<◌}
use native.Mathlib.Decide.{dec_le}
use native.Mathlib.Omega.{arith}
use lib.ListN.{length}
use lib.Pow.{pow_mono}
use Rattle.digest.specs.Digest.{digest_in, digest_length}
use Rattle.wire.specs.Slices.{written, joined}
use Rattle.wire.proofs.Splices.{splice_none, written_fits, written_short}
use Rattle.shape.specs.Sizes.{height_of}
use Rattle.shape.proofs.Heights.{height_holds, height_least}
use Rattle.nodes.specs.Nodes.{node_in}
use Rattle.nodes.proofs.Joined.{node_length}
use Rattle.views.specs.View.{View}
use Rattle.views.specs.Passage.{passage_in}
use Rattle.views.specs.Shows.{gives_by}
use Rattle.views.proofs.Passages.{passage_any}
use Rattle.passage.specs.Digests.{digest_count, digests_of}
use Rattle.passage.proofs.Digests.{count_from, countable}
use Rattle.passage_digests.specs.Steps.{Puttable, Put}
use Rattle.passage_digests.proofs.Exact.{digests_none, digests_are, digests_bytes}

module _ (mode bs d : List ℕ) (at n : ℕ) (is : List ℕ) where
  abbrev bytes : List ℕ
  bytes = joined (digests_of (digest_in mode) (node_in bs) n is)

  -- numbers that have no digests
  pub whole_none : (0 < n → n ≤ 2 ^ 32 → length is ≤ 256 → ⊥) → d ≡ written at (joined (digests_of (digest_in mode) (node_in bs) n is)) d
  unfolding joined
  whole_none h =
      rw (digests_none (digest_in mode) (node_in bs) n is h)
      (by_cases (dec_le (at + 0) (length d)) (λ a. sym (written_fits at [] d a ∙ splice_none at d)) (λ a. sym (written_short at [] d (omega arith))))

  long : length bytes ≡ 32 * digest_count n is
  long = digests_bytes (digest_in mode) (node_in bs) n is (digest_length mode) (node_length bs)

  -- no room for them
  pub whole_cut : length d < at + 32 * digest_count n is → d ≡ written at (joined (digests_of (digest_in mode) (node_in bs) n is)) d
  whole_cut h = sym (written_short at bytes d (omega (arith, long)))

  -- all from the height of n leaves down
  module _ (p : 0 < n) (q : n ≤ 2 ^ 32) (r : length is ≤ 256) (h : ℕ) (e : h ≡ height_of n) (room : at + 32 * digest_count n is ≤ length d) where
    pub whole_room : Puttable h n 0 is 0 at (length d)
    whole_room =
        let k : 2 ^ h ≤ 2 ^ 32 = pow_mono {i = h} {j = 32} (omega (arith, height_least n 32 q)) in
        record {
          countable = countable n is p q r h e;
          some = p;
          most = rw e (height_holds n);
          near = omega arith;
          fits = omega (arith, count_from n is p q r h e);
        }

    pub whole_all : {next : ℕ} {last : List ℕ} → Put mode bs h n 0 is 0 at d next last
        → last ≡ written at (joined (digests_of (digest_in mode) (node_in bs) n is)) d
    whole_all w =
        let g : gives_by (digest_in mode) (node_in bs) (passage_in h n 0 is) n 0 ≡ digests_of (digest_in mode) (node_in bs) n is =
        ap (λ (v : View). gives_by (digest_in mode) (node_in bs) v n 0) (passage_any h n is (rw e (height_holds n)))
        ∙ sym (digests_are (digest_in mode) (node_in bs) n is p q r) in
        rw g at w.bytes ∙ sym (written_fits at bytes d (omega (arith, long)))
