-- How long a passage letter and its parts are.
use mathlib.Core.Path.{◌≡◌, ap, ◌∙◌}
use mathlib.Core.List.{List, [], ◌∷◌, map}
use Prim.Native.Nat.{ℕ, ◌+◌, ◌*◌, ◌≤◌}
use native.Mathlib.Omega.{arith}
use lib.ListN.{length, length-append}
use Rattle.wire.specs.Slices.{joined}
use Rattle.wire.proofs.Numbers.{be_length}
use Rattle.records.specs.Records.{total, cut}
use Rattle.records.proofs.Sums.{total_none, total_cons}
use Rattle.records.proofs.Cuts.{cut_count, cut_lengths}
use Rattle.shape.specs.Sizes.{leaves}
use Rattle.passage.specs.Bytes.{entries, passage_bytes}
use Rattle.passage.specs.Digests.{digests_of, exact_length}
use Rattle.passage_digests.proofs.Exact.{digests_bytes}
use Rattle.passage_writer.specs.Outcome.{our_passage}

-- 12 bytes more for each record
pub entries_length : (is : List ℕ) (rs : List (List ℕ)) → length rs ≡ length is → length (entries is rs) ≡ 12 * length is + total (map length rs)
unfolding entries
entries_length [] [] e = omega (arith, total_none)
entries_length [] (r ∷ rs) e = absurd (omega arith)
entries_length (i ∷ is) [] e = absurd (omega arith)
entries_length (i ∷ is) (r ∷ rs) e =
    rw (length-append, length-append, length-append, be_length 8 i, be_length 4 (length r))
    (omega (arith, entries_length is rs (omega arith), total_cons (length r) (map length rs)))

-- those of records that are cut from joined bytes
pub entries_cut : (is ks bs : List ℕ) → length ks ≡ length is → total ks ≤ length bs → length (entries is (cut ks bs)) ≡ 12 * length is + total ks
entries_cut is ks bs e h =
    entries_length is (cut ks bs) (cut_count ks bs ∙ e) ∙ ap (λ (x : List ℕ). 12 * length is + total x) (cut_lengths ks bs h)

pub passage_length : (size : ℕ) (is : List ℕ) (rs ds : List (List ℕ))
    → length (passage_bytes size is rs ds) ≡ 10 + length (entries is rs) + length (joined ds)
unfolding passage_bytes
passage_length size is rs ds = rw (length-append, length-append, length-append, be_length 8 size, be_length 2 (length is))

-- our letter has the exact length: over any digest function and any nodes whose digests have 32 bytes
pub ours_exact : (digest : List ℕ → List ℕ) (node : ℕ → List ℕ) → ((x : List ℕ) → length (digest x) ≡ 32) → ((p : ℕ) → length (node p) ≡ 32)
    → (size : ℕ) (is : List ℕ) (rs : List (List ℕ)) → length rs ≡ length is
    → length (our_passage digest size is rs node) ≡ exact_length (leaves size) is (map length rs)
unfolding our_passage exact_length
ours_exact digest node digest_32 node-32 size is rs e =
    let ds = digests_of digest node (leaves size) is in
    omega (arith, passage_length size is rs ds, entries_length is rs e, digests_bytes digest node (leaves size) is digest_32 node-32)
