-- A log within the limits, a buffer that holds its nodes, and a digest function whose digests have 32 bytes: what the calls find there.
use mathlib.Core.Path.{◌≡◌, sym, ap, ◌∙◌}
use mathlib.Core.List.{List, map}
use Prim.Native.Nat.{ℕ, ◌*◌, ◌^◌, ◌≤◌, ◌<◌}
use native.Mathlib.Omega.{arith}
use lib.ListN.{length, length-map}
use Rattle.wire.proofs.Differences.{differ_same}
use Rattle.shape.specs.Answers.{Answer}
use Rattle.shape.specs.Sizes.{size_of, position_answer}
use Rattle.shape.specs.Tree.{Tips32, root, inputs}
use Rattle.shape.specs.Folded.{tree}
use Rattle.shape.specs.Nodes.{Holds, nodes}
use Rattle.shape.specs.Letter.{Leads, fill, items}
use Rattle.shape.specs.Way.{way}
use Rattle.shape.specs.Seen.{seen, broken}
use Rattle.shape.proofs.Sizes.{size_le, position_answer_lem}
use Rattle.wire.proofs.Each.{each_map}
use Rattle.shape.proofs.Trees.{tree_32}
use Rattle.shape.proofs.Bind.{root_32}
use Rattle.shape.proofs.Ways.{way_leads}
use Rattle.shape.proofs.Leaves.{leaf_read_lem, leaf_digest}
use Rattle.shape.proofs.Reading.{root_read}
use Rattle.shape.proofs.Own.{seen_own, broken_own}
use Rattle.nodes.specs.Nodes.{node_in, Begins}
use Rattle.shape.proofs.Counting.{Counts, counts_size}
use Rattle.evidence_log.proofs.Grown.{begins_hold, begins_long}
use Rattle.evidence_log.proofs.Appends.{short_at}
use Rattle.letter.specs.Items.{foreign}
use Rattle.letter_finder.specs.Outcome.{own_root}
use Rattle.letter_promise.specs.Terms.{Log, record_at}

pub record Kept (digest : List ℕ → List ℕ) (rs : List (List ℕ)) (bs : List ℕ) : Type 0 where
  pub digest_32 : (x : List ℕ) → length (digest x) ≡ 32
  pub log : Log rs
  pub holds : Holds (node_in bs) 0 (nodes digest (map digest rs))
  pub room : 32 * size_of (length rs) ≤ length bs

-- a buffer that begins with a log's nodes holds each at its place
pub kept : (digest : List ℕ → List ℕ) → ((x : List ℕ) → length (digest x) ≡ 32)
    → (rs : List (List ℕ)) (bs : List ℕ) → Log rs → Begins digest bs rs → Kept digest rs bs
kept digest digest_32 rs bs g b =
    record { digest_32 = digest_32; log = g; holds = begins_hold digest digest_32 rs bs b; room = begins_long digest digest_32 rs bs b }

module _ {digest : List ℕ → List ℕ} {rs : List (List ℕ)} {bs : List ℕ} (k : Kept digest rs bs) where
  -- the log's root, and the items of its tree on the way to leaf i
  abbrev pub log_root : List ℕ
  log_root = root digest (tree (map digest rs))

  abbrev pub own_items : ℕ → List (List ℕ)
  own_items i = items digest (tree (map digest rs)) (way (length rs) i)

  pub same_number : length (map digest rs) ≡ length rs
  same_number = length-map rs digest

  -- the leaf count of its size
  pub counts : Counts (size_of (length rs)) (length rs)
  counts = counts_size (length rs) k.log.few

  pub size_small : size_of (length rs) < 256 ^ 8
  size_small = omega (arith, size_le (length rs), k.log.few)

  -- its tree takes 32 bytes for each leaf, and its root has 32
  pub log_32 : Tips32 (tree (map digest rs))
  log_32 = tree_32 (map digest rs) (each_map 32 digest k.digest_32 rs) (omega (arith, same_number, k.log.some))

  pub root_length : length log_root ≡ 32
  root_length = root_32 digest k.digest_32 (tree (map digest rs)) log_32

  -- the root of the nodes is the tree's
  pub own_root_lem : own_root digest (node_in bs) (length rs) ≡ log_root
  own_root_lem =
      rw same_number at (root_read digest (node_in bs) (map digest rs) (omega (arith, same_number, k.log.some)) k.holds)

  module _ (i : ℕ) (p : i < length rs) where
    pub record_short : length (record_at rs i) ≤ 16384
    record_short = short_at rs i k.log.short p

    -- the way to leaf i
    pub leads : Leads (tree (map digest rs)) (way (length rs) i) (digest (record_at rs i))
    leads = rw (same_number, leaf_digest digest rs i p) at (way_leads (map digest rs) i (omega (arith, same_number)))

    -- the log's own record is the leaf at its place
    pub not_foreign : foreign digest (node_in bs) i (record_at rs i) ≡ 0
    unfolding foreign
    not_foreign =
        let e : (position_answer i).value ≡ size_of i = ap (λ (a : Answer). a.value) (position_answer_lem i (omega (arith, k.log.few))) in
        let f = leaf_read_lem digest (node_in bs) (map digest rs) i (omega (arith, same_number)) k.holds in
        differ_same _ _ (sym (ap (node_in bs) e ∙ f ∙ leaf_digest digest rs i p))

    -- no node on the path is broken, and the nodes show what the log's own letter hashes
    pub not_broken : broken digest (node_in bs) (length rs) i ≡ 0
    not_broken = rw same_number at (broken_own digest (node_in bs) (map digest rs) i (omega (arith, same_number)) k.holds)

    pub shown : seen digest (node_in bs) (length rs) i ≡ inputs digest (fill (way (length rs) i) (digest (record_at rs i)) (own_items i))
    shown =
        rw (same_number, leaf_digest digest rs i p) at (seen_own digest (node_in bs) (map digest rs) i (omega (arith, same_number)) k.holds)
