-- What appending one by one writes where none is refused, over any digest function with digests of 32 bytes: the digests of what it hashes, from byte
-- 32 × old size on, and every other byte stays as it was.
use mathlib.Core.Path.{◌≡◌, sym, ap, ◌∙◌}
use mathlib.Core.List.{List, [], ◌∷◌, ◌++◌, map, map-append}
use Prim.Native.Nat.{ℕ, ◌+◌, ◌*◌, ◌≤◌}
use native.Mathlib.Omega.{arith}
use lib.ListN.{length, length-append}
use Rattle.wire.specs.Slices.{splice, joined}
use Rattle.wire.proofs.Joined.{joined_append}
use Rattle.wire.proofs.Splices.{splice_none, splice_splice}
use Rattle.evidence_log.specs.Appends.{State, step, run}
use Rattle.evidence_log.specs.Hashed.{append_hashed, run_hashed}
use Rattle.evidence_log.proofs.Hashed.{append_writes}
use Rattle.batch.specs.Batch.{met}
use Rattle.batch.proofs.Next.{next_more, new, new_long, next_long}
use Rattle.batch_laws.proofs.Runs.{met_none}

module _ (digest : List ℕ → List ℕ) (digest_32 : (x : List ℕ) → length (digest x) ≡ 32) where
  -- the digests of what is hashed
  abbrev pub news : State → List (List ℕ) → List ℕ
  news s rs = joined (map digest (run_hashed digest s rs))

  pub news_next : (s : State) (r : List ℕ) (rs : List (List ℕ)) → news s (r ∷ rs) ≡ new digest s r ++ news (step digest s r) rs
  unfolding run_hashed
  news_next s r rs =
      let xs = append_hashed digest s.size r s.bytes in
      let ys = run_hashed digest (step digest s r) rs in
      ap joined (map-append digest xs ys) ∙ joined_append (map digest xs) (map digest ys)

  -- with room so far
  writes_from : (s : State) (rs : List (List ℕ)) → 32 * s.size ≤ length s.bytes → met digest s rs ≡ 0
      → ((run digest s rs).bytes ≡ splice (32 * s.size) (news s rs) s.bytes) × (32 * s.size + length (news s rs) ≤ length s.bytes)
  unfolding run run_hashed joined step
  writes_from s [] room z = (sym (splice_none (32 * s.size) s.bytes), omega arith)
  writes_from s (r ∷ rs) room z =
      let m = met_none digest s r rs z in
      let t = step digest s r in
      let k = next_more digest s r m.0 in
      let l = new_long digest s r digest_32 in
      let b = append_writes digest s.size r s.bytes m.0 in
      let e = next_long digest s r digest_32 in
      let w = writes_from t rs (omega (arith, k.room)) m.1 in
      let at : 32 * t.size ≡ 32 * s.size + length (new digest s r) = omega (arith, k.hashes) in
      let fits : 32 * s.size + length (new digest s r) + length (news t rs) ≤ length s.bytes = omega (arith, w.1) in
      let n = news_next s r rs in (
        w.0
            ∙ (λ i. splice (at i) (news t rs) (b i))
            ∙ splice_splice (32 * s.size) (new digest s r) (news t rs) s.bytes fits
            ∙ ap (λ (x : List ℕ). splice (32 * s.size) x s.bytes) (sym n),
        omega (arith, ap length n, length-append (new digest s r) (news t rs)),
      )

  -- from any state: where there is a record there was room
  pub run_writes : (s : State) (rs : List (List ℕ)) → met digest s rs ≡ 0 → (run digest s rs).bytes ≡ splice (32 * s.size) (news s rs) s.bytes
  unfolding run run_hashed joined
  run_writes s [] z = sym (splice_none (32 * s.size) s.bytes)
  run_writes s (r ∷ rs) z =
      let k = next_more digest s r (met_none digest s r rs z).0 in
      (writes_from s (r ∷ rs) (omega (arith, k.room, k.hashes)) z).0
