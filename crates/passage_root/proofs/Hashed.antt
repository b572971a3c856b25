-- The digests of a letter's records in a row: written one behind the other, and read by their numbers.
use mathlib.Core.Logic.{by_cases}
use mathlib.Core.Path.{◌≡◌, refl, sym, ap, ◌∙◌}
use mathlib.Core.List.{List, [], ◌∷◌, ◌++◌, map, map-append}
use Prim.Native.Nat.{ℕ, zero, suc, ◌+◌, ◌-◌, ◌*◌, ◌≤◌, ◌<◌, min}
use native.Mathlib.Decide.{dec_lt}
use native.Mathlib.Omega.{arith}
use lib.ListN.{length, length-map, length-take, length-replicate, get_or, get_or-replicate, take, drop, get_or-eq_default}
use lib.Seq.{take_all, take-take, take-suc, length-take-le, get_or-take, get_or-drop, get_or-append-add, ext_get_or}
use Rattle.wire.specs.Slices.{part, zeros, joined, splice, written}
use Rattle.wire.proofs.Each.{each_map}
use Rattle.wire.proofs.Joined.{joined_length, joined_append, joined_one}
use Rattle.wire.proofs.Parts.{part_length, part_byte}
use Rattle.wire.proofs.Splices.{splice_none, splice_front, written_next}
use Rattle.nodes.specs.Nodes.{node_in}
use Rattle.nodes.proofs.Joined.{node_joined}
use Rattle.passage.specs.Bytes.{record_at}
use Rattle.passage_root.specs.Root.{leaf_digests}

-- one of a list's images
pub map_at : (f : ℕ → List ℕ) (xs : List ℕ) (k : ℕ) → k < length xs → get_or (map f xs) k [] ≡ f (get_or xs k 0)
map_at f [] k p = absurd (omega arith)
map_at f (x ∷ xs) zero p = refl
map_at f (x ∷ xs) (suc k) p = map_at f xs k (omega arith)

-- a part that lies behind the bytes before zeros
zeros_behind : (xs : List ℕ) (n at k : ℕ) → length xs ≤ at → part at k (xs ++ drop (length xs) (zeros n)) ≡ zeros k
zeros_behind xs n at k h =
    ext_get_or 0 _ _ (part_length at k _ ∙ sym (length-replicate k 0)) (λ i p.
    let l : i < k = rw part_length at p in
    let e : at + i ≡ length xs + (at + i - length xs) = omega arith in
    part_byte at k _ i l
    ∙ ap (λ (j : ℕ). get_or (xs ++ drop (length xs) (zeros n)) j 0) e
    ∙ get_or-append-add xs (drop (length xs) (zeros n)) (at + i - length xs) 0
    ∙ get_or-drop (length xs) (zeros n) (at + i - length xs) 0
    ∙ zero_at n (length xs + (at + i - length xs))
    ∙ sym (zero_at k i))
  where
    zero_at : (m i : ℕ) → get_or (zeros m) i 0 ≡ 0
    zero_at m i =
        by_cases (dec_lt i m) (λ q. get_or-replicate m i 0 0 q) (λ q. get_or-eq_default (zeros m) 0 {n = i} (rw length-replicate (omega arith)))

not_both : (k m n : ℕ) → (k < m → k < n → ⊥) → min n m ≤ k
not_both k m n h =
    by_cases (dec_lt k m) (λ p. by_cases (dec_lt k n) (λ q. absurd (h p q)) (λ q. omega arith)) (λ p. omega arith)

module _ (digest : List ℕ → List ℕ) (digest_32 : (x : List ℕ) → length (digest x) ≡ 32) (letter : List ℕ) where
  -- the digest of the record at a place
  abbrev leaf_at : ℕ → List ℕ
  leaf_at at = digest (record_at letter at)

  rows_length : (places : List ℕ) → length (joined (map leaf_at places)) ≡ 32 * length places
  rows_length places =
      joined_length (map leaf_at places) (each_map 32 leaf_at (λ at. digest_32 (record_at letter at)) places)
      ∙ ap (λ (n : ℕ). 32 * n) (length-map places leaf_at)

  rows_more : (k : ℕ) (places : List ℕ) → k < length places
      → joined (map leaf_at (take (suc k) places)) ≡ joined (map leaf_at (take k places)) ++ leaf_at (get_or places k 0)
  rows_more k places p =
      ap (λ (ps : List ℕ). joined (map leaf_at ps)) (take-suc places k 0 p)
      ∙ ap joined (map-append leaf_at (take k places) (get_or places k 0 ∷ []))
      ∙ joined_append (map leaf_at (take k places)) (leaf_at (get_or places k 0) ∷ [])
      ∙ ap (λ (x : List ℕ). joined (map leaf_at (take k places)) ++ x) (joined_one (leaf_at (get_or places k 0)))

  module _ (places : List ℕ) where
    -- none is written
    pub leaves_none : zeros 8192 ≡ leaf_digests digest letter (take 0 places)
    unfolding leaf_digests joined
    leaves_none = sym (splice_none 0 (zeros 8192))

    up_to : (k : ℕ) → k ≤ 256 → leaf_digests digest letter (take k places) ≡ splice 0 (joined (map leaf_at (take k places))) (zeros 8192)
    unfolding leaf_digests
    up_to k q =
        ap (λ (ps : List ℕ). splice 0 (joined (map leaf_at ps)) (zeros 8192)) (take_all 256 (take k places) (omega (arith, length-take k places)))

    -- one more
    pub leaves_more : (k : ℕ) {d e : List ℕ} → k < length places → k < 256 → d ≡ leaf_digests digest letter (take k places)
        → e ≡ digest (record_at letter (get_or places k 0)) → written (32 * k) e d ≡ leaf_digests digest letter (take (suc k) places)
    leaves_more k {d} {e} p q f g =
        let n : 32 * k ≡ 0 + length (joined (map leaf_at (take k places))) =
        omega (arith, rows_length (take k places), length-take-le k places (omega arith)) in
        let room : 32 * k + length e ≤ length (zeros 8192) =
        omega (arith, ap length g ∙ digest_32 (record_at letter (get_or places k 0)), length-replicate {A = ℕ} 8192 0) in
        written_next 0 (32 * k) (joined (map leaf_at (take k places))) e (zeros 8192) d (f ∙ up_to k (omega arith)) n room
        ∙ ap (λ (x : List ℕ). splice 0 x (zeros 8192))
        (ap (λ (x : List ℕ). joined (map leaf_at (take k places)) ++ x) g ∙ sym (rows_more k places p))
        ∙ sym (up_to (suc k) q)

    -- all are
    pub leaves_all : (k : ℕ) → length places ≤ k → leaf_digests digest letter (take k places) ≡ leaf_digests digest letter places
    leaves_all k p = ap (leaf_digests digest letter) (take_all k places p)

    pub leaves_most : (k : ℕ) → 256 ≤ k → leaf_digests digest letter (take k places) ≡ leaf_digests digest letter places
    unfolding leaf_digests
    leaves_most k p =
        ap (λ (ps : List ℕ). splice 0 (joined (map leaf_at ps)) (zeros 8192)) (take-take 256 k places p)

    -- past the last place they are zeros
    pub leaf_out : (k : ℕ) → (k < length places → k < 256 → ⊥) → node_in (leaf_digests digest letter places) k ≡ zeros 32
    unfolding leaf_digests node_in
    leaf_out k h =
        let rows = joined (map leaf_at (take 256 places)) in
        let past : length rows ≤ 32 * k =
        omega (arith, rows_length (take 256 places), length-take 256 places, not_both k (length places) 256 h) in
        ap (part (32 * k) 32) (splice_front rows (zeros 8192)) ∙ zeros_behind rows 8192 (32 * k) 32 past

    -- each stands where its number says
    pub leaf_in_lem : (k : ℕ) → k < length places → k < 256 → node_in (leaf_digests digest letter places) k ≡ digest (record_at letter (get_or places k 0))
    unfolding leaf_digests
    leaf_in_lem k p q =
        let ps = take 256 places in
        let n : k < length ps = omega (arith, length-take 256 places) in
        ap (λ (x : List ℕ). node_in x k) (splice_front (joined (map leaf_at ps)) (zeros 8192))
        ∙ node_joined (map leaf_at ps) _ k (each_map 32 leaf_at (λ at. digest_32 (record_at letter at)) ps) (rw length-map n)
        ∙ map_at leaf_at ps k n
        ∙ ap leaf_at (get_or-take 256 places k 0 q)
