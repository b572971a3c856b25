-- A run that holds xs and takes a byte holds xs and that byte, and its digest is that of xs.
use mathlib.Core.Path.{◌≡◌, refl, sym, ap, ap₂, ◌∙◌, subst⁻¹}
use mathlib.Core.List.{List, [], ◌∷◌, ◌++◌, append-nil}
use Prim.Native.Nat.{ℕ, zero, suc, ◌+◌, ◌-◌, ◌*◌, ◌/◌, ◌^◌, ◌≤◌, ◌<◌}
use native.Mathlib.Decide.{ℕ_discrete}
use native.Mathlib.Omega.{arith}
use lib.ListN.{length, take, drop, length-drop, length-append}
use lib.Seq.{append_snoc, take_at, drop_at, drop-drop, take-append-le, drop-append-le}
use lib.Count.{ones}
use borrow.Author.Tests.{eq-eqb, ne_eqb}
use Rattle.compression.specs.Compression.{compressed}
use Rattle.words.specs.Words.{words_of, bytes_of}
use Rattle.chunks.specs.Chunks.{chunk_end, start_flag, chained, before, chunked}
use Rattle.blake.specs.Blake.{root_node, digested}
use Rattle.blake.proofs.Sides.{tree_enough}
use Rattle.parts_rule.specs.Subtrees.{finished, lefts_in, last_chunk, folded, pushed}
use Rattle.parts_rule.specs.Run.{Run, in_chunk, block_number, run_after, opening, onward, gone_on, chunk_done, flushed, roomed, put, taken, ended}
use Rattle.parts_rule.proofs.Folds.{tree_folded, lefts_same, lefts_pushed}

bare_number : (t : ℕ) → block_number t ≡ (t - 1) / 64 - 16 * ((t - 1) / 1024)
bare_number t = omega arith

number_low : (t : ℕ) → 64 * block_number t ≤ t - 1024 * ((t - 1) / 1024)
number_low t = omega arith

chunk_low : (t : ℕ) → 1024 * ((t - 1) / 1024) ≤ t
chunk_low t = omega arith

pub block_low : (t : ℕ) → 64 * ((t - 1) / 64) ≤ t
block_low t = omega arith

full_suc : (b q c : ℕ) → 16 * c ≤ q → b ≡ q - 16 * c → suc b ≡ suc q - 16 * c
full_suc b q c w e = omega arith

-- numbers: t bytes, and u with one more
module _ (t u : ℕ) (e : u ≡ t + 1) where
  pub more_blocks : (t - 64 * ((t - 1) / 64) ≡ 64 → ⊥) → (t - 1) / 64 ≡ (u - 1) / 64
  more_blocks h = omega arith

  more_chunks : (t - 64 * ((t - 1) / 64) ≡ 64 → ⊥) → (t - 1) / 1024 ≡ (u - 1) / 1024
  more_chunks h = omega arith

  more_number : (t - 64 * ((t - 1) / 64) ≡ 64 → ⊥) → block_number t ≡ block_number u
  more_number h =
      let c : (t - 1) / 1024 ≡ (u - 1) / 1024 = more_chunks h in
      let q : (t - 1) / 64 ≡ (u - 1) / 64 = more_blocks h in
      bare_number t ∙ ap₂ (λ (x y : ℕ). x - 16 * y) q c ∙ sym (bare_number u)

  pub full_at : t - 64 * ((t - 1) / 64) ≡ 64 → t ≡ 64 * ((u - 1) / 64)
  full_at h = omega arith

  full_chunks : t - 64 * ((t - 1) / 64) ≡ 64 → (t - 1024 * ((t - 1) / 1024) ≡ 1024 → ⊥) → (t - 1) / 1024 ≡ (u - 1) / 1024
  full_chunks h g = omega arith

  full_number : t - 64 * ((t - 1) / 64) ≡ 64 → (t - 1024 * ((t - 1) / 1024) ≡ 1024 → ⊥) → suc (block_number t) ≡ block_number u
  full_number h g =
      let c : (t - 1) / 1024 ≡ (u - 1) / 1024 = full_chunks h g in
      let q : suc ((t - 1) / 64) ≡ (u - 1) / 64 = omega (arith, full_at h) in
      let w : 16 * ((t - 1) / 1024) ≤ (t - 1) / 64 = omega arith in
      let a : suc (block_number t) ≡ suc ((t - 1) / 64) - 16 * ((t - 1) / 1024) = full_suc (block_number t) ((t - 1) / 64) ((t - 1) / 1024) w
      (bare_number t) in
      a ∙ ap₂ (λ (x y : ℕ). x - 16 * y) q c ∙ sym (bare_number u)

  end_at : t - 1024 * ((t - 1) / 1024) ≡ 1024 → t ≡ 1024 * suc ((t - 1) / 1024)
  end_at g = omega arith

  end_number_lem : t - 1024 * ((t - 1) / 1024) ≡ 1024 → 0 ≡ block_number u
  end_number_lem g = omega (arith, bare_number u, end_at g)

-- the chunk's last block
module _ (key : List ℕ) (flag : ℕ) where
  -- a block with room stays, a full one goes on, or ends its chunk
  pub roomed_room : (r : Run) → (length r.block ≡ 64 → ⊥) → roomed key flag r ≡ r
  unfolding roomed
  roomed_room r h = rw (ne_eqb (length r.block) 64 h, roomed)

  pub roomed_full : (r : Run) → length r.block ≡ 64 → roomed key flag r ≡ flushed key flag r
  unfolding roomed
  roomed_full r h = rw (eq-eqb (length r.block) 64 h, roomed)

  pub flushed_on : (r : Run) → (in_chunk r.total ≡ 1024 → ⊥) → flushed key flag r ≡ gone_on key flag r
  unfolding flushed
  flushed_on r h = rw (ne_eqb (in_chunk r.total) 1024 h, flushed)

  pub flushed_end : (r : Run) → in_chunk r.total ≡ 1024 → flushed key flag r ≡ chunk_done key flag r
  unfolding flushed
  flushed_end r h = rw (eq-eqb (in_chunk r.total) 1024 h, flushed)

  -- the chaining words depend on the blocks before
  pub chained_same : (n : ℕ) (bs y : List ℕ) (i : ℕ) → 64 * i ≤ length bs → chained key flag n (bs ++ y) i ≡ chained key flag n bs i
  unfolding chained
  chained_same n bs y zero l = refl
  chained_same n bs y (suc i) l =
      ap₂ (λ (cv m : List ℕ). compressed cv (words_of 16 m) n 64 (flag + start_flag i))
      (chained_same n bs y i (omega arith))
      (ap (take 64) (drop-append-le (64 * i) bs y (omega arith))
      ∙ take-append-le 64 (drop (64 * i) bs) y (omega (arith, length-drop (64 * i) bs)))

  -- the last block of xs ends its chunk
  module _ (xs : List ℕ) where
    abbrev number : ℕ
    number = finished (length xs)

    abbrev chunk : List ℕ
    chunk = drop (1024 * number) xs

    abbrev block_at : ℕ
    block_at = block_number (length xs)

    last_block : drop (64 * before (length xs)) xs ≡ drop (64 * block_at) chunk
    unfolding before
    last_block =
        let e : 64 * before (length xs) ≡ 1024 * number + 64 * block_at = omega arith in
        ap (λ (k : ℕ). drop k xs) e ∙ sym (drop-drop (64 * block_at) (1024 * number) xs)

    last_length : length (drop (64 * before (length xs)) xs) ≡ length chunk - 64 * block_at
    last_length = ap length last_block ∙ length-drop (64 * block_at) chunk

    block_before : before (length chunk) ≡ block_at
    unfolding before
    block_before = ap (λ (x : ℕ). (x - 1) / 64) (length-drop (1024 * number) xs)

    chunk_ends : (root : ℕ)
        → compressed (chained key flag number chunk block_at) (words_of 16 (drop (64 * before (length xs)) xs)) number
        (length (drop (64 * before (length xs)) xs)) (flag + start_flag block_at + chunk_end + root)
        ≡ chunked key flag root number chunk
    unfolding chunked
    chunk_ends root =
        ap₂ (λ (b : List ℕ) (k : ℕ). compressed (chained key flag number chunk block_at) (words_of 16 b) number k
        (flag + start_flag block_at + chunk_end + root))
        last_block last_length
        ∙ ap (λ (q : ℕ). compressed (chained key flag number chunk q) (words_of 16 (drop (64 * q) chunk)) number (length chunk - 64 * q)
        (flag + start_flag q + chunk_end + root)) (sym block_before)

  -- the digest of the run after xs
  pub ended_after : (xs : List ℕ) → length xs ≤ 2 ^ 40 → ended key flag (run_after key flag xs) ≡ digested key flag xs
  unfolding ended run_after digested chunked before
  ended_after xs l =
      let c = finished (length xs) in
      let z : c ≡ 0 + c = omega arith in
      let e : (root : ℕ) → onward key flag (run_after key flag xs) (opening key flag (run_after key flag xs) + chunk_end + root)
      ≡ last_chunk key flag 0 xs root =
      λ root. chunk_ends xs root ∙ ap (λ (n : ℕ). chunked key flag root n (drop (1024 * c) xs)) z in
      ap bytes_of
      (ap (folded key flag root_node (lefts_in key flag 30 0 xs)) (λ i root. e root i)
      ∙ sym (tree_folded key flag 30 root_node 0 xs (omega arith))
      ∙ tree_enough key flag root_node 0 xs 30 (omega arith))

  -- a byte more
  module _ (xs : List ℕ) (b : ℕ) (l : length xs < 2 ^ 40) where
    abbrev more : List ℕ
    more = xs ++ (b ∷ [])

    abbrev r : Run
    r = run_after key flag xs

    longer : length more ≡ length xs + 1
    longer = length-append xs (b ∷ [])

    -- where the block has room
    put_room : (length xs - 64 * ((length xs - 1) / 64) ≡ 64 → ⊥) → put r (b ∷ []) ≡ run_after key flag more
    unfolding run_after before
    put_room h =
        let t = length xs in
        let c = finished t in
        let i = block_number t in
        let ec : c ≡ finished (length more) = more_chunks t (length more) longer h in
        let eb : (t - 1) / 64 ≡ (length more - 1) / 64 = more_blocks t (length more) longer h in
        let ei : i ≡ block_number (length more) = more_number t (length more) longer h in
        let es : finished (t + 1) ≡ finished t = sym (more_chunks t (t + 1) refl h) in
        let lc : 64 * i ≤ length (drop (1024 * c) xs) = subst⁻¹ (λ (x : ℕ). 64 * i ≤ x) (length-drop (1024 * c) xs) (number_low t) in
        λ k. record {
          stack = sym (lefts_same key flag 30 0 xs (b ∷ []) es) k;
          chain =
              (sym (chained_same c (drop (1024 * c) xs) (b ∷ []) i lc)
              ∙ ap (λ (z : List ℕ). chained key flag c z i) (sym (drop-append-le (1024 * c) xs (b ∷ []) (chunk_low t)))
              ∙ ap₂ (λ (x y : ℕ). chained key flag x (drop (1024 * x) more) y) ec ei) k;
          block =
              (sym (drop-append-le (64 * ((t - 1) / 64)) xs (b ∷ []) (block_low t)) ∙ ap (λ (x : ℕ). drop (64 * x) more) eb) k;
          total = sym longer k;
        }

    full_length : length xs - 64 * ((length xs - 1) / 64) ≡ 64 → length (drop (64 * before (length xs)) xs) ≡ 64
    unfolding before
    full_length h = length-drop (64 * ((length xs - 1) / 64)) xs ∙ h

    -- the new byte alone is the block
    alone : length xs - 64 * ((length xs - 1) / 64) ≡ 64 → b ∷ [] ≡ drop (64 * before (length more)) more
    unfolding before
    alone h =
        sym (drop_at xs (b ∷ []) (length xs) refl) ∙ ap (λ (x : ℕ). drop x more) (full_at (length xs) (length more) longer h)

    -- where the block is full
    put_full : length xs - 64 * ((length xs - 1) / 64) ≡ 64 → (in_chunk (length xs) ≡ 1024 → ⊥)
        → put (gone_on key flag r) (b ∷ []) ≡ run_after key flag more
    unfolding run_after chained
    put_full h g =
        let t = length xs in
        let c = finished t in
        let i = block_number t in
        let cs = drop (1024 * c) xs in
        let ec : c ≡ finished (length more) = full_chunks t (length more) longer h g in
        let ei : suc i ≡ block_number (length more) = full_number t (length more) longer h g in
        let es : finished (t + 1) ≡ finished t = sym (full_chunks t (t + 1) refl h g) in
        let lc : 64 * i ≤ length cs = subst⁻¹ (λ (x : ℕ). 64 * i ≤ x) (length-drop (1024 * c) xs) (number_low t) in
        let lb : length (drop (64 * i) cs) ≡ 64 = ap length (sym (last_block xs)) ∙ full_length h in
        let eb : drop (64 * before t) xs ≡ take 64 (drop (64 * i) (cs ++ (b ∷ []))) =
        last_block xs ∙ sym (take_at (drop (64 * i) cs) (b ∷ []) 64 lb) ∙ ap (take 64) (sym (drop-append-le (64 * i) cs (b ∷ []) lc)) in
        let one : chained key flag c (cs ++ (b ∷ [])) (suc i) ≡ chained key flag (finished (length more)) (drop (1024 * finished (length more)) more)
        (block_number (length more)) =
        ap (λ (z : List ℕ). chained key flag c z (suc i)) (sym (drop-append-le (1024 * c) xs (b ∷ []) (chunk_low t)))
        ∙ ap₂ (λ (x y : ℕ). chained key flag x (drop (1024 * x) more) y) ec ei in
        λ k. record {
          stack = sym (lefts_same key flag 30 0 xs (b ∷ []) es) k;
          chain =
              (ap (λ (n : ℕ). compressed (chained key flag c cs i) (words_of 16 (drop (64 * before t) xs)) c n (flag + start_flag i)) (full_length h)
              ∙ ap₂ (λ (cv m : List ℕ). compressed cv (words_of 16 m) c 64 (flag + start_flag i)) (sym (chained_same c cs (b ∷ []) i lc)) eb
              ∙ one) k;
          block = alone h k;
          total = sym longer k;
        }

    -- where the chunk is
    put_end : length xs - 64 * ((length xs - 1) / 64) ≡ 64 → in_chunk (length xs) ≡ 1024
        → put (chunk_done key flag r) (b ∷ []) ≡ run_after key flag more
    unfolding run_after chained
    put_end h g =
        let t = length xs in
        let c = finished t in
        let cs = drop (1024 * c) xs in
        let et : t ≡ 1024 * (c + 1) = omega (arith, end_at t (length more) longer g) in
        let ei : 0 ≡ block_number (length more) = end_number_lem t (length more) longer g in
        let flags : opening key flag r + chunk_end ≡ opening key flag r + chunk_end + 0 = omega arith in
        let n : c ≡ 0 + (c + 1 - 1) = omega arith in
        let d : c ≡ c + 1 - 1 = omega arith in
        let v : onward key flag r (opening key flag r + chunk_end) ≡ chunked key flag 0 (0 + (c + 1 - 1)) (drop (1024 * (c + 1 - 1)) xs) =
        ap (onward key flag r) flags ∙ chunk_ends xs 0 ∙ ap₂ (λ (x y : ℕ). chunked key flag 0 x (drop (1024 * y) xs)) n d in
        let few : c + 1 < 2 ^ 30 = omega arith in
        λ k. record {
          stack =
              (ap (pushed key flag (ones (c + 1) - 1) (lefts_in key flag 30 0 xs)) v
              ∙ sym (lefts_pushed key flag 30 0 (c + 1) xs (b ∷ []) et (omega arith) few (omega arith) (omega arith))) k;
          chain = ap (chained key flag (finished (length more)) (drop (1024 * finished (length more)) more)) ei k;
          block = alone h k;
          total = sym longer k;
        }

    block_length : length r.block ≡ length xs - 64 * ((length xs - 1) / 64)
    unfolding run_after before
    block_length = length-drop (64 * ((length xs - 1) / 64)) xs

    total_is : r.total ≡ length xs
    unfolding run_after
    total_is = refl

    pub put_one : put (roomed key flag r) (b ∷ []) ≡ run_after key flag more
    put_one =
        elim (ℕ_discrete (length xs - 64 * ((length xs - 1) / 64)) 64) [
          | yes h ↦ ap (λ (s : Run). put s (b ∷ [])) (roomed_full r (block_length ∙ h))
              ∙ elim (ℕ_discrete (in_chunk (length xs)) 1024) [
                | yes g ↦ ap (λ (s : Run). put s (b ∷ [])) (flushed_end r (ap in_chunk total_is ∙ g)) ∙ put_end h g
                | no g ↦ ap (λ (s : Run). put s (b ∷ [])) (flushed_on r (λ e. g (sym (ap in_chunk total_is) ∙ e))) ∙ put_full h g
              ]
          | no h ↦ ap (λ (s : Run). put s (b ∷ [])) (roomed_room r (λ e. h (sym block_length ∙ e))) ∙ put_room h
        ]

  -- a run that holds xs and takes ys holds xs and ys
  pub taken_after : (xs ys : List ℕ) → length xs + length ys ≤ 2 ^ 40
      → taken key flag (run_after key flag xs) ys ≡ run_after key flag (xs ++ ys)
  unfolding taken
  taken_after xs [] l = ap (run_after key flag) (sym (append-nil xs))
  taken_after xs (y ∷ ys) l =
      ap (λ (r : Run). taken key flag r ys) (put_one xs y (omega arith))
      ∙ taken_after (xs ++ (y ∷ [])) ys (omega (arith, length-append xs (y ∷ [])))
      ∙ ap (run_after key flag) (append_snoc xs y ys)
