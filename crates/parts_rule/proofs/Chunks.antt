-- A chunk that is taken whole: from its start on, its 1,024 bytes and what follows come to its value on the stack.
use mathlib.Core.Path.{◌≡◌, refl, sym, ap, ap₂, ◌∙◌}
use mathlib.Core.List.{List, [], ◌∷◌, ◌++◌, append-nil}
use Prim.Native.Nat.{ℕ, suc, ◌+◌, ◌-◌, ◌*◌, ◌/◌, ◌≤◌, ◌<◌}
use native.Mathlib.Decide.{ℕ_discrete}
use native.Mathlib.Nat.{add-zero}
use native.Mathlib.Omega.{arith}
use lib.ListN.{length, take, drop, length-drop, length-append}
use lib.Seq.{append_snoc, take_at, drop_at, drop-append-le}
use lib.Count.{ones}
use Rattle.compression.specs.Compression.{compressed}
use Rattle.words.specs.Words.{words_of}
use Rattle.chunks.specs.Chunks.{chunk_end, start_flag, chained, before, chunked}
use Rattle.parts_rule.specs.Subtrees.{finished, pushed}
use Rattle.parts_rule.specs.Run.{Run, between, in_chunk, block_number, opening, onward, gone_on, roomed, put, taken}
use Rattle.parts_rule.proofs.Takes.{block_low, roomed_room, roomed_full, flushed_on, flushed_end, chained_same, more_blocks, full_at}
use Rattle.parts_rule.proofs.Puts.{taken_append}

-- a run at the start of chunk number c, with t bytes of it
within_number : (c t : ℕ) → 0 < t → t ≤ 1024 → finished (1024 * c + t) ≡ c
within_number c t s l = omega arith

within_chunk : (c t : ℕ) → 0 < t → t ≤ 1024 → in_chunk (1024 * c + t) ≡ t
within_chunk c t s l = omega (arith, within_number c t s l)

within_block : (c t : ℕ) → 0 < t → t ≤ 1024 → block_number (1024 * c + t) ≡ (t - 1) / 64
within_block c t s l = ap (λ (x : ℕ). (x - 1) / 64) (within_chunk c t s l)

next_block : (t u : ℕ) → u ≡ t + 1 → t - 64 * ((t - 1) / 64) ≡ 64 → suc ((t - 1) / 64) ≡ (u - 1) / 64
next_block t u e h = omega arith

full_some : (t : ℕ) → t - 64 * ((t - 1) / 64) ≡ 64 → 0 < t
full_some t h = omega arith

full_whole : (t : ℕ) → t ≡ 1024 → t - 64 * ((t - 1) / 64) ≡ 64
full_whole t e = omega arith

module _ (key : List ℕ) (flag c : ℕ) (stack : List (List ℕ)) (chain : List ℕ) where
  -- the run with cs of the chunk
  abbrev chunk_run : List ℕ → Run
  chunk_run cs =
      record {
        stack = stack;
        chain = chained chain flag c cs ((length cs - 1) / 64);
        block = drop (64 * ((length cs - 1) / 64)) cs;
        total = 1024 * c + length cs;
      }

  module _ (cs : List ℕ) (b : ℕ) (l : length cs < 1024) where
    abbrev more : List ℕ
    more = cs ++ (b ∷ [])

    longer : length more ≡ length cs + 1
    longer = length-append cs (b ∷ [])

    total_more : 1024 * c + length cs + 1 ≡ 1024 * c + length more
    total_more = omega (arith, longer)

    block_length : length (chunk_run cs).block ≡ length cs - 64 * ((length cs - 1) / 64)
    block_length = length-drop (64 * ((length cs - 1) / 64)) cs

    step_room : (length cs - 64 * ((length cs - 1) / 64) ≡ 64 → ⊥) → put (chunk_run cs) (b ∷ []) ≡ chunk_run more
    step_room h =
        let t = length cs in
        let q = (t - 1) / 64 in
        let eb : q ≡ (length more - 1) / 64 = more_blocks t (length more) longer h in
        λ k. record {
          stack = stack;
          chain = (sym (chained_same chain flag c cs (b ∷ []) q (block_low t)) ∙ ap (chained chain flag c more) eb) k;
          block = (sym (drop-append-le (64 * q) cs (b ∷ []) (block_low t)) ∙ ap (λ (x : ℕ). drop (64 * x) more) eb) k;
          total = total_more k;
        }

    step_full : length cs - 64 * ((length cs - 1) / 64) ≡ 64 → put (gone_on key flag (chunk_run cs)) (b ∷ []) ≡ chunk_run more
    unfolding chained
    step_full h =
        let t = length cs in
        let q = (t - 1) / 64 in
        let some : 0 < t = full_some t h in
        let eq : suc q ≡ (length more - 1) / 64 = next_block t (length more) longer h in
        let en : finished (1024 * c + t) ≡ c = within_number c t some (omega arith) in
        let ei : block_number (1024 * c + t) ≡ q = within_block c t some (omega arith) in
        let lb : length (drop (64 * q) cs) ≡ 64 = length-drop (64 * q) cs ∙ h in
        let eb : drop (64 * q) cs ≡ take 64 (drop (64 * q) more) =
        sym (take_at (drop (64 * q) cs) (b ∷ []) 64 lb) ∙ ap (take 64) (sym (drop-append-le (64 * q) cs (b ∷ []) (block_low t))) in
        λ k. record {
          stack = stack;
          chain =
              (ap₂ (λ (n i : ℕ). compressed (chained chain flag c cs q) (words_of 16 (drop (64 * q) cs)) n (length (drop (64 * q) cs)) (flag + start_flag i)) en ei
              ∙ ap (λ (n : ℕ). compressed (chained chain flag c cs q) (words_of 16 (drop (64 * q) cs)) c n (flag + start_flag q)) lb
              ∙ ap₂ (λ (cv m : List ℕ). compressed cv (words_of 16 m) c 64 (flag + start_flag q))
              (sym (chained_same chain flag c cs (b ∷ []) q (block_low t))) eb
              ∙ ap (chained chain flag c more) eq) k;
          block = (sym (drop_at cs (b ∷ []) (length cs) refl) ∙ ap (λ (x : ℕ). drop x more) (full_at t (length more) longer h)) k;
          total = total_more k;
        }

    step : put (roomed key flag (chunk_run cs)) (b ∷ []) ≡ chunk_run more
    step =
        elim (ℕ_discrete (length cs - 64 * ((length cs - 1) / 64)) 64) [
          | yes h ↦ ap (λ (s : Run). put s (b ∷ []))
              (roomed_full key flag (chunk_run cs) (block_length ∙ h)
              ∙ flushed_on key flag (chunk_run cs) (λ e. below (sym (within_chunk c (length cs) (full_some (length cs) h) (omega arith)) ∙ e)))
              ∙ step_full h
          | no h ↦ ap (λ (s : Run). put s (b ∷ [])) (roomed_room key flag (chunk_run cs) (λ e. h (sym block_length ∙ e))) ∙ step_room h
        ]
      where
        below : length cs ≡ 1024 → ⊥
        below e = omega arith

  steps : (cs ys : List ℕ) → length cs + length ys ≤ 1024 → taken key flag (chunk_run cs) ys ≡ chunk_run (cs ++ ys)
  unfolding taken
  steps cs [] l = ap chunk_run (sym (append-nil cs))
  steps cs (y ∷ ys) l =
      ap (λ (r : Run). taken key flag r ys) (step cs y (omega arith))
      ∙ steps (cs ++ (y ∷ [])) ys (omega (arith, length-append cs (y ∷ [])))
      ∙ ap chunk_run (append_snoc cs y ys)

  -- the start of the chunk, and the start of the next with value v on the stack
  abbrev start_run : Run
  start_run = between stack chain (1024 * c)

  abbrev next_run : List ℕ → Run
  next_run v = between (pushed key flag (ones (c + 1) - 1) stack v) key (1024 * c + 1024)

  start_is : start_run ≡ chunk_run []
  unfolding chained
  start_is = λ i. record { stack = stack; chain = chain; block = []; total = (let e : 1024 * c ≡ 1024 * c + 0 = omega arith in e) i }

  whole_done : (cs : List ℕ) → length cs ≡ 1024 → roomed key flag (chunk_run cs) ≡ next_run (chunked chain flag 0 c cs)
  unfolding chunked before
  whole_done cs e =
      let t = length cs in
      let q = (t - 1) / 64 in
      let full : t - 64 * q ≡ 64 = full_whole t e in
      let en : finished (1024 * c + t) ≡ c = within_number c t (omega arith) (omega arith) in
      let ei : block_number (1024 * c + t) ≡ q = within_block c t (omega arith) (omega arith) in
      let lb : length (drop (64 * q) cs) ≡ t - 64 * q = length-drop (64 * q) cs in
      let v : onward key flag (chunk_run cs) (opening key flag (chunk_run cs) + chunk_end) ≡ chunked chain flag 0 c cs =
      ap₂ (λ (n i : ℕ). compressed (chained chain flag c cs q) (words_of 16 (drop (64 * q) cs)) n (length (drop (64 * q) cs))
      (flag + start_flag i + 2)) en ei
      ∙ ap₂ (λ (n x : ℕ). compressed (chained chain flag c cs q) (words_of 16 (drop (64 * q) cs)) c n x) lb
      (sym (add-zero (flag + start_flag q + 2))) in
      roomed_full key flag (chunk_run cs) (lb ∙ full)
      ∙ flushed_end key flag (chunk_run cs) (within_chunk c t (omega arith) (omega arith) ∙ e)
      ∙ (λ i. record {
        stack = ap₂ (λ (n : ℕ) (x : List ℕ). pushed key flag (ones (n + 1) - 1) stack x) en v i;
        chain = key;
        block = [];
        total = ap (λ (n : ℕ). 1024 * c + n) e i;
      })

  -- 1,024 bytes and a byte that follows
  pub whole_chunk : (cs ys : List ℕ) → length cs ≡ 1024 → 0 < length ys
      → taken key flag start_run (cs ++ ys) ≡ taken key flag (next_run (chunked chain flag 0 c cs)) ys
  unfolding taken
  whole_chunk cs [] e s = absurd (omega arith)
  whole_chunk cs (y ∷ ys) e s =
      taken_append key flag start_run cs (y ∷ ys)
      ∙ ap (λ (r : Run). taken key flag (taken key flag r cs) (y ∷ ys)) start_is
      ∙ ap (λ (r : Run). taken key flag r (y ∷ ys)) (steps [] cs (omega arith))
      ∙ ap (λ (r : Run). taken key flag (put r (y ∷ [])) ys)
      (whole_done cs e ∙ sym (roomed_room key flag (next_run (chunked chain flag 0 c cs)) (λ z. let w : 0 ≡ 64 = z in absurd (omega arith))))
