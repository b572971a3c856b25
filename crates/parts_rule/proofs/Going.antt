-- A block that has gone on, and steps through a part, as runs.
use mathlib.Core.Path.{◌≡◌, sym, ap, ap₂, ◌∙◌}
use mathlib.Core.List.{List, ◌++◌}
use Prim.Native.Nat.{ℕ, ◌+◌, ◌-◌, ◌*◌, ◌/◌, ◌%◌, ◌^◌, ◌≤◌, ◌<◌}
use native.Mathlib.Omega.{arith}
use lib.Count.{ones}
use lib.ListN.{length, take, drop, length-drop, take-append-drop}
use lib.Seq.{length-take-le, drop-drop}
use Rattle.wire.proofs.Lists.{rest_all}
use Rattle.compression.specs.Compression.{compressed}
use Rattle.words.specs.Words.{words_of}
use Rattle.chunks.specs.Chunks.{start_flag, chunked}
use Rattle.blake.specs.Blake.{treed4}
use Rattle.blake.proofs.tree.Four.{treed4_done}
use Rattle.parts_rule.specs.Subtrees.{finished, pushed}
use Rattle.parts_rule.specs.Run.{Run, in_chunk, block_number, between, put, flushed, taken}
use Rattle.parts_rule.proofs.Takes.{flushed_on, flushed_end}
use Rattle.parts_rule.proofs.Puts.{taken_filled}
use Rattle.parts_rule.proofs.Chunks.{whole_chunk}
use Rattle.parts_rule.proofs.Fours.{whole_four}
use Rattle.parts_rule.specs.Stack.{subtrees}
use Rattle.parts_rule.specs.Steps.{Full, full_run, Gone, Ready, Went}
use Rattle.parts_rule.proofs.Places.{subtrees_length}
use Rattle.parts_rule.proofs.Counts.{full_chunks, same_chunks}

-- ---- a block that has gone on

module _ (key : List ℕ) (flag : ℕ) (chain stack : List ℕ) (stacked total : ℕ) (block : List ℕ) (size : length block ≡ 64) (full : Full total stacked)
    {n flags : ℕ} {m : List ℕ} (en : n ≡ finished total) (ef : flags ≡ flag + start_flag (block_number total)) (em : m ≡ words_of 16 block) where
  abbrev r : Run
  r = full_run chain stack stacked total block

  compressed_is : (x : ℕ) → compressed chain m n 64 (flags + x) ≡ compressed chain (words_of 16 block) (finished total) (length block)
      (flag + start_flag (block_number total) + x)
  compressed_is x =
      ap₂ (λ (w : List ℕ) (j : ℕ). compressed chain w j 64 (flags + x)) em en
      ∙ ap₂ (λ (j f : ℕ). compressed chain (words_of 16 block) (finished total) j (f + x)) (sym size) ef

  pub gone_end : {v stack' : List ℕ} {count : ℕ} → total - 1024 * n ≡ 1024 → v ≡ compressed chain m n 64 (flags + 2)
      → length stack' ≡ 240 → count ≡ ones (n + 1) → subtrees stack' count ≡ pushed key flag (ones (n + 1) - 1) (subtrees stack stacked) v
      → Gone key flag chain stack stacked total block stack' key count
  gone_end {v} {stack'} {count} e ev ls ec ep =
      let last : in_chunk total ≡ 1024 = ap (λ (j : ℕ). total - 1024 * j) (sym en) ∙ e in
      record {
        size = ls;
        count = ec ∙ ap ones (ap (λ (j : ℕ). j + 1) en ∙ full_chunks total full.held last);
        is =
            ap (λ (s : List (List ℕ)). between s key total)
            (ep ∙ ap₂ (λ (j : ℕ) (w : List ℕ). pushed key flag (ones (j + 1) - 1) (subtrees stack stacked) w) en (ev ∙ compressed_is 2))
            ∙ sym (flushed_end key flag r last);
      }

  pub gone_on_lem : {v : List ℕ} → (total - 1024 * n ≡ 1024 → ⊥) → length stack ≡ 240 → v ≡ compressed chain m n 64 flags
      → Gone key flag chain stack stacked total block stack v stacked
  gone_on_lem {v} e ls ev =
      let more : in_chunk total ≡ 1024 → ⊥ = λ z. e (ap (λ (j : ℕ). total - 1024 * j) en ∙ z) in
      record {
        size = ls;
        count = full.high ∙ ap ones (same_chunks total full.held more);
        is =
            ap (λ (w : List ℕ). between (subtrees stack stacked) w total)
            (ev ∙ ap₂ (λ (w : List ℕ) (j : ℕ). compressed chain w j 64 flags) em en
            ∙ ap₂ (λ (j f : ℕ). compressed chain (words_of 16 block) (finished total) j f) (sym size) ef)
            ∙ sym (flushed_on key flag r more);
      }

-- ---- steps through a part

module _ (key : List ℕ) (flag : ℕ) (chain stack : List ℕ) (stacked total : ℕ) (part : List ℕ) (ready : Ready stacked total (length part)) where
  abbrev now : Run
  now = between (subtrees stack stacked) chain total

  -- what is left behind n bytes
  left_length : (n : ℕ) → length (take (length part - n) (drop n part)) ≡ length part - n
  left_length n = ap length (rest_all n part) ∙ length-drop n part

  left_behind : (n : ℕ) → take (length part - n) (drop n part) ≡ drop (total + n - total) part
  left_behind n = rest_all n part ∙ ap (λ (k : ℕ). drop k part) (let e : n ≡ total + n - total = omega arith in e)

  -- one block
  pub went_block : {stack' chain' : List ℕ} {stacked' : ℕ} → 64 < length part
      → Gone key flag chain stack stacked (total + 64) (take 64 part) stack' chain' stacked'
      → Went key flag chain stack stacked total part stack' chain' stacked' (total + 64) (take (length part - 64) (drop 64 part))
  went_block {stack'} {chain'} {stacked'} l g =
      let xs = take 64 part in
      let ys = drop 64 part in
      let lx : length xs ≡ 64 = length-take-le 64 part (omega arith) in
      let whole : put now xs ≡ full_run chain stack stacked (total + 64) xs =
      ap (λ (j : ℕ). full_run chain stack stacked (total + j) xs) lx in
      record {
        size = g.size;
        some = omega (arith, left_length 64);
        behind = left_behind 64;
        whole = omega (arith, left_length 64);
        even = omega (arith, ready.even);
        count = g.count;
        is =
            ap (taken key flag now) (sym (take-append-drop 64 part))
            ∙ taken_filled key flag now xs ys (let e : 0 + length xs ≡ 64 = omega arith in e) (omega (arith, length-drop 64 part))
            ∙ ap (λ (q : Run). taken key flag (flushed key flag q) ys) whole
            ∙ ap₂ (taken key flag) (sym g.is) (sym (rest_all 64 part));
      }

  module _ (even : total % 1024 ≡ 0) where
    abbrev c : ℕ
    c = total / 1024

    starts : 1024 * c ≡ total
    starts = omega arith

    -- one chunk
    pub went_chunk : {stack' v : List ℕ} {count : ℕ} → 1024 < length part → v ≡ chunked chain flag 0 c (take 1024 part)
        → length stack' ≡ 240 → count ≡ ones (c + 1) → subtrees stack' count ≡ pushed key flag (ones (c + 1) - 1) (subtrees stack stacked) v
        → Went key flag chain stack stacked total part stack' key count (total + 1024) (take (length part - 1024) (drop 1024 part))
    went_chunk {stack'} {v} {count} l ev ls ec ep =
        let xs = take 1024 part in
        let ys = drop 1024 part in
        record {
          size = ls;
          some = omega (arith, left_length 1024);
          behind = left_behind 1024;
          whole = omega (arith, left_length 1024);
          even = omega (arith, ready.even);
          count = ec ∙ ap ones (let e : c + 1 ≡ (total + 1024) / 1024 = omega arith in e);
          is =
              ap₂ (λ (t : ℕ) (bs : List ℕ). taken key flag (between (subtrees stack stacked) chain t) bs) (sym starts)
              (sym (take-append-drop 1024 part))
              ∙ whole_chunk key flag c (subtrees stack stacked) chain xs ys (length-take-le 1024 part (omega arith))
              (omega (arith, length-drop 1024 part))
              ∙ ap₂ (λ (s : List (List ℕ)) (t : ℕ). taken key flag (between s key (t + 1024)) ys)
              (ap (pushed key flag (ones (c + 1) - 1) (subtrees stack stacked)) (sym ev) ∙ sym ep) starts
              ∙ ap (taken key flag (between (subtrees stack' count) key (total + 1024))) (sym (rest_all 1024 part));
        }

    -- four chunks
    pub went_four : {stack' v : List ℕ} {count : ℕ} → total % 4096 ≡ 0 → 4096 < length part → chain ≡ key → v ≡ treed4 key flag 0 c (take 4096 part)
        → length stack' ≡ 240 → count ≡ ones (c + 4) → subtrees stack' count ≡ pushed key flag (ones (c + 4) - 1) (subtrees stack stacked) v
        → Went key flag chain stack stacked total part stack' key count (total + 4096) (take (length part - 4096) (drop 4096 part))
    went_four {stack'} {v} {count} aligned l same ev ls ec ep =
        let xs = take 4096 part in
        let ys = drop 4096 part in
        let lx : length xs ≡ 4096 = length-take-le 4096 part (omega arith) in
        let few : c + 4 ≤ 2 ^ 54 = omega (arith, ready.limit) in
        let is-count : length (subtrees stack stacked) ≡ ones c = subtrees_length stack stacked ∙ ready.count in
        record {
          size = ls;
          some = omega (arith, left_length 4096);
          behind = left_behind 4096;
          whole = omega (arith, left_length 4096);
          even = omega (arith, ready.even);
          count = ec ∙ ap ones (let e : c + 4 ≡ (total + 4096) / 1024 = omega arith in e);
          is =
              ap₂ (λ (t : ℕ) (bs : List ℕ). taken key flag (between (subtrees stack stacked) chain t) bs) (sym starts)
              (sym (take-append-drop 4096 part))
              ∙ ap (λ (w : List ℕ). taken key flag (between (subtrees stack stacked) w (1024 * c)) (xs ++ ys)) same
              ∙ whole_four key flag c (subtrees stack stacked) (four total aligned) is-count xs lx ys (omega (arith, length-drop 4096 part))
              ∙ ap₂ (λ (s : List (List ℕ)) (t : ℕ). taken key flag (between s key (t + 4096)) ys)
              (ap (pushed key flag (ones (c + 4) - 1) (subtrees stack stacked)) (sym (ev ∙ treed4_done key flag 0 c xs few lx)) ∙ sym ep) starts
              ∙ ap (taken key flag (between (subtrees stack' count) key (total + 4096))) (sym (rest_all 4096 part));
        }
      where
        four : (t : ℕ) → t % 4096 ≡ 0 → (t / 1024) % 4 ≡ 0
        four t e = omega arith

  -- one more
  pub went_more : {stack' chain' rest stack'' chain'' rest' : List ℕ} {stacked' total' stacked'' total'' : ℕ}
      → Went key flag chain stack stacked total part stack' chain' stacked' total' rest
      → Went key flag chain' stack' stacked' total' rest stack'' chain'' stacked'' total'' rest'
      → Went key flag chain stack stacked total part stack'' chain'' stacked'' total'' rest'
  went_more {rest = rest} {total' = total'} {total'' = total''} w g =
      let a : length rest ≡ length part - (total' - total) = ap length w.behind ∙ length-drop (total' - total) part in
      let b = ap length g.behind ∙ length-drop (total'' - total') rest in
      record {
        size = g.size;
        some = g.some;
        behind =
            g.behind ∙ ap (drop (total'' - total')) w.behind ∙ drop-drop (total'' - total') (total' - total) part
            ∙ ap (λ (k : ℕ). drop k part) (let e : total' - total + (total'' - total') ≡ total'' - total = omega (arith, a, b, w.whole, g.whole) in e);
        whole = g.whole ∙ w.whole;
        even = g.even;
        count = g.count;
        is = w.is ∙ g.is;
      }
