-- The digest of what a state holds, from its last compressions.
use mathlib.Core.Path.{◌≡◌, sym, ap, ap₂, ◌∙◌}
use mathlib.Core.List.{List}
use Prim.Native.Nat.{ℕ, ◌+◌, ◌≤◌, ◌<◌}
use native.Mathlib.Decide.{ℕ_discrete}
use native.Mathlib.Omega.{arith}
use lib.ListN.{length, take}
use lib.Seq.{length-take-le}
use Rattle.compression.specs.Compression.{compressed}
use Rattle.words.specs.Words.{words_of, bytes_of}
use Rattle.chunks.specs.Chunks.{chunk_end, start_flag}
use Rattle.blake.specs.Blake.{root_node}
use Rattle.blake.specs.Modes.{flag_in}
use Rattle.parts_rule.specs.Subtrees.{finished, folded}
use Rattle.parts_rule.specs.Run.{block_number, ended}
use Rattle.parts_rule.proofs.Folds.{folded_nil, folded_later}
use Rattle.subtrees.specs.Outcome.{root_outcome}
use Rattle.subtrees.proofs.Laws.{root_none, root_done_lem}
use Rattle.parts.specs.declared.Parts.{Parts}
use Rattle.parts_rule.specs.Stack.{subtrees}
use Rattle.parts.specs.State.{start_in, start_of, flag_of, Counted, run_of}
use Rattle.parts_rule.proofs.Places.{subtrees_length}
use Rattle.parts_rule.proofs.Counts.{held_low, stacked_low}

-- the bytes that the block holds
pub held_at : (s : Parts) → length s.block ≡ 64 → Counted s → (s.held ≤ length s.block) × (length (take s.held s.block) ≡ s.held)
held_at s size g =
    let l : s.held ≤ length s.block = omega (arith, g.held, held_low s.total) in
    (l, length-take-le s.held s.block l)

module _ (s : Parts) (size : length s.block ≡ 64) (g : Counted s) {n flag flags : ℕ} {start m : List ℕ} (es : start ≡ start_in s.keyed s.key)
    (ef : flag ≡ flag_in s.keyed) (en : n ≡ finished s.total) (eo : flags ≡ flag + start_flag (block_number s.total))
    (em : m ≡ words_of 16 (take s.held s.block)) where
  -- the last block, with so much more in its flags
  abbrev last : ℕ → List ℕ
  last x =
      compressed s.chain (words_of 16 (take s.held s.block)) (finished s.total) (length (take s.held s.block))
      (flag_of s + start_flag (block_number s.total) + chunk_end + x)

  last_is : (x : ℕ) → compressed s.chain m n s.held (flags + 2 + x) ≡ last x
  last_is x =
      ap₂ (λ (w : List ℕ) (j : ℕ). compressed s.chain w j s.held (flags + 2 + x)) em en
      ∙ ap₂ (λ (j f : ℕ). compressed s.chain (words_of 16 (take s.held s.block)) (finished s.total) j (f + 2 + x))
      (sym (held_at s size g).1)
      (eo ∙ ap (λ (f : ℕ). f + start_flag (block_number s.total)) ef)

  -- the only chunk, or the last of many
  pub ends : {v w d : List ℕ} {x : ℕ} → length s.stack ≡ 240 → (s.stacked ≡ 0 → x ≡ root_node) → (0 < s.stacked → x ≡ 0)
      → v ≡ compressed s.chain m n s.held (flags + 2 + x) → w ≡ root_outcome start flag s.stacked v s.stack → d ≡ bytes_of w
      → d ≡ ended (start_of s) (flag_of s) (run_of s)
  unfolding ended subtrees
  ends {v} {w} {d} {x} ls one many ev ew ed =
      let vv : v ≡ last x = ev ∙ last_is x in
      let ww : w ≡ root_outcome (start_of s) (flag_of s) s.stacked v s.stack =
      ew ∙ ap₂ (λ (k : List ℕ) (f : ℕ). root_outcome k f s.stacked v s.stack) es ef in
      ed ∙ ap bytes_of (ww ∙ elim (ℕ_discrete s.stacked 0) [
        | yes z ↦ sym (root_none (start_of s) (flag_of s) s.stacked v s.stack z) ∙ vv ∙ ap last (one z)
            ∙ sym (folded_nil (start_of s) (flag_of s) root_node last)
            ∙ ap (λ (k : ℕ). folded (start_of s) (flag_of s) root_node (subtrees s.stack k) last) (sym z)
        | no z ↦
            let some : 0 < s.stacked = omega arith in
            sym (root_done_lem (start_of s) (flag_of s) s.stacked v s.stack ls some (omega (arith, g.stacked, stacked_low s.total g.limit)))
            ∙ folded_later (start_of s) (flag_of s) root_node (subtrees s.stack s.stacked) (λ root. v) last
            (omega (arith, subtrees_length s.stack s.stacked)) (vv ∙ ap last (many some))
      ])
