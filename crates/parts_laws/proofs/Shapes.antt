-- A run as it is stored is read back: every subtree is eight words, and the counts are right.
use mathlib.Core.Path.{◌≡◌, refl, sym, ap, ap₂, ◌∙◌, subst⁻¹}
use mathlib.Core.List.{List, [], ◌∷◌, ◌++◌, append_assoc}
use mathlib.Core.Logic.{by_cases}
use Prim.Native.Nat.{ℕ, zero, suc, ◌+◌, ◌-◌, ◌*◌, ◌/◌, ◌^◌, ◌≤◌}
use native.Mathlib.Decide.{dec_le}
use native.Mathlib.Omega.{arith}
use lib.ListN.{length, take, drop, length-drop}
use lib.Seq.{drop-append-add, take_at}
use Rattle.chunks.specs.Chunks.{before}
use Rattle.chunks.proofs.Lengths.{chunked_length}
use Rattle.blake.specs.Blake.{treed}
use Rattle.blake.proofs.Sides.{short_suc, long_suc}
use Rattle.wire.specs.Slices.{zeros}
use Rattle.parts_rule.specs.Subtrees.{lefts_in}
use Rattle.parts_rule.specs.Run.{Run, run_after}
use Rattle.parts_rule.proofs.Folds.{parented_length, lefts_low, lefts_high, lefts_count}
use Rattle.parts_rule.specs.Stack.{subtrees, joined}
use Rattle.parts.specs.State.{Counted, run_of, stored}

-- each is eight words
abbrev Eights : List (List ℕ) → Type 0
Eights [] = Unit
Eights (l ∷ ls) = (length l ≡ 8) × Eights ls

subtrees_cons : (l ws : List ℕ) (k : ℕ) → length l ≡ 8 → subtrees (l ++ ws) (suc k) ≡ l ∷ subtrees ws k
unfolding subtrees
subtrees_cons l ws zero e = ap (λ (x : List ℕ). x ∷ []) (take_at l ws 8 e)
subtrees_cons l ws (suc k) e =
    let d : 8 * suc k ≡ length l + 8 * k = omega arith in
    ap₂ (λ (ls : List (List ℕ)) (x : List ℕ). ls ++ (x ∷ [])) (subtrees_cons l ws k e)
    (ap (take 8) (ap (λ (n : ℕ). drop n (l ++ ws)) d ∙ drop-append-add l ws (8 * k)))

subtrees_joined : (ls : List (List ℕ)) (rest : List ℕ) → Eights ls → subtrees (joined ls ++ rest) (length ls) ≡ ls
unfolding subtrees joined
subtrees_joined [] rest e = refl
subtrees_joined (l ∷ ls) rest e =
    ap (λ (x : List ℕ). subtrees x (length (l ∷ ls))) (append_assoc l (joined ls) rest)
    ∙ subtrees_cons l (joined ls ++ rest) (length ls) e.0
    ∙ ap (λ (x : List (List ℕ)). l ∷ x) (subtrees_joined ls rest e.1)

-- a run whose subtrees are such is read back
run_stored : (keyed : ℕ) (key : List ℕ) (r : Run) → Eights r.stack → run_of (stored keyed key r) ≡ r
run_stored keyed key r e =
    λ i. record {
      stack = subtrees_joined r.stack (zeros (240 - length (joined r.stack))) e i;
      chain = r.chain;
      block = take_at r.block (zeros (64 - length r.block)) (length r.block) refl i;
      total = r.total;
    }

module _ (key : List ℕ) (flag : ℕ) where
  treed_length : (h root n : ℕ) (bs : List ℕ) → length (treed h key flag root n bs) ≡ 8
  unfolding treed
  treed_length zero root n bs = chunked_length key flag root n bs
  treed_length (suc h) root n bs =
      by_cases (dec_le (length bs) (1024 * 2 ^ h))
      (λ a. ap length (sym (short_suc key flag root n bs h a)) ∙ treed_length h root n bs)
      (λ a. ap length (sym (long_suc key flag root n bs h (omega arith))) ∙ parented_length key flag root _ _)

  lefts_eights : (h n : ℕ) (bs : List ℕ) → Eights (lefts_in key flag h n bs)
  unfolding lefts_in
  lefts_eights zero n bs = tt
  lefts_eights (suc h) n bs =
      by_cases (dec_le (length bs) (1024 * 2 ^ h))
      (λ a. subst⁻¹ Eights (lefts_low key flag h n bs a) (lefts_eights h n bs))
      (λ a. subst⁻¹ Eights (lefts_high key flag h n bs (omega arith)) (treed_length h 0 n _, lefts_eights h (n + 2 ^ h) _))

  -- what is stored of the run after xs, in any mode, has its counts right and is read back
  module _ (keyed : ℕ) (words xs : List ℕ) where
    pub stored_counted : length xs ≤ 2 ^ 40 → Counted (stored keyed words (run_after key flag xs))
    unfolding run_after before
    stored_counted l =
        record {
          limit = l;
          held = length-drop (64 * ((length xs - 1) / 64)) xs;
          stacked = lefts_count key flag 30 0 xs (omega arith);
        }

    pub stored_run : run_of (stored keyed words (run_after key flag xs)) ≡ run_after key flag xs
    unfolding run_after
    stored_run = run_stored keyed words (run_after key flag xs) (lefts_eights 30 0 xs)
