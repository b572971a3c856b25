-- A fork above a walk: what stands on top of it, and what is found there and below. The left side has 2 ^ g leaves.
use mathlib.Core.Path.{◌≡◌, sym, ap, ap₂, ◌∙◌}
use mathlib.Core.Logic.{by_cases}
use mathlib.Core.List.{List, ◌∷◌, ◌++◌}
use Prim.Native.Nat.{ℕ, suc, ◌+◌, ◌-◌, ◌*◌, ◌^◌, ◌≤◌, ◌<◌}
use native.Mathlib.Decide.{ℕ_discrete}
use native.Mathlib.Omega.{arith}
use borrow.Author.Tests.{eq-eqb, ne_eqb}
use lib.ListN.{length}
use Rattle.wire.specs.Slices.{differ}
use Rattle.shape.specs.Tree.{root, inputs}
use Rattle.shape.specs.Way.{way_in}
use Rattle.shape.specs.Positions.{top, behind, peaks_in, fold}
use Rattle.shape.specs.Difference.{difference}
use Rattle.shape.specs.Seen.{sides, seen_in}
use Rattle.shape.proofs.Seen.{top_full, top_fold}
use Rattle.nodes.specs.Nodes.{node_in}
use Rattle.inputs.specs.declared.Input.{Input}
use Rattle.letter_walk.specs.declared.Trail.{Trail}
use Rattle.inputs.specs.Inputs.{bytes_of, above, told}
use Rattle.letter_walk.specs.Steps.{crown, OneFork, lettered, Walked}
use Rattle.inputs.proofs.Differences.{above_is}

module _ (digest : List ℕ → List ℕ) (bs : List ℕ) (g n s : ℕ) (p : 2 ^ g < n) (q : n ≤ 2 ^ suc g) where
  -- where the right side begins, as the code works it out
  abbrev mid : ℕ
  mid = s + (2 * 2 ^ g - 1)

  crown_is : crown bs (2 ^ g) (n - 2 ^ g) mid (digest (sides digest (node_in bs) g n s)) ≡ fold digest (node_in bs) (peaks_in (suc (suc g)) n s)
  unfolding crown
  crown_is =
      by_cases (ℕ_discrete (n - 2 ^ g) (2 ^ g))
      (λ e.
      let t : mid + (2 * 2 ^ g - 1) ≡ top (suc g) s = omega (arith, p) in
      rw (eq-eqb (n - 2 ^ g) (2 ^ g) e, crown) (ap (node_in bs) t ∙ sym (top_full digest (node_in bs) g n s (omega arith))))
      (λ e. rw (ne_eqb (n - 2 ^ g) (2 ^ g) e, crown) (sym (top_fold digest (node_in bs) g n s p (omega arith))))

  -- the two sides, as the code reads them
  pub sides_are : (ours : Input) → ours.left.bytes ≡ node_in bs (mid - 1)
      → ours.right.bytes ≡ fold digest (node_in bs) (peaks_in (suc g) (n - 2 ^ g) mid) → bytes_of ours ≡ sides digest (node_in bs) g n s
  sides_are ours el er =
      let t : mid - 1 ≡ top g s = omega arith in
      let b : mid ≡ behind g s = omega arith in
      ap₂ (λ (x y : List ℕ). x ++ y) (el ∙ ap (node_in bs) t)
      (er ∙ ap (λ (m : ℕ). fold digest (node_in bs) (peaks_in (suc g) (n - 2 ^ g) m)) b)

  module _ (i : ℕ) (leaf : List ℕ) (from : ℕ) (items : List ℕ) (low w : Trail) (ours theirs : Input) (logs letters : List (List ℕ))
      (eo : bytes_of ours ≡ sides digest (node_in bs) g n s)
      (es : seen_in digest (node_in bs) (suc g) n i s ≡ sides digest (node_in bs) g n s ∷ logs)
      (up : (w.used ≡ length (way_in (suc g) n i)) × (w.letter.bytes ≡ root digest (lettered (suc g) n i leaf from items)))
      (ei : inputs digest (lettered (suc g) n i leaf from items) ≡ bytes_of theirs ∷ letters)
      (lf : told low.difference ≡ difference logs letters)
      (j : OneFork digest low (crown bs (2 ^ g) (n - 2 ^ g) mid (digest (bytes_of ours))) ours theirs w) where
    crowned : crown bs (2 ^ g) (n - 2 ^ g) mid (digest (bytes_of ours)) ≡ fold digest (node_in bs) (peaks_in (suc (suc g)) n s)
    crowned = ap (λ (x : List ℕ). crown bs (2 ^ g) (n - 2 ^ g) mid (digest x)) eo ∙ crown_is

    pub walked : Walked digest (suc g) n i s leaf from bs items w
    walked =
        record {
          used = up.0;
          log = j.log ∙ crowned;
          letter = up.1;
          first =
              j.first
              ∙ ap (above (differ (bytes_of ours) (bytes_of theirs)) (bytes_of ours) (bytes_of theirs)) lf
              ∙ above_is (bytes_of ours) (bytes_of theirs) logs letters
              ∙ ap₂ difference (ap {B = List (List ℕ)} (λ x. x ∷ logs) eo ∙ sym es) (sym ei);
        }
