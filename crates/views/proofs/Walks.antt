-- What a walk finds, from below, as code goes: a digest that is given, a leaf that is asked for, and a fork of two sides. `half` stands for
-- 2 ^ (h - 1), and `mid` for the position of the right side.
use mathlib.Core.Path.{◌≡◌, refl, sym, ap, ap₂, ◌∙◌}
use mathlib.Core.Logic.{by_cases}
use mathlib.Core.List.{List, ◌++◌}
use Prim.Native.Nat.{ℕ, ◌+◌, ◌-◌, ◌*◌, ◌≤◌, ◌<◌}
use native.Mathlib.Decide.{ℕ_discrete}
use native.Mathlib.Omega.{arith}
use Rattle.wire.specs.Slices.{differ}
use Rattle.shape.specs.Tree.{root, inputs}
use Rattle.shape.specs.Seen.{either, sides}
use Rattle.shape.specs.Difference.{Diff, agree, difference}
use Rattle.shape.proofs.Powers.{Halved}
use Rattle.views.specs.View.{View, given, asked, both, givens, askeds, plant_at}
use Rattle.views.specs.Shows.{on_top, broken_top, seen_by}
use Rattle.views.specs.Compared.{or_else, apart}
use Rattle.views.specs.Walk.{Taken, Found}
use Rattle.views.proofs.Sides.{top_one, broken_top_lem}
use Rattle.views.proofs.Heights.{sides_are, broken_sides, within_top, above_top, left_top, half_compared}

module _ (digest : List ℕ → List ℕ) (node leaf item : ℕ → List ℕ) where
  pub taken_given : (n s i j : ℕ) → Taken digest node leaf item given n s i j 0 1 (on_top digest node n s) (item j)
  taken_given n s i j = record { asks = refl; uses = refl; ours = refl; theirs = refl }

  pub found_given : (n s i j : ℕ) → Found digest node leaf item given n s i j 0 agree
  unfolding difference
  found_given n s i j = record { sound = refl; differs = refl }

  pub taken_asked : (n s i j : ℕ) → n ≡ 1 → Taken digest node leaf item asked n s i j 1 0 (node s) (leaf i)
  taken_asked n s i j e =
      record { asks = refl; uses = refl; ours = sym (ap (λ (k : ℕ). on_top digest node k s) e ∙ top_one digest node s); theirs = refl }

  pub found_asked : (n s i j : ℕ) → Found digest node leaf item asked n s i j 0 agree
  unfolding difference
  found_asked n s i j = record { sound = refl; differs = refl }

  -- a fork of half and n - half leaves
  module _ (h half : ℕ) (t : Halved h half) (n s mid : ℕ) (p : half < n) (q : n ≤ 2 * half) (e : mid ≡ s + (2 * half - 1))
      (l r : View) (i j asked-l used-l asked-r used-r : ℕ) (log-l letter-l log-r letter-r : List ℕ)
      (a : Taken digest node leaf item l half s i j asked-l used-l log-l letter-l)
      (b : Taken digest node leaf item r (n - half) mid (i + asked-l) (j + used-l) asked-r used-r log-r letter-r) where
    -- what the log hashes there, and what the letter hashes
    ours_are : log-l ++ log-r ≡ sides digest node (h - 1) n s
    ours_are =
        ap₂ (λ (x y : List ℕ). x ++ y) (a.ours ∙ left_top h half t digest node l r n s mid p q e) b.ours
        ∙ sym (sides_are h half t digest node l r n s mid p q e)

    theirs_right : letter-r ≡ root digest (plant_at leaf item r (i + askeds l) (j + givens l))
    theirs_right = b.theirs ∙ ap₂ (λ (x y : ℕ). root digest (plant_at leaf item r (i + x) (j + y))) a.asks a.uses

    theirs_are : letter-l ++ letter-r ≡ root digest (plant_at leaf item l i j) ++ root digest (plant_at leaf item r (i + askeds l) (j + givens l))
    theirs_are = ap₂ (λ (x y : List ℕ). x ++ y) a.theirs theirs_right

    -- the digest on top, by the log: within a peak its node, above the peaks the digest of the two sides
    pub taken_fork : (log : List ℕ) → (n - half ≡ half → log ≡ node (mid + (2 * half - 1))) → ((n - half ≡ half → ⊥) → log ≡ digest (log-l ++ log-r))
        → Taken digest node leaf item (both l r) n s i j (asked-l + asked-r) (used-l + used-r) log (digest (letter-l ++ letter-r))
    taken_fork log f g =
        record {
          asks = omega (arith, a.asks, b.asks);
          uses = omega (arith, a.uses, b.uses);
          ours = by_cases (ℕ_discrete (n - half) half)
              (λ y. f y ∙ sym (within_top h half t digest node l r n s mid p q e y))
              (λ y. g y ∙ ap digest ours_are ∙ sym (above_top h half t digest node l r n s mid p q e y));
          theirs = ap digest theirs_are;
        }

    -- the node is broken where it isn't the digest of the two sides; two strings that differ there come before those below
    pub found_fork : (log : List ℕ) → log ≡ on_top digest node n s → (broken-l broken-r : ℕ) (first-l first_r : Diff)
        → Found digest node leaf item l half s i j broken-l first-l
        → Found digest node leaf item r (n - half) mid (i + asked-l) (j + used-l) broken-r first_r
        → Found digest node leaf item (both l r) n s i j (either (differ log (digest (log-l ++ log-r))) (either broken-l broken-r))
        (or_else (apart (log-l ++ log-r) (letter-l ++ letter-r)) (or_else first-l first_r))
    found_fork log w broken-l broken-r first-l first_r c d =
        let top_broken_lem : differ log (digest (log-l ++ log-r)) ≡ broken_top digest node (h - 1) n s =
        rw (w, ours_are) (sym (broken_top_lem digest node (h - 1) n s (omega (arith, t.is)) (omega (arith, t.double)))) in
        let right-from : ℕ → ℕ → Diff = λ x y. difference (seen_by digest node r (n - half) mid) (inputs digest (plant_at leaf item r (i + x) (j + y))) in
        let right-first : first_r ≡ right-from (askeds l) (givens l) = d.differs ∙ ap₂ right-from a.asks a.uses in
        record {
          sound = rw (top_broken_lem, c.sound, d.sound) (sym (broken_sides h half t digest node l r n s mid p q e));
          differs =
              rw (ours_are, theirs_are, c.differs, right-first)
              (sym (half_compared h half t digest node l r n s mid p q e leaf item i j));
        }
