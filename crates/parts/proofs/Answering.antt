-- How the calls reach their answers.
use mathlib.Core.Path.{◌≡◌, refl, sym, ap, ◌∙◌}
use mathlib.Core.List.{List, [], ◌∷◌}
use Prim.Native.Nat.{ℕ, ◌+◌, ◌-◌, ◌^◌, ◌≤◌, ◌<◌}
use native.Mathlib.Omega.{arith}
use lib.ListN.{length}
use Rattle.order.specs.Order.{first_number}
use Rattle.order.proofs.Laws.{refuses, passes, clear, refused_by, early}
use Rattle.parts_rule.specs.Run.{taken, ended}
use Rattle.subtrees.specs.Counts.{count_order}
use Rattle.parts.specs.declared.Parts.{Parts}
use Rattle.parts.specs.Answers.{Added}
use Rattle.parts.specs.Answers.{Ended}
use Rattle.parts.specs.State.{start_of, flag_of, Counted, run_of, stored}
use Rattle.parts.specs.Answers.{state_order, add_order, add_refused, after, end_refused, add_outcome, end_outcome}

module _ (s : Parts) where
  pub is_counted : first_number (state_order s) ≡ 0 → Counted s
  unfolding count_order
  is_counted e =
      let p = clear (state_order s) tt e in
      record { limit = p.0; held = p.1.0; stacked = p.1.1.0 }

  -- ---- the digest

  abbrev digested : Ended
  digested = record { number = 0; digest = record { bytes = ended (start_of s) (flag_of s) (run_of s) } }

  pub end_refused_lem : {n : ℕ} → n ≡ first_number (state_order s) → 0 < n → end_refused n ≡ end_outcome s
  unfolding end_outcome
  end_refused_lem e l = ap end_refused e ∙ sym (refused_by end_refused digested (state_order s) (λ z. omega (arith, e, z)))

  pub end_done : Counted s → {d : List ℕ} → d ≡ ended (start_of s) (flag_of s) (run_of s)
      → record { number = 0; digest = record { bytes = d } } ≡ end_outcome s
  unfolding end_outcome count_order
  end_done g p =
      passes end_refused (state_order s) digested (λ i. record { number = 0; digest = record { bytes = p i } }) (g.limit, (g.held, (g.stacked, tt)))

  -- ---- a part more

  module _ (part : List ℕ) where
    abbrev done : Added
    done = record { number = 0; state = after s part }

    pub add_refused_lem : {n : ℕ} → n ≡ first_number (state_order s) → 0 < n → add_refused s n ≡ add_outcome s part
    unfolding add_outcome
    add_refused_lem e l = early (add_refused s) (state_order s) _ done (ap (add_refused s) e) (λ z. omega (arith, e, z))

    pub add_passed : 2 ^ 40 - s.total < length part → add_refused s 17 ≡ add_outcome s part
    unfolding count_order add_outcome
    add_passed l = refuses 17 (add_refused s) (add_order s part) done refl (λ f g i j. over s.total (length part) l f j)
      where
        over : (t n : ℕ) → 2 ^ 40 - t < n → t ≤ 2 ^ 40 → t + n ≤ 2 ^ 40 → ⊥
        over t n a b c = omega arith

    pub add_done : Counted s → s.total + length part ≤ 2 ^ 40 → {r : Parts} → r ≡ after s part
        → record { number = 0; state = r } ≡ add_outcome s part
    unfolding count_order add_outcome
    add_done g l p =
        passes (add_refused s) (add_order s part) done (λ i. record { number = 0; state = p i }) (g.limit, (g.held, (g.stacked, (l, tt))))

  pub after_none : (part : List ℕ) → length part ≡ 0 → s ≡ after s part
  unfolding after
  after_none [] e = refl
  after_none (b ∷ bs) e = absurd (omega arith)

  pub after_some : (part : List ℕ) → 0 < length part → stored s.keyed s.key (taken (start_of s) (flag_of s) (run_of s) part) ≡ after s part
  unfolding after
  after_some [] l = absurd (omega arith)
  after_some (b ∷ bs) l = refl
