-- What any nodes show under a passage of one index is what they show on the way to its leaf. What is cited: `one_seen`, `one_broken`, `one_compared`.
use mathlib.Core.Path.{◌≡◌, refl, sym, ap, ap₂, ◌∙◌}
use mathlib.Core.Logic.{by_cases}
use mathlib.Core.List.{List, [], ◌∷◌, append-nil}
use Prim.Native.Nat.{ℕ, zero, suc, ◌-◌, ◌^◌, ◌≤◌, ◌<◌}
use native.Mathlib.Decide.{dec_le, dec_lt}
use native.Mathlib.Omega.{arith}
use lib.Dec.{eqb}
use Rattle.shape.specs.Sizes.{height_of}
use Rattle.shape.specs.Tree.{inputs}
use Rattle.shape.specs.Positions.{behind}
use Rattle.shape.specs.Letter.{fill}
use Rattle.shape.specs.Way.{way_in, way}
use Rattle.shape.specs.Seen.{either, sides, seen_in, seen, broken_in, broken}
use Rattle.shape.specs.Difference.{difference}
use Rattle.shape.proofs.Heights.{height_holds}
use Rattle.shape.proofs.Ways.{way_low, way_left, way_turn}
use Rattle.shape.proofs.Seen.{seen_low, seen_left, seen_right, top_differs, broken_low, broken_left, broken_right, broken_one}
use Rattle.views.specs.View.{View, given, asked, both, side}
use Rattle.views.specs.Passage.{passage}
use Rattle.views.specs.Shows.{broken_top, seen_by, broken_by}
use Rattle.views.specs.Compared.{compared}
use Rattle.views.specs.One.{along, walk_order}
use Rattle.views.proofs.Sides.{top_any, broken_top_lem, seen_fork, broken_fork}
use Rattle.views.proofs.One.{along_rightward, passage_way, one_fill}

-- 0 or 1 beside 0
either_none : (x y : ℕ) → either y 0 ≡ y → either (either x y) 0 ≡ either x y
either_none zero y e = e
either_none (suc x) y e = refl

module _ (digest : List ℕ → List ℕ) (node : ℕ → List ℕ) where
  broken_none : (v : View) (n s : ℕ) → either (broken_by digest node v n s) 0 ≡ broken_by digest node v n s
  broken_none given n s = refl
  broken_none asked n s = refl
  broken_none (both l r) n s =
      let h = side n in
      either_none (broken_top digest node h n s) (either (broken_by digest node l (2 ^ h) s) (broken_by digest node r (n - 2 ^ h) (behind h s)))
      (either_none (broken_by digest node l (2 ^ h) s) _ (broken_none r (n - 2 ^ h) (behind h s)))

  top_broken_lem : (h n s : ℕ) → 2 ^ h < n → n ≤ 2 ^ suc h → broken_top digest node h n s ≡ top_differs digest node h n s
  top_broken_lem h n s p q = rw (top_any digest node (suc h) n s q) (broken_top_lem digest node h n s p q)

  -- leaf i of n leaves, n at most 2^h, from position s on
  record OneIn (h n i s : ℕ) : Type 0 where
    shows : seen_by digest node (along (way_in h n i)) n s ≡ seen_in digest node h n i s
    breaks : broken_by digest node (along (way_in h n i)) n s ≡ broken_in digest node (suc h) n i s

  one_left : (h n i s : ℕ) → 2 ^ h < n → n ≤ 2 ^ suc h → i < 2 ^ h → OneIn h (2 ^ h) i s → OneIn (suc h) n i s
  one_left h n i s p q c o =
      let v = along (way_in h (2 ^ h) i) in
      record {
        shows =
            rw (way_left h n i p c, seen_left digest node h n i s p c)
            (seen_fork digest node v given h n s p q
            ∙ ap (λ (xs : List (List ℕ)). sides digest node h n s ∷ xs) (append-nil (seen_by digest node v (2 ^ h) s) ∙ o.shows));
        breaks =
            rw (way_left h n i p c, broken_left digest node h n i s p q c)
            (broken_fork digest node v given h n s p q
            ∙ ap₂ either (top_broken_lem h n s p q) (broken_none v (2 ^ h) s ∙ o.breaks));
      }

  one_right : (h n i s : ℕ) → 2 ^ h < n → n ≤ 2 ^ suc h → 2 ^ h ≤ i → i < n → OneIn h (n - 2 ^ h) (i - 2 ^ h) (behind h s) → OneIn (suc h) n i s
  one_right h n i s p q c l o =
      let w = way_in h (n - 2 ^ h) (i - 2 ^ h) in
      let e : along (way_in (suc h) n i) ≡ both given (along w) = ap along (way_turn h n i p c) ∙ along_rightward (eqb n (2 ^ suc h)) w in
      record {
        shows =
            rw (e, seen_right digest node h n i s p c)
            (seen_fork digest node given (along w) h n s p q ∙ ap (λ (xs : List (List ℕ)). sides digest node h n s ∷ xs) o.shows);
        breaks =
            rw (e, broken_right digest node h n i s p q c l)
            (broken_fork digest node given (along w) h n s p q ∙ ap₂ either (top_broken_lem h n s p q) o.breaks);
      }

  one_in : (h n i s : ℕ) → i < n → n ≤ 2 ^ h → OneIn h n i s
  unfolding way_in seen_in
  one_in zero n i s p q = record { shows = refl; breaks = sym (broken_one digest node n i s q p) }
  one_in (suc h) n i s p q =
      by_cases (dec_le n (2 ^ h))
      (λ a.
      let o = one_in h n i s p a in
      record {
        shows = rw (way_low h n i a, seen_low digest node h n i s a) o.shows;
        breaks = rw (way_low h n i a, broken_low digest node h n i s a) o.breaks;
      })
      (λ a. by_cases (dec_lt i (2 ^ h))
      (λ c. one_left h n i s (omega arith) q c (one_in h (2 ^ h) i s c (omega arith)))
      (λ c. one_right h n i s (omega arith) q (omega arith) p (one_in h (n - 2 ^ h) (i - 2 ^ h) (behind h s) (omega arith) (omega arith))))

  module _ (n i : ℕ) (p : i < n) where
    -- the same strings ..
    pub one_seen : seen_by digest node (passage n (i ∷ [])) n 0 ≡ seen digest node n i
    unfolding way seen
    one_seen = rw (passage_way n i p) (one_in (height_of n) n i 0 p (height_holds n)).shows

    -- .. the same nodes looked into ..
    pub one_broken : broken_by digest node (passage n (i ∷ [])) n 0 ≡ broken digest node n i
    unfolding way broken
    one_broken = rw (passage_way n i p) (one_in (height_of n) n i 0 p (height_holds n)).breaks

    -- .. and the same first difference
    pub one_compared : (d : List ℕ) (xs : List (List ℕ))
        → compared digest node (passage n (i ∷ [])) n 0 (d ∷ []) (walk_order (way n i) xs)
        ≡ difference (seen digest node n i) (inputs digest (fill (way n i) d xs))
    one_compared d xs = ap₂ difference one_seen (ap (inputs digest) (one_fill n i p d xs))
