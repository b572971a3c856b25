-- What a push and a root come to, where there is a place.
use mathlib.Core.Path.{◌≡◌, refl, sym, ap, ap₂, ◌∙◌}
use mathlib.Core.List.{List}
use Prim.Native.Nat.{ℕ, ◌+◌, ◌-◌, ◌*◌, ◌≤◌, ◌<◌}
use native.Mathlib.Omega.{arith}
use borrow.Author.Rules.{rules}
use lib.Count.{ones}
use lib.ListN.{length, drop}
use lib.Seq.{paste}
use Rattle.order.proofs.Laws.{refuses, passes}
use Rattle.blake.specs.Blake.{root_node}
use Rattle.parts_rule.specs.Subtrees.{folded, pushed}
use Rattle.parts_rule.specs.Stack.{subtrees}
use Rattle.parts_rule.specs.Steps.{Pushes}
use Rattle.parts_rule.proofs.Places.{pushed_size, pushed_stored}
use Rattle.subtrees.specs.Outcome.{PushLeft, push_left, push_order, push_outcome, root_order, root_outcome}

-- a push
module _ (key : List ℕ) (flag stacked chunks : ℕ) (v words : List ℕ) where
  abbrev left : ℕ
  left = ones chunks - 1

  abbrev folds : List ℕ
  folds = folded key flag 0 (drop left (subtrees words stacked)) (λ root. v)

  abbrev done : PushLeft
  done = push_left (ones chunks) (paste words (8 * left) folds 8)

  -- one place after the other
  pub push_other : (length words ≡ 240 → ⊥) → push_left stacked words ≡ push_outcome key flag stacked chunks v words
  unfolding push_outcome push_order
  push_other h = refuses 1 (λ _. push_left stacked words) (push_order stacked chunks words) done refl (search rules)

  pub push_full : 30 < stacked → push_left stacked words ≡ push_outcome key flag stacked chunks v words
  unfolding push_outcome push_order
  push_full h = refuses 1 (λ _. push_left stacked words) (push_order stacked chunks words) done refl (search rules)

  pub push_none : ones chunks ≡ 0 → push_left stacked words ≡ push_outcome key flag stacked chunks v words
  unfolding push_outcome push_order
  push_none h = refuses 1 (λ _. push_left stacked words) (push_order stacked chunks words) done refl (search rules)

  pub push_most : 30 < ones chunks → push_left stacked words ≡ push_outcome key flag stacked chunks v words
  unfolding push_outcome push_order
  push_most h = refuses 1 (λ _. push_left stacked words) (push_order stacked chunks words) done refl (search rules)

  pub push_apart : stacked + 1 < ones chunks → push_left stacked words ≡ push_outcome key flag stacked chunks v words
  unfolding push_outcome push_order
  push_apart h = refuses 1 (λ _. push_left stacked words) (push_order stacked chunks words) done refl (search rules)

  push_is : Pushes chunks stacked → length words ≡ 240 → done ≡ push_outcome key flag stacked chunks v words
  unfolding push_outcome push_order
  push_is f size = passes (λ _. push_left stacked words) (push_order stacked chunks words) done refl
      (size, (f.most, (some, (f.fits, (f.under, tt)))))
    where
      some : ones chunks ≡ 0 → ⊥
      some e = omega (arith, f.some)

  pub push_done : Pushes chunks stacked → length words ≡ 240 → {w words' : List ℕ} → w ≡ folds → words' ≡ paste words (8 * left) w 8
      → push_left (ones chunks) words' ≡ push_outcome key flag stacked chunks v words
  push_done f size ew ep = ap (push_left (ones chunks)) (ep ∙ ap (λ (x : List ℕ). paste words (8 * left) x 8) ew) ∙ push_is f size

  -- what is pushed, as the rule has it
  pub push_rule : Pushes chunks stacked → length words ≡ 240 → length v ≡ 8 → {count : ℕ} {words' : List ℕ}
      → push_left count words' ≡ push_outcome key flag stacked chunks v words
      → (length words' ≡ 240) × (count ≡ ones chunks) × (subtrees words' count ≡ pushed key flag left (subtrees words stacked) v)
  push_rule f size eight {count} {words'} e =
      let p = e ∙ sym (push_is f size) in
      let ew : words' ≡ paste words (8 * left) folds 8 = λ i. (p i).words in
      let ec : count ≡ ones chunks = λ i. (p i).count in (
        ap length ew ∙ pushed_size key flag words v chunks stacked f size eight,
        ec,
        ap₂ subtrees ew ec ∙ pushed_stored key flag words v chunks stacked f size eight,
      )

-- a root
module _ (key : List ℕ) (flag stacked : ℕ) (v words : List ℕ) where
  abbrev rooted : List ℕ
  rooted = folded key flag root_node (subtrees words stacked) (λ root. v)

  pub root_other : (length words ≡ 240 → ⊥) → v ≡ root_outcome key flag stacked v words
  unfolding root_outcome root_order
  root_other h = refuses 1 (λ _. v) (root_order stacked words) rooted refl (search rules)

  pub root_none : stacked ≡ 0 → v ≡ root_outcome key flag stacked v words
  unfolding root_outcome root_order
  root_none h = refuses 1 (λ _. v) (root_order stacked words) rooted refl (search rules)

  pub root_full : 30 < stacked → v ≡ root_outcome key flag stacked v words
  unfolding root_outcome root_order
  root_full h = refuses 1 (λ _. v) (root_order stacked words) rooted refl (search rules)

  pub root_done_lem : length words ≡ 240 → 0 < stacked → stacked ≤ 30 → rooted ≡ root_outcome key flag stacked v words
  unfolding root_outcome root_order
  root_done_lem size some most = passes (λ _. v) (root_order stacked words) rooted refl (size, (any, (most, tt)))
    where
      any : stacked ≡ 0 → ⊥
      any e = omega arith
