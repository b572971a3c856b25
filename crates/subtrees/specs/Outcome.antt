-- What a push leaves on the stack, and the root over its subtrees, for every stack and every count.
use Rattle.std.specs.Prelude.{List, [], ◌∷◌, ℕ, ◌+◌, ◌-◌, ◌*◌, length, drop}
use Rattle.std.specs.Int.Count.{ones}
use Rattle.std.proofs.Math.Seq.{paste}
use Rattle.order.specs.Order.{Refusal, ◌if◌, ◌above◌, ◌is◌, ◌is_not◌, verdict}
use Rattle.blake.specs.Blake.{root_node}
use Rattle.parts_rule.specs.Subtrees.{folded}
use Rattle.parts_rule.specs.Stack.{subtrees}

-- how many subtrees there are, and the stack's words
pub record PushLeft : Type 0 where
  pub count : ℕ
  pub words : List ℕ

abbrev pub push_left : ℕ → List ℕ → PushLeft
push_left count words = record { count = count; words = words }

-- no place: another stack than thirty subtrees, more subtrees than that before or after, no chunk, or more than one subtree more
unfoldable pub push_order : ℕ → ℕ → List ℕ → List Refusal
push_order stacked chunks words =
    1 if length words is_not 240 ∷ 1 if stacked above 30 ∷ 1 if ones chunks is 0 ∷ 1 if ones chunks above 30
    ∷ 1 if ones chunks above (stacked + 1) ∷ []

-- as many subtrees as the number of finished chunks has ones: v, folded with those that are one too many, stands behind the others
unfoldable pub push_outcome : List ℕ → ℕ → ℕ → ℕ → List ℕ → List ℕ → PushLeft
push_outcome key flag stacked chunks v words =
    let left = ones chunks - 1 in
    verdict (λ _. push_left stacked words) (push_order stacked chunks words)
    (push_left (ones chunks) (paste words (8 * left) (folded key flag 0 (drop left (subtrees words stacked)) (λ root. v)) 8))

-- no subtree, or another stack
unfoldable pub root_order : ℕ → List ℕ → List Refusal
root_order stacked words = 1 if length words is_not 240 ∷ 1 if stacked is 0 ∷ 1 if stacked above 30 ∷ []

-- the subtrees folded with v, the root flag on the first
unfoldable pub root_outcome : List ℕ → ℕ → ℕ → List ℕ → List ℕ → List ℕ
root_outcome key flag stacked v words =
    verdict (λ _. v) (root_order stacked words) (folded key flag root_node (subtrees words stacked) (λ root. v))
