-- A record's digest beside the leaf at its place.
use mathlib.Core.Path.{◌≡◌, ap, ◌∙◌}
use mathlib.Core.List.{List}
use Prim.Native.Nat.{ℕ, ◌^◌, ◌≤◌, ◌<◌}
use native.Mathlib.Omega.{arith}
use Rattle.wire.specs.Slices.{differ}
use Rattle.shape.specs.Answers.{Answer}
use Rattle.shape.specs.Sizes.{size_of, position_answer}
use Rattle.shape.proofs.Sizes.{size_lt, position_answer_lem}
use Rattle.letter.specs.Items.{leaf_in, foreign}

-- compared by the digest that was worked out
pub foreign_by : (digest : List ℕ → List ℕ) (node : ℕ → List ℕ) (i : ℕ) (rec : List ℕ) {d : List ℕ} {k : ℕ} → d ≡ digest rec
    → k ≡ differ d (leaf_in node i) → k ≡ foreign digest node i rec
unfolding foreign
foreign_by digest node i rec e f = f ∙ ap (λ (x : List ℕ). differ x (leaf_in node i)) e

-- the leaf at its place lies below the size
pub foreign_local : (digest : List ℕ → List ℕ) (f g : ℕ → List ℕ) (n i : ℕ) (rec : List ℕ) → i < n → n ≤ 2 ^ 32
    → ((p : ℕ) → p < size_of n → f p ≡ g p) → foreign digest f i rec ≡ foreign digest g i rec
unfolding foreign
foreign_local digest f g n i rec p q e =
    let a : (position_answer i).value ≡ size_of i = ap (λ (x : Answer). x.value) (position_answer_lem i (omega arith)) in
    ap (differ (digest rec)) (e (position_answer i).value (omega (arith, size_lt i n p)))
