-- The statement of a root leaves one answer.
use mathlib.Core.Path.{◌≡◌, sym, ◌∙◌}
use mathlib.Core.List.{List}
use Prim.Native.Nat.{ℕ}
use Rattle.passage_root.specs.declared.Rooted.{Rooted}
use Rattle.passage_root.specs.Root.{RootOf}

pub root_only : (digest : List ℕ → List ℕ) (n : ℕ) (is letter places items : List ℕ) {r s : Rooted} → RootOf digest n is letter places items r
    → RootOf digest n is letter places items s → r ≡ s
root_only digest n is letter places items a b =
    let e = a.root_is ∙ sym b.root_is in
    let f = a.used_is ∙ sym b.used_is in
    λ i. record { digest = record { bytes = e i }; used = f i }
