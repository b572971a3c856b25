-- Binding: two trees of one shape and one root are one tree, or the first difference of their inputs is two strings with one digest.
use mathlib.Core.Path.{◌≡◌, refl, sym, ap, ap₂, ◌∙◌}
use mathlib.Core.List.{List, ◌++◌}
use Prim.Native.Nat.{ℕ}
use native.Mathlib.Omega.{arith}
use lib.ListN.{length, length-append, take, drop}
use lib.Seq.{take_at, drop_at}
use Rattle.shape.specs.Tree.{Tree, tip, fork, Tips32, Alike, tips, forks, root, inputs}
use Rattle.wire.specs.Slices.{Each}
use Rattle.shape.specs.Difference.{difference, Shown}
use Rattle.wire.proofs.Each.{each_append}
use Rattle.shape.proofs.Difference.{shown_map, shown_cons, shown_append}

-- two joined lists that are equal, the first parts of one length
module _ {A : Type 0} (a b c d : List A) (n : length a ≡ length c) (e : a ++ b ≡ c ++ d) where
  pub fronts : a ≡ c
  fronts = sym (take_at a b (length c) n) ∙ ap (take (length c)) e ∙ take_at c d (length c) refl

  pub backs : b ≡ d
  backs = sym (drop_at a b (length c) n) ∙ ap (drop (length c)) e ∙ drop_at c d (length c) refl

module _ (digest : List ℕ → List ℕ) where
  inputs_length : {t u : Tree} → Alike t u → length (inputs digest t) ≡ length (inputs digest u)
  inputs_length tips = refl
  inputs_length (forks a b) = simp (length-append, inputs_length a, inputs_length b)

  module _ (digest_32 : (x : List ℕ) → length (digest x) ≡ 32) where
    pub root_32 : (t : Tree) → Tips32 t → length (root digest t) ≡ 32
    root_32 (tip d) s = s
    root_32 (fork l r) s = digest_32 (root digest l ++ root digest r)

    fork_64 : (l r : Tree) → Tips32 l → Tips32 r → length (root digest l ++ root digest r) ≡ 64
    fork_64 l r p q = rw length-append (omega (arith, root_32 l p, root_32 r q))

    -- each input has 64 bytes
    pub inputs_64 : (t : Tree) → Tips32 t → Each 64 (inputs digest t)
    inputs_64 (tip d) s = tt
    inputs_64 (fork l r) s = (
      fork_64 l r s.0 s.1,
      each_append 64 (inputs digest l) (inputs digest r) (inputs_64 l s.0) (inputs_64 r s.1),
    )

    pub bind : {t u : Tree} → Alike t u → Tips32 t → Tips32 u → root digest t ≡ root digest u
        → Shown digest (t ≡ u) (difference (inputs digest t) (inputs digest u))
    unfolding difference
    bind tips p q e = ap tip e
    bind (forks {l} {m} {r} {s} a b) p q e =
        shown_cons digest (fork l r ≡ fork m s) (root digest l ++ root digest r) (root digest m ++ root digest s)
        (inputs digest l ++ inputs digest r) (inputs digest m ++ inputs digest s) (fork_64 l r p.0 p.1) (fork_64 m s q.0 q.1) e λ k.
        let n : length (root digest l) ≡ length (root digest m) = root_32 l p.0 ∙ sym (root_32 m q.0) in
        let f : root digest l ≡ root digest m = fronts (root digest l) (root digest r) (root digest m) (root digest s) n k in
        let g : root digest r ≡ root digest s = backs (root digest l) (root digest r) (root digest m) (root digest s) n k in
        shown_append digest (fork l r ≡ fork m s) (l ≡ m) (inputs digest l) (inputs digest m) (inputs digest r) (inputs digest s) (inputs_length a)
        (bind a p.0 q.0 f)
        (λ x. shown_map digest (r ≡ s) _ (difference (inputs digest r) (inputs digest s)) (λ y. ap₂ fork x y) (bind b p.1 q.1 g))
