-- What the count of nodes put tells, where the position has as many trees before it: none for a buffer that is too short, all of them for any other.
use mathlib.Core.Logic.{by_cases}
use mathlib.Core.Path.{◌≡◌, refl, sym, ap, ◌∙◌}
use mathlib.Core.List.{List}
use Prim.Native.Nat.{ℕ, ◌+◌, ◌-◌, ◌*◌, ◌^◌, ◌≤◌, ◌<◌}
use native.Mathlib.Omega.{arith}
use native.Mathlib.Decide.{dec_lt}
use borrow.Author.Rules.{rules}
use lib.ListN.{length}
use Rattle.std.specs.Prelude.{Option, None, Some}
use Rattle.order.proofs.Laws.{refuses, passes}
use Rattle.new_nodes.specs.Outcome.{PutLeft, put_left, put_order, put_bytes, put_outcome}

module _ (digest : List ℕ → List ℕ) (s m : ℕ) (rec bs : List ℕ) (few : m ≤ 32) (trees : 2 ^ m - 1 ≤ s) where
  short : length bs < 32 * (s + (1 + m)) → put_outcome digest s m rec bs ≡ put_left None bs
  unfolding put_outcome put_order
  short h = sym (refuses 1 _ _ _ refl (search rules))

  long : 32 * (s + (1 + m)) ≤ length bs → put_outcome digest s m rec bs ≡ put_left (Some (1 + m)) (put_bytes digest s m rec bs)
  unfolding put_outcome put_order
  long h = sym (passes _ _ _ refl (search rules))

  module _ {r : Option ℕ} {last : List ℕ} (e : put_left r last ≡ put_outcome digest s m rec bs) where
    pub put_none : r ≡ None → (length bs < 32 * (s + (1 + m))) × (last ≡ bs)
    put_none z =
        by_cases (dec_lt (length bs) (32 * (s + (1 + m)))) (λ h. (h, ap (λ (p : PutLeft). p.bytes) (e ∙ short h)))
        (λ h. let f = ap (λ (p : PutLeft). p.count) (e ∙ long (omega arith)) in cc)

    pub put_some : {count : ℕ} → r ≡ Some count → (32 * (s + (1 + m)) ≤ length bs) × (count ≡ 1 + m) × (last ≡ put_bytes digest s m rec bs)
    put_some o =
        by_cases (dec_lt (length bs) (32 * (s + (1 + m)))) (λ h. let f = ap (λ (p : PutLeft). p.count) (e ∙ short h) in cc)
        (λ h. let p = e ∙ long (omega arith) in (omega arith, (let f = ap (λ (x : PutLeft). x.count) p in cc), ap (λ (x : PutLeft). x.bytes) p))
