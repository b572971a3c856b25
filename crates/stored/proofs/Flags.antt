-- Reading where the flag is known: the refusals that are left, and what done returns.
use mathlib.Core.Path.{◌≡◌}
use mathlib.Core.List.{List, [], ◌∷◌}
use Prim.Native.Nat.{ℕ, ◌+◌}
use native.Mathlib.Omega.{arith}
use borrow.Author.Tests.{eq-eqb, ne_eqb}
use lib.ListN.{length}
use Rattle.wire.specs.Slices.{zeros}
use Rattle.order.specs.Order.{Refusal, ◌if◌, ◌under◌, ◌above◌, ◌is_not◌, verdict}
use Rattle.stored.specs.Nodes.{flag_in, named_in, stated_in, lies}
use Rattle.stored.specs.Read.{read_refused, inner_read, leaf_read, for_flag, read_order, read_done, read_outcome}

-- of an inner node
abbrev pub on_inner : List ℕ → List Refusal
on_inner bs = 11 if length bs under 33 ∷ 11 if flag_in bs above 1 ∷ 11 if length bs is_not 33 ∷ []

pub read_inner : (digest : List ℕ → List ℕ) (bs : List ℕ) → flag_in bs ≡ 0
    → read_outcome digest bs ≡ verdict (read_refused (zeros 32)) (on_inner bs) (inner_read (named_in bs))
unfolding read_outcome read_order read_done
read_inner digest bs f = rw (eq-eqb _ _ f, ne_eqb (flag_in bs) 1 (λ e. omega arith), for_flag, read_done)

-- of a leaf
abbrev pub on_leaf : (List ℕ → List ℕ) → List ℕ → List Refusal
on_leaf digest bs =
    11 if length bs under 33
    ∷ 11 if flag_in bs above 1
    ∷ 11 if length bs under 37
    ∷ 3 if stated_in bs above 16384
    ∷ 11 if length bs is_not (37 + stated_in bs)
    ∷ 18 if lies digest bs is_not 0
    ∷ []

pub read_leaf : (digest : List ℕ → List ℕ) (bs : List ℕ) → flag_in bs ≡ 1
    → read_outcome digest bs ≡ verdict (read_refused (zeros 32)) (on_leaf digest bs) (leaf_read (stated_in bs) (named_in bs))
unfolding read_outcome read_order read_done
read_leaf digest bs f = rw (ne_eqb (flag_in bs) 0 (λ e. omega arith), eq-eqb _ _ f, for_flag, read_done)
