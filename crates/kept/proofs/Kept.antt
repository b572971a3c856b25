-- What is kept: where the call below has the number 0, and where it refuses.
use mathlib.Core.Logic.{◌≢◌}
use mathlib.Core.Path.{◌≡◌}
use Prim.Native.Nat.{ℕ}
use borrow.Author.Tests.{eq-eqb, ne_eqb}
use Rattle.kept.specs.Kept.{or_kept}

module _ {X : Type 0} (number : ℕ) (done kept : X) where
  pub kept_done : number ≡ 0 → or_kept number done kept ≡ done
  unfolding or_kept
  kept_done z = rw (eq-eqb number 0 z, or_kept)

  pub kept_left : number ≢ 0 → or_kept number done kept ≡ kept
  unfolding or_kept
  kept_left z = rw (ne_eqb number 0 z, or_kept)
