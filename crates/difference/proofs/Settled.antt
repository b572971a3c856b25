-- The finder's answer once nothing refuses: by a difference, and with none by the records. What an answer tells of these.
use mathlib.Core.Path.{◌≡◌, refl, ◌∙◌}
use mathlib.Core.List.{List}
use mathlib.Core.Logic.{◌≢◌}
use Prim.Native.Nat.{ℕ, zero, suc, ◌≤◌}
use lib.ListN.{length}
use Rattle.std.specs.Prelude.{Option, None, Some, Ok}
use native.Mathlib.Omega.{arith}
use Rattle.wire.specs.Slices.{splice, written}
use Rattle.wire.proofs.Splices.{written_fits}
use Rattle.shape.specs.Difference.{Diff, agree, unequal}
use Rattle.inputs.specs.declared.Unequal.{Unequal}
use Rattle.inputs.specs.Inputs.{bytes_of, told}
use Rattle.difference.specs.declared.Finding.TheVariants.{Same, Records, Pair}
use Rattle.difference.specs.Findings.{Finding, Nothing}
use Rattle.difference.specs.Outcome.{found, find_done}

-- an input is written where there is room
pub put_fits : (x d : List ℕ) {e : List ℕ} → (length x ≡ 64) × (e ≡ written 0 x d) → 64 ≤ length d → e ≡ splice 0 x d
put_fits x d p h = p.1 ∙ written_fits 0 x d (omega (arith, p.0))

-- the two inputs are written
pub done_pair : (d : Option Unequal) (u : Unequal) (m : ℕ) (first second : List ℕ) {x y : List ℕ} → d ≡ Some u
    → x ≡ splice 0 (bytes_of u.ours) first → y ≡ splice 0 (bytes_of u.theirs) second → found (Ok Pair) x y ≡ find_done (told d) m first second
done_pair d u m first second h e f = rw (h, e, f)

-- nothing is
pub done_records : (d : Option Unequal) (m : ℕ) (first second : List ℕ) → d ≡ None → m ≢ 0
    → found (Ok Records) first second ≡ find_done (told d) m first second
done_records d zero first second z h = absurd (h refl)
done_records d (suc m) first second z h = rw z

pub done_same : (d : Option Unequal) (m : ℕ) (first second : List ℕ) → d ≡ None → m ≡ 0
    → found (Ok Same) first second ≡ find_done (told d) m first second
done_same d m first second z h = rw (z, h)

-- ---- what an answer tells

-- done has the number 0, whatever was found
pub done_zero : (d : Diff) (m : ℕ) (first second : List ℕ) → (find_done d m first second).number ≡ 0
done_zero agree m first second = refl
done_zero (unequal a b) m first second = refl

-- "same" is said where nothing differs, and no refusal says it
pub same_done : (d : Diff) (m : ℕ) (first second : List ℕ) → (find_done d m first second).finding ≡ Finding.Same → (d ≡ agree) × (m ≡ 0)
same_done agree zero first second e = (refl, refl)
same_done agree (suc m) first second e = absurd cc
same_done (unequal a b) m first second e = absurd cc

pub same_refused : Nothing ≡ Finding.Same → ⊥
same_refused e = cc
