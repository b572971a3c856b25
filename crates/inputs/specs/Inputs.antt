-- What the code's own values are called: the 64 bytes of an input, its digest beside another's, and a difference with two inputs more above.
use Rattle.std.specs.Prelude.{List, ◌++◌, ℕ, zero, suc, Bool, true, false, Option, None, Some}
use Rattle.shape.specs.Difference.{Diff, agree, unequal}
use Rattle.inputs.specs.declared.Input.{Input}
use Rattle.inputs.specs.declared.Unequal.{Unequal}

-- the 64 bytes of an input
abbrev pub bytes_of : Input → List ℕ
bytes_of x = x.left.bytes ++ x.right.bytes

-- the digest of an input or a record, or that of the one beside it where the two aren't apart
abbrev pub beside : Bool → List ℕ → List ℕ → List ℕ
beside true own other = own
beside false own other = other

-- the first difference with two inputs more above: these where they are apart, else the one below
abbrev pub above : ℕ → List ℕ → List ℕ → Diff → Diff
above zero ours theirs below = below
above (suc k) ours theirs below = unequal ours theirs

-- a difference by the answer
abbrev pub told : Option Unequal → Diff
told None = agree
told (Some d) = unequal (bytes_of d.ours) (bytes_of d.theirs)
