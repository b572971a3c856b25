-- `passage_fields::stated_at` meets its contract: past the end a byte is 0, and so is the length; else the four bytes are read from the place on.
use mathlib.Core.Path.{◌≡◌, ap, sym, ◌∙◌}
use mathlib.Core.Logic.{inl, inr}
use mathlib.Core.List.{List}
use Prim.Native.Nat.{ℕ, ◌+◌, ◌<◌}
use native.Mathlib.Omega.{arith}
use lib.ListN.{length}
use Rattle.wire.specs.Numbers.{number}
use Rattle.wire.specs.Slices.{part}
use Rattle.wire.proofs.Parts.{part_beyond, part_drop}
use Rattle.wire.proofs.Lists.{rest_all}
use Rattle.passage.specs.Bytes.{stated_at}
use Rattle.passage_fields.proofs.stated_at.Goals as goal

past : (letter : List ℕ) (at : ℕ) → length letter < at → 0 ≡ stated_at letter at
unfolding stated_at number
past letter at h = sym (ap number (part_beyond (at + 8) 4 letter (omega arith)))

pub returns-in_default : goal.returns-in_default
returns-in_default c =
    past c.args.letter.now c.args.at (elim c.in_default.ensures.lookup.0 [ inl p ↦ p | inr p ↦ absurd (omega arith) ])

pub returns : goal.returns
unfolding stated_at
returns c =
    let a = c.args in
    c.read4.ensures
    ∙ ap (λ (l : List ℕ). number (part 8 4 l)) (c.in-Some.ensures.lookup.0.2 ∙ rest_all a.at a.letter.now)
    ∙ ap number (part_drop 8 4 a.at a.letter.now)
