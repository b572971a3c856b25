-- A key of another length is refused, and one of 32 bytes stands whole behind the number.
use mathlib.Core.Path.{◌≡◌, refl, ap, ◌∙◌}
use mathlib.Core.List.{List}
use Prim.Native.Nat.{ℕ}
use native.Mathlib.Omega.{arith}
use lib.ListN.{length}
use Rattle.order.proofs.Laws.{refuses, passes}
use Rattle.wire.specs.Slices.{part}
use Rattle.wire.proofs.Parts.{part_whole}
use Rattle.digest.specs.Modes.{Moded, key_order, key_answer}
use Rattle.digest.proofs.Keys.{key_written}
use borrow.Author.Rules.{rules}
use Rattle.digest.proofs.keyed.Goals as goal

pub returns-then-key-ne32 : goal.returns-then-key-ne32
unfolding key_answer key_order
returns-then-key-ne32 c = refuses 24 _ _ _ refl (search rules)

pub returns : goal.returns
unfolding key_answer key_order
returns c =
    let key = c.args.key.now in
    let e : length key ≡ 32 = omega arith in
    let whole : part 0 32 key ≡ key = ap (λ (n : ℕ). part 0 n key) (let z : 32 ≡ length key = omega arith in z) ∙ part_whole key in
    passes _ _ _
    (ap {B = Moded} (λ (m : List ℕ). record { number = 0; mode = m })
    (c.write_digest.ensures ∙ key_written key (c.read_digest-bytes.ensures ∙ whole) e))
    (search rules)
