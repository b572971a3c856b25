-- `kept::hand` meets its contract: under 32 bytes it is 6, and else the digest stands in the first 32.
use mathlib.Core.Path.{◌≡◌, ap, ◌∙◌}
use Prim.Native.Nat.{ℕ}
use native.Mathlib.Omega.{arith}
use lib.ListN.{length}
use borrow.Author.Rules.{rules}
use Rattle.kept.specs.Kept.{filled}
use Rattle.kept.proofs.Handed.{handed_short, handed_done}
use Rattle.kept.proofs.hand.Goals as goal

pub returns : goal.returns
returns c =
    let full : length c.args.digest ≡ 32 = search rules in
    handed_done c.args.digest c.args.out.now _ full (omega (arith, c.if-out-lt32.false)) c.write_digest.ensures

pub returns-then-out-lt32 : goal.returns-then-out-lt32
returns-then-out-lt32 c =
    let out = c.args.out.now in
    ap (λ (n : ℕ). filled n out) c.from.ensures ∙ handed_short c.args.digest out (omega (arith, c.if-out-lt32.true))
