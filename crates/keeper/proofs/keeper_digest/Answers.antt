-- `keeper::keeper_digest` meets its contract: no digest where there is no room for it, and else the digest is handed out.
use mathlib.Core.Path.{◌∙◌, ap}
use mathlib.Core.List.{List}
use Prim.Native.Nat.{ℕ}
use Rattle.digest.specs.Digest.{digest_in}
use Rattle.kept.specs.Kept.{filled, handed}
use Rattle.kept.proofs.Handed.{handed_short}
use Rattle.keeper.specs.Calls.{digest_call}
use Rattle.keeper.proofs.keeper_digest.Goals as goal

pub returns-then-out-lt32 : goal.returns-then-out-lt32
unfolding digest_call
returns-then-out-lt32 c =
    let a = c.args in
    ap (λ (n : ℕ). filled n a.out.now) c.from.ensures ∙ handed_short (digest_in a.mode.now a.bytes.now) a.out.now c.if-out-lt32.true

pub returns : goal.returns
unfolding digest_call
returns c = c.hand.ensures ∙ ap (λ (d : List ℕ). handed d c.args.out.now) c.digest_of.ensures
