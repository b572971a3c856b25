-- `keeper::keeper_mode_keyed` meets its contract: what the key is answered, and its mode where it is taken.
use mathlib.Core.Path.{◌∙◌, ap₂}
use native.Mathlib.Omega.{arith}
use Rattle.kept.specs.Kept.{filled}
use Rattle.keeper.proofs.Modes.{key_put}
use Rattle.keeper.proofs.keeper_mode_keyed.Goals as goal

pub returns : goal.returns
returns c = ap₂ filled (omega (arith, c.put.ensures.number)) c.put.ensures.value ∙ key_put _ c.args.mode.now _ c.keyed.ensures
