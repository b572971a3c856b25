-- The inputs of the fork are the parts that are joined.
use mathlib.Core.Path.{refl}
use Rattle.letter_walk.proofs.walk.left_fork.Goals as goal

pub returns : goal.returns
returns c =
    record {
      ours = record { left = c.args.low.log; right = c.fold_from.result };
      theirs = record { left = c.args.low.letter; right = c.args.side };
      own_left = refl;
      own_right = c.fold_from.ensures;
      given_left = refl;
      given_right = refl;
      fork = c.fork.ensures;
    }
