-- The inputs of the fork are the parts that are joined.
use mathlib.Core.Path.{refl}
use Rattle.letter_walk.proofs.walk.right_fork.Goals as goal

pub returns : goal.returns
returns c =
    record {
      ours = record { left = c.node_at.result; right = c.args.low.log };
      theirs = record { left = c.args.side; right = c.args.low.letter };
      own_left = c.node_at.ensures;
      own_right = refl;
      given_left = refl;
      given_right = refl;
      fork = c.fork.ensures;
    }
