-- The measure of `work`: the height falls at each call.

use Rattle.passage_root.proofs.+work.Given as goal

abbrev pub decreases-work : goal.decreases-work
decreases-work l = l.h
