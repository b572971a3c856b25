-- The measure of `count`: the height falls at each call.
use Rattle.passage.proofs.count.+count.Given as goal

abbrev pub decreases-count : goal.decreases-count
decreases-count l = l.h
