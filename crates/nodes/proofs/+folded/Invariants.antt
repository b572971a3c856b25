-- The height falls.
use Rattle.nodes.proofs.+folded.Given as goal

abbrev pub decreases-folded : goal.decreases-folded
decreases-folded l = l.k
