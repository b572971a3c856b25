-- The height falls.
use Rattle.letter_walk.proofs.broken.+on_way.Given as goal

abbrev pub decreases-on_way : goal.decreases-on_way
decreases-on_way l = l.h
