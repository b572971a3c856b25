-- The measure of `turns`.
use Rattle.letter.proofs.count.+turns.Given as goal

-- the height falls
abbrev pub decreases-turns : goal.decreases-turns
decreases-turns l = l.h
