-- The measure of `work`.
use Rattle.letter_root.proofs.+work.Given as goal

-- the height falls
abbrev pub decreases-work : goal.decreases-work
decreases-work l = l.h
