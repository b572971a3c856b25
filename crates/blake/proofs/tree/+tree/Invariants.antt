-- The measure of `tree`.
use Rattle.blake.proofs.tree.+tree.Given as goal

-- the height falls
abbrev pub decreases-tree : goal.decreases-tree
decreases-tree l = l.h
