-- The measure of `put_items`.
use Rattle.letter_items.proofs.+put_items.Given as goal

-- the height falls
abbrev pub decreases-put_items : goal.decreases-put_items
decreases-put_items l = l.h
