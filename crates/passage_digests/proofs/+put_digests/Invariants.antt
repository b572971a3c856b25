-- The measure of `put_digests`: the height falls at each call.

use Rattle.passage_digests.proofs.+put_digests.Given as goal

abbrev pub decreases-put_digests : goal.decreases-put_digests
decreases-put_digests l = l.h
