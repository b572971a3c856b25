-- A loop that stores word after word fills the list of the first N words.
use Rattle.std.proofs.lemmas.List.{length-replicate}
use Rattle.words.specs.Words.{words_of}
use Rattle.words.proofs.Fill.{fills_none, fills_more, fills_all}
use Rattle.words.proofs.whole.Goals as goal

pub loop-i-init : goal.loop-i-init
loop-i-init g c = fills_none (length-replicate _ _)

pub loop-i-preserved : goal.loop-i-preserved
loop-i-preserved g c = fills_more c.loop-i-test.true c.word.ensures c.loop-i.invariant

pub returns : goal.returns
unfolding words_of
returns g c = fills_all c.loop-i-test.false c.loop-i.invariant
