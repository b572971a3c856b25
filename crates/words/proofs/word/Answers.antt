-- The four bytes of a word, the low one first.
use Rattle.std.proofs.Common.{arith}
use Rattle.words.specs.Words.{word_at}
use Rattle.words.proofs.word.Goals as goal

pub returns : goal.returns
unfolding word_at
returns c = omega arith
