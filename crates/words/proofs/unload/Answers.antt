-- A loop that stores the four bytes of word after word fills the list of the words' bytes.
use Rattle.std.proofs.Common.{arith}
use Rattle.words.specs.Words.{bytes_of}
use Rattle.words.proofs.Fill.{fills_all}
use Rattle.words.proofs.Bytes.{fills_word}
use Rattle.words.proofs.unload.Goals as goal

pub loop-i-preserved : goal.loop-i-preserved
loop-i-preserved c = fills_word _ _ _ c.to_le_bytes.ensures c.loop-i-test.true c.copy_from_slice.ensures.after c.loop-i.invariant

pub returns : goal.returns
unfolding bytes_of
returns c = fills_all (omega arith) c.loop-i.invariant
