-- A block that is not long is padded with zeros: its words are those of the bytes, a byte past the end being 0.
use Rattle.std.proofs.Common.{◌++◌, drop, get_or, replicate, ℕ, ap, List, length, ◌∙◌}
use Rattle.words.proofs.Blocks.{words_same}
use Rattle.words.proofs.Fill.{padded_at}
use Rattle.words.proofs.load.Goals as goal

pub returns : goal.returns
returns c =
    let bs = c.args.block.now in
    c.whole-2.ensures
    ∙ words_same 16 _ _
    (λ k. ap (λ (l : List ℕ). get_or (l ++ drop (length bs) (replicate 64 0)) k 0) c.copy_from_slice.ensures.after ∙ padded_at bs 64 (length bs) k)
