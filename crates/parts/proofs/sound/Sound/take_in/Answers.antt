-- Room in the block: what is put in is taken.
use Rattle.std.proofs.Common.{◌≡◌, length, ap, ◌∙◌, rules, arith}
use Rattle.parts.specs.State.{stored}
use Rattle.parts.proofs.Taking.{takes_put}
use Rattle.parts.proofs.sound.Sound.take_in.Goals as goal

pub returns-then-part-s : goal.returns-then-part-s
returns-then-part-s c =
    let s = c.args.self.state in
    let size : length s.block ≡ 64 = search rules in
    c.put_in.ensures ∙ ap (stored s.keyed s.key) (takes_put s c.args.part.now size c.args.self.counts (omega arith))
