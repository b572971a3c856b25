-- The block is filled and goes on, and the rest begins between two blocks: `Taking` has what is stored.
use Rattle.std.proofs.Common.{◌≡◌, length, rules}
use Rattle.parts.proofs.Taking.{fills}
use Rattle.parts.proofs.sound.Sound.fill.Goals as goal

pub returns : goal.returns
returns c =
    let s = c.args.self.state in
    let size : length s.block ≡ 64 = search rules in
    let p = c.requires in
    let g = c.go_on-run.ensures in
    fills s c.args.part.now size c.args.self.counts p.0 p.1 p.2 c.keying_of.ensures.words c.keying_of.ensures.flag c.block_with-full.ensures
    g.0 g.1 c.take_on.ensures
