-- The last block, and the root over the subtrees and it: `Ending` has what comes of them.
use Rattle.std.proofs.Common.{◌≡◌, length, rules}
use Rattle.parts.proofs.Ending.{ends}
use Rattle.parts.proofs.sound.Sound.finish.Goals as goal

pub returns : goal.returns
returns c =
    let s = c.args.self.state in
    let block : length s.block ≡ 64 = search rules in
    let stack : length s.stack ≡ 240 = search rules in
    let f = c.root_flag.ensures in
    ends s block c.args.self.counts c.keying_of-keying.ensures.words c.keying_of-keying.ensures.flag c.chunks_before-n.ensures c.opening.ensures.0
    c.load.ensures stack f.0 f.1 c.compress-v.ensures c.root.ensures c.unload.ensures
