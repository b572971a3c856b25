-- The bytes go behind those held: `Taking` has what is stored.
use Rattle.std.proofs.Common.{◌≡◌, length, rules}
use Rattle.parts.proofs.Taking.{puts}
use Rattle.parts.proofs.sound.Sound.put_in.Goals as goal

pub returns : goal.returns
returns c =
    let s = c.args.self.state in
    let block : length s.block ≡ 64 = search rules in
    let stack : length s.stack ≡ 240 = search rules in
    puts s c.args.part.now block c.args.self.counts stack c.clear.ensures c.block_with.ensures
