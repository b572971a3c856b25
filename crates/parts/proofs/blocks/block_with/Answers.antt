-- The run is copied behind the first bytes: `Copies` has what that makes.
use Rattle.std.proofs.Common.{◌≡◌, ◌≤◌, length, rules, arith}
use Rattle.parts_rule.proofs.Copies.{run_behind}
use Rattle.parts.proofs.blocks.block_with.Goals as goal

pub returns : goal.returns
returns c =
    let long : length c.args.block ≡ 64 = search rules in
    let low : c.args.n ≤ length c.args.block = omega arith in
    run_behind 64 c.args.n c.args.block c.args.run.now low c.copy_from_slice.ensures.after c.copy_from_slice-2.ensures.after
