-- Two digests written in a row are the input; nothing is written where it does not fit.
use mathlib.Core.Path.{◌≡◌}
use borrow.Author.Rules.{rules}
use lib.ListN.{length}
use Rattle.difference.proofs.Puts.{input_64, put_none, put_two}
use Rattle.difference.proofs.settle.put.Goals as goal

pub returns-then-d-lt64 : goal.returns-then-d-lt64
returns-then-d-lt64 c =
    let d = c.args.d.now in
    let x = c.args.x in
    let l : length x.left.bytes ≡ 32 = search rules in
    let r : length x.right.bytes ≡ 32 = search rules in (
      input_64 d x.left.bytes x.right.bytes l r,
      put_none d x.left.bytes x.right.bytes l r c.if-d-lt64.true,
    )

pub returns : goal.returns
returns c =
    let d = c.args.d.now in
    let x = c.args.x in
    let l : length x.left.bytes ≡ 32 = search rules in
    let r : length x.right.bytes ≡ 32 = search rules in (
      input_64 d x.left.bytes x.right.bytes l r,
      put_two d x.left.bytes x.right.bytes l r _ _ c.if-d-lt64.false c.write_digest.ensures c.write_digest-2.ensures,
    )
