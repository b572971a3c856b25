-- `runs::lines::say_number` meets its contract: the digits that are written are as many as the number has.
use mathlib.Core.Path.{◌≡◌}
use Prim.Native.Nat.{◌≤◌}
use native.Mathlib.Omega.{arith}
use borrow.Author.Rules.{rules}
use Rattle.runs.specs.Lines.{digits_in}
use Rattle.runs.proofs.lines.Digits.{at_most, fewest_counted}
use Rattle.runs.proofs.lines.say_number.Given as given
use Rattle.runs.proofs.lines.say_number.Goals as goal

-- they are at most 20
few : (g : given.Over) (c : goal.After-say-2 g) → c.decimal-k.result ≤ 20
few g c =
    let d = c.decimal-k in
    at_most c.args.n d.result (search rules) d.ensures.len

pub overflow_add-result : goal.overflow_add-result
overflow_add-result g c = let l = few g c in search rules

pub returns : goal.returns
returns g c =
    let d = c.decimal-k in
    let n = c.args.n in
    let e : d.result ≡ digits_in n = fewest_counted 20 n d.result d.ensures.len (few g c) in
    omega arith
