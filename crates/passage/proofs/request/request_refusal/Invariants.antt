-- What each turn of the loop of `request_refusal` keeps.
use mathlib.Core.Path.{◌≡◌}
use Prim.Native.Nat.{suc}
use lib.ListN.{drop}
use Rattle.order.specs.Order.{first_number}
use Rattle.passage.specs.Request.{rising_order, request_order}
use Rattle.passage.proofs.request.request_refusal.Given as goal

abbrev pub invariant-loop-i : goal.invariant-loop-i
invariant-loop-i l = first_number (request_order l.is) ≡ first_number (rising_order (suc l.last) (drop l.i-index l.rest))
