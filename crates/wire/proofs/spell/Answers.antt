-- `wire::spell` meets its contract: the bytes of what is left of the number, and behind them those that are written, are the bytes of the number.
use mathlib.Core.Path.{◌≡◌, sym, ◌∙◌}
use mathlib.Core.List.{List, ◌++◌, append-nil}
use Prim.Native.Nat.{ℕ, zero, suc, ◌-◌, ◌/◌, ◌%◌, ◌≤◌, ◌<◌}
use native.Mathlib.Nat.{not-suc-le-zero}
use native.Mathlib.Omega.{arith}
use lib.ListN.{length, drop, set, length-set}
use lib.Seq.{append_snoc, drop-cons, drop-length, drop-set-lt, get_or-set_same}
use Rattle.wire.specs.Numbers.{be}
use Rattle.wire.proofs.spell.Goals as goal

one_more : (d : List ℕ) (n i : ℕ) → 0 < i → i ≤ length d
    → be (i - 1) (n / 256) ++ drop (i - 1) (set d (i - 1) (n % 256)) ≡ be i n ++ drop i d
unfolding be
one_more d n zero h k = absurd (not-suc-le-zero h)
one_more d n (suc i) h k =
    let e : suc i - 1 ≡ i = omega arith in
    let l : i < length (set d i (n % 256)) = simp length-set k in
    rw (e, drop-cons (set d i (n % 256)) i 0, get_or-set_same d i (n % 256) 0 k, drop-set-lt (suc i) d i (n % 256) (omega arith))
    (sym (append_snoc (be i (n / 256)) (n % 256) (drop (suc i) d)))

pub loop-i-init : goal.loop-i-init
loop-i-init c = rw (drop-length, append-nil)

pub loop-i-preserved : goal.loop-i-preserved
loop-i-preserved c =
    let l = c.loop-i in
    let e = one_more l.d l.left l.i (omega arith) (omega (arith, l.auto.d)) in e ∙ l.invariant

pub returns : goal.returns
unfolding be
returns c =
    let e : c.loop-i.i ≡ 0 = omega arith in
    rw e at c.loop-i.invariant
