-- `wire::read_run` meets its contract: where the bytes are all there they are copied, and else zeros follow those that are.
use mathlib.Core.Path.{◌≡◌, sym, ap, ◌∙◌}
use mathlib.Core.List.{List, [], ◌++◌, append-nil}
use Prim.Native.Nat.{ℕ, ◌-◌, ◌≤◌, ◌<◌}
use native.Mathlib.Nat.{le_of_eq}
use native.Mathlib.Omega.{arith}
use lib.ListN.{length, take, drop, length-append, length-drop, drop_of_length-le}
use lib.Seq.{length-take-le, take-append-le, take-append_seam, drop-append_seam}
use Rattle.wire.specs.Slices.{zeros, part}
use Rattle.wire.proofs.Parts.{part_short}
use Rattle.wire.proofs.read_run.Goals as goal

-- the bytes are all there
whole : (at : ℕ) (s d rest x : List ℕ) → rest ≡ drop at s → length d ≤ length rest
    → x ≡ take (length d) rest
    → x ≡ part at (length d) s
unfolding part
whole at s d rest x r h e = e ∙ rw (← r) (sym (take-append-le (length d) rest _ h))

-- some are not
short : (at : ℕ) (s d rest x z : List ℕ) → rest ≡ drop at s → length rest < length d
    → x ≡ rest ++ drop (length rest) d
    → z ≡ zeros (length (take (length x - length rest) (drop (length rest) x)))
    → take (length rest) x ++ (z ++ drop (length x - length rest) (drop (length rest) x)) ≡ part at (length d) s
short at s d rest x z r h e f =
    let m : ℕ = length rest in
    let y : x ≡ rest ++ drop m d = e in
    let n : length x ≡ length d = rw (y, length-append, length-drop) (omega arith) in
    let t : take m x ≡ rest = rw y (take-append_seam rest (drop m d)) in
    let u : drop m x ≡ drop m d = rw y (drop-append_seam rest (drop m d)) in
    let v : drop (length x - m) (drop m x) ≡ [] = rw (u, n) (drop_of_length-le (drop m d) (le_of_eq (length-drop m d))) in
    let l : length d - m ≤ length (drop m d) = le_of_eq (sym (length-drop m d)) in
    let w : length (take (length x - m) (drop m x)) ≡ length d - m = rw (u, n) (length-take-le (length d - m) (drop m d) l) in
    let k : length (drop at s) ≤ length d = rw (← r) (omega arith) in
    rw (t, v, f, w, append-nil, part_short at (length d) s k, ← r)

pub returns-then-n-m : goal.returns-then-n-m
returns-then-n-m c =
    let t = c.tail-rest in
    let a = c.args in
    whole a.at a.s.now a.d.now t.result.now _ t.ensures c.if-n-m.true c.copy_from_slice.ensures.after

pub returns : goal.returns
returns c =
    let t = c.tail-rest in
    let a = c.args in
    let x = c.copy_from_slice-2 in
    short a.at a.s.now a.d.now t.result.now _ _ t.ensures c.if-n-m.false (ap (λ (y : List ℕ). y ++ drop (length t.result.now) a.d.now) x.ensures.after) c.clear.ensures
