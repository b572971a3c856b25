-- What a turn of the loop reads stands behind what the turns before it read, and was the input's next.
use Rattle.std.proofs.Common.{◌≡◌, ℕ, ◌+◌, ◌-◌, ◌≤◌, List, ◌++◌, rules, length, take, sym, ap, ◌∙◌, subst, length-take-le}
use Rattle.std.specs.Io.KnownBytes.{Consumes}
use Rattle.std.proofs.KnownBytes.{Consumes-trans}
use borrow.Rule.Slice.PartMut.{put_mid, post_of}
use Rattle.std.proofs.Math.Seq.{take-append-add}
use Rattle.std.proofs.lemmas.List.{take-append-le}
use Rattle.streams.proofs.read_full.Goals as goal

-- the first a bytes of a list, with n of a part that was put there behind them
joined : (a k n : ℕ) (xs ys : List ℕ) → a ≤ length xs → n ≤ length ys → take (a + n) (put_mid a k xs ys) ≡ take a xs ++ take n ys
joined a k n xs ys within fits =
    let rest = ys ++ post_of a k xs in
    ap (λ m. take (m + n) (take a xs ++ rest)) (sym (length-take-le a xs within)) ∙ take-append-add (take a xs) rest n ∙ ap (λ l. take a xs ++ l) (take-append-le n ys _ fits)

pub loop-done-preserved : goal.loop-done-preserved
loop-done-preserved g c =
    let l = c.loop-done in
    let part = c.read.new.buf in
    let same = joined l.done (length l.buf - l.done) c.in-Ok.n l.buf part l.invariant.0 c.in-Ok.ensures.bound.0 in
    (search rules, subst (Consumes _ _) (sym same) (Consumes-trans _ _ _ _ _ l.invariant.1 c.in-Ok.ensures.bytes.0))
