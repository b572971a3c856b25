-- Number 0 has the starting words, and any other the key's.
use mathlib.Core.Path.{sym, ap, ◌∙◌}
use Prim.Native.Nat.{ℕ}
use Rattle.blake.specs.Modes.{words_in}
use Rattle.blake.proofs.Modes.{words_keyed}
use Rattle.blake.proofs.words_in.Goals as goal

pub returns-then-keyed-eq0 : goal.returns-then-keyed-eq0
unfolding words_in
returns-then-keyed-eq0 c = let a = c.args in ap (λ (k : ℕ). words_in k a.key.now) (sym c.if-keyed-eq0.true)

pub returns : goal.returns
returns c = let a = c.args in c.load_half.ensures ∙ words_keyed a.keyed a.key.now c.if-keyed-eq0.false
