-- The state that holds no byte, and the mode that it keeps.
use mathlib.Core.Path.{◌≡◌, refl, sym, ap, ◌∙◌}
use mathlib.Core.List.{List, []}
use Prim.Native.Nat.{ℕ, zero, suc}
use native.Mathlib.Omega.{arith}
use Rattle.compression.specs.Compression.{starting}
use Rattle.words.specs.Words.{words_of}
use Rattle.chunks.specs.Chunks.{chained, before}
use Rattle.blake.specs.Blake.{keyed_flag}
use Rattle.wire.specs.Slices.{zeros}
use Rattle.parts_rule.specs.Run.{between, run_after}
use Rattle.parts_rule.proofs.Folds.{lefts_one}
use Rattle.parts.specs.declared.Parts.{Parts}
use Rattle.parts_rule.specs.Stack.{joined}
use Rattle.parts.specs.State.{start_in, stored}
use Rattle.parts.specs.Answers.{begun_in}

pub start_plain : (keyed : ℕ) (key : List ℕ) → keyed ≡ 0 → starting ≡ start_in keyed key
unfolding start_in
start_plain zero key e = refl
start_plain (suc n) key e = absurd (omega arith)

pub start_keyed : (keyed : ℕ) (key : List ℕ) → (keyed ≡ 0 → ⊥) → key ≡ start_in keyed key
unfolding start_in
start_keyed zero key h = absurd (h refl)
start_keyed (suc n) key h = refl

-- nothing was taken
none_taken : (key : List ℕ) (flag : ℕ) → between [] key 0 ≡ run_after key flag []
unfolding run_after chained before
none_taken key flag = λ i. record { stack = sym (lefts_one key flag 30 0 [] (omega arith)) i; chain = key; block = []; total = 0 }

abbrev fresh : ℕ → List ℕ → List ℕ → Parts
fresh keyed key chain =
    record { total = 0; held = 0; stacked = 0; keyed = keyed; key = key; chain = chain; stack = zeros 240; block = zeros 64 }

pub begun_plain : (number : ℕ) (key : List ℕ) → number ≡ 0 → fresh 0 (zeros 8) starting ≡ begun_in number key
unfolding begun_in joined
begun_plain zero key e = ap (stored 0 (zeros 8)) (none_taken starting 0)
begun_plain (suc n) key e = absurd (omega arith)

pub begun_keyed : (number : ℕ) (key words : List ℕ) → (number ≡ 0 → ⊥) → words ≡ words_of 8 key → fresh 1 words words ≡ begun_in number key
unfolding begun_in joined
begun_keyed zero key words h e = absurd (h refl)
begun_keyed (suc n) key words h e =
    ap (λ (x : List ℕ). fresh 1 x x) e ∙ ap (stored 1 (words_of 8 key)) (none_taken (words_of 8 key) keyed_flag)
