-- The words and the flag of a mode make its hash.
use mathlib.Core.Path.{◌≡◌, refl}
use mathlib.Core.Logic.{◌≢◌}
use mathlib.Core.List.{List}
use Prim.Native.Nat.{ℕ, zero, suc}
use Rattle.words.specs.Words.{words_of}
use Rattle.blake.specs.Blake.{digested, plain_hash, keyed_hash, keyed_flag, hash_in}
use Rattle.blake.specs.Modes.{words_in, flag_in}

pub words_keyed : (keyed : ℕ) (key : List ℕ) → keyed ≢ 0 → words_of 8 key ≡ words_in keyed key
unfolding words_in
words_keyed zero key h = absurd (h refl)
words_keyed (suc _) key h = refl

pub flag_keyed : (keyed : ℕ) → keyed ≢ 0 → keyed_flag ≡ flag_in keyed
unfolding flag_in
flag_keyed zero h = absurd (h refl)
flag_keyed (suc _) h = refl

pub mode_hash : (keyed : ℕ) (key bs : List ℕ) → digested (words_in keyed key) (flag_in keyed) bs ≡ hash_in keyed key bs
unfolding words_in flag_in hash_in plain_hash keyed_hash
mode_hash zero key bs = refl
mode_hash (suc _) key bs = refl
