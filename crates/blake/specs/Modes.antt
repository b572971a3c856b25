-- What a mode hands to the tree: the words that chaining begins with, and the flag on every compression.
use Rattle.std.specs.Prelude.{List, ℕ, zero, suc}
use Rattle.compression.specs.Compression.{starting}
use Rattle.words.specs.Words.{words_of}
use Rattle.blake.specs.Blake.{keyed_flag}

unfoldable pub words_in : ℕ → List ℕ → List ℕ
words_in zero key = starting
words_in (suc _) key = words_of 8 key

unfoldable pub flag_in : ℕ → ℕ
flag_in zero = 0
flag_in (suc _) = keyed_flag
