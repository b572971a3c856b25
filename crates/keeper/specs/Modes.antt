-- What the calls that make a mode answer, and what they leave behind the pointer.
use Rattle.std.specs.Prelude.{List, ℕ}
use Rattle.digest.specs.Modes.{plain_mode, key_answer}
use Rattle.kept.specs.Kept.{or_kept, Filled, filled}

-- the plain mode
abbrev pub plain_call : Filled
plain_call = filled 0 plain_mode

-- the keyed mode of a key; the mode held `old`
unfoldable pub keyed_call : List ℕ → List ℕ → Filled
keyed_call key old =
    let a = key_answer key in
    or_kept a.number (filled 0 a.mode) (filled a.number old)
