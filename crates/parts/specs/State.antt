-- A state as it is stored, and what counts of it.
use Rattle.std.specs.Prelude.{◌≡◌, List, ℕ, zero, suc, ◌^◌, ◌≤◌, length, take}
use Rattle.compression.specs.Compression.{starting}
use Rattle.blake.specs.Modes.{words_in, flag_in}
use Rattle.digest.specs.Modes.{number_in, key_in}
use Rattle.parts_rule.specs.Counts.{held_of, stacked_of}
use Rattle.parts_rule.specs.Stack.{subtrees, joined, padded}
use Rattle.parts_rule.specs.Run.{Run, run_after}
use Rattle.parts.specs.declared.Parts.{Parts}

-- ---- The mode

-- the words that chaining begins with, of a number and a key's words: 0 is plain, and the words then mean nothing
unfoldable pub start_in : ℕ → List ℕ → List ℕ
start_in zero key = starting
start_in (suc _) key = key

abbrev pub start_of : Parts → List ℕ
start_of s = start_in s.keyed s.key

-- the flag on every compression
abbrev pub flag_of : Parts → ℕ
flag_of s = flag_in s.keyed

-- ---- The counts

-- the total is within the limit, and the stored counts are those of the total
pub record Counted (s : Parts) : Type 0 where
  pub limit : s.total ≤ 2 ^ 40
  pub held : s.held ≡ held_of s.total
  pub stacked : s.stacked ≡ stacked_of s.total

-- ---- What counts of a state, and what is stored of it

-- the bytes and subtrees that its counts name
abbrev pub run_of : Parts → Run
run_of s =
    record { stack = subtrees s.stack s.stacked; chain = s.chain; block = take s.held s.block; total = s.total }

-- a run as it is stored in a mode: the places that the counts do not name are 0
abbrev pub stored : ℕ → List ℕ → Run → Parts
stored keyed key r =
    record {
      total = r.total;
      held = length r.block;
      stacked = length r.stack;
      keyed = keyed;
      key = key;
      chain = r.chain;
      stack = padded 240 (joined r.stack);
      block = padded 64 r.block;
    }

-- ---- A state holds the bytes xs in a mode: it keeps the mode's words and flag, its counts are right, and what they name is the stack of finished subtrees of
-- xs, the chaining words of the chunk that is open, and the block's bytes
pub record Holds (mode : List ℕ) (s : Parts) (xs : List ℕ) : Type 0 where
  pub start : start_of s ≡ words_in (number_in mode) (key_in mode)
  pub flag : flag_of s ≡ flag_in (number_in mode)
  pub counted : Counted s
  pub run : run_of s ≡ run_after (words_in (number_in mode) (key_in mode)) (flag_in (number_in mode)) xs
