-- What the code's own steps are called, which no public contract cites.
use Rattle.std.specs.Prelude.{◌≡◌, List, ℕ, ◌+◌, ◌-◌, ◌/◌, ◌%◌, ◌^◌, ◌≤◌, ◌<◌, length, drop}
use Rattle.std.specs.Int.Count.{ones}
use Rattle.parts_rule.specs.Run.{Run, between, flushed, taken}
use Rattle.parts_rule.specs.Counts.{held_of, stacked_of}
use Rattle.parts_rule.specs.Stack.{subtrees}

-- a value that finishes m chunks in all has its place on so many subtrees
pub record Pushes (m stacked : ℕ) : Type 0 where
  pub some : 0 < ones m
  pub fits : ones m ≤ 30
  pub under : ones m ≤ stacked + 1
  pub most : stacked ≤ 30

-- a full block, the last of a total, and bytes that follow
pub record Full (total stacked : ℕ) : Type 0 where
  pub limit : total < 2 ^ 40
  pub held : held_of total ≡ 64
  pub high : stacked ≡ stacked_of total

-- the run of a block, where the chunk's chaining words and the stack are these
abbrev pub full_run : List ℕ → List ℕ → ℕ → ℕ → List ℕ → Run
full_run chain stack stacked total block = record { stack = subtrees stack stacked; chain = chain; block = block; total = total }

-- it has gone on: the stack, the chaining words and the count are then those with a prime
pub record Gone (key : List ℕ) (flag : ℕ) (chain stack : List ℕ) (stacked total : ℕ) (block stack' chain' : List ℕ) (stacked' : ℕ) : Type 0 where
  pub size : length stack' ≡ 240
  pub count : stacked' ≡ ones (total / 1024)
  pub is : between (subtrees stack' stacked') chain' total ≡ flushed key flag (full_run chain stack stacked total block)

-- between two blocks, with so many bytes to come
pub record Ready (stacked total len : ℕ) : Type 0 where
  pub even : total % 64 ≡ 0
  pub count : stacked ≡ ones (total / 1024)
  pub limit : total + len ≤ 2 ^ 40

-- whole blocks of a part are taken, and some bytes are left, the rest: it does then what the part did before
pub record Went (key : List ℕ) (flag : ℕ) (chain stack : List ℕ) (stacked total : ℕ) (part stack' chain' : List ℕ) (stacked' total' : ℕ)
    (rest : List ℕ) : Type 0 where
  pub size : length stack' ≡ 240
  pub some : 0 < length rest
  pub behind : rest ≡ drop (total' - total) part
  pub whole : total' + length rest ≡ total + length part
  pub even : total' % 64 ≡ 0
  pub count : stacked' ≡ ones (total' / 1024)
  pub is : taken key flag (between (subtrees stack stacked) chain total) part
      ≡ taken key flag (between (subtrees stack' stacked') chain' total') rest
