-- Every number of the order of a letter's fields is above 0.
use mathlib.Core.List.{List}
use Prim.Native.Nat.{ℕ, zero, suc}
use lib.Dec.{T}
use Rattle.order.proofs.Laws.{numbered, numbered_append}
use Rattle.passage.specs.Bytes.{count_in, index_at, behind_at}
use Rattle.passage.specs.Checking.{record_order, entries_order, fields_order}
use Rattle.passage_fields.specs.Fields.{front_order}

pub entries_numbered : (n : ℕ) (letter : List ℕ) (at floor k : ℕ) → T (numbered (entries_order n letter at floor k))
unfolding entries_order record_order
entries_numbered n letter at floor zero = tt
entries_numbered n letter at floor (suc k) = entries_numbered n letter (behind_at letter at) (suc (index_at letter at)) k

pub front_numbered : (size n : ℕ) (letter : List ℕ) → T (numbered (front_order size n letter))
unfolding front_order
front_numbered size n letter = entries_numbered n letter 10 0 (count_in letter)

pub fields_numbered : (size n : ℕ) (letter : List ℕ) → T (numbered (fields_order size n letter))
unfolding fields_order
fields_numbered size n letter = numbered_append (entries_order n letter 10 0 (count_in letter)) _ (entries_numbered n letter 10 0 (count_in letter)) tt
