-- None of the records that a request asks a log for is above 16,384 bytes.
use mathlib.Core.List.{List, [], ◌∷◌, map}
use Prim.Native.Nat.{ℕ, suc}
use lib.ListN.{length}
use Rattle.views.specs.Passage.{Rising}
use Rattle.letter_promise.proofs.Kept.{Kept, record_short}
use Rattle.passage_fields.proofs.Entries.{AtMost}
use Rattle.passage_promise.specs.Terms.{records_at}

pub own_short : {digest : List ℕ → List ℕ} {rs : List (List ℕ)} {bs : List ℕ} → Kept digest rs bs
    → (p : ℕ) (is : List ℕ) → Rising p (length rs) is → AtMost 16384 (map length (records_at rs is))
own_short k p [] q = tt
own_short k p (i ∷ is) q = (record_short k i q.1, own_short k (suc i) is q.2)
