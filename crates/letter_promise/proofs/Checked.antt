-- Of a log's root, over any digest function: a letter is accepted where it passes the checking order from 7, and our letters pass.
use mathlib.Core.Path.{◌≡◌, refl, sym, ap, ◌∙◌}
use mathlib.Core.List.{List}
use Prim.Native.Nat.{ℕ, ◌≤◌, ◌<◌}
use native.Mathlib.Omega.{arith}
use borrow.Author.Rules.{rules}
use lib.ListN.{length}
use Rattle.order.proofs.Laws.{passes}
use Rattle.wire.specs.Writers.{write_done}
use Rattle.letter.specs.Bytes.{index_in, record_in}
use Rattle.letter.proofs.Fits.{Fits}
use Rattle.letter_writer.specs.Outcome.{write_order, write_over, write_outcome}
use Rattle.letter_checker.proofs.Accepted.{accepted_of, accepts}
use Rattle.letter_checker.specs.Outcome.{CheckOutcome, record_by}
use Rattle.letter_promise.specs.Terms.{log_size, record_at, Accepted}
use Rattle.letter_promise.specs.Promise.{ours, EveryLetterAccepted}
use Rattle.letter_promise.proofs.Kept.{Kept, log_root, counts, root_length, record_short, not_foreign}
use Rattle.letter_promise.proofs.Ours.{ours_size, ours_index, ours_stated, ours_record, ours_exact, ours_root}

module _ {digest : List ℕ → List ℕ} {rs : List (List ℕ)} {bs : List ℕ} (k : Kept digest rs bs) where
  -- an accepted letter passes, with the index and the record that it names
  pub accepted_fits : {letter : List ℕ} {i : ℕ} {r : List ℕ} → Accepted digest (log_size rs) (log_root k) letter i r
      → Fits digest (log_size rs) (length rs) (log_root k) letter × (i ≡ index_in letter) × (r ≡ record_in letter)
  unfolding record_by record_in
  accepted_fits {letter} {i} {r} a =
      let o = accepted_of digest (log_size rs) (log_root k) letter a.number in (
        rw (counts k).value at o.0.fits,
        sym a.index ∙ ap (λ (x : CheckOutcome). x.index) o.1,
        sym a.rec ∙ ap (λ (x : CheckOutcome). record_by x letter) o.1,
      )

  -- a letter that passes is accepted
  fits_accepted : {letter : List ℕ} → Fits digest (log_size rs) (length rs) (log_root k) letter
      → Accepted digest (log_size rs) (log_root k) letter (index_in letter) (record_in letter)
  unfolding record_by record_in
  fits_accepted {letter} f =
      let c = counts k in
      let o =
      accepts digest (log_size rs) (log_root k) letter
      (record { counted = λ z. omega (arith, c.number); wide = root_length k; fits = rw c.value f }) in
      record {
        number = ap (λ (x : CheckOutcome). x.number) o;
        index = ap (λ (x : CheckOutcome). x.index) o;
        rec = ap (λ (x : CheckOutcome). record_by x letter) o;
      }

  module _ (i : ℕ) (p : i < length rs) where
    -- our letter passes
    pub ours_fits : Fits digest (log_size rs) (length rs) (log_root k) (ours digest rs bs i)
    ours_fits =
        record {
          long = omega (arith, ours_exact k i p);
          named = ours_size k i p;
          inside = omega (arith, ours_index k i p);
          short = omega (arith, ours_stated k i p, record_short k i p);
          exact = ours_exact k i p;
          rooted = sym (ours_root k i p);
        }

    -- and is written
    ours_written : (out : List ℕ) → length (ours digest rs bs i) ≤ length out
        → write_outcome digest (log_size rs) i (record_at rs i) bs out ≡ write_done (ours digest rs bs i) out
    unfolding write_outcome write_over write_order
    ours_written out r =
        let c = counts k in
        let s = record_short k i p in
        let f = not_foreign k i p in
        sym (passes _ _ _ {r = write_done (ours digest rs bs i) out} refl (search rules))

  -- the letters that we write are accepted
  pub letters_accepted : EveryLetterAccepted digest rs (log_root k) bs
  letters_accepted i p out r =
      record {
        written = ours_written i p out r;
        accepted = rw (ours_index k i p, ours_record k i p) at (fits_accepted (ours_fits i p));
      }
