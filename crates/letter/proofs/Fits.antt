-- A letter that passes the checking order from 7, for a size, its leaf count and a root: what each test says of it, that nothing else is needed, and
-- that its fields give it.
use mathlib.Core.Path.{◌≡◌, ap, ◌∙◌}
use mathlib.Core.List.{List}
use Prim.Native.Nat.{ℕ, ◌≤◌, ◌<◌}
use lib.ListN.{length}
use Rattle.order.proofs.Laws.{Passes}
use Rattle.wire.specs.Numbers.{Bytes}
use Rattle.wire.proofs.Differences.{differ_same, same_of_differ}
use Rattle.letter.specs.Bytes.{letter_bytes, size_in, index_in, stated_in, record_in, items_in}
use Rattle.letter.specs.Items.{worked_root}
use Rattle.letter.specs.Checking.{items_for, exact_length, behind_order, fields_order, from7}
use Rattle.letter.proofs.Spelling.{spelt}

module _ (digest : List ℕ → List ℕ) (size n : ℕ) (root letter : List ℕ) where
  pub record Fits : Type 0 where
    pub long : 20 ≤ length letter
    pub named : size_in letter ≡ size
    pub inside : index_in letter < n
    pub short : stated_in letter ≤ 16384
    pub exact : length letter ≡ exact_length n letter
    pub rooted : root ≡ worked_root digest n letter

  pub pass_fits : Passes (from7 digest size n root letter) → Fits
  unfolding from7 fields_order behind_order
  pass_fits p =
      record {
        long = p.0;
        named = p.1.0;
        inside = p.1.1.0;
        short = p.1.1.1.0;
        exact = p.1.1.1.1.0;
        rooted = same_of_differ root (worked_root digest n letter) p.1.1.1.1.1.0;
      }

  pub fits_pass : Fits → Passes (from7 digest size n root letter)
  unfolding from7 fields_order behind_order
  fits_pass f =
      (f.long, (f.named, (f.inside, (f.short, (f.exact, (differ_same root (worked_root digest n letter) f.rooted, tt))))))

  -- it is the letter that its fields give, for that size
  pub fits_spelt : Bytes letter → Fits → letter ≡ letter_bytes size (index_in letter) (record_in letter) (items_in (items_for n letter) letter)
  fits_spelt b f =
      spelt (items_for n letter) letter b f.exact
      ∙ ap (λ (s : ℕ). letter_bytes s (index_in letter) (record_in letter) (items_in (items_for n letter) letter)) f.named
