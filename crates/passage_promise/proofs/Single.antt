-- A passage of one index and the single letter, put together from each other's digests, over any digest function: where one is accepted the other is,
-- and both show one tree.
use mathlib.Core.Path.{◌≡◌, refl, sym, ap, ap₂, ◌∙◌}
use mathlib.Core.List.{List, [], ◌∷◌, map}
use Prim.Native.Nat.{ℕ, ◌^◌, ◌≤◌, ◌<◌}
use native.Mathlib.Omega.{arith}
use lib.ListN.{length}
use lib.Seq.{ext_get_or}
use Rattle.wire.specs.Slices.{part}
use Rattle.wire.proofs.Parts.{part_length}
use Rattle.shape.specs.Sizes.{count_answer, leaves}
use Rattle.shape.specs.Tree.{Turn, root}
use Rattle.shape.specs.Letter.{fill}
use Rattle.shape.specs.Way.{way}
use Rattle.shape.proofs.Sizes.{size_le}
use Rattle.shape.proofs.Counting.{counts_known}
use Rattle.views.specs.One.{walk_order, letter_order}
use Rattle.views.specs.View.{plant}
use Rattle.views.specs.Passage.{passage}
use Rattle.views.proofs.One.{one_givens, one_fill, one_plant}
use Rattle.letter.specs.Bytes.{letter_bytes, index_in, stated_in, record_in, items_in}
use Rattle.letter.specs.Items.{item_count, letter_tree as singleTree, worked_root as singleRoot}
use Rattle.letter.proofs.Fits.{Fits as SingleFits}
use Rattle.letter.proofs.Spelling.{letter_length, size_read, index_read, stated_read, record_read, items_read_back, items_length, items_32}
use Rattle.letter_checker.specs.Outcome.{CheckOutcome as SingleOutcome, record_by}
use Rattle.letter_checker.proofs.Accepted.{accepted_of, accepts}
use Rattle.letter_promise.specs.Terms.{Accepted as SingleAccepted}
use Rattle.passage.specs.Bytes.{passage_bytes, digests_in}
use Rattle.passage.specs.Request.{Request}
use Rattle.passage.specs.Digests.{digest_count, letter_tree, worked_root}
use Rattle.passage.proofs.Digests.{count_is}
use Rattle.passage_checker.specs.Outcome.{CheckOutcome}
use Rattle.passage_records.specs.Outcome.{EntryOutcome}
use Rattle.passage_fields.proofs.Entries.{AtMost}
use Rattle.passage_fields.proofs.Fits.{pass_fits, fits_short, fits_stated}
use Rattle.passage_fields.proofs.Reading.{Parts, indexes_read, records_read, digests_read, fields_pass}
use Rattle.passage_promise.specs.Terms.{Accepted}
use Rattle.passage_promise.specs.Beside.{OneToSingle, SingleToOne}
use Rattle.passage_promise.proofs.Read.{digests_many, digests_32}
use Rattle.passage_promise.proofs.Checked.{Checks, passed_request, accepted_checks, checks_accepted}
use Rattle.passage_promise.proofs.Orders.{Digests, letter_order_lem, walk_order_lem}

-- the calls hand back one list of indexes and one list of records
module _ (digest : List ℕ → List ℕ) (size : ℕ) (root letter : List ℕ) where
  accepted_once : {is js : List ℕ} {rs ts : List (List ℕ)} → Accepted digest size root letter is rs → Accepted digest size root letter js ts
      → (is ≡ js) × (rs ≡ ts)
  accepted_once {is} {js} {rs} {ts} a b =
      let n : length is ≡ length js = ap (λ (o : CheckOutcome). o.count) (sym a.checked ∙ b.checked) in (
        ext_get_or 0 is js n (λ k p. ap (λ (o : EntryOutcome). o.index) (sym (a.entry k) ∙ b.entry k)),
        ext_get_or [] rs ts (omega (arith, a.record_each, b.record_each))
            (λ k p.
            sym (a.parts k) ∙ ap (λ (o : EntryOutcome). part o.start o.length letter) (sym (a.entry k) ∙ b.entry k) ∙ b.parts k),
      )

module _ (digest : List ℕ → List ℕ) (size : ℕ) (known : (count_answer size).number ≡ 1 → ⊥) (i : ℕ) (p : i < leaves size) (r : List ℕ)
    (short : length r ≤ 16384) where
  abbrev n : ℕ
  n = leaves size

  abbrev w : List Turn
  w = way n i

  numbers : (size < 2 ^ 64) × (n ≤ 2 ^ 32)
  numbers = let c = counts_known size known in (omega (arith, c.is, c.most, size_le n), c.most)

  one_asked : Request n (i ∷ [])
  one_asked = record { some = omega arith; few = omega arith; rising = (omega arith, p, tt) }

  one_count : digest_count n (i ∷ []) ≡ length w
  one_count = count_is n (i ∷ []) (omega arith) numbers.1 (omega arith) ∙ one_givens n i p

  -- a single letter put together from a record and items
  module _ (ys : List (List ℕ)) (d : Digests w ys) where
    abbrev single : List ℕ
    single = letter_bytes size i r ys

    items_many : item_count n i ≡ length ys
    unfolding item_count
    items_many = sym d.many

    single_index : index_in single ≡ i
    single_index = index_read size i r ys (omega (arith, numbers.1))

    single_record : record_in single ≡ r
    single_record = record_read size i r ys (omega arith)

    pub single_items : items_in (item_count n i) single ≡ ys
    single_items = ap (λ (k : ℕ). items_in k single) items_many ∙ items_read_back size i r ys (omega arith) d.each

    pub single_tree : singleTree digest n single ≡ fill w (digest r) ys
    single_tree = rw (single_index, single_record, single_items)

    single_fits : (top : List ℕ) → top ≡ root digest (fill w (digest r) ys) → SingleFits digest size n top single
    unfolding singleRoot
    single_fits top e =
        let s = stated_read size i r ys (omega arith) in
        let l = letter_length size i r ys d.each in
        let m : item_count n (index_in single) ≡ length ys = ap (item_count n) single_index ∙ items_many in
        record {
          long = omega arith;
          named = size_read size i r ys numbers.0;
          inside = omega (arith, single_index);
          short = omega arith;
          exact = omega arith;
          rooted = e ∙ ap (root digest) (sym single_tree);
        }

    single_accepted : (top : List ℕ) → length top ≡ 32 → top ≡ root digest (fill w (digest r) ys) → SingleAccepted digest size top single i r
    unfolding record_by record_in
    single_accepted top wide e =
        let o = accepts digest size top single (record { counted = known; wide = wide; fits = single_fits top e }) in
        record {
          number = ap (λ (x : SingleOutcome). x.number) o;
          index = ap (λ (x : SingleOutcome). x.index) o ∙ single_index;
          rec = ap (λ (x : SingleOutcome). record_by x single) o ∙ single_record;
        }

  -- a passage letter put together from a record and digests
  module _ (xs : List (List ℕ)) (d : Digests w xs) where
    abbrev one : List ℕ
    one = passage_bytes size (i ∷ []) (r ∷ []) xs

    parts : Parts size n (i ∷ []) (r ∷ []) xs
    parts =
        record {
          size_fits = numbers.0;
          few_leaves = numbers.1;
          request = one_asked;
          one_each = refl;
          short = (short, tt);
          wide = d.each;
          exact = d.many ∙ sym one_count;
        }

    one_tree : letter_tree digest n one ≡ plant (passage n (i ∷ [])) (digest r ∷ []) xs
    one_tree = rw (indexes_read parts, records_read parts, digests_read parts)

    one_accepted : (top : List ℕ) → length top ≡ 32 → top ≡ root digest (plant (passage n (i ∷ [])) (digest r ∷ []) xs)
        → Accepted digest size top one (i ∷ []) (r ∷ [])
    unfolding worked_root
    one_accepted top wide e =
        let c : Checks digest size top one =
        record {
          counted = known;
          wide = wide;
          passed = record { fields = fields_pass parts; rooted = e ∙ ap (root digest) (sym one_tree) };
        } in
        rw (indexes_read parts, records_read parts) at (checks_accepted digest size top one c)

module _ (digest : List ℕ → List ℕ) where
  -- where a passage of one index is accepted, so is the single letter that has its digests
  pub one_to_single_over : OneToSingle digest
  unfolding worked_root
  one_to_single_over size top letter i r a =
      let n = leaves size in
      let c = accepted_checks digest size top letter (ap (λ (o : CheckOutcome). o.number) a.checked) in
      let same = accepted_once digest size top letter (checks_accepted digest size top letter c) a in
      let q : Request n (i ∷ []) = rw same.0 at (passed_request digest size n top letter c.passed) in
      let p : i < n = q.rising.1 in
      let f = pass_fits size n letter c.passed.fields in
      let short : AtMost 16384 (length r ∷ []) = rw (← fits_stated size n letter f, same.1) at (fits_short size n letter f) in
      let xs = digests_in (digest_count n (i ∷ [])) letter in
      let count = one_count digest size c.counted i p r short.0 in
      let d : Digests (way n i) xs =
      record { many = digests_many letter (digest_count n (i ∷ [])) ∙ count; each = digests_32 letter (digest_count n (i ∷ [])) } in
      let ys = letter_order (way n i) xs in
      let e = letter_order_lem (way n i) xs d in
      let t : letter_tree digest n letter ≡ fill (way n i) (digest r) ys =
      ap₂ (λ (js : List ℕ) (ts : List (List ℕ)). plant (passage n js) (map digest ts) (digests_in (digest_count n js) letter)) same.0 same.1
      ∙ one_plant n i p (digest r) xs (d.many ∙ sym (one_givens n i p)) in (
        single_accepted digest size c.counted i p r short.0 ys e top c.wide (c.passed.rooted ∙ ap (root digest) t),
        single_tree digest size c.counted i p r short.0 ys e ∙ sym t,
      )

  -- where a single letter is accepted, so is the passage of its index alone that has its items
  pub single_to_one_over : SingleToOne digest
  unfolding item_count singleRoot record_in record_by
  single_to_one_over size top letter i r a =
      let n = leaves size in
      let o = accepted_of digest size top letter a.number in
      let f = o.0.fits in
      let e : i ≡ index_in letter = sym a.index ∙ ap (λ (x : SingleOutcome). x.index) o.1 in
      let g : r ≡ record_in letter = sym a.rec ∙ ap (λ (x : SingleOutcome). record_by x letter) o.1 in
      let p : i < n = omega (arith, f.inside) in
      let short : length r ≤ 16384 = omega (arith, ap length g, part_length 20 (stated_in letter) letter, f.short) in
      let xs = items_in (item_count n i) letter in
      let d : Digests (way n i) xs = record { many = items_length (item_count n i) letter; each = items_32 (item_count n i) letter } in
      let ys = walk_order (way n i) xs in
      let h = walk_order_lem (way n i) xs d in
      let t : plant (passage n (i ∷ [])) (digest r ∷ []) ys ≡ singleTree digest n letter =
      one_fill n i p (digest r) xs
      ∙ ap₂ (λ (j : ℕ) (u : List ℕ). fill (way n j) (digest u) (items_in (item_count n j) letter)) e g in (
        one_accepted digest size o.0.counted i p r short ys h top o.0.wide (f.rooted ∙ ap (root digest) (sym t)),
        one_tree digest size o.0.counted i p r short ys h ∙ t,
      )
