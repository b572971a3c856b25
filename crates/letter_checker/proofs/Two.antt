-- Two letters accepted against one size and root for one index are one letter, up to a collision.
use mathlib.Core.Logic.{◌≢◌, ◌⊎◌, inl, inr}
use mathlib.Core.Path.{◌≡◌, sym, ap, ◌∙◌}
use mathlib.Core.List.{List}
use Prim.Native.Nat.{ℕ}
use lib.ListN.{length}
use Rattle.wire.specs.Numbers.{Bytes}
use Rattle.shape.specs.Tree.{Tips32, root, inputs}
use Rattle.shape.specs.Letter.{fill}
use Rattle.shape.specs.Way.{way}
use Rattle.shape.specs.Difference.{decided, Diff, agree, unequal, difference, Collision, Shown}
use Rattle.shape.proofs.Difference.{shown_map}
use Rattle.shape.proofs.Bind.{bind}
use Rattle.shape.proofs.Letters.{fill_alike, fill_32, fill_inj}
use Rattle.shape.specs.Sizes.{leaves}
use Rattle.letter.specs.Bytes.{letter_bytes, index_in, record_in, items_in}
use Rattle.letter.specs.Items.{item_count, tree_of, letter_tree, worked_root}
use Rattle.letter.specs.Checking.{items_for}
use Rattle.letter.proofs.Spelling.{items_length, items_32}
use Rattle.letter.proofs.Fits.{Fits, fits_spelt}
use Rattle.letter_checker.specs.Outcome.{CheckOutcome, check_outcome}
use Rattle.letter_checker.proofs.Accepted.{accepted_of}

module _ (digest : List ℕ → List ℕ) where
  -- what the first difference of the inputs of two letters shows: a collision; and where there is none, the letters are the
  -- same, or their records are two strings with one digest
  abbrev pub Together : List ℕ → List ℕ → Diff → Type 0
  Together l m (unequal a b) = Collision digest 64 a b
  Together l m agree = (l ≡ m) ⊎ ((record_in l ≢ record_in m) × (digest (record_in l) ≡ digest (record_in m)))

  module _ (digest_32 : (x : List ℕ) → length (digest x) ≡ 32) (size : ℕ) (trusted l m : List ℕ) (bytes-l : Bytes l) (bytes-m : Bytes m)
      (n : ℕ) (a : Fits digest size n trusted l) (b : Fits digest size n trusted m) (one : index_in l ≡ index_in m) where
    -- the tree that a letter shows takes 32 bytes for the leaf and each item
    letter_32 : (x : List ℕ) → Tips32 (letter_tree digest n x)
    unfolding item_count
    letter_32 x =
        let k = items_for n x in
        fill_32 (way n (index_in x)) (digest (record_in x)) (items_in k x) (items_length k x) (items_32 k x) (digest_32 (record_in x))

    -- that of the second letter, with the index of the first
    tree_with : letter_tree digest n m ≡ tree_of digest n (index_in l) (record_in m) (items_in (items_for n l) m)
    tree_with = ap (λ (i : ℕ). tree_of digest n i (record_in m) (items_in (item_count n i) m)) (sym one)

    same_letter : record_in l ≡ record_in m → items_in (items_for n l) l ≡ items_in (items_for n l) m → l ≡ m
    same_letter e f =
        fits_spelt digest size n trusted l bytes-l a
        ∙ (λ i. letter_bytes size (index_in l) (e i) (f i))
        ∙ ap (λ (j : ℕ). letter_bytes size j (record_in m) (items_in (item_count n j) m)) one
        ∙ sym (fits_spelt digest size n trusted m bytes-m b)

    settle : (digest (record_in l) ≡ digest (record_in m)) × (items_in (items_for n l) l ≡ items_in (items_for n l) m) → Together l m agree
    settle k = elim (decided (record_in l) (record_in m)) [ yes e ↦ inl (same_letter e k.1) | no e ↦ inr (e, k.0) ]

    shown : (d : Diff) → Shown digest ((digest (record_in l) ≡ digest (record_in m)) × (items_in (items_for n l) l ≡ items_in (items_for n l) m)) d
        → Together l m d
    shown agree s = settle s
    shown (unequal x y) s = s

    two_fit : Together l m (difference (inputs digest (letter_tree digest n l)) (inputs digest (letter_tree digest n m)))
    unfolding item_count worked_root
    two_fit =
        let w = way n (index_in l) in
        let k = items_for n l in
        let xs = items_in k l in
        let ys = items_in k m in
        let dl = digest (record_in l) in
        let dm = digest (record_in m) in
        let e : root digest (fill w dl xs) ≡ root digest (fill w dm ys) = sym a.rooted ∙ b.rooted ∙ ap (root digest) tree_with in
        let tl : Tips32 (fill w dl xs) = letter_32 l in
        let tm : Tips32 (fill w dm ys) = rw tree_with at (letter_32 m) in
        rw tree_with
        (shown (difference (inputs digest (fill w dl xs)) (inputs digest (fill w dm ys)))
        (shown_map digest (fill w dl xs ≡ fill w dm ys) _ (difference (inputs digest (fill w dl xs)) (inputs digest (fill w dm ys)))
        (fill_inj w dl dm xs ys (items_length k l) (items_length k m))
        (bind digest digest_32 (fill_alike w dl dm xs ys) tl tm e)))

-- over the outcomes of two checks
pub two_letters : (digest : List ℕ → List ℕ) → ((x : List ℕ) → length (digest x) ≡ 32) → (size : ℕ) (trusted l m : List ℕ) → Bytes l → Bytes m
    → (check_outcome digest size trusted l).number ≡ 0 → (check_outcome digest size trusted m).number ≡ 0
    → (check_outcome digest size trusted l).index ≡ (check_outcome digest size trusted m).index
    → Together digest l m (difference (inputs digest (letter_tree digest (leaves size) l)) (inputs digest (letter_tree digest (leaves size) m)))
two_letters digest digest_32 size trusted l m bl bm p q one =
    let a = accepted_of digest size trusted l p in
    let b = accepted_of digest size trusted m q in
    let e : index_in l ≡ index_in m = ap (λ (o : CheckOutcome). o.index) (sym a.1) ∙ one ∙ ap (λ (o : CheckOutcome). o.index) b.1 in
    two_fit digest digest_32 size trusted l m bl bm (leaves size) a.0.fits b.0.fits e
