-- Blocks as words: padding, and two halves joined.
use mathlib.Core.Path.{◌≡◌, sym, ap, ap₂, ◌∙◌}
use mathlib.Core.List.{List, [], ◌∷◌, ◌++◌}
use Prim.Native.Nat.{ℕ, ◌+◌, ◌*◌, ◌<◌}
use native.Mathlib.Omega.{arith}
use lib.ListN.{length, get_or, get_or-append}
use lib.Seq.{get_or-append-add}
use Rattle.words.specs.Words.{word_at, words_of}
use Rattle.words.specs.Build.{build, build_from}
use Rattle.words.proofs.Builds.{build_same, build_self}

-- words are what the bytes say, those past the end being 0
pub words_same : (k : ℕ) (a b : List ℕ) → ((i : ℕ) → get_or a i 0 ≡ get_or b i 0) → words_of k a ≡ words_of k b
unfolding words_of word_at
words_same k a b h =
    build_same k (λ i. word_at a (4 * i)) (λ i. word_at b (4 * i))
    (λ i l. cc (h (4 * i), h (4 * i + 1), h (4 * i + 2), h (4 * i + 3)))

-- sixteen words, written out, are the eight of l and the eight of r
pub joined : (l r : List ℕ) → length l ≡ 8 → length r ≡ 8
    → get_or l 0 0 ∷ get_or l 1 0 ∷ get_or l 2 0 ∷ get_or l 3 0 ∷ get_or l 4 0 ∷ get_or l 5 0 ∷ get_or l 6 0 ∷ get_or l 7 0
    ∷ get_or r 0 0 ∷ get_or r 1 0 ∷ get_or r 2 0 ∷ get_or r 3 0 ∷ get_or r 4 0 ∷ get_or r 5 0 ∷ get_or r 6 0 ∷ get_or r 7 0 ∷ []
    ≡ l ++ r
unfolding build build_from
joined l r hl hr = sym (ap₂ (λ (x y : List ℕ). x ++ y) (build_self 8 l hl) (build_self 8 r hr))

-- the words of two halves of 32 bytes are the words of both
module _ (l r : List ℕ) (hl : length l ≡ 32) (hr : length r ≡ 32) where
  front : (k : ℕ) → k < 32 → get_or l k 0 ≡ get_or (l ++ r) k 0
  front k h = sym (get_or-append l r 0 k (omega arith))

  back : (k : ℕ) → get_or r k 0 ≡ get_or (l ++ r) (32 + k) 0
  back k = sym (ap (λ (j : ℕ). get_or (l ++ r) (j + k) 0) (sym hl) ∙ get_or-append-add l r k 0)

  word_front : (i : ℕ) → i < 8 → word_at l (4 * i) ≡ word_at (l ++ r) (4 * i)
  unfolding word_at
  word_front i h =
      cc (front (4 * i) (omega arith), front (4 * i + 1) (omega arith), front (4 * i + 2) (omega arith), front (4 * i + 3) (omega arith))

  word_back : (i : ℕ) → i < 8 → word_at r (4 * i) ≡ word_at (l ++ r) (4 * (8 + i))
  unfolding word_at
  word_back i h =
      let e0 : 32 + 4 * i ≡ 4 * (8 + i) = omega arith in
      let e1 : 32 + (4 * i + 1) ≡ 4 * (8 + i) + 1 = omega arith in
      let e2 : 32 + (4 * i + 2) ≡ 4 * (8 + i) + 2 = omega arith in
      let e3 : 32 + (4 * i + 3) ≡ 4 * (8 + i) + 3 = omega arith in
      cc (back (4 * i), back (4 * i + 1), back (4 * i + 2), back (4 * i + 3))

  pub words_joined : words_of 8 l ++ words_of 8 r ≡ words_of 16 (l ++ r)
  unfolding words_of build build_from
  words_joined =
      ap₂ (λ (x y : List ℕ). x ++ y)
      (build_same 8 (λ i. word_at l (4 * i)) (λ i. word_at (l ++ r) (4 * i)) word_front)
      (build_same 8 (λ i. word_at r (4 * i)) (λ i. word_at (l ++ r) (4 * (8 + i))) word_back)
