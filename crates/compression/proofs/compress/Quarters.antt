-- The columns and the diagonals of sixteen words, written out.
use Rattle.std.proofs.Common.{◌≡◌, ℕ, List, [], ◌∷◌, length, get_or, ap}
use Rattle.compression.specs.Compression.{mixed, mixed_at, columned, diagonaled}
use Rattle.words.specs.Build.{build, build_from}
use Rattle.words.proofs.Builds.{build_self}

-- the words a, b, c, d of s, mixed with the words i and j of m
abbrev pub at : List ℕ → List ℕ → ℕ → ℕ → ℕ → ℕ → ℕ → ℕ → List ℕ
at s m a b c d i j = mixed (get_or s a 0) (get_or s b 0) (get_or s c 0) (get_or s d 0) (get_or m i 0) (get_or m j 0)

pub columned_words : (s m : List ℕ) → length s ≡ 16
    → columned s m
    ≡ get_or (at s m 0 4 8 12 0 1) 0 0 ∷ get_or (at s m 1 5 9 13 2 3) 0 0 ∷ get_or (at s m 2 6 10 14 4 5) 0 0 ∷ get_or (at s m 3 7 11 15 6 7) 0 0
    ∷ get_or (at s m 0 4 8 12 0 1) 1 0 ∷ get_or (at s m 1 5 9 13 2 3) 1 0 ∷ get_or (at s m 2 6 10 14 4 5) 1 0 ∷ get_or (at s m 3 7 11 15 6 7) 1 0
    ∷ get_or (at s m 0 4 8 12 0 1) 2 0 ∷ get_or (at s m 1 5 9 13 2 3) 2 0 ∷ get_or (at s m 2 6 10 14 4 5) 2 0 ∷ get_or (at s m 3 7 11 15 6 7) 2 0
    ∷ get_or (at s m 0 4 8 12 0 1) 3 0 ∷ get_or (at s m 1 5 9 13 2 3) 3 0 ∷ get_or (at s m 2 6 10 14 4 5) 3 0 ∷ get_or (at s m 3 7 11 15 6 7) 3 0 ∷ []
unfolding columned mixed_at build build_from
columned_words s m e = ap (λ (x : List ℕ). columned x m) (build_self 16 s e)

pub diagonaled_words : (s m : List ℕ) → length s ≡ 16
    → diagonaled s m
    ≡ get_or (at s m 0 5 10 15 8 9) 0 0 ∷ get_or (at s m 1 6 11 12 10 11) 0 0 ∷ get_or (at s m 2 7 8 13 12 13) 0 0 ∷ get_or (at s m 3 4 9 14 14 15) 0 0
    ∷ get_or (at s m 3 4 9 14 14 15) 1 0 ∷ get_or (at s m 0 5 10 15 8 9) 1 0 ∷ get_or (at s m 1 6 11 12 10 11) 1 0 ∷ get_or (at s m 2 7 8 13 12 13) 1 0
    ∷ get_or (at s m 2 7 8 13 12 13) 2 0 ∷ get_or (at s m 3 4 9 14 14 15) 2 0 ∷ get_or (at s m 0 5 10 15 8 9) 2 0 ∷ get_or (at s m 1 6 11 12 10 11) 2 0
    ∷ get_or (at s m 1 6 11 12 10 11) 3 0 ∷ get_or (at s m 2 7 8 13 12 13) 3 0 ∷ get_or (at s m 3 4 9 14 14 15) 3 0 ∷ get_or (at s m 0 5 10 15 8 9) 3 0 ∷ []
unfolding diagonaled mixed_at build build_from
diagonaled_words s m e = ap (λ (x : List ℕ). diagonaled x m) (build_self 16 s e)

module _ (s m : List ℕ) (size : length s ≡ 16) {p q t u : List ℕ} where
  pub columned_from : p ≡ at s m 0 4 8 12 0 1 → q ≡ at s m 1 5 9 13 2 3 → t ≡ at s m 2 6 10 14 4 5 → u ≡ at s m 3 7 11 15 6 7
      → get_or p 0 0 ∷ get_or q 0 0 ∷ get_or t 0 0 ∷ get_or u 0 0 ∷ get_or p 1 0 ∷ get_or q 1 0 ∷ get_or t 1 0 ∷ get_or u 1 0
      ∷ get_or p 2 0 ∷ get_or q 2 0 ∷ get_or t 2 0 ∷ get_or u 2 0 ∷ get_or p 3 0 ∷ get_or q 3 0 ∷ get_or t 3 0 ∷ get_or u 3 0 ∷ []
      ≡ columned s m
  columned_from p' q' t' u' = cc (columned_words s m size)

  pub diagonaled_from : p ≡ at s m 0 5 10 15 8 9 → q ≡ at s m 1 6 11 12 10 11 → t ≡ at s m 2 7 8 13 12 13 → u ≡ at s m 3 4 9 14 14 15
      → get_or p 0 0 ∷ get_or q 0 0 ∷ get_or t 0 0 ∷ get_or u 0 0 ∷ get_or u 1 0 ∷ get_or p 1 0 ∷ get_or q 1 0 ∷ get_or t 1 0
      ∷ get_or t 2 0 ∷ get_or u 2 0 ∷ get_or p 2 0 ∷ get_or q 2 0 ∷ get_or q 3 0 ∷ get_or t 3 0 ∷ get_or u 3 0 ∷ get_or p 3 0 ∷ []
      ≡ diagonaled s m
  diagonaled_from p' q' t' u' = cc (diagonaled_words s m size)
