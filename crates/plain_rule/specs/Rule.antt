-- The plain rule: the root of a list of records, over any digest function. It can be read alone, with `powers` for the words at its heart.
-- One record gives its digest; more are split after the largest power of two below their number, and the root is the digest of the two sides' roots.
use Rattle.std.specs.Prelude.{◌≡◌, List, [], ◌∷◌, ◌++◌, ℕ, ◌≤◌, length, take, drop}
use Rattle.powers.specs.Largest.{LargestPowerBelow}

-- records, split: one alone; or more, after the largest power of two below their number, and each side again
pub data Split : List (List ℕ) → Type 0 where
  one : (r : List ℕ) → Split (r ∷ [])
  more : (rs : List (List ℕ)) (m : ℕ) → LargestPowerBelow (length rs) m → Split (take m rs) → Split (drop m rs) → Split rs

-- the root of records that are split so
abbrev pub plain_root : (List ℕ → List ℕ) → {rs : List (List ℕ)} → Split rs → List ℕ
plain_root digest (one r) = digest r
plain_root digest (more rs m p left right) = digest (plain_root digest left ++ plain_root digest right)

-- `split_some`: every list of records but the empty one is split so ..
abbrev pub SplitSome : Type 0
SplitSome = (rs : List (List ℕ)) → 1 ≤ length rs → Split rs

-- `plain_only`: .. and has one root
abbrev pub PlainOnly : Type 0
PlainOnly = (digest : List ℕ → List ℕ) (rs : List (List ℕ)) (s t : Split rs) → plain_root digest s ≡ plain_root digest t
