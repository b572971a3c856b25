-- Whatever is read of a log of n leaves lies below its size: two functions from position to digest that agree there give the same peaks folded, the
-- same items, and show the same on the way to a leaf. Over any digest function.
use mathlib.Core.Path.{◌≡◌, refl, sym, ap, ap₂, ◌∙◌}
use mathlib.Core.Logic.{by_cases}
use mathlib.Core.List.{List, [], ◌∷◌, ◌++◌, map}
use Prim.Native.Nat.{ℕ, zero, suc, ◌+◌, ◌-◌, ◌^◌, ◌≤◌, ◌<◌}
use native.Mathlib.Decide.{dec_le, dec_lt}
use native.Mathlib.Omega.{arith}
use lib.Pow.{pow_pos}
use Rattle.wire.specs.Slices.{differ}
use Rattle.shape.specs.Sizes.{size_of, height_of}
use Rattle.shape.specs.Positions.{top, behind, peaks_in, peaks, alone, positions_in, item_positions, fold}
use Rattle.shape.specs.Seen.{either, sides, seen_in, seen, broken_in, broken}
use Rattle.shape.proofs.Heights.{height_holds, height_above}
use Rattle.shape.proofs.Sizes.{size_power, size_peak, size_split}
use Rattle.shape.proofs.Peaks.{peaks_skip, peaks_take}
use Rattle.shape.proofs.Positions.{positions_one, positions_low, positions_left, positions_right, positions_past}
use Rattle.shape.proofs.Seen.{seen_low, seen_left, seen_right, top_differs, broken_one, broken_low, broken_left, broken_right}

-- leaves on two sides, from position s on, whose nodes end below m: so do the left child, and the nodes of each side
record Split (h n s m : ℕ) : Type 0 where
  child : top h s < m
  lefts : s + size_of (2 ^ h) ≤ m
  rights : behind h s + size_of (n - 2 ^ h) ≤ m

split_of : (h n s m : ℕ) → 2 ^ h < n → n ≤ 2 ^ suc h → s + size_of n ≤ m → Split h n s m
split_of h n s m p q b =
    let k = size_split h n p q in
    let w = size_power h in
    let z = pow_pos h in
    record { child = omega arith; lefts = omega arith; rights = omega arith }

-- all of some positions lie below m
abbrev Below : ℕ → List ℕ → Type 0
Below m [] = Unit {0}
Below m (p ∷ ps) = (p < m) × Below m ps

abbrev AllBelow : ℕ → List (List ℕ) → Type 0
AllBelow m [] = Unit {0}
AllBelow m (ps ∷ pss) = Below m ps × AllBelow m pss

below_behind : (m : ℕ) (pss : List (List ℕ)) (ps : List ℕ) → AllBelow m pss → Below m ps → AllBelow m (pss ++ (ps ∷ []))
below_behind m [] ps a b = (b, tt)
below_behind m (x ∷ pss) ps a b = (a.0, below_behind m pss ps a.1 b)

-- peaks and items
peaks_below : (m k n s : ℕ) → n < 2 ^ k → s + size_of n ≤ m → Below m (peaks_in k n s)
unfolding peaks_in
peaks_below m zero n s p b = tt
peaks_below m (suc k) n s p b =
    by_cases (dec_le (2 ^ k) n)
    (λ a.
    let r : n ≡ 2 ^ k + (n - 2 ^ k) = omega arith in
    let w : size_of n ≡ 2 ^ suc k - 1 + size_of (n - 2 ^ k) = ap size_of r ∙ size_peak k (n - 2 ^ k) (omega arith) in
    let z = pow_pos k in
    rw (peaks_take k n s a) (omega arith, peaks_below m k (n - 2 ^ k) (behind k s) (omega arith) (omega arith)))
    (λ a. rw (peaks_skip k n s (omega arith)) (peaks_below m k n s (omega arith) b))

items_below : (m h n i s : ℕ) → i < n → n ≤ 2 ^ h → s + size_of n ≤ m → AllBelow m (positions_in (suc h) n i s)
items_below m zero n i s p q b = rw (positions_one n i s q p) tt
items_below m (suc h) n i s p q b =
    by_cases (dec_le n (2 ^ h))
    (λ a. rw (positions_low h n i s a) (items_below m h n i s p a b))
    (λ a.
    let t = split_of h n s m (omega arith) q b in
    by_cases (dec_lt i (2 ^ h))
    (λ c.
    rw (positions_left h n i s (omega arith) q c)
    (below_behind m (positions_in (suc h) (2 ^ h) i s) (peaks_in (suc h) (n - 2 ^ h) (behind h s))
    (items_below m h (2 ^ h) i s c (omega arith) t.lefts)
    (peaks_below m (suc h) (n - 2 ^ h) (behind h s) (omega (arith, pow_pos h)) t.rights)))
    (λ c.
    let r = items_below m h (n - 2 ^ h) (i - 2 ^ h) (behind h s) (omega arith) (omega arith) t.rights in
    by_cases (dec_lt n (2 ^ suc h))
    (λ k. rw (positions_past h n i s (omega arith) k (omega arith)) ((t.child, tt), r))
    (λ k.
    rw (positions_right h n i s (omega arith) (omega arith) p)
    (below_behind m (positions_in (suc h) (n - 2 ^ h) (i - 2 ^ h) (behind h s)) (alone (top h s)) r (t.child, tt)))))

module _ (digest : List ℕ → List ℕ) (f g : ℕ → List ℕ) (m : ℕ) (e : (p : ℕ) → p < m → f p ≡ g p) where
  fold_same : (ps : List ℕ) → Below m ps → fold digest f ps ≡ fold digest g ps
  fold_same [] b = refl
  fold_same (p ∷ []) b = e p b.0
  fold_same (p ∷ q ∷ ps) b = ap₂ (λ (x y : List ℕ). digest (x ++ y)) (e p b.0) (fold_same (q ∷ ps) b.1)

  folds_same : (pss : List (List ℕ)) → AllBelow m pss → map (fold digest f) pss ≡ map (fold digest g) pss
  folds_same [] b = refl
  folds_same (ps ∷ pss) b = ap₂ {C = List (List ℕ)} (λ (x : List ℕ) (xs : List (List ℕ)). x ∷ xs) (fold_same ps b.0) (folds_same pss b.1)

  sides_same : (h n s : ℕ) → 2 ^ h < n → n ≤ 2 ^ suc h → s + size_of n ≤ m → sides digest f h n s ≡ sides digest g h n s
  sides_same h n s p q b =
      let t = split_of h n s m p q b in
      ap₂ (λ (x y : List ℕ). x ++ y) (e (top h s) t.child)
      (fold_same (peaks_in (suc h) (n - 2 ^ h) (behind h s)) (peaks_below m (suc h) (n - 2 ^ h) (behind h s) (omega (arith, pow_pos h)) t.rights))

  seen_same : (h n i s : ℕ) → n ≤ 2 ^ h → s + size_of n ≤ m → seen_in digest f h n i s ≡ seen_in digest g h n i s
  unfolding seen_in
  seen_same zero n i s q b = refl
  seen_same (suc h) n i s q b =
      by_cases (dec_le n (2 ^ h))
      (λ a. seen_low digest f h n i s a ∙ seen_same h n i s a b ∙ sym (seen_low digest g h n i s a))
      (λ a.
      let t = split_of h n s m (omega arith) q b in
      let x = sides_same h n s (omega arith) q b in
      by_cases (dec_lt i (2 ^ h))
      (λ c.
      seen_left digest f h n i s (omega arith) c
      ∙ ap₂ {C = List (List ℕ)} (λ (y : List ℕ) (ys : List (List ℕ)). y ∷ ys) x (seen_same h (2 ^ h) i s (omega arith) t.lefts)
      ∙ sym (seen_left digest g h n i s (omega arith) c))
      (λ c.
      seen_right digest f h n i s (omega arith) (omega arith)
      ∙ ap₂ {C = List (List ℕ)} (λ (y : List ℕ) (ys : List (List ℕ)). y ∷ ys) x
      (seen_same h (n - 2 ^ h) (i - 2 ^ h) (behind h s) (omega arith) t.rights)
      ∙ sym (seen_right digest g h n i s (omega arith) (omega arith))))

  top_same : (h n s : ℕ) → 2 ^ h < n → n ≤ 2 ^ suc h → s + size_of n ≤ m → top_differs digest f h n s ≡ top_differs digest g h n s
  top_same h n s p q b =
      ap₂ (λ (x y : List ℕ). differ x (digest y))
      (fold_same (peaks_in (suc (suc h)) n s) (peaks_below m (suc (suc h)) n s (omega (arith, pow_pos h)) b)) (sides_same h n s p q b)

  broken_same : (h n i s : ℕ) → i < n → n ≤ 2 ^ h → s + size_of n ≤ m → broken_in digest f (suc h) n i s ≡ broken_in digest g (suc h) n i s
  broken_same zero n i s p q b = broken_one digest f n i s q p ∙ sym (broken_one digest g n i s q p)
  broken_same (suc h) n i s p q b =
      by_cases (dec_le n (2 ^ h))
      (λ a. broken_low digest f h n i s a ∙ broken_same h n i s p a b ∙ sym (broken_low digest g h n i s a))
      (λ a.
      let t = split_of h n s m (omega arith) q b in
      let x = top_same h n s (omega arith) q b in
      by_cases (dec_lt i (2 ^ h))
      (λ c.
      broken_left digest f h n i s (omega arith) q c
      ∙ ap₂ either x (broken_same h (2 ^ h) i s c (omega arith) t.lefts)
      ∙ sym (broken_left digest g h n i s (omega arith) q c))
      (λ c.
      broken_right digest f h n i s (omega arith) q (omega arith) p
      ∙ ap₂ either x (broken_same h (n - 2 ^ h) (i - 2 ^ h) (behind h s) (omega arith) (omega arith) t.rights)
      ∙ sym (broken_right digest g h n i s (omega arith) q (omega arith) p)))

module _ (digest : List ℕ → List ℕ) (f g : ℕ → List ℕ) (n : ℕ) (e : (p : ℕ) → p < size_of n → f p ≡ g p) where
  -- the peaks folded, as for the root
  pub peaks_local : fold digest f (peaks n) ≡ fold digest g (peaks n)
  unfolding peaks
  peaks_local = fold_same digest f g (size_of n) e (peaks n) (peaks_below (size_of n) (suc (height_of n)) n 0 (height_above n) (omega arith))

  -- the items of index i
  pub items_local : (i : ℕ) → i < n → map (fold digest f) (item_positions n i) ≡ map (fold digest g) (item_positions n i)
  unfolding item_positions
  items_local i p =
      folds_same digest f g (size_of n) e (item_positions n i) (items_below (size_of n) (height_of n) n i 0 p (height_holds n) (omega arith))

  -- what is shown on the way to leaf i, and whether a node there is broken
  pub seen_local : (i : ℕ) → seen digest f n i ≡ seen digest g n i
  unfolding seen
  seen_local i = seen_same digest f g (size_of n) e (height_of n) n i 0 (height_holds n) (omega arith)

  pub broken_local : (i : ℕ) → i < n → broken digest f n i ≡ broken digest g n i
  unfolding broken
  broken_local i p = broken_same digest f g (size_of n) e (height_of n) n i 0 p (height_holds n) (omega arith)
