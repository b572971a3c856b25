-- Half-time: the view of the old log in the new one is a view of the new log, and it gives the old peaks first, tallest first.
use mathlib.Core.Path.{◌≡◌, refl, sym, ap, ap₂, ◌∙◌}
use mathlib.Core.Logic.{by_cases}
use mathlib.Core.List.{List, [], ◌∷◌, ◌++◌, map, append_assoc}
use Prim.Native.Nat.{ℕ, zero, suc, ◌+◌, ◌-◌, ◌^◌, ◌≤◌, ◌<◌}
use native.Mathlib.Decide.{dec_le, dec_lt}
use native.Mathlib.Omega.{arith}
use lib.ListN.{length, length-append, length-map, take}
use lib.Seq.{take_at}
use lib.Pow.{pow_pos}
use borrow.Author.Tests.{le-leb, lt-leb, eq-eqb, ne_eqb}
use Rattle.shape.specs.Sizes.{height_of}
use Rattle.shape.specs.Positions.{behind, peaks_in, peaks}
use Rattle.shape.proofs.Heights.{height_holds, any_height}
use Rattle.shape.proofs.Peaks.{peaks_any, peaks_low, peaks_full, peaks_more}
use Rattle.views.specs.View.{given, both, givens, askeds, ViewOf}
use Rattle.views.specs.Start.{start_in, start, old}
use Rattle.views.specs.Shows.{on_top, gives_by}
use Rattle.views.proofs.Sides.{side_is, top_peak, gives_fork}
use Rattle.views.proofs.Nodes.{gives_exact}

-- ---- its equations

pub start_low : (h o n : ℕ) → n ≤ 2 ^ h → start_in (suc h) o n ≡ start_in h o n
unfolding start_in
start_low h o n p = rw (le-leb n (2 ^ h) p, start_in)

pub start_left : (h o n : ℕ) → 2 ^ h < n → o ≤ 2 ^ h → start_in (suc h) o n ≡ both (start_in h o (2 ^ h)) given
unfolding start_in
start_left h o n p q = rw (lt-leb n (2 ^ h) p, start_in, le-leb o (2 ^ h) q)

pub start_right : (h o n : ℕ) → 2 ^ h < n → 2 ^ h < o → o < 2 ^ suc h
    → start_in (suc h) o n ≡ both given (start_in h (o - 2 ^ h) (n - 2 ^ h))
unfolding start_in
start_right h o n p q r = rw (lt-leb n (2 ^ h) p, start_in, lt-leb o (2 ^ h) q, ne_eqb o (2 ^ suc h) (λ e. omega arith))

-- one peak that is all of both logs
pub start_peak : (h o n : ℕ) → o ≡ 2 ^ h → n ≡ 2 ^ h → start_in h o n ≡ given
unfolding start_in
start_peak zero o n p q = refl
start_peak (suc h) o n p q =
    rw (
      lt-leb n (2 ^ h) (omega (arith, pow_pos h)),
      start_in,
      lt-leb o (2 ^ h) (omega (arith, pow_pos h)),
      eq-eqb o (2 ^ suc h) p,
    )

pub start_any : (h o n : ℕ) → n ≤ 2 ^ h → start_in h o n ≡ start o n
unfolding start
start_any h o n p = any_height (λ (k : ℕ). start_in k o n) n (λ k q. start_low k o n q) h p

-- what holds of every view of this kind
pub start_ind : (P : ℕ → ℕ → ℕ → Type 0)
    → ((o n : ℕ) → 0 < o → o ≤ n → n ≤ 1 → P 0 o n)
    → ((h o n : ℕ) → 0 < o → o ≤ n → n ≤ 2 ^ h → P h o n → P (suc h) o n)
    → ((h o n : ℕ) → 0 < o → o ≤ 2 ^ h → 2 ^ h < n → n ≤ 2 ^ suc h → P h o (2 ^ h) → P (suc h) o n)
    → ((h o n : ℕ) → 2 ^ h < o → o < 2 ^ suc h → o ≤ n → n ≤ 2 ^ suc h → P h (o - 2 ^ h) (n - 2 ^ h) → P (suc h) o n)
    → ((h o n : ℕ) → o ≡ 2 ^ suc h → n ≡ 2 ^ suc h → P (suc h) o n)
    → (h o n : ℕ) → 0 < o → o ≤ n → n ≤ 2 ^ h → P h o n
start_ind P one low left right peak zero o n z p q = one o n z p q
start_ind P one low left right peak (suc h) o n z p q =
    by_cases (dec_le n (2 ^ h))
    (λ a. low h o n z p a (start_ind P one low left right peak h o n z p a))
    (λ a. by_cases (dec_le o (2 ^ h))
    (λ b. left h o n z b (omega arith) q (start_ind P one low left right peak h o (2 ^ h) z b (omega arith)))
    (λ b. by_cases (dec_lt o (2 ^ suc h))
    (λ c.
    right h o n (omega arith) c p q
    (start_ind P one low left right peak h (o - 2 ^ h) (n - 2 ^ h) (omega arith) (omega arith) (omega arith)))
    (λ c. peak h o n (omega arith) (omega arith))))

-- it is a view of n leaves, and asks for none
pub start_view : (h o n : ℕ) → 0 < o → o ≤ n → n ≤ 2 ^ h → ViewOf n (start_in h o n)
start_view =
    start_ind (λ h o n. ViewOf n (start_in h o n))
    (λ o n z p q. let e : start_in 0 o n ≡ given = start_peak 0 o n (omega arith) (omega arith) in rw e tt)
    (λ h o n z p q i. rw (start_low h o n q) i)
    (λ h o n z p q r i. rw (start_left h o n q p, side_is h n q r) (omega (arith, pow_pos h), i, tt))
    (λ h o n p q r t i. rw (start_right h o n (omega arith) p q, side_is h n (omega arith) t) (omega (arith, pow_pos h), tt, i))
    (λ h o n p q. rw (start_peak (suc h) o n p q) tt)

pub start_asks : (h o n : ℕ) → 0 < o → o ≤ n → n ≤ 2 ^ h → askeds (start_in h o n) ≡ 0
start_asks =
    start_ind (λ h o n. askeds (start_in h o n) ≡ 0)
    (λ o n z p q. rw (start_peak 0 o n (omega arith) (omega arith)))
    (λ h o n z p q i. rw (start_low h o n q) i)
    (λ h o n z p q r i. rw (start_left h o n q p, i))
    (λ h o n p q r t i. rw (start_right h o n (omega arith) p q, i))
    (λ h o n p q. rw (start_peak (suc h) o n p q))

-- at most one digest for each height
pub start_most : (h o n : ℕ) → 0 < o → o ≤ n → n ≤ 2 ^ h → givens (start_in h o n) ≤ suc h
start_most =
    start_ind (λ h o n. givens (start_in h o n) ≤ suc h)
    (λ o n z p q. rw (start_peak 0 o n (omega arith) (omega arith)) (omega arith))
    (λ h o n z p q i. rw (start_low h o n q) (omega arith))
    (λ h o n z p q r i. rw (start_left h o n q p) (omega arith))
    (λ h o n p q r t i. rw (start_right h o n (omega arith) p q) (omega arith))
    (λ h o n p q. rw (start_peak (suc h) o n p q) (omega arith))

module _ (digest : List ℕ → List ℕ) (node : ℕ → List ℕ) where
  -- of the old log it gives the peaks
  pub old_peaks_in : (h o s : ℕ) → 0 < o → o ≤ 2 ^ h → gives_by digest node (start_in h o o) o s ≡ map node (peaks_in (suc h) o s)
  old_peaks_in zero o s z q =
      let e : o ≡ 1 = omega arith in
      rw (start_peak 0 o o e e, peaks_full 0 o s e, e) (ap (λ (x : List ℕ). x ∷ []) (top_peak digest node 0 s))
  old_peaks_in (suc h) o s z q =
      by_cases (dec_le o (2 ^ h))
      (λ a. rw (start_low h o o a, peaks_low h o s a) (old_peaks_in h o s z a))
      (λ a. by_cases (dec_lt o (2 ^ suc h))
      (λ b.
      let c : 2 ^ h < o = omega arith in
      rw (start_right h o o c c b, peaks_more h o s c b)
      (gives_fork digest node given (start_in h (o - 2 ^ h) (o - 2 ^ h)) h o s c q
      ∙ ap₂ (λ (x : List ℕ) (xs : List (List ℕ)). x ∷ xs) (top_peak digest node h s)
      (old_peaks_in h (o - 2 ^ h) (behind h s) (omega arith) (omega arith))))
      (λ b.
      let e : o ≡ 2 ^ suc h = omega arith in
      rw (start_peak (suc h) o o e e, peaks_full (suc h) o s e, e) (ap (λ (x : List ℕ). x ∷ []) (top_peak digest node (suc h) s))))

  -- of the new log it gives the same nodes first
  abbrev Begins : ℕ → ℕ → ℕ → Type 0
  Begins h o n =
      (s : ℕ) → (more : List (List ℕ)) × (gives_by digest node (start_in h o n) n s ≡ map node (peaks_in (suc h) o s) ++ more)

  pub start_begins : (h o n : ℕ) → 0 < o → o ≤ n → n ≤ 2 ^ h → (s : ℕ)
      → (more : List (List ℕ)) × (gives_by digest node (start_in h o n) n s ≡ map node (peaks_in (suc h) o s) ++ more)
  start_begins =
      start_ind Begins
      (λ o n z p q s.
      let e : n ≡ 1 = omega arith in
      let f : o ≡ 1 = omega arith in
      ([], rw (start_peak 0 o n f e, peaks_full 0 o s f, e) (ap (λ (x : List ℕ). x ∷ []) (top_peak digest node 0 s))))
      (λ h o n z p q i s. ((i s).0, rw (start_low h o n q, peaks_low h o s (omega arith)) (i s).1))
      (λ h o n z p q r i s. (
        (i s).0 ++ (on_top digest node (n - 2 ^ h) (behind h s) ∷ []),
        rw (start_left h o n q p, peaks_low h o s p)
            (gives_fork digest node (start_in h o (2 ^ h)) given h n s q r
            ∙ rw (i s).1 (append_assoc (map node (peaks_in (suc h) o s)) (i s).0 (on_top digest node (n - 2 ^ h) (behind h s) ∷ []))),
      ))
      (λ h o n p q r t i s. (
        (i (behind h s)).0,
        rw (start_right h o n (omega arith) p q, peaks_more h o s p q)
            (gives_fork digest node given (start_in h (o - 2 ^ h) (n - 2 ^ h)) h n s (omega arith) t
            ∙ ap₂ (λ (x : List ℕ) (xs : List (List ℕ)). x ∷ xs) (top_peak digest node h s) (i (behind h s)).1),
      ))
      (λ h o n p q s. (
        [],
        rw (start_peak (suc h) o n p q, peaks_full (suc h) o s p, q)
            (ap (λ (x : List ℕ). x ∷ []) (top_peak digest node (suc h) s)),
      ))

-- ---- no height

module _ (o n : ℕ) (z : 0 < o) (p : o ≤ n) where
  pub start_of : ViewOf n (start o n)
  unfolding start
  start_of = start_view (height_of n) o n z p (height_holds n)

  pub start_askeds : askeds (start o n) ≡ 0
  unfolding start
  start_askeds = start_asks (height_of n) o n z p (height_holds n)

module _ (digest : List ℕ → List ℕ) (node : ℕ → List ℕ) (o : ℕ) (z : 0 < o) where
  -- the old log's peaks, tallest first
  pub old_peaks : gives_by digest node (old o) o 0 ≡ map node (peaks o)
  unfolding start peaks
  old_peaks = old_peaks_in digest node (height_of o) o 0 z (height_holds o)

  pub old_givens : givens (old o) ≡ length (peaks o)
  old_givens = sym (gives_exact digest node (old o) o 0) ∙ ap length old_peaks ∙ length-map (peaks o) node

  -- the new log gives at the old peaks' places first
  pub start_peaks : (n : ℕ) → o ≤ n
      → (more : List (List ℕ)) × (gives_by digest node (start o n) n 0 ≡ map node (peaks o) ++ more)
  unfolding start peaks
  start_peaks n p =
      let e = peaks_any (height_of n) o 0 (omega (arith, height_holds n)) in
      let b = start_begins digest node (height_of n) o n z p (height_holds n) 0 in
      (b.0, rw e at b.1)

  pub start_first : (n : ℕ) → o ≤ n → take (givens (old o)) (gives_by digest node (start o n) n 0) ≡ gives_by digest node (old o) o 0
  start_first n p =
      let b = start_peaks n p in
      rw (b.1, old_peaks) (take_at (map node (peaks o)) b.0 (givens (old o)) (length-map (peaks o) node ∙ sym old_givens))

  -- at least as many digests of the new log
  pub start_more : (n : ℕ) → o ≤ n → givens (old o) ≤ givens (start o n)
  start_more n p =
      let b = start_peaks n p in
      let e : length (gives_by digest node (start o n) n 0) ≡ length (peaks o) + length b.0 =
      ap length b.1 ∙ length-append (map node (peaks o)) b.0 ∙ ap (λ (k : ℕ). k + length b.0) (length-map (peaks o) node) in
      omega (arith, gives_exact digest node (start o n) n 0, old_givens)
