-- The way to a leaf: its equations, that it leads there, and that it has at most h turns where there are at most 2^h leaves.
use mathlib.Core.Path.{◌≡◌, ◌∙◌}
use mathlib.Core.Logic.{by_cases}
use mathlib.Core.Bool.{Bool, true, false}
use mathlib.Core.List.{List, [], ◌∷◌}
use Prim.Native.Nat.{ℕ, zero, suc, ◌+◌, ◌-◌, ◌^◌, ◌≤◌, ◌<◌}
use native.Mathlib.Decide.{dec_le, dec_lt}
use native.Mathlib.Omega.{arith}
use lib.ListN.{length, length-drop, get_or, take, drop}
use lib.Seq.{length-take-le, get_or-take, get_or-drop}
use lib.Pow.{pow_pos}
use lib.Dec.{eqb}
use borrow.Author.Tests.{le-leb, lt-leb, lt-ltb, le-ltb, eq-eqb, ne_eqb}
use Rattle.shape.specs.Tree.{Tree, fork, Turn, left, right, past}
use Rattle.shape.specs.Folded.{tree_in, tree}
use Rattle.shape.specs.Letter.{rightward, Leads, here, to_left, to_right_lem, to_past}
use Rattle.shape.specs.Way.{way_in, way}
use Rattle.shape.proofs.Heights.{any_height, height_holds}
use Rattle.shape.proofs.Trees.{tree_low, tree_high}

pub way_low : (h n i : ℕ) → n ≤ 2 ^ h → way_in (suc h) n i ≡ way_in h n i
unfolding way_in
way_low h n i p = rw (le-leb n (2 ^ h) p, way_in)

pub way_left : (h n i : ℕ) → 2 ^ h < n → i < 2 ^ h → way_in (suc h) n i ≡ left ∷ way_in h (2 ^ h) i
unfolding way_in
way_left h n i p q = rw (lt-leb n (2 ^ h) p, way_in, lt-ltb i (2 ^ h) q)

-- any right turn
pub way_turn : (h n i : ℕ) → 2 ^ h < n → 2 ^ h ≤ i
    → way_in (suc h) n i ≡ rightward (eqb n (2 ^ suc h)) ∷ way_in h (n - 2 ^ h) (i - 2 ^ h)
unfolding way_in
way_turn h n i p q = rw (lt-leb n (2 ^ h) p, way_in, le-ltb i (2 ^ h) q)

pub way_right : (h n i : ℕ) → n ≡ 2 ^ suc h → 2 ^ h ≤ i → way_in (suc h) n i ≡ right ∷ way_in h (n - 2 ^ h) (i - 2 ^ h)
way_right h n i e q = way_turn h n i (omega (arith, pow_pos h)) q ∙ rw (eq-eqb n (2 ^ suc h) e)

pub way_past : (h n i : ℕ) → 2 ^ h < n → n < 2 ^ suc h → 2 ^ h ≤ i → way_in (suc h) n i ≡ past ∷ way_in h (n - 2 ^ h) (i - 2 ^ h)
way_past h n i p r q = way_turn h n i p q ∙ rw (ne_eqb n (2 ^ suc h) (λ f. omega arith))

pub way_any : (h n i : ℕ) → n ≤ 2 ^ h → way_in h n i ≡ way n i
unfolding way
way_any h n i p = any_height (λ (k : ℕ). way_in k n i) n (λ k q. way_low k n i q) h p

to_rightward : (b : Bool) {l r : Tree} {w : List Turn} {d : List ℕ} → Leads r w d → Leads (fork l r) (rightward b ∷ w) d
to_rightward true p = to_right_lem p
to_rightward false p = to_past p

abbrev LeadsIn : ℕ → List (List ℕ) → ℕ → Type 0
LeadsIn h ds i = Leads (tree_in h ds) (way_in h (length ds) i) (get_or ds i [])

pub leads_in : (h : ℕ) (ds : List (List ℕ)) (i : ℕ) → i < length ds → length ds ≤ 2 ^ h
    → Leads (tree_in h ds) (way_in h (length ds) i) (get_or ds i [])
unfolding tree_in way_in
leads_in zero ds i p q = let z : i ≡ 0 = omega arith in rw z here
leads_in (suc h) ds i p q =
    by_cases (dec_le (length ds) (2 ^ h))
    (λ a. rw (tree_low h ds a, way_low h (length ds) i a) (leads_in h ds i p a))
    (λ a.
    let l : 2 ^ h < length ds = omega arith in
    let n : length (take (2 ^ h) ds) ≡ 2 ^ h = length-take-le (2 ^ h) ds (omega arith) in
    let m : length (drop (2 ^ h) ds) ≡ length ds - 2 ^ h = length-drop (2 ^ h) ds in
    by_cases (dec_lt i (2 ^ h))
    (λ c.
    let t : LeadsIn h (take (2 ^ h) ds) i = leads_in h (take (2 ^ h) ds) i (omega arith) (omega arith) in
    rw (tree_high h ds l, way_left h (length ds) i l c) (to_left (rw (n, get_or-take (2 ^ h) ds i [] c) at t)))
    (λ c.
    let e : 2 ^ h + (i - 2 ^ h) ≡ i = omega arith in
    let t : LeadsIn h (drop (2 ^ h) ds) (i - 2 ^ h) = leads_in h (drop (2 ^ h) ds) (i - 2 ^ h) (omega arith) (omega arith) in
    rw (tree_high h ds l, way_turn h (length ds) i l (omega arith))
    (to_rightward (eqb (length ds) (2 ^ suc h)) (rw (m, get_or-drop (2 ^ h) ds (i - 2 ^ h) [], e) at t))))

-- the way to leaf i leads to it
pub way_leads : (ds : List (List ℕ)) (i : ℕ) → i < length ds → Leads (tree ds) (way (length ds) i) (get_or ds i [])
unfolding tree way
way_leads ds i p = leads_in _ ds i p (height_holds (length ds))

-- at most as many turns as the height
pub way_most : (h n i : ℕ) → length (way_in h n i) ≤ h
unfolding way_in
way_most zero n i = omega arith
way_most (suc h) n i =
    by_cases (dec_le n (2 ^ h))
    (λ a. rw (way_low h n i a) (omega (arith, way_most h n i)))
    (λ a. by_cases (dec_lt i (2 ^ h))
    (λ c. rw (way_left h n i (omega arith) c) (omega (arith, way_most h (2 ^ h) i)))
    (λ c. rw (way_turn h n i (omega arith) (omega arith)) (omega (arith, way_most h (n - 2 ^ h) (i - 2 ^ h)))))

pub way_at_most : (h n i : ℕ) → n ≤ 2 ^ h → length (way n i) ≤ h
way_at_most h n i p = rw (← way_any h n i p) (way_most h n i)
