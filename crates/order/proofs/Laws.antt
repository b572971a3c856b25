-- Laws of the refusal order: how an answer is reached, what an answer tells, an order in two parts, one outcome.
use mathlib.Core.Logic.{◌≢◌}
use mathlib.Core.Path.{◌≡◌, refl, sym, ap, ap₂, ◌∙◌}
use mathlib.Core.Bool.{Bool, true, false, not, ◌&&◌, true≢false}
use mathlib.Core.List.{List, [], ◌∷◌, ◌++◌}
use Prim.Native.Nat.{ℕ}
use native.Mathlib.Omega.{arith}
use borrow.Author.Tests.{ltb-true, eqb-true, eqb-false, not-true}
use lib.Dec.{T, ltb, eqb}
use Rattle.order.specs.Order.{Test, applies, Refusal, ◌if◌, verdict, first_number}
use Rattle.order.proofs.Tests.{Fails, false_of, fails_of, by_test}

-- no refusal of an order applies
abbrev pub Passes : List Refusal → Type 0
Passes [] = Unit
Passes (m if t ∷ later) = Fails t × Passes later

abbrev pub Step : Bool → Test → Type 0 → Type 0
Step true t Later = Fails t → Later
Step false t Later = Fails t × Later

-- the first refusal that applies has the number n: one with another number fails, and one with n applies or leaves it to a later one
abbrev pub Refuses : ℕ → List Refusal → Type 0
Refuses n [] = ⊥
Refuses n (m if t ∷ later) = Step (eqb n m) t (Refuses n later)

-- every number of an order is above 0: `tt`, where the order is written out
abbrev pub numbered : List Refusal → Bool
numbered [] = true
numbered (m if t ∷ later) = ltb 0 m && numbered later

-- a computed test before two others, one of which follows from the other
later : (b p q : Bool) → (T p → T q) → T (b && p) → T (b && q)
later true p q f h = f h
later false p q f h = elim h [ ]

-- an order in two parts
pub numbered_append : (xs ys : List Refusal) → T (numbered xs) → T (numbered ys) → T (numbered (xs ++ ys))
numbered_append [] ys p q = q
numbered_append (m if t ∷ xs) ys p q = later (ltb 0 m) (numbered xs) (numbered (xs ++ ys)) (λ h. numbered_append xs ys h q) p

-- ---- one refusal, and then the whole order

module _ (t : Test) (Later : Type 0) where
  hit : (n m : ℕ) (b : Bool) → eqb n m ≡ b → Step b t Later → applies t ≡ true → m ≡ n
  hit n m true f h e = sym (eqb-true n m f)
  hit n m false f h e = absurd (true≢false (sym e ∙ false_of t h.0))

  miss : (b : Bool) → Step b t Later → applies t ≡ false → Later
  miss true h e = h (fails_of t e)
  miss false h e = h.1

module _ {X : Type 0} (refused : ℕ → X) (done : X) where
  module _ (m : ℕ) (t : Test) (later : List Refusal) where
    stop : applies t ≡ true → verdict refused (m if t ∷ later) done ≡ refused m
    unfolding verdict
    stop e = rw (e, verdict)

    next : applies t ≡ false → verdict refused (m if t ∷ later) done ≡ verdict refused later done
    unfolding verdict
    next e = rw (e, verdict)

  reach : (n : ℕ) (order : List Refusal) → Refuses n order → verdict refused order done ≡ refused n
  reach n [] h = absurd h
  reach n (m if t ∷ later) h =
      by_test t (λ e. stop m t later e ∙ ap refused (hit t _ n m (eqb n m) refl h e))
      (λ e. next m t later e ∙ reach n later (miss t _ (eqb n m) h e))

  pass : (order : List Refusal) → Passes order → verdict refused order done ≡ done
  unfolding verdict
  pass [] h = refl
  pass (m if t ∷ later) h = next m t later (false_of t h.0) ∙ pass later h.1

-- ---- how an answer is reached

-- at a return with the refusal n
pub refuses : {X : Type 0} (n : ℕ) (refused : ℕ → X) (order : List Refusal) (done : X) {r : X}
    → r ≡ refused n → Refuses n order → r ≡ verdict refused order done
refuses n refused order done e h = e ∙ sym (reach refused done n order h)

-- at the return that is done
pub passes : {X : Type 0} (refused : ℕ → X) (order : List Refusal) (done : X) {r : X}
    → r ≡ done → Passes order → r ≡ verdict refused order done
passes refused order done e h = e ∙ sym (pass refused done order h)

-- the number alone
pub first_is : (n : ℕ) (order : List Refusal) → Refuses n order → n ≡ first_number order
unfolding first_number
first_is n order h = sym (reach (λ m. m) 0 n order h)

pub first_none : (order : List Refusal) → Passes order → 0 ≡ first_number order
unfolding first_number
first_none order h = sym (pass (λ m. m) 0 order h)

-- a refusal that does not apply leaves it to the later ones
pub first_next : (m : ℕ) (t : Test) (later : List Refusal) → Fails t → first_number (m if t ∷ later) ≡ first_number later
unfolding first_number
first_next m t later h = next (λ k. k) 0 m t later (false_of t h)

-- two orders that begin with one refusal
pub verdict_both : {X : Type 0} (refused : ℕ → X) (m : ℕ) (t : Test) (xs ys : List Refusal) (x y : X)
    → (Fails t → verdict refused xs x ≡ verdict refused ys y) → verdict refused (m if t ∷ xs) x ≡ verdict refused (m if t ∷ ys) y
verdict_both refused m t xs ys x y h =
    by_test t (λ e. stop refused x m t xs e ∙ sym (stop refused y m t ys e))
    (λ e. next refused x m t xs e ∙ h (fails_of t e) ∙ sym (next refused y m t ys e))

pub first_both : (m : ℕ) (t : Test) (xs ys : List Refusal) → (Fails t → first_number xs ≡ first_number ys) → first_number (m if t ∷ xs) ≡ first_number (m if t ∷ ys)
unfolding first_number
first_both m t xs ys h = verdict_both (λ k. k) m t xs ys 0 0 h

-- ---- what an answer tells

-- a computed test of every entry, taken apart at the first
both : (p q : Bool) → T (p && q) → (p ≡ true) × T q
both true q h = (refl, h)
both false q h = elim h [ ]

-- the number 0 is that of no refusal
pub clear : (order : List Refusal) → T (numbered order) → first_number order ≡ 0 → Passes order
unfolding first_number
clear [] h z = tt
clear (m if t ∷ later) h z =
    let a = both (ltb 0 m) (numbered later) h in
    by_test t (λ e. absurd (omega (arith, ltb-true 0 m a.0, sym (stop (λ k. k) 0 m t later e) ∙ z)))
    (λ e. (fails_of t e, clear later a.1 (sym (next (λ k. k) 0 m t later e) ∙ z)))

module _ {X : Type 0} (refused : ℕ → X) (done : X) where
  -- the answer by its number
  pub refused_by : (order : List Refusal) → first_number order ≢ 0 → verdict refused order done ≡ refused (first_number order)
  unfolding first_number verdict
  refused_by [] h = absurd (h refl)
  refused_by (m if t ∷ later) h =
      by_test t (λ e. stop refused done m t later e ∙ ap refused (sym (stop (λ k. k) 0 m t later e)))
      (λ e.
      let n = next (λ k. k) 0 m t later e in
      next refused done m t later e ∙ refused_by later (λ z. h (n ∙ z)) ∙ ap refused (sym n))

  pub done_by : (order : List Refusal) → T (numbered order) → first_number order ≡ 0 → verdict refused order done ≡ done
  done_by order h z = pass refused done order (clear order h z)

-- what is read off an answer
pub verdict_map : {X Y : Type 0} (f : X → Y) (refused : ℕ → X) (order : List Refusal) (done : X)
    → f (verdict refused order done) ≡ verdict (λ n. f (refused n)) order (f done)
unfolding verdict
verdict_map f refused [] done = refl
verdict_map {Y = Y} f refused (m if t ∷ later) done =
    let g : ℕ → Y = λ n. f (refused n) in
    by_test t (λ e. ap f (stop refused done m t later e) ∙ sym (stop g (f done) m t later e))
    (λ e. ap f (next refused done m t later e) ∙ verdict_map f refused later done ∙ sym (next g (f done) m t later e))

module _ {X : Type 0} (number : X → ℕ) (refused : ℕ → X) (order : List Refusal) (done : X)
    (is : (n : ℕ) → number (refused n) ≡ n) (zero : number done ≡ 0) {r : X} (e : r ≡ verdict refused order done) where
  pub number_is : number r ≡ first_number order
  unfolding first_number
  number_is =
      ap number e ∙ verdict_map number refused order done
      ∙ ap₂ (λ (f : ℕ → ℕ) (z : ℕ). verdict f order z) (λ i n. is n i) zero

  -- an answer with the number 0: no refusal applies, and it is the done one
  pub accepted : T (numbered order) → number r ≡ 0 → Passes order × (r ≡ done)
  accepted h z =
      let f : first_number order ≡ 0 = sym number_is ∙ z in
      (clear order h f, e ∙ done_by refused done order h f)

  -- any other is the refusal with its number
  pub refusal : number r ≢ 0 → r ≡ refused (number r)
  refusal h = e ∙ refused_by refused done order (λ z. h (number_is ∙ z)) ∙ ap refused (sym number_is)

-- ---- an order in two parts

-- what passes the whole passes both parts, and the other way round
pub pass_parts : (xs ys : List Refusal) → Passes (xs ++ ys) → Passes xs × Passes ys
pass_parts [] ys p = (tt, p)
pass_parts (m if t ∷ later) ys p = let b = pass_parts later ys p.1 in ((p.0, b.0), b.1)

pub pass_whole : (xs ys : List Refusal) → Passes xs → Passes ys → Passes (xs ++ ys)
pass_whole [] ys p q = q
pass_whole (m if t ∷ later) ys p q = (p.0, pass_whole later ys p.1 q)

pub verdict_append : {X : Type 0} (refused : ℕ → X) (xs ys : List Refusal) (done : X)
    → verdict refused (xs ++ ys) done ≡ verdict refused xs (verdict refused ys done)
unfolding verdict
verdict_append refused [] ys done = refl
verdict_append refused (m if t ∷ later) ys done =
    let then = verdict refused ys done in
    by_test t (λ e. stop refused done m t (later ++ ys) e ∙ sym (stop refused then m t later e))
    (λ e. next refused done m t (later ++ ys) e ∙ verdict_append refused later ys done ∙ sym (next refused then m t later e))

module _ {X : Type 0} (refused : ℕ → X) (xs ys : List Refusal) (done : X) {r : X} where
  -- the first part decides, by its number
  pub early : r ≡ refused (first_number xs) → first_number xs ≢ 0 → r ≡ verdict refused (xs ++ ys) done
  early e h = e ∙ sym (verdict_append refused xs ys done ∙ refused_by refused (verdict refused ys done) xs h)

  -- the first part passes, and the second decides
  pub late : Passes xs → r ≡ verdict refused ys done → r ≡ verdict refused (xs ++ ys) done
  late h e = e ∙ sym (verdict_append refused xs ys done ∙ pass refused (verdict refused ys done) xs h)

-- the same of the number alone
module _ {number : ℕ} (xs ys : List Refusal) where
  pub first_early : number ≢ 0 → number ≡ first_number xs → number ≡ first_number (xs ++ ys)
  unfolding first_number
  first_early h e = early (λ n. n) xs ys 0 e (λ z. h (e ∙ z))

  pub first_late : Passes xs → number ≡ first_number ys → number ≡ first_number (xs ++ ys)
  unfolding first_number
  first_late p e = late (λ n. n) xs ys 0 p e

-- ---- two outcomes

-- what is done matters only where no refusal applies
pub verdict_done : {X : Type 0} (refused : ℕ → X) (order : List Refusal) {x y : X} → (Passes order → x ≡ y)
    → verdict refused order x ≡ verdict refused order y
unfolding verdict
verdict_done refused [] h = h tt
verdict_done refused (m if t ∷ later) {x} {y} h = verdict_both refused m t later later x y (λ f. verdict_done refused later (λ p. h (f, p)))

-- one test for another that applies where it does
pub verdict_test : {X : Type 0} (refused : ℕ → X) (xs ys : List Refusal) (m : ℕ) (t u : Test) (done : X) → applies t ≡ applies u
    → verdict refused (xs ++ (m if t ∷ ys)) done ≡ verdict refused (xs ++ (m if u ∷ ys)) done
verdict_test refused xs ys m t u done e =
    verdict_append refused xs (m if t ∷ ys) done
    ∙ ap (verdict refused xs) (one e)
    ∙ sym (verdict_append refused xs (m if u ∷ ys) done)
  where
    one : applies t ≡ applies u → verdict refused (m if t ∷ ys) done ≡ verdict refused (m if u ∷ ys) done
    one e =
        by_test t (λ p. stop refused done m t ys p ∙ sym (stop refused done m u ys (sym e ∙ p)))
        (λ p. next refused done m t ys p ∙ sym (next refused done m u ys (sym e ∙ p)))

-- a refusal that never applies where those before it do not, left out
pub verdict_idle : {X : Type 0} (refused : ℕ → X) (xs : List Refusal) (m : ℕ) (t : Test) (ys : List Refusal) (done : X) → (Passes xs → Fails t)
    → verdict refused (xs ++ (m if t ∷ ys)) done ≡ verdict refused (xs ++ ys) done
verdict_idle refused [] m t ys done h = next refused done m t ys (false_of t (h tt))
verdict_idle refused (k if u ∷ xs) m t ys done h =
    verdict_both refused k u (xs ++ (m if t ∷ ys)) (xs ++ ys) done done (λ f. verdict_idle refused xs m t ys done (λ p. h (f, p)))

-- ---- a number that an order does not have

-- no entry of an order has the number n: `tt`, where the order is written out
abbrev pub lacks : ℕ → List Refusal → Bool
lacks n [] = true
lacks n (m if t ∷ later) = not (eqb n m) && lacks n later

-- it is answered to no input
pub never : (n : ℕ) (order : List Refusal) → T (lacks n order) → n ≢ 0 → first_number order ≢ n
unfolding first_number verdict
never n [] h z e = z (sym e)
never n (m if t ∷ later) h z e =
    let a = both (not (eqb n m)) (lacks n later) h in
    by_test t (λ p. eqb-false n m (not-true (eqb n m) a.0) (sym e ∙ stop (λ k. k) 0 m t later p))
    (λ p. never n later a.1 z (sym (next (λ k. k) 0 m t later p) ∙ e))

-- ---- one outcome

-- two answers that meet one equation are equal, where the outcome tells answers apart
pub determined : {X A : Type 0} (outcome : A → X) → ((a b : A) → outcome a ≡ outcome b → a ≡ b) → (x : X) {a b : A}
    → outcome a ≡ x → outcome b ≡ x → a ≡ b
determined outcome apart x {a} {b} p q = apart a b (p ∙ sym q)
