-- Laws of the first refusal by numbers alone: a step, the loop over the lengths, a full log.
use mathlib.Core.Path.{◌≡◌, refl, sym, ap, ◌∙◌}
use mathlib.Core.Logic.{by_cases, ◌≢◌}
use mathlib.Core.List.{List, [], ◌∷◌}
use Prim.Native.Nat.{ℕ, suc, ◌+◌, ◌-◌, ◌^◌, ◌≤◌, ◌<◌, min}
use native.Mathlib.Decide.{ℕ_discrete, dec_le}
use native.Mathlib.Nat.{add-zero}
use native.Mathlib.Omega.{arith}
use borrow.Author.Rules.{rules}
use borrow.Author.Tests.{eq-eqb, ne_eqb}
use lib.ListN.{length, get_or, drop, drop_of_length-le}
use Rattle.order.specs.Order.{first_number}
use Rattle.order.proofs.Laws.{first_is}
use Rattle.shape.proofs.Sizes.{size_mono}
use Rattle.records.specs.Records.{total}
use Rattle.records.proofs.Sums.{next_length, total_none, total_cons}
use Rattle.batch_foresight.specs.Foresight.{one_order, or_else, foreseen, foresight}
use Rattle.batch_foresight.specs.Steps.{Ample}

-- fewer leaves fit too
pub ample_less : {room m n : ℕ} → m ≤ n → Ample room n → Ample room m
ample_less {room} {m} {n} h a = record { few = omega (arith, a.few); fits = omega (arith, a.fits, size_mono m n h) }

-- ---- the first of two numbers that is not 0

pub or_here : (a b : ℕ) → a ≢ 0 → or_else a b ≡ a
unfolding or_else
or_here a b z = rw (ne_eqb a 0 z, or_else)

pub or_later : (a b : ℕ) → a ≡ 0 → or_else a b ≡ b
unfolding or_else
or_later a b z = rw (eq-eqb a 0 z, or_else)

or_three : (a b c : ℕ) → or_else (or_else a b) c ≡ or_else a (or_else b c)
or_three a b c =
    by_cases (ℕ_discrete a 0) (λ z. ap (λ (x : ℕ). or_else x c) (or_later a b z) ∙ sym (or_later a (or_else b c) z))
    (λ z. ap (λ (x : ℕ). or_else x c) (or_here a b z) ∙ or_here a c z ∙ sym (or_here a (or_else b c) z))

-- ---- the loop: what is left of the bytes, and the number so far, at length i

module _ (bytes room n : ℕ) (ks : List ℕ) where
  -- the lengths add up, or they do not
  pub foresight_sum : total ks ≡ bytes → foresight bytes room n ks ≡ foreseen room n ks
  unfolding foresight
  foresight_sum e = rw (eq-eqb (total ks) bytes e, foresight)

  pub foresight_off : total ks ≢ bytes → foresight bytes room n ks ≡ 16
  unfolding foresight
  foresight_off h = rw (ne_eqb (total ks) bytes h, foresight)

  pub record Foresees (left number i : ℕ) : Type 0 where
    pub within : i ≤ length ks
    pub sum : total ks + left ≡ bytes + total (drop i ks)
    pub same : or_else number (foreseen room (n + i) (drop i ks)) ≡ foreseen room n ks

  pub foresees_begin : Foresees bytes 0 0
  foresees_begin =
      record {
        within = omega arith;
        sum = omega arith;
        same = or_later 0 (foreseen room (n + 0) ks) refl ∙ ap (λ (x : ℕ). foreseen room x ks) (add-zero n);
      }

  module _ {left number i : ℕ} (f : Foresees left number i) where
    -- a length that is more than what is left
    pub foresees_short : i < length ks → left < get_or ks i 0 → 16 ≡ foresight bytes room n ks
    foresees_short p h =
        sym (foresight_off (λ e. omega (arith, f.sum, ap total (next_length ks i p), total_cons (get_or ks i 0) (drop (i + 1) ks))))

    -- one length more
    pub foresees_next : {later : ℕ} → i < length ks → get_or ks i 0 ≤ left
        → later ≡ or_else number (first_number (one_order room (n + i + 1) (get_or ks i 0))) → Foresees (left - get_or ks i 0) later (i + 1)
    unfolding foreseen
    foresees_next {later} p h e =
        let k = get_or ks i 0 in
        let first = first_number (one_order room (suc (n + i)) k) in
        let a : n + i + 1 ≡ suc (n + i) = omega arith in
        let b : n + (i + 1) ≡ suc (n + i) = omega arith in
        let d : later ≡ or_else number first = e ∙ ap (λ (m : ℕ). or_else number (first_number (one_order room m k))) a in
        record {
          within = omega arith;
          sum = omega (arith, f.sum, ap total (next_length ks i p), total_cons k (drop (i + 1) ks));
          same =
              ap (λ (x : ℕ). or_else x (foreseen room (n + (i + 1)) (drop (i + 1) ks))) d
              ∙ ap (λ (x : ℕ). or_else (or_else number first) (foreseen room x (drop (i + 1) ks))) b
              ∙ or_three number first (foreseen room (suc (n + i)) (drop (i + 1) ks))
              ∙ ap (λ (xs : List ℕ). or_else number (foreseen room (n + i) xs)) (sym (next_length ks i p))
              ∙ f.same;
        }

    -- the end: they add up, or they do not
    module _ (p : length ks ≤ i) where
      over : drop i ks ≡ []
      over = drop_of_length-le ks {i = i} p

      pub foresees_sum : left ≡ 0 → number ≡ foresight bytes room n ks
      unfolding foreseen
      foresees_sum z =
          let e : total ks ≡ bytes = omega (arith, f.sum, ap total over, total_none) in
          let g : number ≡ or_else number 0 =
          by_cases (ℕ_discrete number 0) (λ y. y ∙ sym (or_later number 0 y)) (λ y. sym (or_here number 0 y)) in
          g ∙ sym (ap (λ (xs : List ℕ). or_else number (foreseen room (n + i) xs)) over) ∙ f.same ∙ sym (foresight_sum e)

      pub foresees_off : left ≢ 0 → 16 ≡ foresight bytes room n ks
      foresees_off z = sym (foresight_off (λ e. z (omega (arith, f.sum, ap total over, total_none))))

-- ---- a full log, and more

full : (room n k : ℕ) (ks : List ℕ) → 2 ^ 32 ≤ n → foreseen room n (k ∷ ks) ≡ 2
unfolding foreseen
full room n k ks h =
    let e : 2 ≡ first_number (one_order room (suc n) k) = first_is 2 _ (search rules) in
    ap (λ (x : ℕ). or_else x (foreseen room (suc n) ks)) (sym e) ∙ or_here 2 (foreseen room (suc n) ks) (λ z. omega arith)

pub foreseen_full : (room m n : ℕ) (ks : List ℕ) → 2 ^ 32 ≤ m → 2 ^ 32 ≤ n → foreseen room m ks ≡ foreseen room n ks
unfolding foreseen
foreseen_full room m n [] g h = refl
foreseen_full room m n (k ∷ ks) g h = full room m k ks g ∙ sym (full room n k ks h)

-- what was foreseen of 2^32 leaves, where there are more
pub foresight_within : (bytes room n : ℕ) (ks : List ℕ) {base : ℕ} → base ≡ min n (2 ^ 32) → foresight bytes room base ks ≡ foresight bytes room n ks
foresight_within bytes room n ks {base} e =
    by_cases (dec_le n (2 ^ 32)) (λ h. let z : base ≡ n = omega arith in ap (λ (x : ℕ). foresight bytes room x ks) z)
    (λ h.
    let f = foreseen_full room base n ks (omega arith) (omega arith) in
    by_cases (ℕ_discrete (total ks) bytes) (λ s. foresight_sum bytes room base ks s ∙ f ∙ sym (foresight_sum bytes room n ks s))
    (λ s. foresight_off bytes room base ks s ∙ sym (foresight_off bytes room n ks s)))
