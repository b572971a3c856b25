-- Laws of records cut from joined bytes.
use mathlib.Core.Path.{◌≡◌, refl, sym, ap, ap₂, ◌∙◌}
use mathlib.Core.List.{List, [], ◌∷◌, ◌++◌, map}
use Prim.Native.Nat.{ℕ, suc, ◌+◌, ◌≤◌}
use native.Mathlib.Nat.{le_of_eq}
use native.Mathlib.Omega.{arith}
use lib.ListN.{length, take, drop, take-append-drop, length-append, length-drop}
use lib.Seq.{length-take-le, take_at, drop_at, drop-drop, take-append-le, drop-append-le}
use Rattle.wire.specs.Slices.{joined}
use Rattle.records.specs.Records.{total, cut}
use Rattle.records.proofs.Sums.{total_none, total_cons}

-- the first record, and the others
pub cut_next : (k : ℕ) (ks bs : List ℕ) → cut (k ∷ ks) bs ≡ take k bs ∷ cut ks (drop k bs)
unfolding cut
cut_next k ks bs = refl

-- one record for each length
pub cut_count : (ks bs : List ℕ) → length (cut ks bs) ≡ length ks
unfolding cut
cut_count [] bs = refl
cut_count (k ∷ ks) bs = ap suc (cut_count ks (drop k bs))

-- each as long as its length says
pub cut_lengths : (ks bs : List ℕ) → total ks ≤ length bs → map length (cut ks bs) ≡ ks
unfolding cut
cut_lengths [] bs h = refl
cut_lengths (k ∷ ks) bs h =
    ap₂ (λ (x : ℕ) (xs : List ℕ). x ∷ xs) (length-take-le k bs (omega (arith, total_cons k ks)))
    (cut_lengths ks (drop k bs) (omega (arith, total_cons k ks, length-drop k bs)))

-- joined again they are the bytes
pub cut_joined : (ks bs : List ℕ) → total ks ≡ length bs → joined (cut ks bs) ≡ bs
unfolding cut joined
cut_joined [] [] h = refl
cut_joined [] (b ∷ bs) h = absurd (omega (arith, total_none))
cut_joined (k ∷ ks) bs h =
    ap (λ (x : List ℕ). take k bs ++ x) (cut_joined ks (drop k bs) (omega (arith, total_cons k ks, length-drop k bs)))
    ∙ take-append-drop k bs

-- records joined together and cut by their lengths are those records
pub joined_cut : (rs : List (List ℕ)) → cut (map length rs) (joined rs) ≡ rs
unfolding cut joined
joined_cut [] = refl
joined_cut (r ∷ rs) =
    ap₂ (λ (x : List ℕ) (xs : List (List ℕ)). x ∷ xs) (take_at r (joined rs) (length r) refl)
    (ap (cut (map length rs)) (drop_at r (joined rs) (length r) refl) ∙ joined_cut rs)

pub joined_total : (rs : List (List ℕ)) → total (map length rs) ≡ length (joined rs)
unfolding total joined
joined_total [] = refl
joined_total (r ∷ rs) = ap (λ (x : ℕ). length r + x) (joined_total rs) ∙ sym (length-append r (joined rs))

-- two lists, one behind the other
pub cut_append : (js ks bs : List ℕ) → cut (js ++ ks) bs ≡ cut js bs ++ cut ks (drop (total js) bs)
unfolding cut total
cut_append [] ks bs = refl
cut_append (j ∷ js) ks bs =
    ap (λ (x : List (List ℕ)). take j bs ∷ x)
    (cut_append js ks (drop j bs) ∙ ap (λ (x : List ℕ). cut js (drop j bs) ++ cut ks x) (drop-drop (total js) j bs))

-- bytes beyond the sum are not looked at
pub cut_front : (ks bs cs : List ℕ) → total ks ≤ length bs → cut ks (bs ++ cs) ≡ cut ks bs
unfolding cut
cut_front [] bs cs h = refl
cut_front (k ∷ ks) bs cs h =
    let s = total_cons k ks in
    let e : drop k (bs ++ cs) ≡ drop k bs ++ cs = drop-append-le k bs cs (omega arith) in
    ap₂ (λ (x : List ℕ) (xs : List (List ℕ)). x ∷ xs) (take-append-le k bs cs (omega arith))
    (ap (cut ks) e ∙ cut_front ks (drop k bs) cs (omega (arith, length-drop k bs)))

pub cut_both : (js ks bs cs : List ℕ) → total js ≡ length bs → cut (js ++ ks) (bs ++ cs) ≡ cut js bs ++ cut ks cs
cut_both js ks bs cs h =
    cut_append js ks (bs ++ cs)
    ∙ ap₂ (λ (x y : List (List ℕ)). x ++ y) (cut_front js bs cs (le_of_eq h)) (ap (cut ks) (drop_at bs cs (total js) (sym h)))
