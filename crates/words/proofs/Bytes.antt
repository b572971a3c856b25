-- The four bytes of word i, the low one first, are bytes 4 * i to 4 * i + 3 of the words.
use Rattle.std.proofs.Common.{◌≡◌, ℕ, zero, suc, ◌+◌, ◌-◌, ◌*◌, ◌/◌, ◌%◌, ◌^◌, ◌<◌, List, [], ◌∷◌, length, get_or, ap, ap₂, ◌∙◌, arith}
use borrow.Rule.Slice.PartMut.{put_mid}
use Rattle.words.specs.Words.{byte_of}
use Rattle.words.proofs.Fill.{Fills, fills_less, fills_put}

module _ (w bs : List ℕ) (i : ℕ) (e : bs ≡ get_or w i 0 % 256 ∷ get_or w i 0 / 256 % 256 ∷ get_or w i 0 / 65536 % 256 ∷ get_or w i 0 / 16777216 % 256 ∷ [])
  where
    at : (j : ℕ) → j < 4 → get_or bs j 0 ≡ get_or w i 0 / 2 ^ (8 * j) % 256 → get_or bs j 0 ≡ byte_of w (4 * i + j)
    unfolding byte_of
    at j h p =
        let q : i ≡ (4 * i + j) / 4 = omega arith in
        let r : j ≡ (4 * i + j) % 4 = omega arith in
        p ∙ ap₂ (λ (x y : ℕ). get_or w x 0 / 2 ^ (8 * y) % 256) q r

    each : (j : ℕ) → j < 4 → get_or bs j 0 ≡ byte_of w (4 * i + j)
    each zero h = at 0 h (let x : get_or bs 0 0 ≡ get_or w i 0 % 256 = ap (λ (l : List ℕ). get_or l 0 0) e in omega arith)
    each (suc zero) h = at 1 h (ap (λ (l : List ℕ). get_or l 1 0) e)
    each (suc (suc zero)) h = at 2 h (ap (λ (l : List ℕ). get_or l 2 0) e)
    each (suc (suc (suc zero))) h = at 3 h (ap (λ (l : List ℕ). get_or l 3 0) e)
    each (suc (suc (suc (suc j)))) h = absurd (omega arith)

    pub fills_word : {out new : List ℕ} → i < 8 → new ≡ bs → Fills (byte_of w) 32 out (4 * i)
        → Fills (byte_of w) 32 (put_mid (4 * i) (4 * i + 4 - 4 * i) out new) (4 * (i + 1))
    fills_word h n g =
        let four : length bs ≡ 4 = ap length e in
        fills_less (omega arith) (fills_put bs n (omega arith) (omega arith) (λ j l. each j (omega arith)) g)
