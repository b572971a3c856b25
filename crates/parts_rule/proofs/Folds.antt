-- The stack of finished subtrees: folded it is the tree, and a finished chunk is pushed on it by the ones of their number.
use mathlib.Core.Path.{◌≡◌, refl, sym, ap, ap₂, ◌∙◌}
use mathlib.Core.List.{List, [], ◌∷◌, ◌++◌}
use mathlib.Core.Logic.{by_cases}
use Prim.Native.Nat.{ℕ, zero, suc, ◌+◌, ◌-◌, ◌*◌, ◌/◌, ◌^◌, ◌≤◌, ◌<◌}
use native.Mathlib.Nat.{pow-suc}
use native.Mathlib.Decide.{dec_le, dec_lt}
use native.Mathlib.Omega.{arith}
use lib.ListN.{length, take, drop, length-drop, length-append}
use lib.Seq.{take_at, drop_at, drop-drop, take-append-le, drop-append-le}
use lib.Pow.{pow_pos}
use lib.Count.{ones}
use borrow.Author.Tests.{le-leb, lt-leb}
use Rattle.compression.proofs.Lengths.{compressed_length}
use Rattle.chunks.specs.Chunks.{chunked}
use Rattle.blake.specs.Blake.{parented, treed}
use Rattle.blake.proofs.Sides.{short_suc, long_suc}
use Rattle.parts_rule.specs.Subtrees.{finished, lefts_in, last_chunk, folded, pushed}
use Rattle.parts_rule.proofs.Numbers.{ones_zero, ones_top, ones_some}

-- numbers, p for 2 ^ h
right_finished : (p len : ℕ) → 1024 * p < len → p + (len - 1024 * p - 1) / 1024 ≡ (len - 1) / 1024
right_finished p len l = omega arith

same_short : (p a b c : ℕ) → c ≡ a + b → 1 ≤ p → (a + b - 1) / 1024 ≡ (a - 1) / 1024 → a ≤ 1024 * p → c ≤ 1024 * p
same_short p a b c e q f l = omega arith

same_right : (p a b r : ℕ) → r ≡ a - 1024 * p → 1024 * p < a → (a + b - 1) / 1024 ≡ (a - 1) / 1024 → (r + b - 1) / 1024 ≡ (r - 1) / 1024
same_right p a b r e l f = omega arith

few : (p r : ℕ) → 1 ≤ p → r ≤ 1024 * p → (r - 1) / 1024 < p
few p r q l = omega arith

one_more : (x : List ℕ) (ls : List (List ℕ)) → length (x ∷ ls) ≡ 1 + length ls
one_more x ls = omega arith

module _ (key : List ℕ) (flag : ℕ) where
  pub lefts_low : (h n : ℕ) (bs : List ℕ) → length bs ≤ 1024 * 2 ^ h → lefts_in key flag (suc h) n bs ≡ lefts_in key flag h n bs
  unfolding lefts_in
  lefts_low h n bs l = rw (le-leb (length bs) (1024 * 2 ^ h) l, lefts_in)

  pub lefts_high : (h n : ℕ) (bs : List ℕ) → 1024 * 2 ^ h < length bs
      → lefts_in key flag (suc h) n bs
      ≡ treed h key flag 0 n (take (1024 * 2 ^ h) bs) ∷ lefts_in key flag h (n + 2 ^ h) (drop (1024 * 2 ^ h) bs)
  unfolding lefts_in
  lefts_high h n bs l = rw (lt-leb (length bs) (1024 * 2 ^ h) l, lefts_in)

  -- one chunk has no finished subtree
  pub lefts_one : (h n : ℕ) (bs : List ℕ) → length bs ≤ 1024 → lefts_in key flag h n bs ≡ []
  unfolding lefts_in
  lefts_one zero n bs l = refl
  lefts_one (suc h) n bs l = lefts_low h n bs (omega (arith, pow_pos h)) ∙ lefts_one h n bs l

  last_one : (n : ℕ) (bs : List ℕ) (root : ℕ) → length bs ≤ 1024 → chunked key flag root n bs ≡ last_chunk key flag n bs root
  last_one n bs root l =
      let e : 0 ≡ (length bs - 1) / 1024 = omega arith in
      let m : n ≡ n + 0 = omega arith in
      ap (λ (k : ℕ). chunked key flag root k bs) m ∙ ap (λ (k : ℕ). chunked key flag root (n + k) (drop (1024 * k) bs)) e

  last_right : (h n : ℕ) (bs : List ℕ) (root : ℕ) → 1024 * 2 ^ h < length bs
      → last_chunk key flag (n + 2 ^ h) (drop (1024 * 2 ^ h) bs) root ≡ last_chunk key flag n bs root
  last_right h n bs root l =
      let c = finished (length (drop (1024 * 2 ^ h) bs)) in
      let e : 2 ^ h + c ≡ finished (length bs) =
      ap (λ (x : ℕ). 2 ^ h + (x - 1) / 1024) (length-drop (1024 * 2 ^ h) bs) ∙ right_finished (2 ^ h) (length bs) l in
      let m : n + 2 ^ h + c ≡ n + finished (length bs) = omega arith in
      let d : 1024 * 2 ^ h + 1024 * c ≡ 1024 * finished (length bs) = omega arith in
      ap₂ (chunked key flag root) m (drop-drop (1024 * c) (1024 * 2 ^ h) bs ∙ ap (λ (k : ℕ). drop k bs) d)

  pub folded_cons : (root : ℕ) (l : List ℕ) (ls : List (List ℕ)) (last : ℕ → List ℕ)
      → folded key flag root (l ∷ ls) last ≡ parented key flag root l (folded key flag 0 ls last)
  unfolding folded
  folded_cons root l ls last = refl

  pub folded_nil : (root : ℕ) (last : ℕ → List ℕ) → folded key flag root [] last ≡ last root
  unfolding folded
  folded_nil root last = refl

  pub parented_length : (root : ℕ) (l r : List ℕ) → length (parented key flag root l r) ≡ 8
  unfolding parented
  parented_length root l r = compressed_length _ _ _ _ _

  pub folded_length : (ls : List (List ℕ)) (v : List ℕ) → length v ≡ 8 → length (folded key flag 0 ls (λ root. v)) ≡ 8
  unfolding folded
  folded_length [] v e = e
  folded_length (l ∷ ls) v e = parented_length 0 l (folded key flag 0 ls (λ root. v))

  pub folded_snoc : (ls : List (List ℕ)) (l v : List ℕ)
      → folded key flag 0 (ls ++ (l ∷ [])) (λ root. v) ≡ folded key flag 0 ls (λ root. parented key flag 0 l v)
  unfolding folded
  folded_snoc [] l v = refl
  folded_snoc (x ∷ ls) l v = ap (parented key flag 0 x) (folded_snoc ls l v)

  -- the finished subtrees and the last chunk, folded, are the tree
  pub tree_folded : (h root n : ℕ) (bs : List ℕ) → length bs ≤ 1024 * 2 ^ h
      → treed h key flag root n bs ≡ folded key flag root (lefts_in key flag h n bs) (last_chunk key flag n bs)
  unfolding treed lefts_in folded
  tree_folded zero root n bs l = last_one n bs root (omega arith)
  tree_folded (suc h) root n bs l =
      by_cases (dec_le (length bs) (1024 * 2 ^ h))
      (λ a.
      sym (short_suc key flag root n bs h a) ∙ tree_folded h root n bs a
      ∙ ap (λ (ls : List (List ℕ)). folded key flag root ls (last_chunk key flag n bs)) (sym (lefts_low h n bs a)))
      (λ a.
      let b : 1024 * 2 ^ h < length bs = omega arith in
      let r = drop (1024 * 2 ^ h) bs in
      let lr : length r ≤ 1024 * 2 ^ h = omega (arith, length-drop (1024 * 2 ^ h) bs, pow-suc 2 h) in
      sym (long_suc key flag root n bs h b)
      ∙ ap (parented key flag root (treed h key flag 0 n (take (1024 * 2 ^ h) bs)))
      (tree_folded h 0 (n + 2 ^ h) r lr
      ∙ ap (folded key flag 0 (lefts_in key flag h (n + 2 ^ h) r)) (λ i root. last_right h n bs root b i))
      ∙ sym (folded_cons root (treed h key flag 0 n (take (1024 * 2 ^ h) bs)) (lefts_in key flag h (n + 2 ^ h) r) (last_chunk key flag n bs))
      ∙ ap (λ (ls : List (List ℕ)). folded key flag root ls (last_chunk key flag n bs)) (sym (lefts_high h n bs b)))

  -- bytes that finish no chunk leave the subtrees as they are
  pub lefts_same : (h n : ℕ) (bs y : List ℕ) → finished (length bs + length y) ≡ finished (length bs)
      → lefts_in key flag h n (bs ++ y) ≡ lefts_in key flag h n bs
  unfolding lefts_in
  lefts_same zero n bs y e = refl
  lefts_same (suc h) n bs y e =
      by_cases (dec_le (length bs) (1024 * 2 ^ h))
      (λ a.
      let la : length (bs ++ y) ≤ 1024 * 2 ^ h = same_short (2 ^ h) (length bs) (length y) (length (bs ++ y)) (length-append bs y) (pow_pos h) e a in
      lefts_low h n (bs ++ y) la ∙ lefts_same h n bs y e ∙ sym (lefts_low h n bs a))
      (λ a.
      let b : 1024 * 2 ^ h < length bs = omega arith in
      let bb : 1024 * 2 ^ h < length (bs ++ y) = omega (arith, length-append bs y) in
      let r = drop (1024 * 2 ^ h) bs in
      let er : finished (length r + length y) ≡ finished (length r) =
      same_right (2 ^ h) (length bs) (length y) (length r) (length-drop (1024 * 2 ^ h) bs) b e in
      lefts_high h n (bs ++ y) bb
      ∙ ap₂ (λ (t u : List ℕ). treed h key flag 0 n t ∷ lefts_in key flag h (n + 2 ^ h) u)
      (take-append-le (1024 * 2 ^ h) bs y (omega arith)) (drop-append-le (1024 * 2 ^ h) bs y (omega arith))
      ∙ ap (λ (ls : List (List ℕ)). treed h key flag 0 n (take (1024 * 2 ^ h) bs) ∷ ls) (lefts_same h (n + 2 ^ h) r y er)
      ∙ sym (lefts_high h n bs b))

  -- there are as many as the number of finished chunks has ones
  pub lefts_count : (h n : ℕ) (bs : List ℕ) → length bs ≤ 1024 * 2 ^ h
      → length (lefts_in key flag h n bs) ≡ ones (finished (length bs))
  unfolding lefts_in
  lefts_count zero n bs l = sym ones_zero ∙ ap ones (let e : 0 ≡ (length bs - 1) / 1024 = omega arith in e)
  lefts_count (suc h) n bs l =
      by_cases (dec_le (length bs) (1024 * 2 ^ h))
      (λ a. ap length (lefts_low h n bs a) ∙ lefts_count h n bs a)
      (λ a.
      let b : 1024 * 2 ^ h < length bs = omega arith in
      let r = drop (1024 * 2 ^ h) bs in
      let lr : length r ≤ 1024 * 2 ^ h = omega (arith, length-drop (1024 * 2 ^ h) bs, pow-suc 2 h) in
      let c = finished (length r) in
      let e : 2 ^ h + c ≡ finished (length bs) =
      ap (λ (x : ℕ). 2 ^ h + (x - 1) / 1024) (length-drop (1024 * 2 ^ h) bs) ∙ right_finished (2 ^ h) (length bs) b in
      let lc : c < 2 ^ h = few (2 ^ h) (length r) (pow_pos h) lr in
      let s : length (lefts_in key flag h (n + 2 ^ h) r) ≡ ones c = lefts_count h (n + 2 ^ h) r lr in
      ap length (lefts_high h n bs b) ∙ one_more (treed h key flag 0 n (take (1024 * 2 ^ h) bs)) (lefts_in key flag h (n + 2 ^ h) r)
      ∙ ap (λ (x : ℕ). 1 + x) s ∙ sym (ones_top h c lc) ∙ ap ones e)

  -- only the value at root flag 0 counts in a fold without it
  pub folded_zero : (ls : List (List ℕ)) (f g : ℕ → List ℕ) → f 0 ≡ g 0 → folded key flag 0 ls f ≡ folded key flag 0 ls g
  unfolding folded
  folded_zero [] f g e = e
  folded_zero (l ∷ ls) f g e = ap (parented key flag 0 l) (folded_zero ls f g e)

  -- the same of a fold with it, where there are subtrees
  pub folded_later : (root : ℕ) (ls : List (List ℕ)) (f g : ℕ → List ℕ) → 0 < length ls → f 0 ≡ g 0 → folded key flag root ls f
      ≡ folded key flag root ls g
  unfolding folded
  folded_later root [] f g l e = absurd (omega arith)
  folded_later root (x ∷ ls) f g l e = ap (parented key flag root x) (folded_zero ls f g e)

  -- a finished chunk is folded with all but so many subtrees as the new number has ones, less one
  abbrev chunk_of : ℕ → ℕ → List ℕ → List ℕ
  chunk_of n m bs = chunked key flag 0 (n + (m - 1)) (drop (1024 * (m - 1)) bs)

  abbrev Pushes : ℕ → ℕ → ℕ → List ℕ → List ℕ → Type 0
  Pushes h n m bs y =
      lefts_in key flag h n (bs ++ y) ≡ pushed key flag (ones m - 1) (lefts_in key flag h n bs) (chunk_of n m bs)

  pushes_below : (h n m : ℕ) (bs y : List ℕ) → length bs ≡ 1024 * m → length y ≤ 1024 → m < 2 ^ h → Pushes h n m bs y → Pushes (suc h) n m bs y
  pushes_below h n m bs y e yl l ih =
      lefts_low h n (bs ++ y) (omega (arith, length-append bs y)) ∙ ih
      ∙ ap (λ (ls : List (List ℕ)). pushed key flag (ones m - 1) ls (chunk_of n m bs)) (sym (lefts_low h n bs (omega arith)))

  pushes_at : (h n m : ℕ) (bs y : List ℕ) → length bs ≡ 1024 * m → 0 < length y → length y ≤ 1024 → m ≡ 2 ^ h → Pushes (suc h) n m bs y
  pushes_at h n m bs y e ys yl l =
      let el : length bs ≡ 1024 * 2 ^ h = omega arith in
      let w : ones m ≡ 1 + ones 0 = ap ones (let z : m ≡ 2 ^ h + 0 = omega arith in z) ∙ ones_top h 0 (pow_pos h) in
      let k : 0 ≡ ones m - 1 = omega (arith, ones_zero) in
      let c : (length bs - 1) / 1024 ≡ m - 1 = omega (arith, pow_pos h) in
      let v : last_chunk key flag n bs 0 ≡ chunk_of n m bs = ap (λ (j : ℕ). chunked key flag 0 (n + j) (drop (1024 * j) bs)) c in
      let ls = lefts_in key flag h n bs in
      lefts_high h n (bs ++ y) (omega (arith, length-append bs y))
      ∙ ap₂ (λ (t u : List ℕ). treed h key flag 0 n t ∷ lefts_in key flag h (n + 2 ^ h) u)
      (take_at bs y (1024 * 2 ^ h) el) (drop_at bs y (1024 * 2 ^ h) el)
      ∙ ap₂ (λ (t : List ℕ) (us : List (List ℕ)). t ∷ us)
      (tree_folded h 0 n bs (omega arith) ∙ folded_zero ls (last_chunk key flag n bs) (λ root. chunk_of n m bs) v)
      (lefts_one h (n + 2 ^ h) y yl)
      ∙ ap (λ (j : ℕ). pushed key flag j ls (chunk_of n m bs)) k
      ∙ ap (λ (us : List (List ℕ)). pushed key flag (ones m - 1) us (chunk_of n m bs)) (sym (lefts_low h n bs (omega arith)))

  pushes_above : (h n m : ℕ) (bs y : List ℕ) → length bs ≡ 1024 * m → 0 < length y → 2 ^ h < m → m < 2 ^ suc h
      → Pushes h (n + 2 ^ h) (m - 2 ^ h) (drop (1024 * 2 ^ h) bs) y → Pushes (suc h) n m bs y
  pushes_above h n m bs y e ys l u ih =
      let b : 1024 * 2 ^ h < length bs = omega arith in
      let j = m - 2 ^ h in
      let r = drop (1024 * 2 ^ h) bs in
      let t = treed h key flag 0 n (take (1024 * 2 ^ h) bs) in
      let ls = lefts_in key flag h (n + 2 ^ h) r in
      let lj : j < 2 ^ h = omega (arith, pow-suc 2 h) in
      let w : ones m ≡ 1 + ones j = ap ones (let z : m ≡ 2 ^ h + j = omega arith in z) ∙ ones_top h j lj in
      let k : suc (ones j - 1) ≡ ones m - 1 = omega (arith, ones_some h j (omega arith) lj) in
      let i : n + 2 ^ h + (j - 1) ≡ n + (m - 1) = omega arith in
      let d : 1024 * 2 ^ h + 1024 * (j - 1) ≡ 1024 * (m - 1) = omega arith in
      let v : chunk_of (n + 2 ^ h) j r ≡ chunk_of n m bs =
      ap₂ (chunked key flag 0) i (drop-drop (1024 * (j - 1)) (1024 * 2 ^ h) bs ∙ ap (λ (x : ℕ). drop x bs) d) in
      lefts_high h n (bs ++ y) (omega (arith, length-append bs y))
      ∙ ap₂ (λ (t u : List ℕ). treed h key flag 0 n t ∷ lefts_in key flag h (n + 2 ^ h) u)
      (take-append-le (1024 * 2 ^ h) bs y (omega arith)) (drop-append-le (1024 * 2 ^ h) bs y (omega arith))
      ∙ ap (λ (us : List (List ℕ)). t ∷ us) (ih ∙ ap (pushed key flag (ones j - 1) ls) v)
      ∙ ap (λ (x : ℕ). pushed key flag x (t ∷ ls) (chunk_of n m bs)) k
      ∙ ap (λ (us : List (List ℕ)). pushed key flag (ones m - 1) us (chunk_of n m bs)) (sym (lefts_high h n bs b))

  pub lefts_pushed : (h n m : ℕ) (bs y : List ℕ) → length bs ≡ 1024 * m → 0 < m → m < 2 ^ h → 0 < length y → length y ≤ 1024
      → lefts_in key flag h n (bs ++ y)
      ≡ pushed key flag (ones m - 1) (lefts_in key flag h n bs) (chunked key flag 0 (n + (m - 1)) (drop (1024 * (m - 1)) bs))
  lefts_pushed zero n m bs y e s l ys yl = absurd (omega arith)
  lefts_pushed (suc h) n m bs y e s l ys yl =
      by_cases (dec_lt m (2 ^ h)) (λ a. pushes_below h n m bs y e yl a (lefts_pushed h n m bs y e s a ys yl))
      (λ a.
      by_cases (dec_le m (2 ^ h)) (λ b. pushes_at h n m bs y e ys yl (omega arith))
      (λ b.
      let r = drop (1024 * 2 ^ h) bs in
      let er : length r ≡ 1024 * (m - 2 ^ h) = omega (arith, length-drop (1024 * 2 ^ h) bs) in
      pushes_above h n m bs y e ys (omega arith) l
      (lefts_pushed h (n + 2 ^ h) (m - 2 ^ h) r y er (omega arith) (omega (arith, pow-suc 2 h)) ys yl)))
