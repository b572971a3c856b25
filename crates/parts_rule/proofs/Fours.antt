-- Four whole chunks taken at once: their values, pushed one by one, are their tree pushed.
use mathlib.Core.Path.{◌≡◌, sym, ap, ap₂, ◌∙◌}
use mathlib.Core.List.{List, [], ◌∷◌, ◌++◌, append_assoc}
use Prim.Native.Nat.{ℕ, ◌+◌, ◌-◌, ◌*◌, ◌/◌, ◌%◌, ◌≤◌, ◌<◌}
use native.Mathlib.Omega.{arith}
use lib.ListN.{length, take, drop, length-drop, length-append, drop_of_length-le, take-append-drop}
use lib.Seq.{drop-drop, length-take-le, take_all, take-append-le, drop-append-le}
use lib.Count.{ones, ones_step}
use Rattle.chunks.specs.Chunks.{chunked}
use Rattle.chunks.specs.Lanes.{chunk_in}
use Rattle.blake.specs.Blake.{parented, treed}
use Rattle.blake.proofs.tree.Four.{four}
use Rattle.parts_rule.specs.Subtrees.{folded, pushed}
use Rattle.parts_rule.specs.Run.{taken, between}
use Rattle.parts_rule.proofs.Numbers.{ones_suc}
use Rattle.parts_rule.proofs.Folds.{folded_nil, folded_snoc}
use Rattle.parts_rule.proofs.Chunks.{whole_chunk}

module _ (key : List ℕ) (flag : ℕ) (ls : List (List ℕ)) where
  -- nothing is folded
  pushed_top : (v : List ℕ) {k : ℕ} → k ≡ length ls → pushed key flag k ls v ≡ ls ++ (v ∷ [])
  pushed_top v {k} e =
      ap₂ (λ (a b : List (List ℕ)). a ++ (folded key flag 0 b (λ root. v) ∷ [])) (take_all k ls (omega arith))
      (drop_of_length-le ls {i = k} (omega arith))
      ∙ ap (λ (x : List ℕ). ls ++ (x ∷ [])) (folded_nil key flag 0 (λ root. v))

  -- the last subtree is folded with v
  pushed_under : (x v : List ℕ) {k : ℕ} → k ≤ length ls → pushed key flag k (ls ++ (x ∷ [])) v ≡ pushed key flag k ls (parented key flag 0 x v)
  pushed_under x v {k} l =
      ap₂ (λ (a b : List (List ℕ)). a ++ (folded key flag 0 b (λ root. v) ∷ [])) (take-append-le k ls (x ∷ []) l) (drop-append-le k ls (x ∷ []) l)
      ∙ ap (λ (y : List ℕ). take k ls ++ (y ∷ [])) (folded_snoc key flag (drop k ls) x v)

-- ones of four numbers from a multiple of four on
module _ (c : ℕ) (aligned : c % 4 ≡ 0) where
  ones_one : ones (c + 1) ≡ ones c + 1
  ones_one =
      let q : (c + 1) / 2 ≡ c / 2 = omega arith in
      omega (arith, ones_step c, ones_step (c + 1), ap ones q)

  ones_two : ones (c + 2) ≡ ones c + 1
  ones_two =
      let q : (c + 2) / 2 ≡ c / 2 + 1 = omega arith in
      let h : (c / 2 + 1) / 2 ≡ c / 2 / 2 = omega arith in
      let z : (c / 2) % 2 ≡ 0 = omega arith in
      omega (arith, ones_step c, ones_step (c + 2), ap ones q, ones_step (c / 2), ones_step (c / 2 + 1), ap ones h)

  ones_three : ones (c + 3) ≡ ones c + 2
  ones_three =
      let q : (c + 3) / 2 ≡ (c + 2) / 2 = omega arith in
      let z : (c + 2) % 2 ≡ 0 = omega arith in
      let y : (c + 3) % 2 ≡ 1 = omega arith in
      omega (arith, ones_step (c + 2), ones_step (c + 3), ap ones q, ones_two)

  pub ones_four : ones (c + 4) ≤ ones c + 1
  ones_four =
      let q : (c + 4) / 2 ≡ c / 2 + 2 = omega arith in
      let h : (c / 2 + 2) / 2 ≡ c / 2 / 2 + 1 = omega arith in
      let z : (c / 2) % 2 ≡ 0 = omega arith in
      let y : (c / 2 + 2) % 2 ≡ 0 = omega arith in
      omega (arith, ones_step c, ones_step (c + 4), ap ones q, ones_step (c / 2), ones_step (c / 2 + 2), ap ones h, ones_suc (c / 2 / 2))

module _ (key : List ℕ) (flag c : ℕ) (stack : List (List ℕ)) (aligned : c % 4 ≡ 0) (count : length stack ≡ ones c) where
  -- the four values, pushed one by one, are their tree pushed at once
  pushed_four : (v0 v1 v2 v3 : List ℕ)
      → pushed key flag (ones (c + 4) - 1)
      (pushed key flag (ones (c + 3) - 1) (pushed key flag (ones (c + 2) - 1) (pushed key flag (ones (c + 1) - 1) stack v0) v1) v2) v3
      ≡ pushed key flag (ones (c + 4) - 1) stack (parented key flag 0 (parented key flag 0 v0 v1) (parented key flag 0 v2 v3))
  pushed_four v0 v1 v2 v3 =
      let p01 = parented key flag 0 v0 v1 in
      let j = ones (c + 4) - 1 in
      let k = ones (c + 3) - 1 in
      let e1 : ones (c + 1) - 1 ≡ length stack = omega (arith, ones_one c aligned) in
      let e2 : ones (c + 2) - 1 ≡ length stack = omega (arith, ones_two c aligned) in
      let e3 : k ≡ length (stack ++ (p01 ∷ [])) = omega (arith, ones_three c aligned, length-append stack (p01 ∷ [])) in
      let l : j ≤ length stack = omega (arith, ones_four c aligned) in
      let two : pushed key flag (ones (c + 2) - 1) (pushed key flag (ones (c + 1) - 1) stack v0) v1 ≡ stack ++ (p01 ∷ []) =
      ap (λ (ls : List (List ℕ)). pushed key flag (ones (c + 2) - 1) ls v1) (pushed_top key flag stack v0 e1)
      ∙ pushed_under key flag stack v0 v1 {k = ones (c + 2) - 1} (omega arith) ∙ pushed_top key flag stack p01 e2 in
      ap (λ (ls : List (List ℕ)). pushed key flag j (pushed key flag k ls v2) v3) two
      ∙ ap (λ (ls : List (List ℕ)). pushed key flag j ls v3) (pushed_top key flag (stack ++ (p01 ∷ [])) v2 e3)
      ∙ pushed_under key flag (stack ++ (p01 ∷ [])) v2 v3 {k = j} (omega (arith, length-append stack (p01 ∷ [])))
      ∙ pushed_under key flag stack p01 (parented key flag 0 v2 v3) {k = j} l

  -- four chunks and bytes that follow
  four_pieces : (p0 p1 p2 p3 ys : List ℕ) → length p0 ≡ 1024 → length p1 ≡ 1024 → length p2 ≡ 1024 → length p3 ≡ 1024 → 0 < length ys
      → taken key flag (between stack key (1024 * c)) (p0 ++ (p1 ++ (p2 ++ (p3 ++ ys))))
      ≡ taken key flag
      (between (pushed key flag (ones (c + 4) - 1) stack
      (parented key flag 0 (parented key flag 0 (chunked key flag 0 c p0) (chunked key flag 0 (c + 1) p1))
      (parented key flag 0 (chunked key flag 0 (c + 2) p2) (chunked key flag 0 (c + 3) p3)))) key (1024 * c + 4096)) ys
  four_pieces p0 p1 p2 p3 ys l0 l1 l2 l3 s =
      let v0 = chunked key flag 0 c p0 in
      let v1 = chunked key flag 0 (c + 1) p1 in
      let v2 = chunked key flag 0 (c + 2) p2 in
      let v3 = chunked key flag 0 (c + 3) p3 in
      let s1 = pushed key flag (ones (c + 1) - 1) stack v0 in
      let s2 = pushed key flag (ones (c + 2) - 1) s1 v1 in
      let s3 = pushed key flag (ones (c + 3) - 1) s2 v2 in
      let s4 = pushed key flag (ones (c + 4) - 1) s3 v3 in
      let y3 = p3 ++ ys in
      let y2 = p2 ++ y3 in
      let y1 = p1 ++ y2 in
      let n3 : 0 < length y3 = omega (arith, length-append p3 ys) in
      let n2 : 0 < length y2 = omega (arith, length-append p2 y3) in
      let n1 : 0 < length y1 = omega (arith, length-append p1 y2) in
      whole_chunk key flag c stack key p0 y1 l0 n1
      ∙ ap (λ (n : ℕ). taken key flag (between s1 key n) y1) (let e : 1024 * c + 1024 ≡ 1024 * (c + 1) = omega arith in e)
      ∙ whole_chunk key flag (c + 1) s1 key p1 y2 l1 n2
      ∙ ap₂ (λ (n m : ℕ). taken key flag (between (pushed key flag (ones m - 1) s1 v1) key n) y2)
      (let e : 1024 * (c + 1) + 1024 ≡ 1024 * (c + 2) = omega arith in e) (let e : c + 1 + 1 ≡ c + 2 = omega arith in e)
      ∙ whole_chunk key flag (c + 2) s2 key p2 y3 l2 n3
      ∙ ap₂ (λ (n m : ℕ). taken key flag (between (pushed key flag (ones m - 1) s2 v2) key n) y3)
      (let e : 1024 * (c + 2) + 1024 ≡ 1024 * (c + 3) = omega arith in e) (let e : c + 2 + 1 ≡ c + 3 = omega arith in e)
      ∙ whole_chunk key flag (c + 3) s3 key p3 ys l3 s
      ∙ ap₂ (λ (n m : ℕ). taken key flag (between (pushed key flag (ones m - 1) s3 v3) key n) ys)
      (let e : 1024 * (c + 3) + 1024 ≡ 1024 * c + 4096 = omega arith in e) (let e : c + 3 + 1 ≡ c + 4 = omega arith in e)
      ∙ ap (λ (ls : List (List ℕ)). taken key flag (between ls key (1024 * c + 4096)) ys) (pushed_four v0 v1 v2 v3)

  -- the same of 4,096 bytes, by the tree over them
  module _ (bs : List ℕ) (e : length bs ≡ 4096) where
    cut : (n : ℕ) → drop n bs ≡ take 1024 (drop n bs) ++ drop (n + 1024) bs
    cut n = sym (take-append-drop 1024 (drop n bs)) ∙ ap (λ (x : List ℕ). take 1024 (drop n bs) ++ x) (drop-drop 1024 n bs)

    size : (k : ℕ) → k < 4 → length (chunk_in bs k) ≡ 1024
    size k l = length-take-le 1024 (drop (1024 * k) bs) (omega (arith, length-drop (1024 * k) bs))

    last : drop 3072 bs ≡ chunk_in bs 3
    last = sym (take_all 1024 (drop 3072 bs) (omega (arith, length-drop 3072 bs)))

    pieces : (ys : List ℕ) → bs ++ ys ≡ chunk_in bs 0 ++ (chunk_in bs 1 ++ (chunk_in bs 2 ++ (chunk_in bs 3 ++ ys)))
    pieces ys =
        let p0 = chunk_in bs 0 in
        let p1 = chunk_in bs 1 in
        let p2 = chunk_in bs 2 in
        let two : drop 2048 bs ++ ys ≡ p2 ++ (chunk_in bs 3 ++ ys) =
        ap (λ (x : List ℕ). x ++ ys) (cut 2048) ∙ append_assoc p2 (drop 3072 bs) ys ∙ ap (λ (x : List ℕ). p2 ++ (x ++ ys)) last in
        let one : drop 1024 bs ++ ys ≡ p1 ++ (drop 2048 bs ++ ys) = ap (λ (x : List ℕ). x ++ ys) (cut 1024) ∙ append_assoc p1 (drop 2048 bs) ys in
        ap (λ (x : List ℕ). x ++ ys) (cut 0) ∙ append_assoc p0 (drop 1024 bs) ys ∙ ap (λ (x : List ℕ). p0 ++ x)
        (one ∙ ap (λ (x : List ℕ). p1 ++ x) two)

    pub whole_four : (ys : List ℕ) → 0 < length ys
        → taken key flag (between stack key (1024 * c)) (bs ++ ys)
        ≡ taken key flag (between (pushed key flag (ones (c + 4) - 1) stack (treed 2 key flag 0 c bs)) key (1024 * c + 4096)) ys
    whole_four ys s =
        let z : c ≡ c + 0 = omega arith in
        ap (taken key flag (between stack key (1024 * c))) (pieces ys)
        ∙ four_pieces (chunk_in bs 0) (chunk_in bs 1) (chunk_in bs 2) (chunk_in bs 3) ys
        (size 0 (omega arith)) (size 1 (omega arith)) (size 2 (omega arith)) (size 3 (omega arith)) s
        ∙ ap (λ (v : List ℕ). taken key flag (between (pushed key flag (ones (c + 4) - 1) stack v) key (1024 * c + 4096)) ys)
        (ap (λ (n : ℕ). parented key flag 0 (parented key flag 0 (chunked key flag 0 n (chunk_in bs 0)) (chunked key flag 0 (c + 1) (chunk_in bs 1)))
        (parented key flag 0 (chunked key flag 0 (c + 2) (chunk_in bs 2)) (chunked key flag 0 (c + 3) (chunk_in bs 3)))) z
        ∙ four key flag c bs 0 e)
