-- What building a log and its root hashes, over any digest function: each record that was taken, and the string at each place of its folded tree, each
-- as often; and what an append hashes is what it counts and writes.
use mathlib.Core.Path.{◌≡◌, refl, sym, ap, ◌∙◌}
use mathlib.Core.Logic.{by_cases, ◌≢◌}
use mathlib.Core.List.{List, [], ◌∷◌, ◌++◌, map, map-append, append_assoc, append-nil}
use mathlib.Core.List.{Perm, perm_middle}
use Prim.Native.Nat.{ℕ, ◌*◌, ◌<◌}
use native.Mathlib.Decide.{ℕ_discrete, dec_lt}
use native.Mathlib.Omega.{arith}
use borrow.Author.Rules.{rules}
use borrow.Author.Tests.{eq-eqb, ne_eqb}
use lib.ListN.{length, length-map}
use lib.Seq.{append_snoc}
use Rattle.order.proofs.Laws.{refuses}
use Rattle.wire.specs.Slices.{splice, joined}
use Rattle.wire.proofs.Lists.{none_of}
use Rattle.shape.specs.Sizes.{count_answer, leaves}
use Rattle.shape.specs.Nodes.{new_nodes}
use Rattle.shape.specs.Tree.{places, inputs, hashed_at}
use Rattle.shape.specs.Folded.{tree_in, tree}
use Rattle.shape.specs.Positions.{peaks}
use Rattle.shape.specs.Hashed.{new_hashed, fold_hashed}
use Rattle.shape.proofs.Appends.{new_length}
use Rattle.shape.proofs.Trees.{tree_any}
use Rattle.shape.proofs.Prune.{inputs_placed}
use Rattle.shape.proofs.Counting.{counts_size}
use Rattle.shape.proofs.Hashed.{within, within_none, new_hashed_lem, append_hashed_lem, root_hashed_lem}
use Rattle.nodes.specs.Nodes.{node_in}
use Rattle.evidence_log.specs.Outcome.{AppendOutcome, append_done, append_outcome}
use Rattle.evidence_log.specs.Outcome.{RootOutcome, root_refused, root_order, root_over, root_outcome}
use Rattle.evidence_log.specs.Appends.{State, step, run, empty, Sound}
use Rattle.evidence_log.specs.Hashed.{append_hashed, root_hashed, run_hashed, built_hashed}
use Rattle.evidence_log.proofs.Told.{told_refused, told_done}
use Rattle.evidence_log.proofs.Grown.{begins_hold, root_of_log}
use Rattle.evidence_log.proofs.Appends.{step_taken, step_left, step_sound, empty_sound, run_sound}

-- one record more behind the others, and more strings
perm_snoc : (t w n v : List (List ℕ)) (r : List ℕ) → Perm (w ++ n) v → Perm ((t ++ w) ++ (r ∷ n)) ((t ++ (r ∷ [])) ++ v)
perm_snoc t w n v r f =
    rw (append_assoc t w (r ∷ n), append_snoc t r v) (mathlib.Core.List.Perm.append_left t (mathlib.Core.List.Perm.trans (perm_middle w n) (mathlib.Core.List.Perm.cons r f)))

module _ (digest : List ℕ → List ℕ) where
  empty_tree : inputs digest (tree []) ≡ []
  unfolding tree_in
  empty_tree = ap (inputs digest) (sym (tree_any 0 [] (omega arith)))

  hashed_done : (size : ℕ) (rec bs : List ℕ) → (append_outcome digest size rec bs).number ≡ 0
      → append_hashed digest size rec bs ≡ rec ∷ new_hashed digest (node_in bs) (leaves size) (digest rec)
  unfolding append_hashed
  hashed_done size rec bs z = rw (eq-eqb (append_outcome digest size rec bs).number 0 z, append_hashed)

  hashed_left : (size : ℕ) (rec bs : List ℕ) → (append_outcome digest size rec bs).number ≢ 0 → append_hashed digest size rec bs ≡ []
  unfolding append_hashed
  hashed_left size rec bs z = rw (ne_eqb (append_outcome digest size rec bs).number 0 z, append_hashed)

  module _ (size : ℕ) (rec bs : List ℕ) where
    abbrev outcome : AppendOutcome
    outcome = append_outcome digest size rec bs

    new_is : outcome.number ≡ 0 → new_nodes digest (node_in bs) (leaves size) (digest rec) ≡ map digest (append_hashed digest size rec bs)
    new_is z = rw (hashed_done size rec bs z) (new_hashed_lem digest (node_in bs) (leaves size) (digest rec))

    -- an append counts what it hashes
    pub append_counts : outcome.hashes ≡ length (append_hashed digest size rec bs)
    unfolding append_done
    append_counts =
        by_cases (ℕ_discrete outcome.number 0)
        (λ z.
        ap (λ (o : AppendOutcome). o.hashes) (told_done digest size rec bs z).1
        ∙ sym (new_length digest (node_in bs) (leaves size) (digest rec))
        ∙ ap length (new_is z)
        ∙ length-map (append_hashed digest size rec bs) digest)
        (λ z. ap (λ (o : AppendOutcome). o.hashes) (told_refused digest size rec bs z) ∙ sym (ap length (hashed_left size rec bs z)))

    -- and, where it is done, writes their digests
    pub append_writes : outcome.number ≡ 0 → outcome.bytes ≡ splice (32 * size) (joined (map digest (append_hashed digest size rec bs))) bs
    unfolding append_done
    append_writes z =
        ap (λ (o : AppendOutcome). o.bytes) (told_done digest size rec bs z).1 ∙ ap (λ (xs : List (List ℕ)). splice (32 * size) (joined xs) bs) (new_is z)

  root_done_lem : (size : ℕ) (bs : List ℕ) → (root_outcome digest size bs).number ≡ 0
      → root_hashed digest size bs ≡ fold_hashed digest (node_in bs) (peaks (leaves size))
  unfolding root_hashed
  root_done_lem size bs z = rw (eq-eqb (root_outcome digest size bs).number 0 z, root_hashed)

  root_left : (size : ℕ) (bs : List ℕ) → (root_outcome digest size bs).number ≢ 0 → root_hashed digest size bs ≡ []
  unfolding root_hashed
  root_left size bs z = rw (ne_eqb (root_outcome digest size bs).number 0 z, root_hashed)

  -- the records that were taken, and what is hashed within the peaks over them
  abbrev held : List (List ℕ) → List (List ℕ)
  held rs = rs ++ within digest (map digest rs)

  module _ (digest_32 : (x : List ℕ) → length (digest x) ≡ 32) (bs : List ℕ) where
    -- one append more
    step_hashed : (s : State) → Sound digest bs s → (r : List ℕ)
        → Perm (held s.taken ++ append_hashed digest s.size r s.bytes) (held (step digest s r).taken)
    step_hashed s g r =
        by_cases (ℕ_discrete (append_outcome digest s.size r s.bytes).number 0)
        (λ z.
        let n : leaves s.size ≡ length (map digest s.taken) =
        ap leaves g.size ∙ (counts_size (length s.taken) g.few).value ∙ sym (length-map s.taken digest) in
        let t : (step digest s r).taken ≡ s.taken ++ (r ∷ []) = ap (λ (x : State). x.taken) (step_taken digest digest_32 s r _ refl z) in
        rw (hashed_done s.size r s.bytes z, t, map-append digest s.taken (r ∷ []), n)
        (perm_snoc s.taken (within digest (map digest s.taken)) _ _ r
        (append_hashed_lem digest (node_in s.bytes) (map digest s.taken) (digest r) (begins_hold digest digest_32 s.taken s.bytes g.begins))))
        (λ z.
        let t : (step digest s r).taken ≡ s.taken = ap (λ (x : State). x.taken) (step_left digest digest_32 s r _ refl z) in
        rw (hashed_left s.size r s.bytes z, t, append-nil (held s.taken)) (mathlib.Core.List.Perm.refl (held s.taken)))

    runs_hashed : (s : State) → Sound digest bs s → (rs : List (List ℕ)) → Perm (held s.taken ++ run_hashed digest s rs) (held (run digest s rs).taken)
    unfolding run run_hashed
    runs_hashed s g [] = rw (append-nil (held s.taken)) (mathlib.Core.List.Perm.refl (held s.taken))
    runs_hashed s g (r ∷ rs) =
        rw (← append_assoc (held s.taken) (append_hashed digest s.size r s.bytes) (run_hashed digest (step digest s r) rs))
        (mathlib.Core.List.Perm.trans (mathlib.Core.List.Perm.append_right (run_hashed digest (step digest s r) rs) (step_hashed s g r))
        (runs_hashed (step digest s r) (step_sound digest digest_32 bs s g r) rs))

    -- the root of what was taken, or of nothing
    some_hashed : (s : State) → Sound digest bs s → 0 < length s.taken
        → Perm (within digest (map digest s.taken) ++ root_hashed digest s.size s.bytes) (inputs digest (tree (map digest s.taken)))
    some_hashed s g p =
        let o = root_of_log digest digest_32 s.taken s.bytes p g.few g.begins in
        let z : (root_outcome digest s.size s.bytes).number ≡ 0 =
        ap (λ (x : ℕ). (root_outcome digest x s.bytes).number) g.size ∙ ap (λ (x : RootOutcome). x.number) o in
        let n : leaves s.size ≡ length (map digest s.taken) =
        ap leaves g.size ∙ (counts_size (length s.taken) g.few).value ∙ sym (length-map s.taken digest) in
        rw (root_done_lem s.size s.bytes z, n)
        (root_hashed_lem digest (node_in s.bytes) (map digest s.taken) (omega (arith, length-map s.taken digest))
        (begins_hold digest digest_32 s.taken s.bytes g.begins))

    none_hashed : (s : State) → Sound digest bs s → length s.taken ≡ 0
        → Perm (within digest (map digest s.taken) ++ root_hashed digest s.size s.bytes) (inputs digest (tree (map digest s.taken)))
    unfolding root_outcome root_over root_order
    none_hashed s g e =
        let k = counts_size (length s.taken) g.few in
        let c : (count_answer s.size).number ≡ 0 = ap (λ (x : ℕ). (count_answer x).number) g.size ∙ k.number in
        let n : leaves s.size ≡ 0 = ap leaves g.size ∙ k.value ∙ e in
        let o : root_refused 10 ≡ root_outcome digest s.size s.bytes = refuses 10 root_refused _ _ refl (search rules) in
        let z : (root_outcome digest s.size s.bytes).number ≢ 0 = λ y. omega (arith, ap (λ (x : RootOutcome). x.number) o ∙ y) in
        rw (root_left s.size s.bytes z, none_of s.taken e, within_none digest, empty_tree)
        (mathlib.Core.List.Perm.refl [])

    -- a run of appends to an empty log, refused ones among them, and then its root
    pub built_hashed_lem : (rs : List (List ℕ)) →
        let taken = (run digest (empty bs) rs).taken in
        let t = tree (map digest taken) in
        Perm (built_hashed digest bs rs) (taken ++ map (hashed_at digest t) (places t))
    built_hashed_lem rs =
        let s = run digest (empty bs) rs in
        let g = run_sound digest digest_32 bs rs in
        let t = tree (map digest s.taken) in
        let f : Perm (run_hashed digest (empty bs) rs) (held s.taken) = rw (within_none digest) at (runs_hashed (empty bs) (empty_sound digest digest_32 bs) rs) in
        let r : Perm (within digest (map digest s.taken) ++ root_hashed digest s.size s.bytes) (inputs digest t) =
        by_cases (dec_lt 0 (length s.taken)) (some_hashed s g) (λ p. none_hashed s g (omega arith)) in
        rw (← inputs_placed digest t)
        (mathlib.Core.List.Perm.trans (mathlib.Core.List.Perm.append_right (root_hashed digest s.size s.bytes) f)
        (rw (append_assoc s.taken (within digest (map digest s.taken)) (root_hashed digest s.size s.bytes)) (mathlib.Core.List.Perm.append_left s.taken r)))
