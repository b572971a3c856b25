-- The writer's order in parts: which of them decides, and what is known where none does.
use mathlib.Core.Logic.{◌≢◌}
use mathlib.Core.Path.{◌≡◌, sym}
use mathlib.Core.List.{List, [], ◌∷◌, ◌++◌}
use Prim.Native.Nat.{ℕ, suc, ◌*◌, ◌≤◌, ◌<◌}
use native.Mathlib.Omega.{arith}
use lib.Dec.{T}
use lib.ListN.{length}
use Rattle.order.specs.Order.{Test, Refusal, ◌if◌, first_number}
use Rattle.order.proofs.Laws.{Passes, numbered, numbered_append, clear, pass_parts, pass_whole, first_early, first_late}
use Rattle.records.specs.Records.{cut, sums_order}
use Rattle.passage.specs.Request.{rising_order, request_order}
use Rattle.passage_foresight.specs.Order.{limits_order, foreign_order}
use Rattle.passage_foresight.specs.Order.{foreseen_order}
use Rattle.passage_foresight.specs.Steps.{OneEach}
use Rattle.passage_foresight.proofs.Limits.{limits_numbered, limits_total}
use Rattle.passage_foresight.proofs.Owned.{foreign_numbered}

-- ---- every number is above 0

rising_numbered : (floor : ℕ) (is : List ℕ) → T (numbered (rising_order floor is))
unfolding rising_order
rising_numbered floor [] = tt
rising_numbered floor (i ∷ is) = rising_numbered (suc i) is

pub request_numbered : (is : List ℕ) → T (numbered (request_order is))
unfolding request_order
request_numbered is = rising_numbered 0 is

-- ---- the parts before the nodes are looked at

module _ (n : ℕ) (is whole ks : List ℕ) where
  abbrev sums : List Refusal
  sums = request_order is ++ sums_order (length is) (length whole) ks

  abbrev limits : List Refusal
  limits = sums ++ limits_order n is ks

  -- where none of them applies
  pub record Known : Type 0 where
    pub few : length is ≤ 256
    pub each : OneEach is whole ks
    pub small : length whole ≤ 16384 * 256

  pub known_by : Passes (request_order is ++ sums_order (length is) (length whole) ks ++ limits_order n is ks) → Known
  unfolding request_order
  known_by p =
      let a = pass_parts sums (limits_order n is ks) p in
      let b = pass_parts (request_order is) (sums_order (length is) (length whole) ks) a.0 in
      let few : length is ≤ 256 = b.0.1.0 in
      let e : OneEach is whole ks = record { as_many = b.1.0; sum = b.1.1.0 } in
      record { few = few; each = e; small = omega (arith, limits_total n is ks e.as_many a.1, e.sum) }

  -- and none of the others but the last
  module _ (digest : List ℕ → List ℕ) (node : ℕ → List ℕ) (short : Test) where
    abbrev nodes : List Refusal
    nodes = limits ++ (4 if short ∷ [])

    abbrev owned : List Refusal
    owned = foreign_order digest node is (cut ks whole)

    pub foreseen_pass : first_number (foreseen_order digest node short n is whole ks) ≡ 0 → Passes (foreseen_order digest node short n is whole ks)
    foreseen_pass z =
        let a : T (numbered sums) = numbered_append (request_order is) (sums_order (length is) (length whole) ks) (request_numbered is) tt in
        let b : T (numbered limits) = numbered_append sums (limits_order n is ks) a (limits_numbered n is ks) in
        let c : T (numbered nodes) = numbered_append limits (4 if short ∷ []) b tt in
        clear (nodes ++ owned) (numbered_append nodes owned c (foreign_numbered digest node is (cut ks whole))) z

    pub foreseen_known : first_number (foreseen_order digest node short n is whole ks) ≡ 0 → Known
    foreseen_known z = known_by (pass_parts limits (4 if short ∷ []) (pass_parts nodes owned (foreseen_pass z)).0).0

    -- ---- the first part that has a refusal decides

    module _ {k : ℕ} (h : 0 < k) where
      above : k ≢ 0
      above z = omega arith

      pub by_request : k ≡ first_number (request_order is) → k ≡ first_number (foreseen_order digest node short n is whole ks)
      by_request e =
          first_early nodes owned above (first_early limits (4 if short ∷ []) above (first_early sums (limits_order n is ks) above
          (first_early (request_order is) (sums_order (length is) (length whole) ks) above e)))

    module _ (a : 0 ≡ first_number (request_order is)) where
      asked : Passes (request_order is)
      asked = clear (request_order is) (request_numbered is) (sym a)

      pub by_sums : {k : ℕ} → 0 < k → k ≡ first_number (sums_order (length is) (length whole) ks)
          → k ≡ first_number (foreseen_order digest node short n is whole ks)
      by_sums h e =
          first_early nodes owned (above h) (first_early limits (4 if short ∷ []) (above h) (first_early sums (limits_order n is ks) (above h)
          (first_late (request_order is) (sums_order (length is) (length whole) ks) asked e)))

      module _ (b : 0 ≡ first_number (sums_order (length is) (length whole) ks)) where
        summed : Passes (sums_order (length is) (length whole) ks)
        summed = clear (sums_order (length is) (length whole) ks) tt (sym b)

        pub by_limits : {k : ℕ} → 0 < k → k ≡ first_number (limits_order n is ks) → k ≡ first_number (foreseen_order digest node short n is whole ks)
        by_limits h e =
            first_early nodes owned (above h) (first_early limits (4 if short ∷ []) (above h)
            (first_late sums (limits_order n is ks) (pass_whole (request_order is) (sums_order (length is) (length whole) ks) asked summed) e))

        module _ (d : 0 ≡ first_number (limits_order n is ks)) where
          limited : Passes limits
          limited =
              pass_whole sums (limits_order n is ks) (pass_whole (request_order is) (sums_order (length is) (length whole) ks) asked summed)
              (clear (limits_order n is ks) (limits_numbered n is ks) (sym d))

          pub limits_known : Known
          limits_known = known_by limited

          pub by_nodes : 4 ≡ first_number (4 if short ∷ []) → 4 ≡ first_number (foreseen_order digest node short n is whole ks)
          by_nodes e = first_early nodes owned (λ z. omega arith) (first_late limits (4 if short ∷ []) limited e)

          pub by_owned : {k : ℕ} → Passes (4 if short ∷ []) → k ≡ first_number (foreign_order digest node is (cut ks whole))
              → k ≡ first_number (foreseen_order digest node short n is whole ks)
          by_owned p e = first_late nodes owned (pass_whole limits (4 if short ∷ []) limited p) e
