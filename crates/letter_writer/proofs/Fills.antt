-- Fields that are written one after the other fill the first bytes of the output buffer with the letter.
use mathlib.Core.Path.{◌≡◌, sym, ap, ◌∙◌}
use mathlib.Core.List.{List, ◌++◌}
use Prim.Native.Nat.{ℕ, ◌+◌, ◌*◌, ◌≤◌, ◌<◌}
use native.Mathlib.Omega.{arith}
use lib.ListN.{length, length-append}
use Rattle.std.specs.Prelude.{Ok}
use Rattle.digest.specs.Digest.{digest_in, digest_length}
use borrow.Author.Rules.{rules}
use Rattle.order.specs.Order.{◌under◌}
use Rattle.order.proofs.Laws.{Passes}
use Rattle.wire.specs.Numbers.{be}
use Rattle.wire.specs.Slices.{splice, written, joined}
use Rattle.wire.specs.Writers.{wrote, write_done}
use Rattle.wire.proofs.Numbers.{be_length}
use Rattle.wire.proofs.Splices.{written_fits, written_next}
use Rattle.wire.proofs.Writers.{write_done_lem}
use Rattle.shape.specs.Sizes.{leaves}
use Rattle.shape.proofs.Counting.{Counts}
use Rattle.nodes.specs.Nodes.{node_in}
use Rattle.nodes.proofs.Joined.{node_length}
use Rattle.letter.specs.Bytes.{letter_bytes}
use Rattle.letter.specs.Items.{item_count, items_of, foreign}
use Rattle.letter.proofs.ItemsOf.{items_bytes}
use Rattle.letter.proofs.Spelling.{head_length, letter_bytes_lem}
use Rattle.letter_writer.specs.Outcome.{our_letter, write_order}

module _ (size index : ℕ) (rec : List ℕ) (items : List (List ℕ)) where
  letter_filled : (out : List ℕ) {l₁ l₂ l₃ l₄ l₅ : List ℕ} → 20 + length rec + length (joined items) ≤ length out
      → l₁ ≡ written 0 (be 8 size) out → l₂ ≡ written 8 (be 8 index) l₁ → l₃ ≡ written 16 (be 4 (length rec)) l₂
      → l₄ ≡ written 20 rec l₃ → l₅ ≡ written (20 + length rec) (joined items) l₄ → l₅ ≡ splice 0 (letter_bytes size index rec items) out
  unfolding letter_bytes
  letter_filled out {l₁} {l₂} {l₃} {l₄} k e₁ e₂ e₃ e₄ e₅ =
      let a : List ℕ = be 8 size in
      let b : List ℕ = be 8 index in
      let c : List ℕ = be 4 (length rec) in
      let na : length a ≡ 8 = be_length 8 size in
      let nb : length b ≡ 8 = be_length 8 index in
      let nc : length c ≡ 4 = be_length 4 (length rec) in
      let nab : length (a ++ b) ≡ 16 = rw length-append (omega arith) in
      let nabc : length (a ++ b ++ c) ≡ 20 = head_length size index rec items in
      let nr : length (a ++ b ++ c ++ rec) ≡ 20 + length rec = rw length-append (omega arith) in
      let f₁ : l₁ ≡ splice 0 a out = e₁ ∙ written_fits 0 a out (omega arith) in
      let f₂ : l₂ ≡ splice 0 (a ++ b) out = e₂ ∙ written_next 0 8 a b out l₁ f₁ (omega arith) (omega arith) in
      let f₃ : l₃ ≡ splice 0 (a ++ b ++ c) out = e₃ ∙ written_next 0 16 (a ++ b) c out l₂ f₂ (omega arith) (omega arith) in
      let f₄ : l₄ ≡ splice 0 (a ++ b ++ c ++ rec) out = e₄ ∙ written_next 0 20 (a ++ b ++ c) rec out l₃ f₃ (omega arith) (omega arith) in
      e₅ ∙ written_next 0 (20 + length rec) (a ++ b ++ c ++ rec) (joined items) out l₄ f₄ (omega arith) k

-- our letter, for an index of a log
module _ (mode : List ℕ) {size n : ℕ} (index : ℕ) (rec bs : List ℕ) (k : Counts size n) (h : index < n) where
  pub our_length : length (our_letter (digest_in mode) size index rec (node_in bs)) ≡ 20 + length rec + 32 * item_count n index
  unfolding our_letter
  our_length =
      letter_bytes_lem size index rec (items_of (digest_in mode) (node_in bs) (leaves size) index)
      ∙ ap (λ (m : ℕ). 20 + length rec + length (joined (items_of (digest_in mode) (node_in bs) m index))) k.value
      ∙ ap (λ (m : ℕ). 20 + length rec + m) (items_bytes (digest_in mode) (node_in bs) (digest_length mode) (node_length bs) n index h k.most)

  pub letter_done : (out : List ℕ) {l₁ l₂ l₃ l₄ l₅ : List ℕ} (m : ℕ) → m ≡ 20 + length rec + 32 * item_count n index → m ≤ length out
      → l₁ ≡ written 0 (be 8 size) out → l₂ ≡ written 8 (be 8 index) l₁ → l₃ ≡ written 16 (be 4 (length rec)) l₂
      → l₄ ≡ written 20 rec l₃ → l₅ ≡ written (20 + length rec) (joined (items_of (digest_in mode) (node_in bs) n index)) l₄
      → wrote (Ok m) l₅ ≡ write_done (our_letter (digest_in mode) size index rec (node_in bs)) out
  unfolding our_letter
  letter_done out {l₅ = l₅} m e fits e₁ e₂ e₃ e₄ e₅ =
      let b : length (joined (items_of (digest_in mode) (node_in bs) n index)) ≡ 32 * item_count n index =
      items_bytes (digest_in mode) (node_in bs) (digest_length mode) (node_length bs) n index h k.most in
      write_done_lem (our_letter (digest_in mode) size index rec (node_in bs)) out l₅ m (e ∙ sym our_length)
      (letter_filled size index rec (items_of (digest_in mode) (node_in bs) n index) out (omega arith) e₁ e₂ e₃ e₄ e₅
      ∙ ap (λ (x : ℕ). splice 0 (letter_bytes size index rec (items_of (digest_in mode) (node_in bs) x index)) out) (sym k.value))

  -- no refusal applies
  pub none_applies : (out : List ℕ) → length rec ≤ 16384 → 32 * size ≤ length bs → foreign (digest_in mode) (node_in bs) index rec ≡ 0
      → 20 + length rec + 32 * item_count n index ≤ length out
      → Passes (write_order (digest_in mode) (node_in bs) (length bs under 32 * size) size index rec out)
  unfolding write_order
  none_applies out short long own room =
      let e : leaves size ≡ n = k.value in
      let l = our_length in
      search rules
