-- What a key of 32 bytes makes, and what a mode made of one is.
use mathlib.Core.Path.{◌≡◌, refl, sym, ap, ap₂, ◌∙◌}
use mathlib.Core.Logic.{◌≢◌, by_cases}
use mathlib.Core.List.{List, [], ◌∷◌, ◌++◌, append-nil}
use Prim.Native.Nat.{ℕ, ◌+◌, ◌^◌}
use native.Mathlib.Decide.{ℕ_discrete}
use native.Mathlib.Omega.{arith}
use lib.ListN.{length, drop}
use borrow.Author.Rules.{rules}
use Rattle.order.proofs.Laws.{refuses, passes}
use Rattle.wire.specs.Numbers.{number}
use Rattle.wire.specs.Slices.{zeros, part, splice, written}
use Rattle.wire.proofs.Parts.{part_front, part_past, part_whole}
use Rattle.wire.proofs.Splices.{written_fits}
use Rattle.blake.specs.Blake.{keyed_hash, hash_in}
use Rattle.digest.specs.Modes.{Moded, number_in, key_in, keyed_mode, key_refused, key_order, key_answer}
use Rattle.digest.specs.Digest.{digest_in}
use Rattle.digest.specs.Digest.Inside.{opened}

-- a key written behind the number
pub key_written : (key : List ℕ) {bytes : List ℕ} → bytes ≡ key → length key ≡ 32 → written 4 bytes (1 ∷ zeros 35) ≡ keyed_mode key
unfolding splice
key_written key {bytes} e l =
    ap (λ (x : List ℕ). written 4 x (1 ∷ zeros 35)) e
    ∙ written_fits 4 key (1 ∷ zeros 35) (omega arith)
    ∙ ap (λ (n : ℕ). keyed_mode key ++ drop (4 + n) (1 ∷ zeros 35)) l
    ∙ append-nil (keyed_mode key)

-- its number, and its key
keyed_number : (key : List ℕ) → number_in (keyed_mode key) ≡ 2 ^ 24
unfolding number_in number
keyed_number key = ap number (part_front 0 4 (1 ∷ 0 ∷ 0 ∷ 0 ∷ []) key (omega arith)) ∙ ap number (part_whole (1 ∷ 0 ∷ 0 ∷ 0 ∷ []))

keyed_key : (key : List ℕ) → length key ≡ 32 → key_in (keyed_mode key) ≡ key
unfolding key_in
keyed_key key e = part_past 4 0 32 (1 ∷ 0 ∷ 0 ∷ 0 ∷ []) key refl ∙ ap (λ (n : ℕ). part 0 n key) (sym e) ∙ part_whole key

-- the digest in the keyed mode of a key is BLAKE3's keyed hash under it
pub keyed_digest : (key bs : List ℕ) → length key ≡ 32 → digest_in (keyed_mode key) bs ≡ keyed_hash key bs
unfolding hash_in
keyed_digest key bs e = sym (opened (keyed_mode key) bs) ∙ ap₂ (λ (n : ℕ) (k : List ℕ). hash_in n k bs) (keyed_number key) (keyed_key key e)

-- a key of 32 bytes is taken, and any other is refused
pub key_taken : (key : List ℕ) → length key ≡ 32 → key_answer key ≡ record { number = 0; mode = keyed_mode key }
unfolding key_answer key_order
key_taken key e = sym (passes _ _ _ {r = record { number = 0; mode = keyed_mode key }} refl (search rules))

pub key_refused_lem : (key : List ℕ) → length key ≢ 32 → key_answer key ≡ key_refused 24
unfolding key_answer key_order
key_refused_lem key e = sym (refuses 24 _ _ _ {r = key_refused 24} refl (search rules))

-- whatever the key, the mode is not plain
pub key_not_plain : (key : List ℕ) → number_in (key_answer key).mode ≢ 0
key_not_plain key z =
    by_cases (ℕ_discrete (length key) 32)
    (λ e. absurd (omega (arith, z, ap (λ (m : Moded). number_in m.mode) (key_taken key e), keyed_number key)))
    (λ e. absurd (omega (arith, z, ap (λ (m : Moded). number_in m.mode) (key_refused_lem key e), keyed_number (zeros 32))))
