-- The promise leaves one answer: two digests of the same bytes in one mode are equal, and so are two answers to one key.
use mathlib.Core.Path.{◌≡◌, refl, sym, ap, ◌∙◌}
use mathlib.Core.List.{List}
use Prim.Native.Nat.{ℕ}
use Rattle.std.specs.Prelude.{Result}
use Rattle.refusals.specs.declared.Refused.{Refused}
use Rattle.refusals.proofs.Laws.{outcome_apart}
use Rattle.digest.specs.declared.Digest.{Digest}
use Rattle.digest.specs.Digest.{digest_in}
use Rattle.digest.specs.Modes.{Moded, key_refused, key_done, moded, key_answer}

pub digest_only : (mode bs : List ℕ) (a b : Digest) → a.bytes ≡ digest_in mode bs → b.bytes ≡ digest_in mode bs → a ≡ b
digest_only mode bs a b p q = λ i. record { bytes = (p ∙ sym q) i }

moded_apart : (a b : Result (List ℕ) Refused) → moded a ≡ moded b → a ≡ b
moded_apart a b e = outcome_apart key_refused key_done (λ x. x.number) (λ n. refl) (λ v. refl) (λ v w p. ap (λ (x : Moded). x.mode) p) a b e

pub key_only : (key : List ℕ) (a b : Result (List ℕ) Refused) → moded a ≡ key_answer key → moded b ≡ key_answer key → a ≡ b
key_only key a b p q = moded_apart a b (p ∙ sym q)
