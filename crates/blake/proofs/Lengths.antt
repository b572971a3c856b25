-- A digest is 32 bytes, each below 256.
use mathlib.Core.Path.{◌≡◌, subst⁻¹}
use mathlib.Core.List.{List}
use mathlib.Core.Logic.{by_cases}
use Prim.Native.Nat.{ℕ, zero, suc, ◌/◌, ◌%◌, ◌^◌, ◌*◌, ◌<◌}
use native.Mathlib.Nat.{mod-lt}
use native.Mathlib.Decide.{dec_lt}
use native.Mathlib.Omega.{arith}
use lib.Dec.{lit<}
use lib.ListN.{length, get_or, get_or-eq_default}
use Rattle.words.specs.Build.{build}
use Rattle.words.proofs.Builds.{build_length, build_at}
use Rattle.compression.specs.Compression.{starting}
use Rattle.words.specs.Words.{byte_of, bytes_of, words_of}
use Rattle.blake.specs.Blake.{root_node, keyed_flag, tree_of, digested, plain_hash, keyed_hash, hash_in}

byte_small : (ws : List ℕ) (k : ℕ) → byte_of ws k < 256
unfolding byte_of
byte_small ws k = mod-lt (get_or ws (k / 4) 0 / 2 ^ (8 * (k % 4))) (lit< tt)

bytes_small : (ws : List ℕ) (k : ℕ) → get_or (bytes_of ws) k 0 < 256
unfolding bytes_of
bytes_small ws k =
    by_cases (dec_lt k 32)
    (λ l. subst⁻¹ (λ (x : ℕ). x < 256) (build_at 32 (byte_of ws) k l) (byte_small ws k))
    (λ l. subst⁻¹ (λ (x : ℕ). x < 256) (get_or-eq_default (build 32 (byte_of ws)) 0 {n = k} (omega (arith, build_length 32 (byte_of ws)))) (lit< tt))

pub digested_length : (key : List ℕ) (flag : ℕ) (bs : List ℕ) → length (digested key flag bs) ≡ 32
unfolding digested bytes_of
digested_length key flag bs = build_length 32 _

pub digested_byte : (key : List ℕ) (flag : ℕ) (bs : List ℕ) (k : ℕ) → get_or (digested key flag bs) k 0 < 256
unfolding digested
digested_byte key flag bs k = bytes_small (tree_of key flag root_node 0 bs) k

pub hash_length : (keyed : ℕ) (key bs : List ℕ) → length (hash_in keyed key bs) ≡ 32
unfolding hash_in plain_hash keyed_hash
hash_length zero key bs = digested_length starting 0 bs
hash_length (suc _) key bs = digested_length (words_of 8 key) keyed_flag bs

pub hash_byte : (keyed : ℕ) (key bs : List ℕ) (k : ℕ) → get_or (hash_in keyed key bs) k 0 < 256
unfolding hash_in plain_hash keyed_hash
hash_byte zero key bs k = digested_byte starting 0 bs k
hash_byte (suc _) key bs k = digested_byte (words_of 8 key) keyed_flag bs k
