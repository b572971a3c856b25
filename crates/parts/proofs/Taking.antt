-- What a part makes of a state, as it is stored.
use mathlib.Core.Path.{◌≡◌, refl, sym, ap, ap₂, ◌∙◌}
use mathlib.Core.List.{List, ◌++◌, append-nil}
use Prim.Native.Nat.{ℕ, ◌+◌, ◌-◌, ◌*◌, ◌^◌, ◌≤◌, ◌<◌}
use native.Mathlib.Omega.{arith}
use lib.ListN.{length, take, drop, length-append, length-drop, take-append-drop}
use lib.Seq.{length-take-le, take_all}
use Rattle.blake.specs.Modes.{flag_in}
use Rattle.wire.specs.Slices.{zeros}
use Rattle.parts_rule.specs.Run.{between, put, flushed, taken}
use Rattle.parts_rule.proofs.Puts.{taken_put, taken_filled}
use Rattle.parts.specs.declared.Parts.{Parts}
use Rattle.parts_rule.specs.Stack.{subtrees, padded}
use Rattle.parts.specs.State.{start_in, start_of, flag_of, Counted, run_of, stored}
use Rattle.parts_rule.specs.Steps.{full_run, Gone, Went}
use Rattle.parts_rule.proofs.Places.{subtrees_length, joined_take}
use Rattle.parts_rule.proofs.Counts.{held_low}

-- fields are those of a run with these bytes in the block
abbrev pub fields : ℕ → ℕ → ℕ → ℕ → List ℕ → List ℕ → List ℕ → List ℕ → Parts
fields total held stacked keyed key chain stack block =
    record { total = total; held = held; stacked = stacked; keyed = keyed; key = key; chain = chain; stack = stack; block = block }

module _ (keyed : ℕ) (key chain ws : List ℕ) (stacked : ℕ) (size : length ws ≡ 240) where
  stores : (bytes : List ℕ) (t : ℕ) {total held : ℕ} {words block : List ℕ} → total ≡ t → held ≡ length bytes
      → words ≡ padded (length ws) (take (8 * stacked) ws) → block ≡ padded 64 bytes
      → fields total held stacked keyed key chain words block
      ≡ stored keyed key (record { stack = subtrees ws stacked; chain = chain; block = bytes; total = t })
  stores bytes t {total} {held} {words} {block} et eh ew eb =
      λ i. record {
        total = et i;
        held = eh i;
        stacked = sym (subtrees_length ws stacked) i;
        keyed = keyed;
        key = key;
        chain = chain;
        stack = (ew ∙ ap₂ padded size (sym (joined_take ws stacked))) i;
        block = eb i;
      }

-- ---- a part that has room in the block

module _ (s : Parts) (part : List ℕ) (size : length s.block ≡ 64) (g : Counted s) where
  held_is : length (take s.held s.block) ≡ s.held
  held_is = length-take-le s.held s.block (omega (arith, g.held, held_low s.total))

  pub puts : {words block : List ℕ} → length s.stack ≡ 240 → words ≡ padded (length s.stack) (take (8 * s.stacked) s.stack) → block
      ≡ padded 64 (take s.held s.block ++ part)
      → fields (s.total + length part) (s.held + length part) s.stacked s.keyed s.key s.chain words block
      ≡ stored s.keyed s.key (put (run_of s) part)
  puts ls ew eb =
      stores s.keyed s.key s.chain s.stack s.stacked ls (take s.held s.block ++ part) (s.total + length part) refl
      (sym (length-append (take s.held s.block) part ∙ ap (λ (n : ℕ). n + length part) held_is)) ew eb

  pub takes_put : s.held + length part ≤ 64 → put (run_of s) part ≡ taken (start_of s) (flag_of s) (run_of s) part
  takes_put l = sym (taken_put (start_of s) (flag_of s) (run_of s) part (omega (arith, held_is)))

-- ---- a part that begins between two blocks

module _ (keyed : ℕ) (key chain ws : List ℕ) (stacked total : ℕ) (part : List ℕ) {start : List ℕ} {flag : ℕ} (es : start ≡ start_in keyed key)
    (ef : flag ≡ flag_in keyed) where
  pub takes_on : {ws' chain' words block rest : List ℕ} {stacked' total' : ℕ}
      → Went start flag chain ws stacked total part ws' chain' stacked' total' rest → length rest ≤ 64
      → words ≡ padded (length ws') (take (8 * stacked') ws') → block ≡ padded 64 rest
      → fields (total' + length rest) (length rest) stacked' keyed key chain' words block
      ≡ stored keyed key (taken (start_in keyed key) (flag_in keyed) (between (subtrees ws stacked) chain total) part)
  takes_on {ws'} {chain'} {words} {block} {rest} {stacked'} {total'} w few ew eb =
      stores keyed key chain' ws' stacked' w.size rest (total' + length rest) refl refl ew eb
      ∙ ap (stored keyed key)
      (sym (taken_put start flag (between (subtrees ws' stacked') chain' total') rest (let e : 0 + length rest ≤ 64 = omega arith in e)) ∙ sym w.is
      ∙ ap₂ (λ (k : List ℕ) (f : ℕ). taken k f (between (subtrees ws stacked) chain total) part) es ef)

-- ---- a part that fills the block, with bytes that follow

module _ (s : Parts) (part : List ℕ) (size : length s.block ≡ 64) (g : Counted s) (some : 0 < s.held) (more : 64 < s.held + length part)
    (limit : s.total + length part ≤ 2 ^ 40) where
  abbrev space : ℕ
  space = 64 - s.held

  held : s.held ≤ 64
  held = omega (arith, g.held, held_low s.total)

  space_length : length (take space part) ≡ space
  space_length = length-take-le space part (omega (arith, held))

  -- the block as it is filled
  abbrev filled : List ℕ
  filled = take s.held s.block ++ take space part

  filled_length : length filled ≡ 64
  filled_length =
      length-append (take s.held s.block) (take space part) ∙ ap₂ (λ (x y : ℕ). x + y) (held_is s part size g) space_length
      ∙ (let e : s.held + space ≡ 64 = omega (arith, held) in e)

  filled_is : {full : List ℕ} → full ≡ padded 64 filled → full ≡ filled
  filled_is e = e ∙ ap (λ (n : ℕ). filled ++ zeros n) (let z : 64 - length filled ≡ 0 = omega (arith, filled_length) in z) ∙ append-nil filled

  pub fills : {start : List ℕ} {flag : ℕ} {full ws' chain' : List ℕ} {stacked' total' : ℕ} {r : Parts} → start ≡ start_of s → flag ≡ flag_of s
      → full ≡ padded 64 filled → Gone start flag s.chain s.stack s.stacked (s.total + space) full ws' chain' stacked'
      → total' ≡ s.total + space
      → r ≡ stored s.keyed s.key
      (taken (start_of s) (flag_of s) (between (subtrees ws' stacked') chain' total') (take (length part - space) (drop space part)))
      → r ≡ stored s.keyed s.key (taken (start_of s) (flag_of s) (run_of s) part)
  fills {start} {flag} {full} {ws'} {chain'} {stacked'} {total'} {r} es ef eb gone et er =
      let xs = take space part in
      let ys = drop space part in
      let ly : length ys ≡ length part - space = length-drop space part in
      let whole : put (run_of s) xs ≡ full_run s.chain s.stack s.stacked (s.total + space) full =
      ap₂ (λ (n : ℕ) (bs : List ℕ). full_run s.chain s.stack s.stacked (s.total + n) bs) space_length (sym (filled_is eb)) in
      let went : between (subtrees ws' stacked') chain' total' ≡ flushed (start_of s) (flag_of s) (put (run_of s) xs) =
      ap (between (subtrees ws' stacked') chain') et ∙ gone.is
      ∙ ap₂ (λ (k : List ℕ) (f : ℕ). flushed k f (full_run s.chain s.stack s.stacked (s.total + space) full)) es ef
      ∙ ap (flushed (start_of s) (flag_of s)) (sym whole) in
      er
      ∙ ap (stored s.keyed s.key)
      (ap₂ (taken (start_of s) (flag_of s)) went (take_all (length part - space) ys (omega arith))
      ∙ sym (taken_filled (start_of s) (flag_of s) (run_of s) xs ys (sym (length-append (take s.held s.block) xs) ∙ filled_length)
      (omega (arith, held)))
      ∙ ap (taken (start_of s) (flag_of s) (run_of s)) (take-append-drop space part))
