-- What the code's own steps ask and return, which no public contract cites.
use Rattle.std.specs.Prelude.{◌≡◌, List, map, ℕ, ◌+◌, ◌≤◌, ◌<◌, length, get_or}
use Rattle.wire.specs.Slices.{splice}
use Rattle.passage.specs.Bytes.{frame, stated_at}

-- records within a letter, an index for each, and room for all of them in three lists
pub record Listable (letter given places : List ℕ) (indexes starts lengths : ℕ) : Type 0 where
  pub one_each : length given ≡ length places
  pub inside : (k : ℕ) → k < length places → get_or places k 0 + frame ≤ length letter
  pub room : (length places ≤ indexes) × (length places ≤ starts) × (length places ≤ lengths)

-- the three lists: index, start and length of each over the first places
pub record Listed (letter given places indexes₀ starts₀ lengths₀ indexes starts lengths : List ℕ) : Type 0 where
  pub indexes_are : indexes ≡ splice 0 given indexes₀
  pub starts_are : starts ≡ splice 0 (map (λ (at : ℕ). at + frame) places) starts₀
  pub lengths_are : lengths ≡ splice 0 (map (stated_at letter) places) lengths₀
