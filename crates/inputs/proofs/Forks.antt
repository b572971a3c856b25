-- What stands on top of a fork: the node within a peak, none above the peaks.
use mathlib.Core.Path.{◌≡◌, refl, sym, ◌∙◌}
use mathlib.Core.Logic.{◌≢◌, by_cases}
use mathlib.Core.List.{List}
use Prim.Native.Nat.{ℕ, ◌+◌, ◌-◌, ◌*◌}
use native.Mathlib.Decide.{ℕ_discrete}
use borrow.Author.Tests.{eq-eqb, ne_eqb}
use Rattle.std.specs.Prelude.{Option, None, Some}
use Rattle.std.specs.Option.{unwrap_or}
use Rattle.std.proofs.lemmas.Option.{none-some, same_Some}
use Rattle.digest.specs.declared.Digest.{Digest}
use Rattle.nodes.specs.Nodes.{node_in}
use Rattle.inputs.specs.Forks.{there, top_in}

module _ (bs : List ℕ) (half rest mid : ℕ) where
  abbrev node : List ℕ
  node = node_in bs (mid + (2 * half - 1))

  pub top_within : rest ≡ half → top_in bs half rest mid ≡ Some node
  unfolding top_in
  top_within h = rw (eq-eqb rest half h, top_in)

  pub top_above : rest ≢ half → top_in bs half rest mid ≡ None
  unfolding top_in
  top_above h = rw (ne_eqb rest half h, top_in)

  -- a digest that was read there
  pub top_some : (d : Digest) → Some d.bytes ≡ top_in bs half rest mid → (rest ≡ half) × (d.bytes ≡ node)
  top_some d e =
      by_cases (ℕ_discrete rest half)
      (λ h. (h, same_Some _ _ (e ∙ top_within h)))
      (λ h. absurd (none-some _ (sym (e ∙ top_above h))))

  -- none was
  pub top_none : None ≡ top_in bs half rest mid → rest ≢ half
  top_none e h = none-some _ (e ∙ top_within h)

  -- whatever was, with another digest for none
  pub top_or : (r : Option Digest) (up : Digest) → there r ≡ top_in bs half rest mid
      → (rest ≡ half → (unwrap_or r up).bytes ≡ node) × (rest ≢ half → (unwrap_or r up).bytes ≡ up.bytes)
  top_or None up e = ((λ h. absurd (top_none e h)), (λ h. refl))
  top_or (Some d) up e = ((λ h. (top_some d e).1), (λ h. absurd (h (top_some d e).0)))
