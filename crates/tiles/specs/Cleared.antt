-- The pages of a range are cleared.
use Rattle.std.specs.Prelude.{ℕ, ◌≡◌, if◌then◌else◌, Option, None}
use Rattle.pager_model.specs.declared.tile.Mapping.{Mapping}
use Rattle.pager_model.specs.Regions.{in_range}

-- no page of the range is resident any more, and each other page is as before
abbrev pub Clears : ℕ → ℕ → (ℕ → Option Mapping) → (ℕ → Option Mapping) → Type 0
Clears first len old new = (p : ℕ) → new p ≡ (if in_range first len p then None else old p)
