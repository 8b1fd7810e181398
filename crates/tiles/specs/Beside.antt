-- Whether an extent is eligible, and a change of one page.
use Rattle.std.specs.Prelude.{ℕ, ◌≡◌, ◌≢◌, Bool, Option, is_some}
use Rattle.pager_model.specs.declared.tile.Mapping.{Mapping}
use Rattle.pager_model.specs.Tiles.{eligible_at}

-- the extent of a size round a page is eligible
unfoldable pub whole : (ℕ → Option Mapping) → ℕ → ℕ → Bool
whole pages k page = is_some (eligible_at pages k page)

-- the pages but one are as before
abbrev pub OthersSame : ℕ → (ℕ → Option Mapping) → (ℕ → Option Mapping) → Type 0
OthersSame page old new = (p : ℕ) → p ≢ page → new p ≡ old p
