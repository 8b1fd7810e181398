-- What a caller's closure answers of extents of pages.
use Rattle.std.specs.Prelude.{ℕ, ◌≡◌, ◌<◌, Bool}
use Rattle.pager_model.specs.Extents.{IsExtent}
use Rattle.pager_model.specs.declared.extent.Extent.{Extent}
use Rattle.pager_model.specs.Bounds.{space_pages}

-- it may be asked of each extent of a space's pages
abbrev pub AsksAny : (Extent → Type 0) → Type 0
AsksAny may_ask = (e : Extent) → IsExtent e.size e.first → e.first < space_pages → may_ask e

-- its answer for each extent of a space's pages is the test of the extent's size and first page
abbrev pub AnswersTest : (Extent → Bool → Type 0) → (ℕ → ℕ → Bool) → Type 0
AnswersTest answers test =
    (e : Extent) (b : Bool) → IsExtent e.size e.first → e.first < space_pages → answers e b → b ≡ test e.size e.first
