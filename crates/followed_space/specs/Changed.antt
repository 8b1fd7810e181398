-- What is told of a change of the resident pages.
use Rattle.std.specs.Prelude.{ℕ, ◌≡◌, false}
use Rattle.followed_space.specs.declared.changed.Changed.{Changed}
use Rattle.followed_space.specs.declared.changed.Changed.TheVariants.{Nothing, Page, Range}
use Rattle.pager_model.specs.SizeSets.{SizeSet}
use Rattle.tiles.specs.Beside.{OthersSame}
use Rattle.tiles.specs.Changes.{AreChanges}
use Rattle.tiles.specs.Resident.{Resident, mapping_at}
use Rattle.tiles.specs.Sized.{KeepsOutsideIn}
use Rattle.tiles.specs.Touched.{is_touched}

-- Nothing changed; or what is said of one page alone, with these tiles by all four sizes that went and came; or pages of a range alone, and each tile by any sizes that
-- begins outside of it is a tile still.
abbrev pub IsChange : Resident → Resident → Changed → Type 0
IsChange old new Nothing = (p : ℕ) → mapping_at new p ≡ mapping_at old p
IsChange old new (Page page changes) = OthersSame page (mapping_at old) (mapping_at new) × AreChanges old new changes
IsChange old new (Range range) =
    ((p : ℕ) → is_touched range p ≡ false → mapping_at new p ≡ mapping_at old p)
    × ((z : SizeSet) → KeepsOutsideIn z range (mapping_at old) (mapping_at new))
