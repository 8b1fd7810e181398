-- A change of the pages of a block of 512, and the moves that it makes.
use Rattle.std.specs.Prelude.{ℕ, ◌≡◌, ◌≢◌, ◌+◌, ◌*◌, ◌/◌, ◌%◌, ◌^◌, ◌<◌, ◌≤◌, Bool, ◌&&◌, ◌==◌, nat_le, nat_lt, if◌then◌else◌, List, slice_index, Option, option_map}
use Rattle.pager_model.specs.declared.region.Rights.{Rights}
use Rattle.pager_model.specs.declared.tile.Mapping.{Mapping}
use Rattle.pager_model.specs.Regions.{in_range}
use Rattle.pager_model.specs.SizeSets.{SizeSet}
use Rattle.tiles.specs.Resident.{Resident, mapping_at, frames_in, with_rights}
use Rattle.tiles.specs.Sized.{size_by}

-- the pages from first to before end have these rights already
abbrev pub KeepsRights : ℕ → ℕ → Rights → (ℕ → Option Mapping) → Type 0
KeepsRights first end rights pages = (p : ℕ) → first ≤ p → p < end → option_map (with_rights rights) (pages p) ≡ pages p

-- the resident pages from first to before end have these rights, and all else is as before
pub record ProtectsTo (first end : ℕ) (rights : Rights) (old new : Resident) : Type 0 where
  pub frames : frames_in new ≡ frames_in old
  pub at : (p : ℕ) → mapping_at new p ≡ (if nat_le first p && nat_lt p end then option_map (with_rights rights)
      (mapping_at old p) else mapping_at old p)

-- the resident pages of the range that are in the block have these rights
pub record ProtectsInBlock (block first len : ℕ) (rights : Rights) (old new : Resident) : Type 0 where
  pub frames : frames_in new ≡ frames_in old
  pub at : (p : ℕ)
      → mapping_at new p ≡ (if in_range first len p && (p / 512 == block) then option_map (with_rights rights)
      (mapping_at old p) else mapping_at old p)

-- the sizes of the tiles by some sizes at the first of each eight pages of the block
abbrev pub AreSizesOfBlock : SizeSet → ℕ → List ℕ → (ℕ → Option Mapping) → Type 0
AreSizesOfBlock z block sizes pages = (i : ℕ) → i < 64 → slice_index sizes i ≡ size_by z pages (block * 512 + 8 * i)

-- the pages outside the block are as before
abbrev pub OutsideSame : ℕ → (ℕ → Option Mapping) → (ℕ → Option Mapping) → Type 0
OutsideSame block old new = (p : ℕ) → p / 512 ≢ block → new p ≡ old p

-- a page is the first of an extent of the level after, which is the larger one
abbrev pub is_grown_at : ℕ → ℕ → ℕ → Bool
is_grown_at page before after = nat_lt before after && (page % 8 ^ after == 0)
