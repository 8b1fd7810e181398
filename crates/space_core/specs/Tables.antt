-- How a space keeps its pages. Contracts look at it only through the functions below: which frame a page has, which words, which
-- rights of its own, whether it is dirty, and what a translation says of it.
use Rattle.std.specs.Prelude.{ℕ, Bool, false, List, slice_index_or, Option, Some, None}
use Rattle.std.specs.Option.{option_and_then}
use Rattle.pager_model.specs.declared.region.Rights.{Rights}
use Rattle.pager_model.specs.declared.tile.Mapping.{Mapping}
use Rattle.page_rights.specs.Rights.{RightsTree, rights_of}
use Rattle.pager_model.specs.Frame.{Framed}
use Rattle.pager_model.specs.SizeSets.{SizeSet}
use Rattle.tiles.specs.Resident.{Resident, mapping_at, frame_of_page}

pub record Table : Type 0 where
  -- which page sizes its tiles have
  pub sizes : SizeSet
  -- the resident pages, and the tiles that they make
  pub pages : Resident
  -- of each page its own rights, where a protect gave it any
  pub own : RightsTree
  -- of each number the frame, where a page has it
  pub frames : List (Option Framed)

-- what is said of a page, where it is resident
abbrev pub mapping_in : Table → ℕ → Option Mapping
mapping_in table page = mapping_at table.pages page

-- the number of a page's frame, where it is resident
unfoldable pub frame_in : Table → ℕ → Option ℕ
frame_in table page = frame_of_page table.pages page

abbrev pub word_in_frame : Option Framed → ℕ → ℕ
word_in_frame None i = 0
word_in_frame (Some frame) i = slice_index_or frame.words i 0

-- a word of a resident page, and zero elsewhere
unfoldable pub word_in : Table → ℕ → ℕ → ℕ
word_in table page i = word_in_frame (option_and_then (λ number. slice_index_or table.frames number None) (frame_in table page)) i

-- the rights that a protect gave a page
unfoldable pub own_in : Table → ℕ → Option Rights
own_in table page = rights_of table.own page

abbrev pub flag_in : Option Mapping → Bool
flag_in None = false
flag_in (Some m) = m.dirty

-- whether a page is dirty, which only a resident one is
unfoldable pub dirty_in : Table → ℕ → Bool
dirty_in table page = flag_in (mapping_in table page)
