-- How many looks a change of rights makes at most.
use Rattle.std.specs.Prelude.{ℕ, zero, suc, ◌+◌, ◌-◌, ◌*◌, ◌/◌, ◌&&◌, ◌==◌, nat_lt, if◌then◌else◌, Option, is_some}
use Rattle.pager_model.specs.declared.tile.Mapping.{Mapping}
use Rattle.pager_model.specs.Regions.{in_range}
use Rattle.pager_model.specs.Tiles.{count_pages}

-- how many pages of a range are resident
abbrev pub resident_in : (ℕ → Option Mapping) → ℕ → ℕ → ℕ
resident_in pages first len = count_pages (λ page. in_range first len page && is_some (pages page))

-- In a block of 512 pages: one where none of them is resident.
abbrev pub looks_in_block : (ℕ → Option Mapping) → ℕ → ℕ
looks_in_block pages block =
    let resident = resident_in pages (block * 512) 512 in
    if nat_lt 0 resident then 4117 + 58 * resident else 1

-- in so many blocks from one on
unfoldable pub looks_in_blocks : (ℕ → Option Mapping) → ℕ → ℕ → ℕ
looks_in_blocks pages from zero = 0
looks_in_blocks pages from (suc more) = looks_in_blocks pages from more + looks_in_block pages (from + more)

-- in the blocks that have a page of the range, or for a single page
abbrev pub looks_of_rights : (ℕ → Option Mapping) → ℕ → ℕ → ℕ
looks_of_rights pages first len = if len == 1 then 62 else looks_in_blocks pages (first / 512) ((first + len + 511) / 512 - first / 512)
