-- What a history keeps of its entries.
use Rattle.std.specs.Prelude.{ℕ, suc, ◌≡◌, ◌≤◌, ◌++◌, ◌∷◌, [], List, length, map, All}
use Rattle.pager_model.specs.declared.entry.Entry.{Entry}
use Rattle.pager_model.specs.declared.entry.Numbered.{Numbered}
use Rattle.pager_model.specs.Counts.{hits_in, misses_in}
use Rattle.pager_model.specs.Legal.{entries_in}
use Rattle.run_history.specs.declared.Accesses.{Accesses}
use Rattle.run_history.specs.declared.brief.Brief.{Brief}
use Rattle.run_history.specs.Briefs.{FitsIn, entry_of}

-- The entries with their places, and how many there may be in all.
pub record Kept : Type 0 where
  pub items : List Numbered
  pub room : ℕ

-- entries with the places from one on
unfoldable pub placed_from : ℕ → List Entry → List Numbered
placed_from place [] = []
placed_from place (e ∷ es) = record { number = place; entry = e } ∷ placed_from (suc place) es

-- those that were listed, and behind them those of the briefs
abbrev pub items_in : List Numbered → List Entry → List Brief → List Numbered
items_in listed whole briefs = listed ++ placed_from (length listed) (map (entry_of whole) briefs)

-- each brief says an entry, and no more entries are kept whole than there are briefs
pub record IsKept (whole : List Entry) (briefs : List Brief) : Type 0 where
  pub fit : All (FitsIn (length whole)) briefs
  pub few : length whole ≤ length briefs

-- the hits and the misses among the entries
pub record AreCounted (accesses : Accesses) (items : List Numbered) : Type 0 where
  pub hits : accesses.hits ≡ hits_in (entries_in items)
  pub misses : accesses.misses ≡ misses_in (entries_in items)
