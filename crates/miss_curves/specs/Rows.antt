-- The stacks of all spaces.
use Rattle.std.specs.Prelude.{ℕ, ◌≡◌, ◌-◌, ◌^◌, ◌<◌, ◌≤◌, List, length, sum_by, slice_index_or}
use Rattle.std.specs.List.{All}
use Rattle.pager_model.specs.Bounds.{most_spaces}
use Rattle.pager_model.specs.declared.entry.Entry.{Entry}
use Rattle.pager_model.specs.Entries.{space_part}
use Rattle.pager_model.specs.Legal.{space_at}
use Rattle.pager_model.specs.Settings.{Given}
use Rattle.pager_model.specs.SizeSets.{SizeSet}
use Rattle.miss_curves.specs.Curves.{base_alone, followed}
use Rattle.lru_stack.specs.Stacks.{Kept, Stands}

-- of each space the stack of its tiles, and that of its base pages; how many places each has; and how many entries that name a space were followed
pub record Rows : Type 0 where
  pub tiles : List Kept
  pub pages : List Kept
  pub places : ℕ
  pub entries : ℕ

-- all uses of some stacks
abbrev pub uses_in : List Kept → ℕ
uses_in stacks = sum_by (λ (k : Kept). k.uses) stacks

-- Stacks of so many spaces, each with so many places, and of no more uses than there were entries.
pub record AreStacks (n places entries : ℕ) (stacks : List Kept) : Type 0 where
  pub spaces : length stacks ≡ n
  pub places_are : All (λ (k : Kept). length k.places ≡ places) stacks
  pub uses : uses_in stacks ≤ entries

pub record AreRows (rows : Rows) : Type 0 where
  pub counted : rows.entries ≤ 2 ^ 64 - 1
  pub few : length rows.tiles ≤ most_spaces
  pub tiles : AreStacks (length rows.tiles) rows.places rows.entries rows.tiles
  pub pages : AreStacks (length rows.tiles) rows.places rows.entries rows.pages

-- after a history each stack stands for what the entries of its space lead to, with tiles by sizes z
pub record StandEach (z : SizeSet) (g : Given) (stacks : List Kept) (history : List Entry) : Type 0 where
  pub spaces : length stacks ≡ length g.told
  pub each : (s : ℕ) (d : Kept) → s < length stacks → Stands z (slice_index_or stacks s d) (space_at g history s)
      (followed z g s (space_part s history))

-- The rows stand for a history: those of tiles by the sizes there are, and those of base pages alone.
pub record StandAfter (g : Given) (rows : Rows) (history : List Entry) : Type 0 where
  pub tiles : StandEach g.sizes g rows.tiles history
  pub pages : StandEach base_alone g rows.pages history
