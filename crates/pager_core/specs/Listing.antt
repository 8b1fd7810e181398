-- The history that entries with their places are.
use Rattle.std.specs.Prelude.{ℕ, ◌≡◌, ◌≤◌, List, length}
use Rattle.pager_model.specs.declared.entry.Entry.{Entry}
use Rattle.pager_model.specs.declared.entry.Numbered.{Numbered}
use Rattle.pager_model.specs.Legal.{entries_in}
use Rattle.pager_core.specs.Running.{IsNumbered}

-- These are the entries of the history, numbered, and there is room for them.
pub record IsListed (items : List Numbered) (room : ℕ) (h : List Entry) : Type 0 where
  pub entries : entries_in items ≡ h
  pub numbered : IsNumbered items
  pub within : length items ≤ room
