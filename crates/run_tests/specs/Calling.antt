-- A pass that so many calls can be made with, one after another.
use Rattle.std.specs.Prelude.{ℕ, ◌≡◌, ◌+◌, ◌*◌, ◌≤◌, length}
use Rattle.journal_core.specs.Journals.{JournalName, PassState}
use Rattle.pager_model.specs.Legal.{entries_in}
use Rattle.pager_model.specs.Order.{IsWhole}
use Rattle.pager_model.specs.Settings.{mark_of}

-- it is of the pager's journal and of a processor that makes calls, each call that was begun is answered, and it has room for their entries
pub record MayMakeCalls (j : JournalName) (p : PassState) (calls : ℕ) : Type 0 where
  pub journal : p.journal ≡ j
  pub mark : mark_of j.setting p.processor ≡ 0
  pub whole : IsWhole 0 (entries_in p.entries)
  pub room : length p.entries + 8 * calls ≤ p.room
