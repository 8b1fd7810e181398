-- A pager that was made and isn't opened yet, and the passes that a call or a turn is made with.
use Rattle.std.specs.Prelude.{ℕ, ◌≡◌, ◌+◌, ◌*◌, ◌≤◌, List, length, map}
use Rattle.std.specs.List.{range_with_len}
use Rattle.pager_model.specs.Bounds.{most_spaces}
use Rattle.journal_core.specs.Journals.{JournalName, JournalState, AuthorState, PassState, new_author}
use Rattle.pager_model.specs.FrameStates.{FrameState, start_frames}
use Rattle.pager_model.specs.Legal.{entries_in}
use Rattle.pager_model.specs.Order.{IsWhole}
use Rattle.pager_model.specs.Settings.{mark_of}
use Rattle.space_core.specs.Standing.{Kept}
use Rattle.pager_core.specs.RunParts.{AreNewSpaces}

-- its journal, which has no entry yet, and the passes of its processors
pub record PreparedState : Type 0 where
  pub journal : JournalState
  pub passes : List PassState

-- The parts of a pager over a journal without entries: new spaces, the pool as it is at the start, and all authors of the journal.
pub record AreNewParts (j : JournalName) (spaces : List Kept) (authors : List AuthorState) (pool : FrameState) : Type 0 where
  pub few : length j.setting.told ≤ most_spaces
  pub spaces_are : AreNewSpaces j.setting spaces
  pub authors_are : authors ≡ map (new_author j) (range_with_len 0 (length j.setting.told + 1))
  pub pool_is : pool ≡ start_frames j.setting.sizes j.setting.frames (length j.setting.marks)

-- A pass that a call can be made with: it is of the pager's journal and of a processor that makes calls, each call that was begun is answered,
-- and it has room for a call's entries.
pub record MayCall (j : JournalName) (p : PassState) : Type 0 where
  pub journal : p.journal ≡ j
  pub mark : mark_of j.setting p.processor ≡ 0
  pub whole : IsWhole 0 (entries_in p.entries)
  pub room : length p.entries + 8 ≤ p.room

-- A pass that a daemon's turn of this low mark can be made with: it is of the pager's journal and of a processor of this mark, each turn that was
-- begun has ended, and it has room for a turn's entries.
pub record MayTurn (j : JournalName) (p : PassState) (mark : ℕ) : Type 0 where
  pub journal : p.journal ≡ j
  pub mark_is : mark_of j.setting p.processor ≡ mark
  pub some : 1 ≤ mark
  pub few : mark ≤ 64
  pub whole : IsWhole mark (entries_in p.entries)
  pub room : length p.entries + (4 * mark + 1) ≤ p.room
