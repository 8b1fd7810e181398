-- Entries of a small history, for the tests.
use Rattle.std.specs.Prelude.{ℕ, ◌≡◌, false, length, Some, None, [], ◌∷◌}
use Rattle.pager_model.specs.SizeSets.{all_sizes}
use Rattle.pager_model.specs.Settings.{Given}
use Rattle.pager_model.specs.declared.call.Call.TheVariants.{Load}
use Rattle.pager_model.specs.declared.entry.Entry.{Entry}
use Rattle.pager_model.specs.declared.entry.What.TheVariants.{Answer}
use Rattle.pager_model.specs.declared.reply.Reply.TheVariants.{Unmapped}
use Rattle.pager_model.specs.Flat.{empty_space}
use Rattle.pager_model.specs.Legal.{state_of_space, progress_in, entries_in}
use Rattle.pager_model.specs.Order.{at_rest}
use Rattle.pager_model.specs.SpaceStates.{SpaceState, Anyone}
use Rattle.journal_core.specs.Journals.{JournalName, AuthorState, PassState}

-- the answer to a load of a processor's space, in which no region has the page
abbrev pub unmapped : ℕ → ℕ → Entry
unmapped processor number =
    record {
      processor = processor;
      space = Some processor;
      frames = false;
      what = Answer number (Load processor 0) (record { reply = Unmapped; hit = false; size = None });
    }

-- two processors that make calls, two spaces whose stores aren't told, and 512 frames
abbrev pub sample : Given
sample = record { sizes = all_sizes; frames = 512; marks = 0 ∷ 0 ∷ []; told = false ∷ false ∷ []; faults = 0 ∷ 0 ∷ [] }

-- the space has no region, and anyone may make its next entry
pub record IsEmptySpace (st : SpaceState) : Type 0 where
  pub flat : st.flat ≡ empty_space
  pub next : st.next ≡ Anyone

-- after so many such answers, which leave the space without a region
pub record Filled (journal : JournalName) (processor n : ℕ) (author : AuthorState) (pass : PassState) : Type 0 where
  pub author_of : author.journal ≡ journal
  pub part : author.part ≡ processor
  pub space : IsEmptySpace (state_of_space journal.setting processor author.entries)
  pub pass_of : pass.journal ≡ journal
  pub own : pass.processor ≡ processor
  pub room : pass.room ≡ 100
  pub count : length pass.entries ≡ n
  pub progress : progress_in journal.setting processor (entries_in pass.entries) ≡ Some (at_rest 0 n)
