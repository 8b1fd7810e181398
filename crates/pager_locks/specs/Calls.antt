-- A call as it begins, and a whole call or turn, as the caller's pass shows them.
use Rattle.std.specs.Prelude.{ℕ, ◌≡◌, ◌+◌, ◌*◌, ◌≤◌, true, false, List, [], ◌∷◌, ◌++◌, length, count_by, Some}
use Rattle.journal_core.specs.Journals.{PassState, is_numbered_answer}
use Rattle.pager_model.specs.declared.call.Call.{Call}
use Rattle.pager_model.specs.declared.call.Line.{Line}
use Rattle.pager_model.specs.declared.entry.Numbered.{Numbered}
use Rattle.pager_model.specs.declared.reply.Reply.{Reply}
use Rattle.pager_model.specs.Legal.{entries_in}
use Rattle.pager_model.specs.Order.{at_rest, progress_of, IsWhole}
use Rattle.pager_model.specs.Settings.{Given}
use Rattle.pager_model.specs.Showing.{answers_in, IsSequence, IsTurn}
use Rattle.flight_core.specs.declared.flight.Flight.{Flight}
use Rattle.flight_core.specs.declared.flight.Phase.TheVariants.{Start}
use Rattle.flight_core.specs.Rows.{claimed_in, is_of_call}
use Rattle.flight_core.specs.Logged.{replies_in}
use Rattle.pager_locks.specs.Locked.{SaysWhy}

-- the flight of the pass's next call, of which nothing was done
pub record IsNextFlight (p : PassState) (f : Flight) : Type 0 where
  pub processor : f.processor ≡ p.processor
  pub number : f.number ≡ count_by is_numbered_answer p.entries
  pub is_call : is_of_call f.purpose ≡ true
  pub start : f.phase ≡ Start
  pub unclaimed : claimed_in f.purpose ≡ false

abbrev pub line_of : ℕ → Call → Line
line_of c call = record { processor = c; call = call }

-- The pass's list has one sequence more, which is the call's: its one answer is of this call, with this reply. Where no frame could be had the
-- reply's numbers tell why.
pub record MakesCall (g : Given) (old new : PassState) (call : Call) (reply : Reply) : Type 0 where
  pub journal : new.journal ≡ old.journal
  pub processor : new.processor ≡ old.processor
  pub room : new.room ≡ old.room
  pub piece : List Numbered
  pub entries : new.entries ≡ old.entries ++ piece
  pub few : length piece ≤ 8
  pub sequence : IsSequence (line_of old.processor call) (entries_in piece)
  -- and it comes where the list was
  pub before : progress_of 0 (entries_in old.entries) ≡ Some (at_rest 0 sequence.made)
  pub replies : replies_in (entries_in piece) ≡ reply ∷ []
  pub never_short : SaysWhy g reply
  pub whole : IsWhole 0 (entries_in new.entries)

-- The pass's list has one turn of a daemon of this low mark more.
pub record MakesTurn (old new : PassState) (mark : ℕ) : Type 0 where
  pub journal : new.journal ≡ old.journal
  pub processor : new.processor ≡ old.processor
  pub room : new.room ≡ old.room
  pub piece : List Numbered
  pub entries : new.entries ≡ old.entries ++ piece
  pub few : length piece ≤ 4 * mark + 1
  pub turn : IsTurn old.processor mark (entries_in piece)
  pub no_answers : answers_in (entries_in piece) ≡ []
  -- and it comes where the list was
  pub before : progress_of mark (entries_in old.entries) ≡ Some (at_rest mark turn.made)
  pub after : progress_of mark (entries_in new.entries) ≡ Some (at_rest mark (turn.made + 1))
