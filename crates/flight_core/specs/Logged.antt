-- What a step of a flight leaves, with a log that took its entry.
use Rattle.std.specs.Prelude.{ℕ, ◌≡◌, ◌+◌, ◌≤◌, Bool, true, false, if◌then◌else◌, List, ◌++◌, filter_map, length, Some, None, IfSome, option_to_list}
use Rattle.std.specs.List.{AllByRecursion}
use Rattle.pager_model.specs.declared.entry.Entry.{Entry}
use Rattle.pager_model.specs.declared.reply.Reply.{Reply}
use Rattle.pager_model.specs.FrameStates.{FrameState}
use Rattle.pager_model.specs.Legal.{IsLegal, frames_at}
use Rattle.pager_model.specs.Settings.{Given}
use Rattle.pager_model.specs.Showing.{answers_in}
use Rattle.space_core.specs.Standing.{Kept}
use Rattle.flight_core.specs.declared.flight.Flight.{Flight}
use Rattle.flight_core.specs.Rows.{is_between, reply_in, row_of}
use Rattle.flight_core.specs.Steps.{SameSpace, SameWork, answer_made, reply_said}
use Rattle.flight_core.specs.Flying.{IsFlying, IsHere, HasLeft, Past, Placed}

-- the replies of the answers, in order
abbrev pub replies_in : List Entry → List Reply
replies_in entries = filter_map (λ (e : Entry). reply_said e.what) entries

-- What some steps of a flight added: entries of its processor, no more than are spent, and once the call is answered its answer alone, with the
-- flight's reply.
pub record Added (old new : Flight) (piece : List Entry) : Type 0 where
  pub same_work : SameWork old new
  pub own : AllByRecursion (λ (e : Entry). e.processor ≡ old.processor) piece
  pub answers : answers_in piece ≡ option_to_list (answer_made new (reply_in (row_of new).outcome))
  pub replies : replies_in piece ≡ option_to_list (reply_in (row_of new).outcome)
  pub spent : length piece + (row_of new).entries ≤ (row_of old).entries

-- The log stands for some history after which the flight goes on in this space.
pub record CanStep {L : Type 0} (stands : L → Given → List Entry → Type 0) (log : L) (kept : Kept) (f : Flight) : Type 0 where
  pub setting : Given
  pub history : List Entry
  pub before : ℕ
  pub stands_for : stands log setting history
  pub here : IsHere setting history before kept f

-- and the pool is the frames' state after it
pub record CanStepBoth {L : Type 0} (stands : L → Given → List Entry → Type 0) (log : L) (kept : Kept) (pool : FrameState) (f : Flight) : Type 0 where
  pub setting : Given
  pub history : List Entry
  pub before : ℕ
  pub stands_for : stands log setting history
  pub here : IsHere setting history before kept f
  pub frames : pool ≡ frames_at setting history

-- no space has to be there
pub record CanStepFrames {L : Type 0} (stands : L → Given → List Entry → Type 0) (log : L) (pool : FrameState) (f : Flight) : Type 0 where
  pub setting : Given
  pub history : List Entry
  pub before : ℕ
  pub stands_for : stands log setting history
  pub legal : IsLegal setting history
  pub flying : IsFlying setting history before f
  pub frames : pool ≡ frames_at setting history

-- A step in a space: the log stands for a history that is longer by the entry that was made, where one was, which names no other space, and the
-- pool is the frames' state after it. A flight that made none keeps the space.
pub record Stepped {L : Type 0} (stands : L → Given → List Entry → Type 0) (past : Past) (log : L) (made : Bool) (old new : Placed)
    (pool : FrameState) : Type 0 where
  pub piece : List Entry
  pub history : List Entry
  pub grown : history ≡ past.history ++ piece
  pub one : length piece ≡ (if made then 1 else 0)
  pub stands_for : stands log past.setting history
  pub left : HasLeft past.setting history past.before new.kept new.flight
  pub frames : pool ≡ frames_at past.setting history
  pub added : Added old.flight new.flight piece
  pub elsewhere : AllByRecursion (λ (e : Entry). IfSome e.space (λ s. s ≡ old.kept.number)) piece
  pub same_space : SameSpace old.kept new.kept
  pub between : made ≡ true → is_between new.flight.purpose new.flight.phase ≡ true
  pub still : made ≡ false → (row_of new.flight).keeps ≡ Some old.kept.number

-- A step on the frames alone: the history is longer by one entry, which names no space.
pub record SteppedOnFrames {L : Type 0} (stands : L → Given → List Entry → Type 0) (past : Past) (log : L) (old new : Flight)
    (pool : FrameState) : Type 0 where
  pub piece : List Entry
  pub history : List Entry
  pub grown : history ≡ past.history ++ piece
  pub one : length piece ≡ 1
  pub stands_for : stands log past.setting history
  pub legal : IsLegal past.setting history
  pub flying : IsFlying past.setting history past.before new
  pub frames : pool ≡ frames_at past.setting history
  pub added : Added old new piece
  pub nowhere : AllByRecursion (λ (e : Entry). e.space ≡ None) piece
  pub between : is_between new.purpose new.phase ≡ true
  pub keeps_none : (row_of new).keeps ≡ None
