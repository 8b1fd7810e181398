-- A flight over all spaces and the pool, where no other is in progress.
use Rattle.std.specs.Prelude.{ℕ, ◌≡◌, ◌≢◌, ◌+◌, ◌≤◌, List, ◌++◌, length, slice_get, Some}
use Rattle.pager_model.specs.declared.entry.Entry.{Entry}
use Rattle.pager_model.specs.FrameStates.{FrameState}
use Rattle.pager_model.specs.Legal.{IsLegal, frames_at, space_at}
use Rattle.pager_model.specs.Settings.{Given}
use Rattle.space_core.specs.Standing.{Kept}
use Rattle.flight_core.specs.declared.flight.Flight.{Flight}
use Rattle.flight_core.specs.Flights.{IsAtRest, IsReady}
use Rattle.flight_core.specs.Rows.{row_of}
use Rattle.flight_core.specs.Counting.{most_in_history}
use Rattle.flight_core.specs.Flying.{IsFlying, IsSpaceIn, Past}
use Rattle.flight_core.specs.Logged.{Added}

-- After the history the spaces and the pool are as its parts lead to, and the flight goes on; the history isn't too long.
pub record AreAt (g : Given) (h : List Entry) (before : ℕ) (spaces : List Kept) (pool : FrameState) (f : Flight) : Type 0 where
  pub legal : IsLegal g h
  pub flying : IsFlying g h before f
  pub short : length h + (row_of f).entries ≤ most_in_history
  pub frames : pool ≡ frames_at g h
  pub count : length spaces ≡ length g.told
  pub number : (s : ℕ) (kept : Kept) → slice_get spaces s ≡ Some kept → kept.number ≡ s
  pub space : (s : ℕ) (kept : Kept) → slice_get spaces s ≡ Some kept → IsSpaceIn g kept
  pub ready : (s : ℕ) (kept : Kept) → slice_get spaces s ≡ Some kept → (row_of f).keeps ≡ Some s → IsReady f kept (space_at g h s)
  pub rest : (s : ℕ) (kept : Kept) → slice_get spaces s ≡ Some kept → (row_of f).keeps ≢ Some s → IsAtRest kept (space_at g h s)

pub record CanGoOn {L : Type 0} (stands : L → Given → List Entry → Type 0) (log : L) (spaces : List Kept) (pool : FrameState) (f : Flight) : Type 0 where
  pub setting : Given
  pub history : List Entry
  pub before : ℕ
  pub stands_for : stands log setting history
  pub at : AreAt setting history before spaces pool f

-- some steps
pub record WentOn {L : Type 0} (stands : L → Given → List Entry → Type 0) (past : Past) (log : L) (old new : Flight) (spaces : List Kept)
    (pool : FrameState) : Type 0 where
  pub piece : List Entry
  pub history : List Entry
  pub grown : history ≡ past.history ++ piece
  pub stands_for : stands log past.setting history
  pub at : AreAt past.setting history past.before spaces pool new
  pub added : Added old new piece
