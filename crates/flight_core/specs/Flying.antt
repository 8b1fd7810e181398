-- A flight in the midst of a history, whoever keeps the history.
use Rattle.std.specs.Prelude.{ℕ, ◌≡◌, ◌+◌, ◌<◌, true, List, length, Some, IfSome}
use Rattle.pager_model.specs.declared.entry.Entry.{Entry}
use Rattle.pager_model.specs.Entries.{entries_of}
use Rattle.pager_model.specs.Legal.{IsLegal, space_at, progress_in}
use Rattle.pager_model.specs.Order.{Progress}
use Rattle.pager_model.specs.Settings.{Given, mark_of}
use Rattle.space_core.specs.Standing.{Kept}
use Rattle.flight_core.specs.declared.flight.Flight.{Flight}
use Rattle.flight_core.specs.Flights.{Fits, IsReady, LeftBy}
use Rattle.flight_core.specs.Rows.{is_of_call, mark_in, own_space, row_of, space_under}

-- a place in the order with so many calls or turns made before those that it counts
abbrev pub later : ℕ → Progress → Progress
later before p = record { made = before + p.made; doing = p.doing }

-- These entries of its processor have led to where it is; its own space, and that of its next step, are there.
pub record IsOnWay (g : Given) (own : List Entry) (before : ℕ) (f : Flight) : Type 0 where
  pub known : f.processor < length g.marks
  pub mark : mark_of g f.processor ≡ mark_in f.purpose
  pub none_before : is_of_call f.purpose ≡ true → before ≡ 0
  pub progress : progress_in g f.processor own ≡ Some (later before (row_of f).progress)
  pub fits : Fits f
  pub on : IfSome (own_space f.purpose) (λ s. s < length g.told)
  pub under : (s : ℕ) → space_under (row_of f).needs ≡ Some s → s < length g.told

-- After the history it is on its way.
abbrev pub IsFlying : Given → List Entry → ℕ → Flight → Type 0
IsFlying g h before f = IsOnWay g (entries_of f.processor h) before f

-- Where steps begin: a setting, the history that was made by it, and how many calls or turns the flight's processor made before those that it counts.
pub record Past : Type 0 where
  pub setting : Given
  pub history : List Entry
  pub before : ℕ

abbrev pub since : Given → List Entry → ℕ → Past
since g h before = record { setting = g; history = h; before = before }

-- a flight, and a space that it is in or has left
pub record Placed : Type 0 where
  pub flight : Flight
  pub kept : Kept

abbrev pub in_space : Flight → Kept → Placed
in_space f kept = record { flight = f; kept = kept }

-- a space of the setting
pub record IsSpaceIn (g : Given) (kept : Kept) : Type 0 where
  pub within : kept.number < length g.told
  pub frames : kept.frames ≡ g.frames
  pub processors : length kept.images ≡ length g.marks

-- After the history the flight goes on in this space.
pub record IsHere (g : Given) (h : List Entry) (before : ℕ) (kept : Kept) (f : Flight) : Type 0 where
  pub legal : IsLegal g h
  pub flying : IsFlying g h before f
  pub space : IsSpaceIn g kept
  pub ready : IsReady f kept (space_at g h kept.number)

-- After the history it has left the space, or goes on there.
pub record HasLeft (g : Given) (h : List Entry) (before : ℕ) (kept : Kept) (f : Flight) : Type 0 where
  pub legal : IsLegal g h
  pub flying : IsFlying g h before f
  pub space : IsSpaceIn g kept
  pub left : LeftBy (row_of f).keeps f kept (space_at g h kept.number)
