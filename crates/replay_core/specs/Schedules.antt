-- Which of several processors steps, as a machine's flights tell it.
use Rattle.std.specs.Prelude.{ℕ, ◌≡◌, ◌⊎◌, Bool, List, ◌∷◌, ◌++◌, length, filter, Option, None, is_some}
use Rattle.std.specs.List.{AllByRecursion, range_with_len}
use Rattle.flight_core.specs.declared.flight.Flight.{Flight}
use Rattle.pager_core.specs.Running.{Running, flight_at, MustWait, OneMore, IsLawful}
use Rattle.pager_model.specs.Schedules.{drawn, rotated}

-- the processor has a call left, or the daemon a turn
abbrev pub flies : List (Option Flight) → ℕ → Bool
flies flights c = is_some (flight_at flights c)

-- the processors that have one, ascending
abbrev pub flying_in : Running → List ℕ
flying_in run = filter (flies run.flights) (range_with_len 0 (length run.jobs))

-- the processor can't step: it has no call or turn left, or its next step is made under a space that another flight keeps
abbrev pub IsStuck : Running → ℕ → Type 0
IsStuck run c = (flight_at run.flights c ≡ None) ⊎ ((space : ℕ) × MustWait run c space)

-- The first of these processors that can step made an entry.
pub record FirstStepped (old new : Running) (actors : List ℕ) : Type 0 where
  pub passed : List ℕ
  pub actor : ℕ
  pub rest : List ℕ
  pub split : actors ≡ passed ++ actor ∷ rest
  pub stuck : AllByRecursion (IsStuck old) passed
  pub can : IsStuck old actor → ⊥
  pub more : OneMore old new actor
  pub same_given : new.given ≡ old.given
  pub same_jobs : new.jobs ≡ old.jobs
  pub same_unused : new.unused ≡ old.unused
  pub lawful : IsLawful new

-- the processors that have one, in cyclic order from the place that is drawn from this state
abbrev pub drawn_order : Running → ℕ → List ℕ
drawn_order run x = rotated (drawn x (length (flying_in run))) (flying_in run)
