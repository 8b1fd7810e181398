-- What a checker has to say of a history of a trace.
use Rattle.std.specs.Prelude.{ℕ, ◌≡◌, ◌+◌, ◌<◌, ◌⊎◌, true, List, length, replicate, take}
use Rattle.pager_model.specs.declared.entry.Entry.{Entry}
use Rattle.pager_model.specs.Legal.{IsLegal}
use Rattle.pager_model.specs.Scripts.{Script}
use Rattle.pager_model.specs.Settings.{Given}
use Rattle.pager_model.specs.Showing.{Shows, marks_of}
use Rattle.history_check.specs.declared.verdict.Verdict.{Verdict}
use Rattle.history_check.specs.declared.verdict.Verdict.TheVariants.{Yes, No}

-- A history is judged as one over stores that tell their copies and never failed before.
abbrev pub told_setting : Script → Given
told_setting script =
    record {
      frames = script.frames;
      sizes = script.sizes;
      marks = marks_of script;
      told = replicate script.spaces true;
      faults = replicate script.spaces 0;
    }

-- the entries before the n-th are legal, and with it they aren't
pub record IsFirstBad (g : Given) (history : List Entry) (n : ℕ) : Type 0 where
  pub within : n < length history
  pub legal : IsLegal g (take n history)
  pub bad : IsLegal g (take (n + 1) history) → ⊥

-- all entries are legal, and aren't those of the trace
pub record IsOfAnother (script : Script) (history : List Entry) (n : ℕ) : Type 0 where
  pub all : n ≡ length history
  pub legal : IsLegal (told_setting script) history
  pub other : Shows script history → ⊥

abbrev pub IsVerdict : Script → List Entry → Verdict → Type 0
IsVerdict script history Yes = IsLegal (told_setting script) history × Shows script history
IsVerdict script history (No n) = IsFirstBad (told_setting script) history n ⊎ IsOfAnother script history n
