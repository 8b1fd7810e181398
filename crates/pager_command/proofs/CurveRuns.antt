-- The miss curves of a run.
use Rattle.std.proofs.Common.{◌≡◌, ◌≢◌, ℕ, ◌⊎◌, inl, inr, List, Option, take, refl, ◌∙◌}
use Rattle.std.proofs.lemmas.List.{length-map, length-take-le}
use Rattle.io_core.specs.Faults.{one_more}
use Rattle.miss_curves.specs.Curves.{AreCurves, history_capacities}
use Rattle.miss_curves.specs.Histories.{IsRunOf}
use Rattle.pager_model.specs.declared.summary.Summary.{Summary}
use Rattle.pager_model.specs.Legal.{entries_in}
use Rattle.pager_model.specs.Settings.{Given}
use Rattle.pager_model.specs.Stored.{Stored}
use Rattle.report_text.specs.CurveText.{curves_text}
use Rattle.report_text.specs.Written.{WroteAll, WrotePart}
use Rattle.pager_command.specs.declared.form.Report.TheVariants.{Curves}
use Rattle.pager_command.specs.declared.status.TheConstants.{DONE, MEMORY, WRITE_FAULT}
use Rattle.pager_command.specs.Runs.{EndsRun, WasRun, setting_of}
use Rattle.pager_command.specs.Views.{Replayed}

-- the history of a run is one of a run of its trace, in the setting over its stores
pub is_run : (run : Replayed) (summary : Summary) → WasRun run summary → IsRunOf run.script (setting_of run) (entries_in run.history)
is_run run summary ran =
    record {
      frames = refl;
      sizes = refl;
      spaces = length-map (take run.script.spaces run.stores) (λ (s : Stored). s.told)
          ∙ length-take-le run.script.spaces run.stores ran.enough;
      marks = refl;
      legal = ran.legal;
      shows = ran.shows;
    }

-- the curves of a run were written, or a part of them, or there was no memory for them
pub EndsRun-curves : {K : Type 0} (taken : K → Option (List ℕ)) (faults : K → ℕ) (before after : K) (run : Replayed) (summary : Summary)
    (status : ℕ)
    → WasRun run summary
    → (status ≡ DONE) ⊎ ((status ≡ WRITE_FAULT) ⊎ (status ≡ MEMORY))
    → (status ≡ MEMORY → after ≡ before)
    → (status ≡ DONE → (g : Given) → IsRunOf run.script g (entries_in run.history)
    → (tiles : List ℕ) × (pages : List ℕ) × AreCurves history_capacities g (entries_in run.history) tiles pages
    × WroteAll (curves_text tiles pages) (taken before) (taken after))
    → (status ≡ WRITE_FAULT → (g : Given) → IsRunOf run.script g (entries_in run.history)
    → (tiles : List ℕ) × (pages : List ℕ) × AreCurves history_capacities g (entries_in run.history) tiles pages
    × WrotePart (curves_text tiles pages) (taken before) (taken after))
    → (status ≡ WRITE_FAULT → faults after ≡ one_more (faults before))
    → (status ≢ WRITE_FAULT → faults after ≡ faults before)
    → EndsRun taken faults before after Curves run status
EndsRun-curves taken faults before after run summary status ran which unwritten wrote part fault no_fault =
    let given = setting_of run in
    let was = is_run run summary ran in
    record {
      ended = elim which [
        | inl done ↦ inl done
        | inr other ↦ elim other [ inl failed ↦ inr (inl failed) | inr memory ↦ inr (inr (memory, tt)) ]
      ];
      wrote = λ done. (let found = wrote done given was in
          (curves_text found.0 found.1, (found.0, found.1, found.2, refl), found.3));
      part = λ failed. (let found = part failed given was in
          (curves_text found.0 found.1, (found.0, found.1, found.2, refl), found.3));
      unwritten = unwritten;
      write_fault = fault;
      no_write_fault = no_fault;
    }
