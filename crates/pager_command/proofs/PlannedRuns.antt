-- What is planned after a run.
use Rattle.std.proofs.Common.{◌≡◌, ◌≢◌, ℕ, ◌⊎◌, inl, inr, List, take, Option, refl, arith}
use Rattle.std.proofs.lemmas.List.{length-map, length-take}
use Rattle.contiguity_plan.specs.declared.plan.Plan.{Plan as Emptying}
use Rattle.contiguity_plan.specs.Emptying.{IsOver, IsPlanned}
use Rattle.io_core.specs.Faults.{one_more}
use Rattle.pager_model.proofs.Actors.{actors_few}
use Rattle.pager_model.specs.declared.summary.Summary.{Summary}
use Rattle.pager_model.specs.Legal.{entries_in, frames_at}
use Rattle.pager_model.specs.Settings.{Given}
use Rattle.pager_model.specs.Stored.{Stored}
use Rattle.pager_model.specs.TraceText.{HasText}
use Rattle.report_text.specs.PlanText.{plan_text}
use Rattle.report_text.specs.Written.{WroteAll, WrotePart}
use Rattle.pager_command.specs.declared.form.Report.TheVariants.{Plan as Planned}
use Rattle.pager_command.specs.declared.status.TheConstants.{DONE, MEMORY, WRITE_FAULT}
use Rattle.pager_command.specs.Runs.{EndsRun, WasRun, setting_of}
use Rattle.pager_command.specs.Views.{Replayed}

-- the history of a run is one over the frames of its trace
pub is_over : (run : Replayed) (summary : Summary) → HasText run.script → WasRun run summary
    → IsOver run.script.frames (setting_of run) (entries_in run.history)
is_over run summary has ran =
    record {
      frames_are = refl;
      processors = actors_few run.script has;
      spaces = omega (
        arith,
        has.spaces_in.1,
        length-map (take run.script.spaces run.stores) (λ (s : Stored). s.told),
        length-take run.script.spaces run.stores,
      );
      legal = ran.legal;
    }

-- a plan of the frames at the end of a run was written, or a part of it, or there was no memory for it
pub EndsRun-planned : {K : Type 0} (taken : K → Option (List ℕ)) (faults : K → ℕ) (before after : K) (size : ℕ) (run : Replayed)
    (summary : Summary) (status : ℕ)
    → HasText run.script → WasRun run summary
    → (status ≡ DONE) ⊎ ((status ≡ WRITE_FAULT) ⊎ (status ≡ MEMORY))
    → (status ≡ MEMORY → after ≡ before)
    → (status ≡ DONE → (g : Given) → IsOver run.script.frames g (entries_in run.history)
    → (planned : Option Emptying) × IsPlanned (frames_at g (entries_in run.history)) run.script.frames size planned
    × WroteAll (plan_text planned) (taken before) (taken after))
    → (status ≡ WRITE_FAULT → (g : Given) → IsOver run.script.frames g (entries_in run.history)
    → (planned : Option Emptying) × IsPlanned (frames_at g (entries_in run.history)) run.script.frames size planned
    × WrotePart (plan_text planned) (taken before) (taken after))
    → (status ≡ WRITE_FAULT → faults after ≡ one_more (faults before))
    → (status ≢ WRITE_FAULT → faults after ≡ faults before)
    → EndsRun taken faults before after (Planned size) run status
EndsRun-planned taken faults before after size run summary status has ran which unwritten wrote part fault no_fault =
    let given = setting_of run in
    let over = is_over run summary has ran in
    record {
      ended = elim which [
        | inl done ↦ inl done
        | inr other ↦ elim other [ inl failed ↦ inr (inl failed) | inr memory ↦ inr (inr (memory, tt)) ]
      ];
      wrote = λ done. (let found = wrote done given over in (plan_text found.0, (found.0, found.1, refl), found.2));
      part = λ failed. (let found = part failed given over in (plan_text found.0, (found.0, found.1, refl), found.2));
      unwritten = unwritten;
      write_fault = fault;
      no_write_fault = no_fault;
    }
