-- A run that ended is whole.
use Rattle.std.proofs.Common.{◌≡◌, ℕ, ◌<◌, ◌≤◌, List, length, take, Option, Some, None, ap, sym, ◌∙◌, arith}
use Rattle.std.specs.List.{enumerate_from}
use Rattle.std.proofs.Math.Seq.{take-length}
use Rattle.pager_model.specs.declared.trace.Job.{Job}
use Rattle.pager_model.specs.declared.entry.Numbered.{Numbered}
use Rattle.pager_model.specs.Entries.{entries_of}
use Rattle.pager_model.specs.FrameStates.{FrameState}
use Rattle.pager_model.specs.Legal.{IsLegal, entries_in, progress_at}
use Rattle.pager_model.specs.Order.{Progress, at_rest}
use Rattle.pager_model.specs.Settings.{Given, mark_of}
use Rattle.pager_model.specs.Showing.{answers_in}
use Rattle.pager_laws.proofs.LegalHistories.{Agrees-legal, IsPartition-legal, NothingHeld-legal}
use Rattle.space_core.specs.Standing.{Kept}
use Rattle.flight_core.specs.declared.flight.Flight.{Flight}
use Rattle.pager_core.specs.Machines.{IsMachine}
use Rattle.flight_core.specs.Counting.{most_in_history}
use Rattle.pager_core.specs.RunParts.{AreAtRest}
use Rattle.pager_core.specs.Running.{Running, calls_among, jobs_at, progress_by_flight, HasEnded, IsNumbered, IsWholeRun}

-- A legal history in which each processor's answers are its calls, and whose lists have led to the end of its jobs, is that of a whole run,
-- whoever made it.
pub IsWholeRun-legal : (given : Given) (jobs : List (List Job)) (history : List Numbered) → IsLegal given (entries_in history)
    → IsNumbered history
    → ((c : ℕ) → c < length jobs → answers_in (entries_of c (entries_in history)) ≡ enumerate_from 0 (calls_among (jobs_at jobs c)))
    → ((c : ℕ) → c < length jobs → progress_at given (entries_in history) c ≡ Some (at_rest (mark_of given c) (length (jobs_at jobs c))))
    → length given.marks ≡ length jobs → IsWholeRun given jobs history
IsWholeRun-legal given jobs history legal numbered answers whole all =
    record {
      legal = legal;
      numbered = numbered;
      answers = answers;
      whole = whole;
      partition = IsPartition-legal given (entries_in history) legal;
      none_held = NothingHeld-legal given (entries_in history) legal (λ c below.
          (length (jobs_at jobs c), whole c (omega (arith, all, below))));
      agrees = Agrees-legal given (entries_in history) legal;
    }

module _ (run : Running) (spaces : List Kept) (pool : FrameState) (capacity : ℕ) (machine : IsMachine run spaces pool capacity)
    (ended : HasEnded run) where
  abbrev by_flight : ℕ → Option Flight → Progress
  by_flight c x = progress_by_flight (mark_of run.given c) (jobs_at run.jobs c) x

  pub IsWholeRun-ended : IsWholeRun run.given run.jobs run.history
  IsWholeRun-ended =
      IsWholeRun-legal run.given run.jobs run.history machine.lawful.legal machine.lawful.numbered
      (λ c below.
      machine.lawful.answers c below
      ∙ ap (λ x. enumerate_from 0 (calls_among (take (by_flight c x).made (jobs_at run.jobs c)))) (ended c)
      ∙ ap (λ own. enumerate_from 0 (calls_among own)) (take-length (jobs_at run.jobs c)))
      (λ c below. machine.lawful.progress c below ∙ ap (λ x. Some (by_flight c x)) (ended c)) machine.marks

  -- no flight keeps a space, so all of them are at rest
  pub AreAtRest-ended : AreAtRest run.given (entries_in run.history) spaces pool
  AreAtRest-ended =
      record {
        count = sym machine.told;
        spaces_rest = λ s kept at. machine.rest s kept at (λ c f flies keeps. (let e : None ≡ Some f = sym (ended c) ∙ flies in cc));
        pool_is = machine.frames;
      }

  -- and there are few entries
  pub few_entries : length run.history ≤ most_in_history
  few_entries = (let few = machine.few in omega (arith, few))
