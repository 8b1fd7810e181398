-- A machine in the middle of a trace's run, and what its whole run is.
use Rattle.std.proofs.Common.{◌≡◌, ℕ, suc, ◌<◌, ◌≤◌, List, [], ◌∷◌, ◌++◌, ◌==◌, cond, length, drop, map, filter, replicate, get_or, Option, Some, None, refl, sym, ap, subst, ◌∙◌, arith}
use Rattle.std.proofs.lemmas.Bool.{eq-eqb, ne_eqb}
use Rattle.std.proofs.lemmas.List.{append-nil, length-replicate}
use Rattle.std.proofs.lemmas.List.FromFn.{get_or-map-range_with_len, length-map-range_with_len}
use Rattle.std.specs.List.{enumerate_from, range_with_len}
use Rattle.pager_model.specs.declared.call.Call.{Call}
use Rattle.pager_model.specs.declared.entry.Numbered.{Numbered}
use Rattle.pager_model.specs.declared.summary.Summary.{Summary}
use Rattle.pager_model.specs.Counts.{counts}
use Rattle.pager_model.specs.Legal.{entries_in}
use Rattle.pager_model.specs.Scripts.{Script}
use Rattle.pager_model.specs.Settings.{Given, mark_of}
use Rattle.pager_model.specs.Showing.{actors, calls_of, jobs_of, turns_of, MakesTurns, Shows}
use Rattle.pager_model.specs.TraceText.{HasText}
use Rattle.pager_model.specs.Entries.{entries_of}
use Rattle.pager_model.specs.Order.{at_rest, progress_of}
use Rattle.pager_model.specs.declared.call.Line.{Line}
use Rattle.pager_model.specs.declared.trace.Daemon.{Daemon}
use Rattle.pager_model.specs.declared.trace.Job.{Job}
use Rattle.pager_model.specs.declared.trace.Job.TheVariants.{Call as MakesCall, Turn}
use Rattle.pager_model.specs.Stores.{setting_over, StoresEnd, AreCapped}
use Rattle.pager_model.specs.Stored.{Stored}
use Rattle.pager_model.proofs.Actors.{daemon_known, mark_of_caller, mark_of_daemon, processor_known}
use Rattle.pager_core.specs.Running.{Running, calls_among, jobs_at, IsLawful, IsWholeRun}
use Rattle.pager_core.specs.Replays.{IsReplay, AreItsCounts}
use Rattle.pager_core.proofs.ShownReplays.{told-over, IsReplay-shown}

-- The machine runs this trace over these stores.
pub record IsRunOf (script : Script) (stores : List Stored) (run : Running) : Type 0 where
  pub given : run.given ≡ setting_over script stores
  pub unused : run.unused ≡ drop script.spaces stores
  pub jobs : run.jobs ≡ map (λ c. jobs_of c script) (range_with_len 0 (actors script))
  pub lawful : IsLawful run

-- each processor's jobs, and none of others
pub jobs_known : (script : Script) (jobs : List (List Job)) → jobs ≡ map (λ c. jobs_of c script) (range_with_len 0 (actors script)) → (c : ℕ)
    → c < actors script → jobs_at jobs c ≡ jobs_of c script
jobs_known script jobs are c known =
    ap (λ l. jobs_at l c) are ∙ get_or-map-range_with_len (λ c. jobs_of c script) 0 (actors script) c c [] known (omega arith)

pub length-jobs : (script : Script) (jobs : List (List Job)) → jobs ≡ map (λ c. jobs_of c script) (range_with_len 0 (actors script))
    → length jobs ≡ actors script
length-jobs script jobs are = ap length are ∙ length-map-range_with_len (λ c. jobs_of c script) 0 (actors script)

-- The jobs of a processor that makes calls are its calls, and the daemon's are its turns.

pub calls_alone : (calls : List Call) → calls_among (map MakesCall calls) ≡ calls
calls_alone [] = refl
calls_alone (call ∷ calls) = ap (λ l. call ∷ l) (calls_alone calls)

pub jobs_of_calls : (script : Script) (c : ℕ) → c < script.processors → jobs_of c script ≡ map MakesCall (calls_of c script.calls)
jobs_of_calls script c known =
    ap (λ b. map MakesCall (calls_of c script.calls) ++ cond b (turns_of script.daemon) [])
    (ne_eqb c script.processors (λ is. omega (arith, known, is)))
    ∙ append-nil (map MakesCall (calls_of c script.calls))

pub calls_of_jobs : (script : Script) (c : ℕ) → c < script.processors → calls_among (jobs_of c script) ≡ calls_of c script.calls
calls_of_jobs script c known = ap calls_among (jobs_of_calls script c known) ∙ calls_alone (calls_of c script.calls)

-- no line is of the daemon's number
no_calls : (most : ℕ) (lines : List Line) → ((i : ℕ) (d : Line) → i < length lines → (get_or lines i d).processor < most)
    → calls_of most lines ≡ []
no_calls most [] all = refl
no_calls most (line ∷ lines) all =
    let own = all 0 line (omega arith) in
    ap (λ b. map (λ (l : Line). l.call) (cond b (line ∷ filter (λ (l : Line). l.processor == most) lines)
    (filter (λ (l : Line). l.processor == most) lines))) (ne_eqb line.processor most (λ is. omega (arith, own, is)))
    ∙ no_calls most lines (λ i d below. all (suc i) d (omega (arith, below)))

pub jobs_of_daemon : (script : Script) → HasText script → (d : Daemon) → script.daemon ≡ Some d
    → jobs_of script.processors script ≡ replicate d.turns (Turn d.low)
jobs_of_daemon script has d is =
    ap (λ calls. map MakesCall calls ++ cond (script.processors == script.processors) (turns_of script.daemon) [])
    (no_calls script.processors script.calls (λ i line within. (has.lines i line within).0))
    ∙ ap (λ b. cond b (turns_of script.daemon) []) (eq-eqb script.processors script.processors refl)
    ∙ ap turns_of is

-- what a whole run of a trace's jobs shows
module _ (script : Script) (has : HasText script) (stores : List Stored) (jobs : List (List Job)) (history : List Numbered)
    (are : jobs ≡ map (λ c. jobs_of c script) (range_with_len 0 (actors script)))
    (whole : IsWholeRun (setting_over script stores) jobs history) where
  there : (c : ℕ) → c < actors script → c < length jobs
  there c known = subst (λ n. c < n) (sym (length-jobs script jobs are)) known

  ended_at : (c mark : ℕ) → c < actors script → mark_of (setting_over script stores) c ≡ mark
      → progress_of mark (entries_of c (entries_in history)) ≡ Some (at_rest mark (length (jobs_of c script)))
  ended_at c mark known is =
      ap (λ m. progress_of m (entries_of c (entries_in history))) (sym is)
      ∙ whole.whole c (there c known)
      ∙ ap (λ m. Some (at_rest m (length (jobs_at jobs c)))) is
      ∙ ap (λ own. Some (at_rest mark (length own))) (jobs_known script jobs are c known)

  turns_made : (o : Option Daemon) → script.daemon ≡ o → MakesTurns script o (entries_in history)
  turns_made None is = tt
  turns_made (Some d) is =
      ended_at script.processors d.low (daemon_known script d is) (mark_of_daemon script d is)
      ∙ ap (λ own. Some (at_rest d.low (length own))) (jobs_of_daemon script has d is)
      ∙ ap (λ n. Some (at_rest d.low n)) (length-replicate {A = Job} d.turns (Turn d.low))

  Shows-whole : Shows script (entries_in history)
  Shows-whole = record {
    calls = λ c known.
        let knows = processor_known script c known in (
          whole.answers c (there c knows) ∙ ap (λ own. enumerate_from 0 (calls_among own)) (jobs_known script jobs are c knows)
              ∙ ap (enumerate_from 0) (calls_of_jobs script c known),
          (length (jobs_of c script), ended_at c 0 knows (mark_of_caller script c known)),
        );
    turns = turns_made script.daemon refl;
  }

-- a whole run of its jobs over the stores is its replay
pub IsReplay-of : (script : Script) → HasText script → (stores after : List Stored) (given : Given) (jobs : List (List Job))
    (history : List Numbered) → script.spaces ≤ length stores → AreCapped script.spaces stores → given ≡ setting_over script stores
    → jobs ≡ map (λ c. jobs_of c script) (range_with_len 0 (actors script)) → IsWholeRun given jobs history
    → StoresEnd given history after → drop script.spaces after ≡ drop script.spaces stores → IsReplay script stores history after
IsReplay-of script has stores after given jobs history enough capped g are run_whole run_ends unused =
    let whole : IsWholeRun (setting_over script stores) jobs history = subst (λ g. IsWholeRun g jobs history) g run_whole in
    IsReplay-shown script stores after history enough capped whole.numbered whole.legal (Shows-whole script has stores jobs history are whole)
    (subst (λ g. StoresEnd g history after) g run_ends) unused

-- as a machine's is
pub IsReplay-whole : (script : Script) → HasText script → (stores after : List Stored) (run : Running) → script.spaces ≤ length stores
    → AreCapped script.spaces stores → IsRunOf script stores run → IsWholeRun run.given run.jobs run.history
    → StoresEnd run.given run.history after → drop (length run.given.told) after ≡ run.unused → IsReplay script stores run.history after
IsReplay-whole script has stores after run enough capped now whole ends unused =
    IsReplay-of script has stores after run.given run.jobs run.history enough capped now.given now.jobs whole ends
    (sym (ap (λ n. drop n after) (ap (λ (g : Given). length g.told) now.given ∙ told-over script stores enough)) ∙ unused ∙ now.unused)

-- its counts are the run's
pub AreItsCounts-whole : (script : Script) (stores : List Stored) (run : Running) (history : List Numbered) (summary : Summary)
    → IsRunOf script stores run → history ≡ run.history → summary ≡ counts run.given (entries_in run.history)
    → AreItsCounts script stores history summary
AreItsCounts-whole script stores run history summary now same are =
    subst (λ l. AreItsCounts script stores l summary) (sym same) (subst (λ g. summary ≡ counts g (entries_in run.history)) now.given are)
