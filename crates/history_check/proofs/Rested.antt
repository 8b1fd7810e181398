-- Whether each processor is at rest is whether all that the lists began has ended.
use Rattle.std.proofs.Common.{◌≡◌, ℕ, zero, suc, ◌<◌, ◌≤◌, List, length, get_or, Some, None, sym, ap, subst, ◌∙◌, arith}
use Rattle.std.proofs.lemmas.Option.{same_Some}
use Rattle.pager_model.specs.declared.entry.Entry.{Entry}
use Rattle.pager_model.specs.declared.trace.Daemon.{Daemon}
use Rattle.pager_model.specs.Entries.{entries_of}
use Rattle.pager_model.specs.Order.{IsWhole, Progress, at_rest, progress_of}
use Rattle.pager_model.specs.Scripts.{Script}
use Rattle.pager_model.specs.Showing.{MakesTurns, Shows, actors}
use Rattle.pager_model.proofs.Actors.{daemon_known, mark_of_caller, mark_of_daemon, processor_known}
use Rattle.history_check.specs.declared.checker.Checker.{Checker}
use Rattle.history_check.specs.Shown.{AllAnswersShown, AllAtRest, IsAtRest}
use Rattle.history_check.specs.Standing.{StandsAfter}
use Rattle.history_check.specs.Verdicts.{told_setting}

module _ (script : Script) (history : List Entry) (checker : Checker) (stands : StandsAfter (told_setting script) history checker) where
  abbrev progress : List Progress
  progress = checker.progress.items

  pub callers_known : script.processors ≤ length progress
  callers_known = (let few = callers_few script.processors (omega arith) in omega (arith, few, stands.progress.known))
    where
      callers_few : (n : ℕ) → n ≤ script.processors → n ≤ actors script
      callers_few zero below = omega arith
      callers_few (suc n) below = (let known = processor_known script n (omega arith) in omega (arith, known))

  -- a processor that makes calls
  caller : (c : ℕ) (d : Progress) → c < script.processors → progress_of 0 (entries_of c history) ≡ Some (get_or progress c d)
  caller c d known =
      let within : c < length progress = omega (arith, processor_known script c known, stands.progress.known) in
      ap (λ m. progress_of m (entries_of c history)) (sym (mark_of_caller script c known)) ∙ stands.progress.each c d within

  pub whole_idle : (c : ℕ) (d : Progress) → c < script.processors → IsAtRest 0 (get_or progress c d) → IsWhole 0 (entries_of c history)
  whole_idle c d known idle = ((get_or progress c d).made, caller c d known ∙ ap Some idle)

  pub idle_whole : (c : ℕ) (d : Progress) → c < script.processors → IsWhole 0 (entries_of c history) → IsAtRest 0 (get_or progress c d)
  idle_whole c d known whole =
      let same : get_or progress c d ≡ at_rest 0 whole.0 = same_Some (get_or progress c d) (at_rest 0 whole.0) (sym (caller c d known) ∙ whole.1) in
      same ∙ ap (λ (p : Progress). at_rest 0 p.made) (sym same)

  -- the daemon
  module _ (daemon : Daemon) (is : script.daemon ≡ Some daemon) where
    pub daemon_within : script.processors < length progress
    daemon_within = omega (arith, daemon_known script daemon is, stands.progress.known)

    turning : (d : Progress) → progress_of daemon.low (entries_of script.processors history) ≡ Some (get_or progress script.processors d)
    turning d =
        ap (λ m. progress_of m (entries_of script.processors history)) (sym (mark_of_daemon script daemon is))
        ∙ stands.progress.each script.processors d daemon_within

    pub turns_made : (d : Progress) → get_or progress script.processors d ≡ at_rest daemon.low daemon.turns → MakesTurns script script.daemon history
    turns_made d made = subst (λ o. MakesTurns script o history) (sym is) (turning d ∙ ap Some made)

    pub made_turns : (d : Progress) → MakesTurns script script.daemon history → get_or progress script.processors d ≡ at_rest daemon.low daemon.turns
    made_turns d makes =
        same_Some (get_or progress script.processors d) (at_rest daemon.low daemon.turns)
        (sym (turning d) ∙ subst (λ o. MakesTurns script o history) is makes)

  pub no_turns : script.daemon ≡ None → MakesTurns script script.daemon history
  no_turns none = subst (λ o. MakesTurns script o history) (sym none) tt

-- A history shows a trace where its answers do, and nothing is left in the middle.
pub Shows-from : (script : Script) (history : List Entry) → AllAtRest script history → AllAnswersShown script history → Shows script history
Shows-from script history rest answers = record {
  calls = λ c known. (answers c known, rest.calls c known);
  turns = rest.turns;
}

pub Shows-rests : (script : Script) (history : List Entry) → Shows script history → AllAtRest script history
Shows-rests script history shows = record { calls = λ c known. (shows.calls c known).1; turns = shows.turns }

pub Shows-answers : (script : Script) (history : List Entry) → Shows script history → AllAnswersShown script history
Shows-answers script history shows = λ c known. (shows.calls c known).0
