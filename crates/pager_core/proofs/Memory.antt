-- Over stores that keep every page for good no flight of a machine lacks memory.
use Rattle.std.proofs.Common.{◌≡◌, ◌≢◌, ℕ, ◌+◌, true, false, List, [], ◌∷◌, ◌++◌, length, slice_get, Option, Some, None, option_map, refl, ap, sym, subst, ◌∙◌, inl, inr, ◌⊎◌, arith}
use Rattle.std.proofs.lemmas.Bool.{cases_lt}
use Rattle.std.proofs.lemmas.List.{get_or_past}
use Rattle.std.proofs.lemmas.List.FromFn.{get_or-map-range_with_len, length-map-range_with_len}
use Rattle.std.proofs.lemmas.Option.{none-some, same_Some}
use Rattle.pager_model.specs.declared.entry.Entry.{Entry}
use Rattle.pager_model.specs.declared.trace.Job.{Job}
use Rattle.pager_model.specs.declared.trace.Job.TheVariants.{Call as MakesCall, Turn}
use Rattle.pager_model.specs.declared.reply.Reply.TheVariants.{NoMemory}
use Rattle.pager_model.specs.Legal.{entries_in}
use Rattle.pager_model.proofs.Lists.{set_cases}
use Rattle.flight_core.specs.declared.flight.Flight.{Flight}
use Rattle.flight_core.specs.Lacking.{NeverLacks, NoneLacked, is_lacking}
use Rattle.flight_core.specs.Rows.{Outcome, Going, TurnEnded, Answered, has_ended, reply_in, row_of}
use Rattle.flight_core.specs.Steps.{reply_said}
use Rattle.flight_core.proofs.WantOfMemory.{replied}
use Rattle.pager_laws.proofs.HistoryLists.{filter_map-push}
use Rattle.flight_core.specs.Logged.{Added}
use Rattle.pager_core.specs.Machines.{HasMemory}
use Rattle.pager_core.specs.Running.{Running, first_flights, flight_at, flight_for, flight_of, jobs_at}
use Rattle.pager_core.proofs.Lists.{same_option}
use Rattle.pager_core.proofs.Advances.{MachineParts, Step, entries-push, run_after}
use Rattle.pager_core.proofs.WholeAdvances.{HasNext}

pub NoneLacked-push : (entries : List Entry) (e : Entry) → NoneLacked entries → reply_said e.what ≢ Some NoMemory → NoneLacked (entries ++ e ∷ [])
NoneLacked-push [] e all has = (has, tt)
NoneLacked-push (x ∷ xs) e all has = (all.0, NoneLacked-push xs e all.1 has)

-- a flight of which nothing was done
new_has : (c n : ℕ) (o : Option Job) (f : Flight) → option_map (flight_for c n) o ≡ Some f → is_lacking f.phase ≡ false
new_has c n None f is = absurd (none-some f is)
new_has c n (Some (MakesCall call)) f is = ap (λ (g : Flight). is_lacking g.phase) (sym (same_Some _ _ is))
new_has c n (Some (Turn mark)) f is = ap (λ (g : Flight). is_lacking g.phase) (sym (same_Some _ _ is))

-- at the start each flight is such
first_has : (jobs : List (List Job)) (c : ℕ) (f : Flight) → flight_at (first_flights jobs) c ≡ Some f → is_lacking f.phase ≡ false
first_has jobs c f is = elim (cases_lt c (length jobs)) [
  | inl below ↦ new_has c 0 (slice_get (jobs_at jobs c) 0) f
      (sym (get_or-map-range_with_len (λ k. flight_of k 0 (jobs_at jobs k)) 0 (length jobs) c c None below (omega arith)) ∙ is)
  | inr past ↦ absurd (none-some f (sym (get_or_past (first_flights jobs) c None
      (let all = length-map-range_with_len (λ k. flight_of k 0 (jobs_at jobs k)) 0 (length jobs) in omega (arith, all, past))) ∙ is))
]

pub HasMemory-start : (run : Running) → run.flights ≡ first_flights run.jobs → run.history ≡ [] → HasMemory run
HasMemory-start run first none = record {
  flights = λ c f is. first_has run.jobs c f (ap (λ l. flight_at l c) (sym first) ∙ is);
  answers = subst (λ h. NoneLacked (entries_in h)) (sym none) tt;
}

going_or_ended : (o : Outcome) → (o ≡ Going) ⊎ (has_ended o ≡ true)
going_or_ended Going = inl refl
going_or_ended TurnEnded = inr refl
going_or_ended (Answered reply) = inr refl

module _ (m : MachineParts) (step : Step) (o : Option Flight) where
  -- what the actor has after a step
  next_has : HasNext m.run.jobs step.new o → is_lacking step.new.phase ≡ false → (f : Flight) → o ≡ Some f → is_lacking f.phase ≡ false
  next_has next has f is = elim (going_or_ended (row_of step.new).outcome) [
    | inl going ↦ ap (λ (g : Flight). is_lacking g.phase) (same_Some f step.new (sym is ∙ next.going going)) ∙ has
    | inr ended ↦ new_has step.new.processor (step.new.number + 1)
        (slice_get (jobs_at m.run.jobs step.new.processor) (step.new.number + 1)) f (sym (next.next ended) ∙ is)
  ]

  pub HasMemory-advanced : HasMemory m.run → flight_at m.run.flights step.actor ≡ Some step.old → NeverLacks step.old.phase step.new.phase
      → Added step.old step.new (step.entry ∷ []) → HasNext m.run.jobs step.new o → HasMemory (run_after m.run step.actor step.entry o)
  HasMemory-advanced has flies never added next =
      let still = never (has.flights step.actor step.old flies) in
      let reply : reply_said step.entry.what ≡ reply_in (row_of step.new).outcome =
      same_option (reply_said step.entry.what) (reply_in (row_of step.new).outcome)
      (sym (filter_map-push (λ (e : Entry). reply_said e.what) [] step.entry) ∙ added.replies) in
      record {
        flights = λ c f is. elim (set_cases m.run.flights step.actor c o f is) [
          | inl own ↦ next_has next still f own.1
          | inr other ↦ has.flights c f other.1
        ];
        answers = subst NoneLacked (sym (entries-push m.run.history _ step.entry))
            (NoneLacked-push (entries_in m.run.history) step.entry has.answers
            (λ lacking. replied step.new NoMemory still (sym reply ∙ lacking) refl));
      }
