-- A machine after a turn, whatever its step was made under.
use Rattle.std.proofs.Common.{◌≡◌, ◌≢◌, ℕ, zero, suc, ◌+◌, ◌<◌, ◌≤◌, true, List, [], ◌∷◌, ◌++◌, length, take, get_or, slice_get, Option, Some, None, IfSome, option_to_list, refl, ap, sym, subst, ◌∙◌, inl, inr, arith, ◌⊎◌}
use Rattle.std.specs.List.{enumerate_from, range_with_len}
use Rattle.std.proofs.lemmas.Bool.{cases_eq, eq-eqb, ne_eqb}
use Rattle.std.proofs.lemmas.List.{append-nil, map_push, take_more, length-take-le, length_push, get_or-set_same, get_or-set_other}
use Rattle.std.proofs.lemmas.Option.{slice_get_within, get_or_from_slice_get}
use Rattle.std.proofs.Math.ListN.{set, length-set}
use Rattle.pager_model.specs.declared.call.Call.{Call}
use Rattle.pager_model.specs.declared.entry.Entry.{Entry}
use Rattle.pager_model.specs.declared.entry.Numbered.{Numbered}
use Rattle.pager_model.specs.declared.reply.Reply.{Reply}
use Rattle.pager_model.specs.declared.trace.Job.{Job}
use Rattle.pager_model.specs.declared.trace.Job.TheVariants.{Call as MakesCall, Turn}
use Rattle.pager_model.specs.Agreement.{Agrees}
use Rattle.pager_model.specs.Entries.{entries_of, is_of}
use Rattle.pager_model.specs.FrameStates.{FrameState}
use Rattle.pager_model.specs.Legal.{IsLegal, space_at, frames_at, progress_at, entries_in}
use Rattle.pager_model.specs.Order.{Progress}
use Rattle.pager_model.specs.Settings.{mark_of}
use Rattle.pager_model.specs.Showing.{answers_in}
use Rattle.pager_model.specs.SpaceStates.{SpaceState}
use Rattle.pager_model.proofs.Histories.{progress_at-other, filter-push_in, filter-push_out}
use Rattle.pager_model.proofs.Lists.{get_or_within}
use Rattle.pager_model.proofs.Ranges.{range_with_len-more}
use Rattle.pager_laws.proofs.HistoryLists.{answers-push, filter_map-push}
use Rattle.pager_laws.proofs.LegalHistories.{Agrees-legal}
use Rattle.space_core.specs.Standing.{Kept}
use Rattle.flight_core.specs.declared.flight.Flight.{Flight}
use Rattle.flight_core.specs.declared.flight.Purpose.{Purpose}
use Rattle.flight_core.specs.declared.flight.Purpose.TheVariants.{Call as OfCall, Turn as OfTurn}
use Rattle.flight_core.specs.declared.flight.Phase.{Phase}
use Rattle.flight_core.specs.declared.flight.Phase.TheVariants.{Ended}
use Rattle.flight_core.specs.Flights.{Fits, IsFor, IsReady, IsAtRest}
use Rattle.pager_core.specs.Machines.{CanDo, all_left, IsFlying, IsSpaceOf, IsMachine}
use Rattle.flight_core.specs.Rows.{Outcome, Going, TurnEnded, Answered, call_in, has_ended, mark_in, own_space, reply_in, row_of, is_between, space_under}
use Rattle.pager_core.specs.Running.{Running, AreOfMark, FitsMark, call_of, calls_among, job_in, jobs_at, flight_at, left_behind, progress_by_flight, progress_of_actor, kept_by, entries_left, left_at, IsNumbered, IsLawful}
use Rattle.flight_core.specs.Steps.{answer_made}
use Rattle.flight_core.specs.Flying.{IsFlying as FliesOn}
use Rattle.flight_core.specs.Logged.{Added}
use Rattle.pager_core.proofs.Lists.{enumerate-push, one_in, sum_by-lower}
use Rattle.pager_core.proofs.Lands.{Fits-for, Lands, Starts-for, ended_progress, job_kept, own-for, under-for}
use Rattle.flight_core.proofs.FlightSteps.{own_kept}
use Rattle.flight_core.proofs.Later.{later_none}
use Rattle.flight_core.proofs.NextFlights.{ended_by, made_going, turn_goes_on}

-- The parts of a machine: its run, its spaces, its frames, and the room of its history.
pub record MachineParts : Type 0 where
  pub run : Running
  pub spaces : List Kept
  pub pool : FrameState
  pub capacity : ℕ

-- they are those of a machine
abbrev pub IsWhole : MachineParts → Type 0
IsWhole m = IsMachine m.run m.spaces m.pool m.capacity

-- What is made in a turn: its actor's flight before and after the step, the entry, and the frames after it.
pub record Step : Type 0 where
  pub actor : ℕ
  pub old : Flight
  pub new : Flight
  pub entry : Entry
  pub after : FrameState

-- the state of a space before a turn, and after its entry
abbrev pub state_was : MachineParts → ℕ → SpaceState
state_was m t = space_at m.run.given (entries_in m.run.history) t

abbrev pub state_then : MachineParts → Step → ℕ → SpaceState
state_then m step t = space_at m.run.given (entries_in m.run.history ++ step.entry ∷ []) t

-- one entry more of the actor, after which this is its flight
abbrev pub run_after : Running → ℕ → Entry → Option Flight → Running
run_after run c e o =
    record {
      given = run.given;
      jobs = run.jobs;
      flights = set run.flights c o;
      history = run.history
          ++ record { number = length run.history; entry = e } ∷ [];
      unused = run.unused;
    }

-- a flight keeps this space
abbrev pub Keeps : Flight → ℕ → Type 0
Keeps f t = (row_of f).keeps ≡ Some t

-- A step added its entry: after that the history is legal, and the flight goes on where it leads.
pub record Grows (m : MachineParts) (step : Step) : Type 0 where
  pub legal : IsLegal m.run.given (entries_in m.run.history ++ step.entry ∷ [])
  pub flying : FliesOn m.run.given (entries_in m.run.history ++ step.entry ∷ []) 0 step.new
  pub frames : step.after ≡ frames_at m.run.given (entries_in m.run.history ++ step.entry ∷ [])
  pub added : Added step.old step.new (step.entry ∷ [])
  pub between : is_between step.new.purpose step.new.phase ≡ true

-- What is made in a turn, where the log of a step took some entries, of which there is one.
module _ (m : MachineParts) (c : ℕ) (old new : Flight) (after : FrameState) (piece history : List Entry) (one : length piece ≡ 1)
    (grown : history ≡ entries_in m.run.history ++ piece) where
  abbrev pub step_by : Step
  step_by = record { actor = c; old = old; new = new; entry = (one_in piece one).0; after = after }

  pub history_is : history ≡ entries_in m.run.history ++ step_by.entry ∷ []
  history_is = grown ∙ ap (λ p. entries_in m.run.history ++ p) (one_in piece one).1

  pub Grows-by : IsLegal m.run.given history → FliesOn m.run.given history 0 new → after ≡ frames_at m.run.given history
      → Added old new piece → is_between new.purpose new.phase ≡ true → Grows m step_by
  Grows-by legal flying frames added between =
      record {
        legal = subst (IsLegal m.run.given) history_is legal;
        flying = subst (λ h. FliesOn m.run.given h 0 new) history_is flying;
        frames = frames ∙ ap (frames_at m.run.given) history_is;
        added = subst (Added old new) (one_in piece one).1 added;
        between = between;
      }

-- The actor's flight makes an entry, and this comes of it; the spaces after it are these.
pub record Goes (m : MachineParts) (step : Step) (spaces' : List Kept) (o : Option Flight) : Type 0 where
  pub flies : flight_at m.run.flights step.actor ≡ Some step.old
  pub grows : Grows m step
  pub lands : Lands (mark_of m.run.given step.actor) (jobs_at m.run.jobs step.actor) step.new o
  pub count : length spaces' ≡ length m.spaces
  pub spaces_are : (t : ℕ) (kept : Kept) → slice_get spaces' t ≡ Some kept → IsSpaceOf m.run t kept
  -- the flight keeps no space that another flight keeps
  pub apart : (t d : ℕ) (g : Flight) → Keeps step.new t → d ≢ step.actor → flight_at m.run.flights d ≡ Some g → (row_of g).keeps ≢ Some t
  -- it is ready in the space that it keeps, as is each other flight, and a space that none keeps is at rest
  pub own_ready : (t : ℕ) (kept : Kept) → Keeps step.new t → slice_get spaces' t ≡ Some kept → IsReady step.new kept (state_then m step t)
  pub others_ready : (t d : ℕ) (g : Flight) (kept : Kept) → d ≢ step.actor → flight_at m.run.flights d ≡ Some g → Keeps g t
      → slice_get spaces' t ≡ Some kept → IsReady g kept (state_then m step t)
  pub rest : (t : ℕ) (kept : Kept) → slice_get spaces' t ≡ Some kept → (row_of step.new).keeps ≢ Some t
      → ((d : ℕ) (g : Flight) → d ≢ step.actor → flight_at m.run.flights d ≡ Some g → (row_of g).keeps ≢ Some t)
      → IsAtRest kept (state_then m step t)

-- Histories.

pub entries-push : (history : List Numbered) (number : ℕ) (e : Entry)
    → entries_in (history ++ record { number = number; entry = e } ∷ []) ≡ entries_in history ++ e ∷ []
entries-push history number e = map_push (λ (x : Numbered). x.entry) history (record { number = number; entry = e })

pub numbered-push : (history : List Numbered) (e : Entry) → IsNumbered history
    → IsNumbered (history ++ record { number = length history; entry = e } ∷ [])
numbered-push history e numbered =
    let n : Numbered = record { number = length history; entry = e } in
    map_push (λ (x : Numbered). x.number) history n
    ∙ ap (λ l. l ++ length history ∷ []) numbered
    ∙ sym (ap (range_with_len 0) (length_push history n) ∙ range_with_len-more (length history))

-- Of the jobs of a processor that makes calls each is a call.
pub all_calls : (jobs : List Job) → AreOfMark 0 jobs → length (calls_among jobs) ≡ length jobs
all_calls [] are = refl
all_calls (MakesCall call ∷ jobs) are = ap suc (all_calls jobs (λ n job at. are (suc n) job at))
all_calls (Turn low ∷ jobs) are = (let one = are 0 (Turn low) refl in absurd (omega (arith, one.0, one.1)))

slice_get_take : (jobs : List Job) (n i : ℕ) (job : Job) → slice_get (take n jobs) i ≡ Some job → slice_get jobs i ≡ Some job
slice_get_take jobs zero i job at = cc
slice_get_take [] (suc n) i job at = cc
slice_get_take (k ∷ jobs) (suc n) zero job at = at
slice_get_take (k ∷ jobs) (suc n) (suc i) job at = slice_get_take jobs n i job at

pub take_are : (mark : ℕ) (jobs : List Job) (n : ℕ) → AreOfMark mark jobs → AreOfMark mark (take n jobs)
take_are mark jobs n are i job at = are i job (slice_get_take jobs n i job at)

calls_taken : (mark : ℕ) (jobs : List Job) (n : ℕ) → AreOfMark mark jobs → mark ≡ 0 → n ≤ length jobs
    → length (calls_among (take n jobs)) ≡ n
calls_taken mark jobs n are zero_is below =
    all_calls (take n jobs) (take_are 0 jobs n (subst (λ m. AreOfMark m jobs) zero_is are)) ∙ length-take-le n jobs below

-- one job more among those that are done
jobs-more : (jobs : List Job) (n : ℕ) (job : Job) → slice_get jobs n ≡ Some job
    → calls_among (take (n + 1) jobs) ≡ calls_among (take n jobs) ++ option_to_list (call_of job)
jobs-more jobs n job at =
    let below = slice_get_within jobs n job at in
    let same : get_or jobs n job ≡ job = get_or_from_slice_get jobs n job job at in
    ap calls_among (take_more jobs n job below ∙ ap (λ j. take n jobs ++ j ∷ []) same)
    ∙ filter_map-push call_of (take n jobs) job

-- a flight that was answered is of a call
call_answered : (p : Purpose) (r : Reply) → IsFor p (Ended r) → job_in p ≡ MakesCall (call_in p)
call_answered (OfCall call claimed) r kind = refl
call_answered (OfTurn low evictions) r kind = absurd kind

-- and one whose turn ended is of a turn
turn_ended : (c n : ℕ) (p : Purpose) (phase : Phase) → IsFor p phase
    → (row_of (record { processor = c; number = n; purpose = p; phase = phase })).outcome ≡ TurnEnded → job_in p ≡ Turn (mark_in p)
turn_ended c n (OfCall call claimed) phase kind is = absurd (turn_goes_on
    (record { processor = c; number = n; purpose = OfCall call claimed; phase = phase }) kind is)
turn_ended c n (OfTurn low evictions) phase kind is = refl

-- A flight of a job that goes on steps by an entry: what is known of its answer, and of the answers of the entries before.
pub record AnswersJob (mark : ℕ) (jobs : List Job) (f f' : Flight) (entries : List Entry) (e : Entry) : Type 0 where
  pub are : AreOfMark mark jobs
  pub going : (row_of f).outcome ≡ Going
  pub number : f'.number ≡ f.number
  pub job : slice_get jobs f.number ≡ Some (job_in f.purpose)
  pub same : job_in f'.purpose ≡ job_in f.purpose
  pub fits : Fits f'
  pub answer : answers_in (e ∷ []) ≡ option_to_list (answer_made f' (reply_in (row_of f').outcome))
  pub so_far : answers_in entries ≡ enumerate_from 0 (calls_among (take (row_of f).progress.made jobs))

-- A flight's answer is one more, and its other entries are none.
module _ (mark : ℕ) (jobs : List Job) (f f' : Flight) (entries : List Entry) (e : Entry) (on : AnswersJob mark jobs f f' entries e) where
  was : (row_of f).progress.made ≡ f.number
  was = made_going f on.going

  so_many : answers_in (entries ++ e ∷ []) ≡ enumerate_from 0 (calls_among (take f.number jobs))
      ++ option_to_list (answer_made f' (reply_in (row_of f').outcome))
  so_many =
      answers-push entries e ∙ ap (λ l. answers_in entries ++ l) (sym (answers-push [] e) ∙ on.answer)
      ∙ ap (λ l. l ++ option_to_list (answer_made f' (reply_in (row_of f').outcome)))
      (on.so_far ∙ ap (λ n. enumerate_from 0 (calls_among (take n jobs))) was)

  -- no answer, and the job goes on
  on_going : (row_of f').outcome ≡ Going → answers_in (entries ++ e ∷ [])
      ≡ enumerate_from 0 (calls_among (take (row_of f').progress.made jobs))
  on_going is =
      so_many
      ∙ ap (λ o. enumerate_from 0 (calls_among (take f.number jobs)) ++ option_to_list (answer_made f' (reply_in o))) is
      ∙ append-nil (enumerate_from 0 (calls_among (take f.number jobs)))
      ∙ ap (λ n. enumerate_from 0 (calls_among (take n jobs))) (sym on.number ∙ sym (made_going f' is))

  now : has_ended (row_of f').outcome ≡ true → (row_of f').progress.made ≡ f.number + 1
  now ended =
      ap (λ (p : Progress). p.made) (ended_progress f' mark ended
      (subst (FitsMark mark) (sym on.same) (on.are f.number (job_in f.purpose) on.job)) on.fits) ∙ ap (λ n. n + 1) on.number

  -- a call's answer is one more
  call_done : (r : Reply) → (row_of f').outcome ≡ Answered r
      → answers_in (entries ++ e ∷ []) ≡ enumerate_from 0 (calls_among (take (row_of f').progress.made jobs))
  call_done r is =
      let call : job_in f'.purpose ≡ MakesCall (call_in f'.purpose) =
      call_answered f'.purpose r (subst (IsFor f'.purpose) (ended_by f' r is) on.fits.kind) in
      let at : slice_get jobs f.number ≡ Some (MakesCall (call_in f'.purpose)) = on.job ∙ ap Some (sym on.same ∙ call) in
      let below = slice_get_within jobs f.number (job_in f.purpose) on.job in
      let taken = calls_taken mark jobs f.number on.are (on.are f.number (MakesCall (call_in f'.purpose)) at) (omega (arith, below)) in
      so_many
      ∙ ap (λ o. enumerate_from 0 (calls_among (take f.number jobs)) ++ option_to_list (answer_made f' (reply_in o))) is
      ∙ ap (λ (n : ℕ). enumerate_from 0 (calls_among (take f.number jobs)) ++ (n, call_in f'.purpose) ∷ [])
      (let x : f'.number ≡ 0 + length (calls_among (take f.number jobs)) = omega (arith, on.number, taken) in x)
      ∙ sym (enumerate-push 0 (calls_among (take f.number jobs)) (call_in f'.purpose))
      ∙ ap (enumerate_from 0) (sym (jobs-more jobs f.number (MakesCall (call_in f'.purpose)) at))
      ∙ ap (λ n. enumerate_from 0 (calls_among (take n jobs))) (sym (now (ap has_ended is)))

  -- a turn has none
  turn_done : (row_of f').outcome ≡ TurnEnded → answers_in (entries ++ e ∷ [])
      ≡ enumerate_from 0 (calls_among (take (row_of f').progress.made jobs))
  turn_done is =
      let turn : job_in f'.purpose ≡ Turn (mark_in f'.purpose) = turn_ended f'.processor f'.number f'.purpose f'.phase on.fits.kind is in
      let at : slice_get jobs f.number ≡ Some (Turn (mark_in f'.purpose)) = on.job ∙ ap Some (sym on.same ∙ turn) in
      so_many
      ∙ ap (λ o. enumerate_from 0 (calls_among (take f.number jobs)) ++ option_to_list (answer_made f' (reply_in o))) is
      ∙ append-nil (enumerate_from 0 (calls_among (take f.number jobs)))
      ∙ ap (enumerate_from 0) (sym (jobs-more jobs f.number (Turn (mark_in f'.purpose)) at ∙ append-nil (calls_among (take f.number jobs))))
      ∙ ap (λ n. enumerate_from 0 (calls_among (take n jobs))) (sym (now (ap has_ended is)))

  answers-step : answers_in (entries ++ e ∷ []) ≡ enumerate_from 0 (calls_among (take (row_of f').progress.made jobs))
  answers-step = by (row_of f').outcome refl
    where
      by : (o : Outcome) → (row_of f').outcome ≡ o → answers_in (entries ++ e ∷ [])
          ≡ enumerate_from 0 (calls_among (take (row_of f').progress.made jobs))
      by Going is = on_going is
      by TurnEnded is = turn_done is
      by (Answered r) is = call_done r is

-- The step.

module _ (m : MachineParts) (step : Step) (spaces' : List Kept) (o : Option Flight) where
  abbrev h : List Entry
  h = entries_in m.run.history

  abbrev new : Running
  new = run_after m.run step.actor step.entry o

  abbrev M : Type 0
  M = IsWhole m

  abbrev G : Type 0
  G = Goes m step spaces' o

  flying : M → G → IsFlying m.run m.spaces step.actor step.old
  flying machine goes = machine.flights step.actor step.old goes.flies

  actor_in : M → G → step.actor < length m.run.flights
  actor_in machine goes = get_or_within m.run.flights step.actor step.old goes.flies

  processor_in : M → G → step.actor < length m.run.jobs
  processor_in machine goes = (let at = actor_in machine goes in let known = machine.known in omega (arith, at, known))

  own_entry : M → G → step.entry.processor ≡ step.actor
  own_entry machine goes = goes.grows.added.own.0 ∙ (flying machine goes).processor

  processor_then : M → G → step.new.processor ≡ step.actor
  processor_then machine goes = goes.grows.added.same_work.processor ∙ (flying machine goes).processor

  -- the flights after it
  flight_own : M → G → flight_at new.flights step.actor ≡ o
  flight_own machine goes = get_or-set_same m.run.flights step.actor o None (actor_in machine goes)

  flight_other : (d : ℕ) → d ≢ step.actor → flight_at new.flights d ≡ flight_at m.run.flights d
  flight_other d other = get_or-set_other m.run.flights step.actor d o None other

  flight_after : M → G → (d : ℕ) (g : Flight) → flight_at new.flights d ≡ Some g
      → ((d ≡ step.actor) × (o ≡ Some g)) ⊎ ((d ≢ step.actor) × (flight_at m.run.flights d ≡ Some g))
  flight_after machine goes d g flies =
      elim (cases_eq d step.actor) [
        | inl is ↦ inl (is, sym (flight_own machine goes) ∙ subst (λ n. flight_at new.flights n ≡ Some g) is flies)
        | inr other ↦ inr (other, sym (flight_other d other) ∙ flies)
      ]

  progress_own : M → G → progress_at m.run.given (h ++ step.entry ∷ []) step.actor ≡ Some (progress_of_actor new step.actor)
  progress_own machine goes =
      ap (progress_at m.run.given (h ++ step.entry ∷ [])) (sym (processor_then machine goes))
      ∙ goes.grows.flying.progress
      ∙ ap Some (later_none (row_of step.new).progress ∙ sym goes.lands.progress)
      ∙ ap (λ x. Some (progress_by_flight (mark_of m.run.given step.actor) (jobs_at m.run.jobs step.actor) x))
      (sym (flight_own machine goes))

  progress_other : M → G → (d : ℕ) → d < length m.run.jobs → d ≢ step.actor
      → progress_at m.run.given (h ++ step.entry ∷ []) d ≡ Some (progress_of_actor new d)
  progress_other machine goes d below other =
      progress_at-other m.run.given h step.entry d (ne_eqb step.entry.processor d (λ is. other (sym is ∙ own_entry machine goes)))
      ∙ machine.lawful.progress d below
      ∙ ap (λ x. Some (progress_by_flight (mark_of m.run.given d) (jobs_at m.run.jobs d) x)) (sym (flight_other d other))

  -- a processor's calls that are answered
  abbrev answered : ℕ → Progress → List (ℕ × Call)
  answered d p = enumerate_from 0 (calls_among (take p.made (jobs_at m.run.jobs d)))

  answers_own : M → G → answers_in (entries_of step.actor (h ++ step.entry ∷ [])) ≡ answered step.actor (progress_of_actor new step.actor)
  answers_own machine goes =
      let flies = flying machine goes in
      let same = goes.grows.added.same_work in
      ap answers_in (filter-push_in (is_of step.actor) h step.entry (eq-eqb step.entry.processor step.actor (own_entry machine goes)))
      ∙ answers-step (mark_of m.run.given step.actor) (jobs_at m.run.jobs step.actor) step.old step.new (entries_of step.actor h) step.entry
      (record {
        are = machine.kinds step.actor;
        going = flies.going;
        number = same.number;
        job = flies.job;
        same = job_kept same;
        fits = goes.grows.flying.fits;
        answer = goes.grows.added.answers;
        so_far = machine.lawful.answers step.actor (processor_in machine goes)
            ∙ ap (λ x. answered step.actor (progress_by_flight (mark_of m.run.given step.actor) (jobs_at m.run.jobs step.actor) x))
            goes.flies;
      })
      ∙ ap (answered step.actor) (sym goes.lands.progress)
      ∙ ap (λ x. answered step.actor (progress_by_flight (mark_of m.run.given step.actor) (jobs_at m.run.jobs step.actor) x))
      (sym (flight_own machine goes))

  answers_other : M → G → (d : ℕ) → d < length m.run.jobs → d ≢ step.actor
      → answers_in (entries_of d (h ++ step.entry ∷ [])) ≡ answered d (progress_of_actor new d)
  answers_other machine goes d below other =
      ap answers_in (filter-push_out (is_of d) h step.entry (ne_eqb step.entry.processor d (λ is. other (sym is ∙ own_entry machine goes))))
      ∙ machine.lawful.answers d below
      ∙ ap (λ x. answered d (progress_by_flight (mark_of m.run.given d) (jobs_at m.run.jobs d) x)) (sym (flight_other d other))

  -- The spaces after it.

  state_after : (t : ℕ) → space_at m.run.given (h ++ step.entry ∷ []) t ≡ space_at m.run.given (entries_in new.history) t
  state_after t = ap (λ l. space_at m.run.given l t) (sym (entries-push m.run.history (length m.run.history) step.entry))

  can_do : M → G → (d n : ℕ) (job : Job) → slice_get (jobs_at m.run.jobs d) n ≡ Some job → CanDo (length spaces') job
  can_do machine goes d n job at = subst (λ k. CanDo k job) (sym goes.count) (machine.jobs d n job at)

  flying_own : M → G → (g : Flight) → o ≡ Some g → IsFlying new spaces' step.actor g
  flying_own machine goes g is =
      let job = goes.lands.job g is in
      record {
        processor = goes.lands.processor g is ∙ processor_then machine goes;
        job = job;
        on = subst (λ n. IfSome (own_space g.purpose) (λ s. s < n)) (sym goes.count) (elim (goes.lands.same g is) [
          | inl same ↦
              subst (λ own. IfSome own (λ s. s < length m.spaces))
              (sym (ap (λ (x : Flight). own_space x.purpose) same ∙ own_kept goes.grows.added.same_work)) (flying machine goes).on
          | inr start ↦
              subst (λ (x : Flight). IfSome (own_space x.purpose) (λ s. s < length m.spaces)) (sym start.3)
              (own-for (length m.spaces) step.new.processor start.0 start.1 (machine.jobs step.actor start.0 start.1 start.2))
        ]);
        fits = elim (goes.lands.same g is) [
          | inl same ↦ subst Fits (sym same) goes.grows.flying.fits
          | inr start ↦
              subst Fits (sym start.3) (Fits-for (length m.spaces) step.new.processor start.0 start.1
              (machine.jobs step.actor start.0 start.1 start.2))
        ];
        under = λ t under. subst (λ n. t < n) (sym goes.count) (elim (goes.lands.same g is) [
          | inl same ↦
              subst (λ n. t < n) machine.told
              (goes.grows.flying.under t (subst (λ (x : Flight). space_under (row_of x).needs ≡ Some t) same under))
          | inr start ↦
              under-for (length m.spaces) step.new.processor start.0 start.1 t (machine.jobs step.actor start.0 start.1 start.2)
              (subst (λ (x : Flight). space_under (row_of x).needs ≡ Some t) start.3 under)
        ]);
        going = goes.lands.going g is;
        keeps = λ t kept keeps at.
            let same = goes.lands.keeper g t is keeps in
            subst (IsReady g kept) (state_after t)
            (subst (λ x. IsReady x kept (space_at m.run.given (h ++ step.entry ∷ []) t)) (sym same)
            (goes.own_ready t kept (subst (λ (x : Flight). (row_of x).keeps ≡ Some t) same keeps) at));
      }

  flying_other : M → G → (d : ℕ) (g : Flight) → d ≢ step.actor → flight_at m.run.flights d ≡ Some g → IsFlying new spaces' d g
  flying_other machine goes d g other flies =
      let before = machine.flights d g flies in
      record {
        processor = before.processor;
        job = before.job;
        on = subst (λ n. IfSome (own_space g.purpose) (λ s. s < n)) (sym goes.count) before.on;
        fits = before.fits;
        under = λ t under. subst (λ n. t < n) (sym goes.count) (before.under t under);
        going = before.going;
        keeps = λ t kept keeps at. subst (IsReady g kept) (state_after t) (goes.others_ready t d g kept other flies keeps at);
      }

  flights_after : M → G → (d : ℕ) (g : Flight) → flight_at new.flights d ≡ Some g → IsFlying new spaces' d g
  flights_after machine goes d g flies =
      elim (flight_after machine goes d g flies) [
        | inl own ↦ subst (λ n. IsFlying new spaces' n g) (sym own.0) (flying_own machine goes g own.1)
        | inr other ↦ flying_other machine goes d g other.0 other.1
      ]

  spaces_after : M → G → (t : ℕ) (kept : Kept) → slice_get spaces' t ≡ Some kept → IsSpaceOf new t kept
  spaces_after machine goes t kept at =
      let is = goes.spaces_are t kept at in
      record { number = is.number; frames = is.frames; processors = is.processors }

  -- what the actor's flight keeps, what comes of it keeps
  own_keeps : M → G → (t : ℕ) → (row_of step.new).keeps ≡ Some t → (x : Option Flight) → o ≡ x
      → (g : Flight) × (o ≡ Some g) × ((row_of g).keeps ≡ Some t)
  own_keeps machine goes t keeps None is = (let none : None ≡ Some t = sym (ap kept_by is) ∙ goes.lands.keeps ∙ keeps in cc)
  own_keeps machine goes t keeps (Some g) is = (g, is, sym (ap kept_by is) ∙ goes.lands.keeps ∙ keeps)

  rest_after : M → G → (t : ℕ) (kept : Kept) → slice_get spaces' t ≡ Some kept
      → ((d : ℕ) (g : Flight) → flight_at new.flights d ≡ Some g → (row_of g).keeps ≢ Some t)
      → IsAtRest kept (space_at m.run.given (entries_in new.history) t)
  rest_after machine goes t kept at none =
      subst (IsAtRest kept) (state_after t)
      (goes.rest t kept at
      (λ keeps. (let own = own_keeps machine goes t keeps o refl in none step.actor own.0 (flight_own machine goes ∙ own.1) own.2))
      (λ d g other flies keeps. none d g (flight_other d other ∙ flies) keeps))

  one_keeper_after : M → G → (t d d' : ℕ) (g g' : Flight) → flight_at new.flights d ≡ Some g → flight_at new.flights d' ≡ Some g'
      → (row_of g).keeps ≡ Some t → (row_of g').keeps ≡ Some t → d ≡ d'
  one_keeper_after machine goes t d d' g g' flies flies' keeps keeps' =
      elim (flight_after machine goes d g flies) [
        | inl own ↦ elim (flight_after machine goes d' g' flies') [
          | inl own' ↦ own.0 ∙ sym own'.0
          | inr other' ↦ absurd (goes.apart t d' g' (kept_too g own.1 keeps) other'.0 other'.1 keeps')
        ]
        | inr other ↦ elim (flight_after machine goes d' g' flies') [
          | inl own' ↦ absurd (goes.apart t d g (kept_too g' own'.1 keeps') other.0 other.1 keeps)
          | inr other' ↦ machine.lawful.one_keeper t d d' g g' other.1 other'.1 keeps keeps'
        ]
      ]
    where
      kept_too : (x : Flight) → o ≡ Some x → (row_of x).keeps ≡ Some t → (row_of step.new).keeps ≡ Some t
      kept_too x is own = subst (λ (y : Flight). (row_of y).keeps ≡ Some t) (goes.lands.keeper x t is own) own

  pub IsLawful-advance : M → G → IsLawful new
  IsLawful-advance machine goes =
      let more = sym (entries-push m.run.history (length m.run.history) step.entry) in
      record {
        legal = subst (IsLegal m.run.given) more goes.grows.legal;
        numbered = numbered-push m.run.history step.entry machine.lawful.numbered;
        agrees = subst (Agrees m.run.given) more (Agrees-legal m.run.given (h ++ step.entry ∷ []) goes.grows.legal);
        progress = λ d below. subst (λ l. progress_at m.run.given l d ≡ Some (progress_of_actor new d)) more
            (elim (cases_eq d step.actor) [
              | inl is ↦
                  subst (λ n. progress_at m.run.given (h ++ step.entry ∷ []) n ≡ Some (progress_of_actor new n)) (sym is)
                  (progress_own machine goes)
              | inr other ↦ progress_other machine goes d below other
            ]);
        answers = λ d below. subst (λ l. answers_in (entries_of d l) ≡ answered d (progress_of_actor new d)) more
            (elim (cases_eq d step.actor) [
              | inl is ↦
                  subst (λ n. answers_in (entries_of n (h ++ step.entry ∷ [])) ≡ answered n (progress_of_actor new n)) (sym is)
                  (answers_own machine goes)
              | inr other ↦ answers_other machine goes d below other
            ]);
        between = λ d g flies. elim (flight_after machine goes d g flies) [
          | inl own ↦ elim (goes.lands.same g own.1) [
            | inl same ↦ subst (λ (x : Flight). is_between x.purpose x.phase ≡ true) (sym same) goes.grows.between
            | inr start ↦
                subst (λ (x : Flight). is_between x.purpose x.phase ≡ true) (sym start.3)
                (Starts-for step.new.processor start.0 (mark_of m.run.given step.actor) start.1
                (machine.kinds step.actor start.0 start.1 start.2)).between
          ]
          | inr other ↦ machine.lawful.between d g other.1
        ];
        flying = λ d g flies. (let is = flights_after machine goes d g flies in record { job = is.job; going = is.going });
        one_keeper = one_keeper_after machine goes;
      }

  -- the actor has less left
  pub left_own : M → G → left_at new step.actor < left_at m.run step.actor
  left_own machine goes =
      let was_left : left_at m.run step.actor ≡ (row_of step.old).entries + left_behind (jobs_at m.run.jobs step.actor)
      (step.old.number + 1) = ap (entries_left (jobs_at m.run.jobs step.actor)) goes.flies in
      let now_left : left_at new step.actor ≡ entries_left (jobs_at m.run.jobs step.actor) o =
      ap (entries_left (jobs_at m.run.jobs step.actor)) (flight_own machine goes) in
      let left = goes.lands.left in
      let fewer : 1 + (row_of step.new).entries ≤ (row_of step.old).entries = goes.grows.added.spent in
      let number : left_behind (jobs_at m.run.jobs step.actor) (step.new.number + 1) ≡ left_behind (jobs_at m.run.jobs step.actor)
      (step.old.number + 1) = ap (λ n. left_behind (jobs_at m.run.jobs step.actor) (n + 1)) goes.grows.added.same_work.number in
      omega (arith, was_left, now_left, left, fewer, number)

  pub all_left-advance : M → G → all_left new < all_left m.run
  all_left-advance machine goes =
      sum_by-lower (left_at m.run) (left_at new) step.actor 0 (length m.run.jobs) (omega arith)
      (let at = processor_in machine goes in omega (arith, at)) (left_own machine goes)
      (λ d other. ap (entries_left (jobs_at m.run.jobs d)) (flight_other d other))

  pub IsMachine-advance : M → G → IsMachine new spaces' step.after m.capacity
  IsMachine-advance machine goes =
      let less = all_left-advance machine goes in
      let count : length new.history ≡ length m.run.history + 1 = length_push m.run.history (record {
        number = length m.run.history;
        entry = step.entry;
      }) in
      record {
        lawful = IsLawful-advance machine goes;
        marks = machine.marks;
        kinds = machine.kinds;
        told = machine.told ∙ sym goes.count;
        faults = machine.faults ∙ sym goes.count;
        known = length-set m.run.flights step.actor o ∙ machine.known;
        frames = goes.grows.frames
            ∙ ap (frames_at m.run.given) (sym (entries-push m.run.history (length m.run.history) step.entry));
        few_jobs = machine.few_jobs;
        few_spaces = subst (λ n. n ≤ 16) (sym goes.count) machine.few_spaces;
        jobs = can_do machine goes;
        flights = flights_after machine goes;
        space_is = spaces_after machine goes;
        rest = rest_after machine goes;
        room = (let room = machine.room in omega (arith, room, less, count));
        few = (let few = machine.few in omega (arith, few, less, count));
      }
