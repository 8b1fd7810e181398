-- A call, or a turn of a daemon, from its start to its end, where no other is in progress.
use Rattle.std.proofs.Common.{◌≡◌, ℕ, ◌+◌, ◌<◌, ◌≤◌, true, false, List, [], ◌∷◌, length, slice_get, option_to_list, Option, Some, None, refl, ap, sym, subst, ◌∙◌, arith}
use Rattle.std.specs.List.{AllByRecursion, cons_option}
use Rattle.std.proofs.lemmas.Bool.{false≢true}
use Rattle.std.proofs.lemmas.Option.{none-some, same_Some}
use Rattle.pager_model.specs.declared.call.Call.{Call}
use Rattle.pager_model.specs.declared.entry.Entry.{Entry}
use Rattle.pager_model.specs.declared.reply.Reply.{Reply}
use Rattle.pager_model.specs.declared.reply.Reply.TheVariants.{NoMemory}
use Rattle.pager_model.specs.declared.trace.Job.{Job}
use Rattle.pager_model.specs.declared.trace.Job.TheVariants.{Call as MakesCall, Turn}
use Rattle.pager_model.specs.Entries.{entries_of}
use Rattle.pager_model.specs.FrameStates.{FrameState}
use Rattle.pager_model.specs.Legal.{IsLegal, progress_at, progress_in}
use Rattle.pager_model.specs.Order.{at_rest, progress_from}
use Rattle.pager_model.specs.Settings.{Given, mark_of}
use Rattle.pager_model.specs.Showing.{answers_in}
use Rattle.pager_model.proofs.Histories.{progress_from-append}
use Rattle.space_core.specs.Standing.{Kept}
use Rattle.flight_core.specs.declared.flight.Flight.{Flight}
use Rattle.flight_core.specs.declared.flight.Phase.TheVariants.{Ended}
use Rattle.flight_core.specs.declared.flight.Purpose.{Purpose}
use Rattle.flight_core.specs.declared.flight.Purpose.TheVariants.{Call as OfCall, Turn as OfTurn}
use Rattle.flight_core.specs.Flights.{IsFor}
use Rattle.flight_core.specs.Lacking.{NeverLacks, NoneLacked, is_lacking, is_no_memory}
use Rattle.flight_core.specs.Rows.{Outcome, Going, TurnEnded, Answered, has_ended, is_of_call, reply_in, row_of}
use Rattle.flight_core.specs.Steps.{answer_made, reply_said}
use Rattle.flight_core.proofs.NextFlights.{ended_by, of_calls, turn_goes_on}
use Rattle.flight_core.specs.Counting.{most_in_history}
use Rattle.flight_core.specs.Flying.{IsSpaceIn, since}
use Rattle.flight_core.specs.Logged.{replies_in}
use Rattle.flight_core.specs.Whole.{AreAt, WentOn}
use Rattle.flight_core.proofs.Later.{later_none}
use Rattle.pager_core.specs.Machines.{CanDo}
use Rattle.pager_core.specs.RunParts.{AreAtRest}
use Rattle.pager_core.specs.Running.{FitsMark, entries_of_job, flight_for, job_in}
use Rattle.pager_core.proofs.Lands.{Fits-for, Starts, Starts-for, ended_keeps, ended_progress, job_kept, mark_of_job, own-for, under-for}
use Rattle.pager_core.proofs.FiledLines.{entries_on}
use Rattle.stream_core.specs.Tallies.{IsTallied, Tallied}

-- Replies of a piece of a history.

-- where none of them is that there was no memory, no entry says so
none_lacked_by : (o : Option Reply) (e : Entry) (es : List Entry) → reply_said e.what ≡ o
    → (AllByRecursion (λ r. is_no_memory r ≡ false) (replies_in es) → NoneLacked es)
    → AllByRecursion (λ r. is_no_memory r ≡ false) (cons_option o (replies_in es)) → NoneLacked (e ∷ es)
none_lacked_by None e es is rest all = ((λ lacks. none-some NoMemory (sym is ∙ lacks)), rest all)
none_lacked_by (Some r) e es is rest all = (
  (λ lacks. false≢true (sym all.0 ∙ ap is_no_memory (same_Some r NoMemory (sym is ∙ lacks)))),
  rest all.1,
)

pub none_lacked : (es : List Entry) → AllByRecursion (λ r. is_no_memory r ≡ false) (replies_in es) → NoneLacked es
none_lacked [] all = tt
none_lacked (e ∷ es) all = none_lacked_by (reply_said e.what) e es refl (none_lacked es) all

-- a turn answers no call
turn_answers_none : (purpose : Purpose) (r : Reply) → is_of_call purpose ≡ false → IsFor purpose (Ended r) → ⊥
turn_answers_none (OfCall call claimed) r kind for = false≢true (sym kind)
turn_answers_none (OfTurn mark evictions) r kind for = for

-- What is where nothing is in progress: a legal history, what was counted of it, and the spaces and frames after it.
pub record StandAfter (g : Given) (h : List Entry) (tally : Tallied) (spaces : List Kept) (pool : FrameState) : Type 0 where
  pub legal : IsLegal g h
  pub tallied : IsTallied tally g h
  pub rest : AreAtRest g h spaces pool
  pub number : (s : ℕ) (kept : Kept) → slice_get spaces s ≡ Some kept → kept.number ≡ s
  pub space : (s : ℕ) (kept : Kept) → slice_get spaces s ≡ Some kept → IsSpaceIn g kept

-- the processor has done so many jobs, and this can be its next one
pub record IsNextJob (g : Given) (h : List Entry) (c n : ℕ) (job : Job) : Type 0 where
  pub known : c < length g.marks
  pub marked : FitsMark (mark_of g c) job
  pub made : progress_at g h c ≡ Some (at_rest (mark_of g c) n)
  pub can : CanDo (length g.told) job
  pub few : length h + entries_of_job job ≤ most_in_history

module _ (g : Given) (h : List Entry) (tally : Tallied) (spaces : List Kept) (pool : FrameState) (c n : ℕ) (job : Job)
    (stand : StandAfter g h tally spaces pool) (next : IsNextJob g h c n job) where
  flight : Flight
  flight = flight_for c n job

  starts : Starts c n (mark_of g c) job
  starts = Starts-for c n (mark_of g c) job next.marked

  pub at_start : AreAt g h 0 spaces pool (flight_for c n job)
  at_start =
      record {
        legal = stand.legal;
        flying = record {
          known = subst (λ k. k < length g.marks) (sym starts.processor) next.known;
          mark = ap (mark_of g) starts.processor
              ∙ mark_of_job (mark_of g c) (flight_for c n job).purpose (subst (FitsMark (mark_of g c)) (sym starts.job_is) next.marked);
          none_before = λ is. refl;
          progress = ap (progress_at g h) starts.processor ∙ next.made ∙ ap Some (sym starts.progress)
              ∙ ap Some (sym (later_none (row_of (flight_for c n job)).progress));
          fits = Fits-for (length g.told) c n job next.can;
          on = own-for (length g.told) c n job next.can;
          under = λ s is. under-for (length g.told) c n job s next.can is;
        };
        short = (let entries = starts.entries in let few = next.few in omega (arith, entries, few));
        frames = stand.rest.pool_is;
        count = stand.rest.count;
        number = stand.number;
        space = stand.space;
        ready = λ s kept got keeps. absurd (none-some s (sym starts.keeps_none ∙ keeps));
        rest = λ s kept got none. stand.rest.spaces_rest s kept got;
      }

  pub goes : has_ended (row_of (flight_for c n job)).outcome ≡ false
  goes = ap has_ended starts.going

  pub has_room : (row_of (flight_for c n job)).entries ≤ tally.counted.left
  has_room = (let entries = starts.entries in let all = stand.tallied.counted.left in let few = next.few in omega (arith, entries, all, few))

  -- once it was done
  module _ (tally' : Tallied) (f' : Flight) (spaces' : List Kept) (pool' : FrameState)
      (went : WentOn IsTallied (since g h 0) tally' (flight_for c n job) f' spaces' pool') (ended : has_ended (row_of f').outcome ≡ true) where
    job_is : job_in f'.purpose ≡ job
    job_is = job_kept went.added.same_work ∙ starts.job_is

    marked : FitsMark (mark_of g c) (job_in f'.purpose)
    marked = subst (FitsMark (mark_of g c)) (sym job_is) next.marked

    pub stand_then : StandAfter g went.history tally' spaces' pool'
    stand_then =
        record {
          legal = went.at.legal;
          tallied = went.stands_for;
          rest = record {
            count = went.at.count;
            spaces_rest = λ s kept got. went.at.rest s kept got (λ is. none-some s (sym (ended_keeps f' ended) ∙ is));
            pool_is = went.at.frames;
          };
          number = went.at.number;
          space = went.at.space;
        }

    pub few_more : length went.piece ≤ entries_of_job job
    few_more = (let spent = went.added.spent in let entries = starts.entries in omega (arith, spent, entries))

    pub own : AllByRecursion (λ (e : Entry). e.processor ≡ c) went.piece
    own = subst (λ k. AllByRecursion (λ (e : Entry). e.processor ≡ k) went.piece) starts.processor went.added.own

    pub made_then : progress_at g went.history c ≡ Some (at_rest (mark_of g c) (n + 1))
    made_then =
        ap (progress_at g went.history) (sym (went.added.same_work.processor ∙ starts.processor)) ∙ went.at.flying.progress
        ∙ ap Some (later_none (row_of f').progress)
        ∙ ap Some (ended_progress f' (mark_of g c) ended marked went.at.flying.fits)
        ∙ ap (λ k. Some (at_rest (mark_of g c) (k + 1))) (went.added.same_work.number ∙ starts.number)

    pub leads : progress_from (Some (at_rest (mark_of g c) n)) went.piece ≡ Some (at_rest (mark_of g c) (n + 1))
    leads =
        ap (λ p. progress_from p went.piece) (sym next.made)
        ∙ sym (progress_from-append (Some (at_rest (mark_of g c) 0)) (entries_of c h) went.piece)
        ∙ ap (progress_in g c) (sym (entries_on c h went.piece own))
        ∙ ap (λ l. progress_at g l c) (sym went.grown) ∙ made_then

-- A call was answered.
module _ (g : Given) (h : List Entry) (tally' : Tallied) (spaces' : List Kept) (pool' : FrameState) (c n : ℕ) (call : Call) (f' : Flight)
    (went : WentOn IsTallied (since g h 0) tally' (flight_for c n (MakesCall call)) f' spaces' pool')
    (ended : has_ended (row_of f').outcome ≡ true) where
  answered : (r : Reply) × ((row_of f').outcome ≡ Answered r)
  answered = by (row_of f').outcome refl
    where
      by : (o : Outcome) → (row_of f').outcome ≡ o → (r : Reply) × ((row_of f').outcome ≡ Answered r)
      by Going is = absurd (false≢true (sym (ap has_ended is) ∙ ended))
      by TurnEnded is = absurd (turn_goes_on f' (of_calls f' went.added.same_work.same_kind went.at.flying.fits) is)
      by (Answered r) is = (r, is)

  pub answer : answers_in went.piece ≡ (n, call) ∷ []
  answer =
      went.added.answers ∙ ap (λ o. option_to_list (answer_made f' (reply_in o))) answered.1
      ∙ (λ i. (went.added.same_work.number i, went.added.same_work.call i) ∷ [])

  pub lasting : NeverLacks (flight_for c n (MakesCall call)).phase f'.phase → NoneLacked went.piece
  lasting never =
      let reply : is_no_memory answered.0 ≡ false = sym (ap is_lacking (ended_by f' answered.0 answered.1)) ∙ never refl in
      none_lacked went.piece (subst (AllByRecursion (λ r. is_no_memory r ≡ false))
      (sym (went.added.replies ∙ ap (λ o. option_to_list (reply_in o)) answered.1)) (reply, tt))

-- A turn ended.
module _ (g : Given) (h : List Entry) (tally' : Tallied) (spaces' : List Kept) (pool' : FrameState) (c n low : ℕ) (f' : Flight)
    (went : WentOn IsTallied (since g h 0) tally' (flight_for c n (Turn low)) f' spaces' pool') where
  none_told : reply_in (row_of f').outcome ≡ None
  none_told = by (row_of f').outcome refl
    where
      by : (o : Outcome) → (row_of f').outcome ≡ o → reply_in (row_of f').outcome ≡ None
      by Going is = ap reply_in is
      by TurnEnded is = ap reply_in is
      by (Answered r) is = absurd (turn_answers_none f'.purpose r went.added.same_work.same_kind
          (subst (IsFor f'.purpose) (ended_by f' r is) went.at.flying.fits.kind))

  pub no_answer : answers_in went.piece ≡ []
  no_answer = went.added.answers ∙ ap (λ o. option_to_list (answer_made f' o)) none_told

  pub lacks_none : NoneLacked went.piece
  lacks_none = none_lacked went.piece (subst (AllByRecursion (λ r. is_no_memory r ≡ false))
      (sym (went.added.replies ∙ ap option_to_list none_told)) tt)
