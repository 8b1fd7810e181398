-- How a processor goes on after a step: in its job, or where that is done, with its next one.
use Rattle.std.proofs.Common.{◌≡◌, ℕ, zero, suc, ◌+◌, ◌-◌, ◌*◌, ◌<◌, ◌≤◌, true, List, length, get_or, slice_get, Option, Some, None, IfSome, option_map, refl, ap, sym, subst, ◌∙◌, arith, inl, inr, ◌⊎◌}
use Rattle.std.proofs.lemmas.Bool.{false≢true}
use Rattle.std.proofs.lemmas.List.Sums.{sum_by-drop_more}
use Rattle.std.proofs.lemmas.Option.{none-some, same_Some, slice_get_within, slice_get_cases, get_or_from_slice_get}
use Rattle.pager_model.specs.declared.trace.Job.{Job}
use Rattle.pager_model.specs.declared.trace.Job.TheVariants.{Call as MakesCall, Turn}
use Rattle.pager_model.specs.Order.{Looking, between, at_rest}
use Rattle.space_core.specs.Standing.{CanBegin}
use Rattle.flight_core.specs.declared.flight.Flight.{Flight}
use Rattle.flight_core.specs.declared.flight.Phase.{Phase}
use Rattle.flight_core.specs.declared.flight.Phase.TheVariants.{Unclaim, Rested, Ended}
use Rattle.flight_core.specs.declared.flight.Purpose.{Purpose}
use Rattle.flight_core.specs.declared.flight.Purpose.TheVariants.{Call as OfCall, Turn as OfTurn}
use Rattle.flight_core.specs.Flights.{Fits, IsFor}
use Rattle.pager_core.specs.Machines.{CanDo}
use Rattle.flight_core.specs.Rows.{Outcome, Going, TurnEnded, Answered, call_in, has_ended, is_between, is_of_call, mark_in, own_space, row_of, row_in, space_under}
use Rattle.pager_core.specs.Running.{AreOfMark, FitsMark, entries_left, entries_of_job, flight_for, flight_of, job_in, kept_by, left_behind, progress_by_flight}
use Rattle.flight_core.specs.Steps.{SameWork}

-- Of jobs.

-- a step goes on with the same job
same_job : (p q : Purpose) → is_of_call q ≡ is_of_call p → call_in q ≡ call_in p → mark_in q ≡ mark_in p → job_in q ≡ job_in p
same_job (OfCall call claimed) (OfCall call' claimed') kind same mark = ap MakesCall same
same_job (OfTurn low evictions) (OfTurn low' evictions') kind same mark = ap Turn mark
same_job (OfCall call claimed) (OfTurn low evictions) kind same mark = absurd (false≢true kind)
same_job (OfTurn low evictions) (OfCall call claimed) kind same mark = absurd (false≢true (sym kind))

pub job_kept : {old new : Flight} → SameWork old new → job_in new.purpose ≡ job_in old.purpose
job_kept {old} {new} same = same_job old.purpose new.purpose same.same_kind same.call same.mark

pub mark_of_job : (mark : ℕ) (p : Purpose) → FitsMark mark (job_in p) → mark ≡ mark_in p
mark_of_job mark (OfCall call claimed) fits = fits
mark_of_job mark (OfTurn low evictions) fits = fits.0

-- A flight of which nothing was done.
pub record Starts (c n mark : ℕ) (job : Job) : Type 0 where
  pub processor : (flight_for c n job).processor ≡ c
  pub number : (flight_for c n job).number ≡ n
  pub job_is : job_in (flight_for c n job).purpose ≡ job
  pub keeps_none : (row_of (flight_for c n job)).keeps ≡ None
  pub going : (row_of (flight_for c n job)).outcome ≡ Going
  pub entries : (row_of (flight_for c n job)).entries ≡ entries_of_job job
  pub progress : (row_of (flight_for c n job)).progress ≡ at_rest mark n
  pub between : is_between (flight_for c n job).purpose (flight_for c n job).phase ≡ true

looking_between : (mark : ℕ) → 1 ≤ mark → Looking mark 0 ≡ between mark
looking_between zero some = absurd (omega (arith, some))
looking_between (suc n) some = refl

pub Starts-for : (c n mark : ℕ) (job : Job) → FitsMark mark job → Starts c n mark job
Starts-for c n mark (MakesCall call) fits = record {
  processor = refl;
  number = refl;
  job_is = refl;
  keeps_none = refl;
  going = refl;
  entries = refl;
  progress = ap (λ m. at_rest m n) (sym fits);
  between = refl;
}
Starts-for c n mark (Turn low) fits = record {
  processor = refl;
  number = refl;
  job_is = refl;
  keeps_none = refl;
  going = refl;
  entries = (let e : 4 * (low - 0) + 1 ≡ 4 * low + 1 = omega arith in e);
  progress = ap (λ d. record { made = n; doing = d }) (looking_between low fits.1) ∙ ap (λ m. at_rest m n) (sym fits.0);
  between = refl;
}

-- it fits its job, and its space is there
turn_can_begin : CanBegin (call_in (OfTurn 0 0))
turn_can_begin = (1, (omega arith, refl, omega arith))

pub Fits-for : (spaces c n : ℕ) (job : Job) → CanDo spaces job → Fits (flight_for c n job)
Fits-for spaces c n (MakesCall call) can = record { kind = refl; can = can.can; phase = refl }
Fits-for spaces c n (Turn low) can = record { kind = (can.0, omega arith); can = turn_can_begin; phase = tt }

pub own-for : (spaces c n : ℕ) (job : Job) → CanDo spaces job → IfSome (own_space (flight_for c n job).purpose) (λ s. s < spaces)
own-for spaces c n (MakesCall call) can = can.on
own-for spaces c n (Turn low) can = tt

pub under-for : (spaces c n : ℕ) (job : Job) (t : ℕ) → CanDo spaces job → space_under (row_of (flight_for c n job)).needs ≡ Some t
    → t < spaces
under-for spaces c n (MakesCall call) t can is = subst (λ k. k < spaces) (same_Some _ t is) can.on
under-for spaces c n (Turn low) t can is = absurd (none-some t is)

-- The row of a flight whose job is done.

ended_progress_in : (c n mark : ℕ) (own : Option ℕ) (purpose : Purpose) (p : Phase) → has_ended (row_in c n own purpose p).outcome ≡ true
    → FitsMark mark (job_in purpose) → IsFor purpose p → (row_in c n own purpose p).progress ≡ at_rest mark (n + 1)
ended_progress_in c n mark own (OfCall call claimed) (Ended reply) ended fits for = ap (λ m. at_rest m (n + 1)) (sym fits)
ended_progress_in c n mark own (OfTurn low evictions) (Ended reply) ended fits for = absurd for
ended_progress_in c n mark own (OfCall call claimed) Rested ended fits for = absurd (false≢true (sym for))
ended_progress_in c n mark own (OfTurn low evictions) Rested ended fits for =
    ap (λ d. record { made = n + 1; doing = d }) (looking_between low fits.1) ∙ ap (λ m. at_rest m (n + 1)) (sym fits.0)
ended_progress_in c n mark own purpose (Unclaim v None) ended fits for = absurd (false≢true ended)
ended_progress_in c n mark own purpose (Unclaim v (Some count)) ended fits for = absurd (false≢true ended)
ended_progress_in c n mark own purpose p ended fits for = absurd (false≢true ended)

ended_keeps_in : (c n : ℕ) (own : Option ℕ) (purpose : Purpose) (p : Phase) → has_ended (row_in c n own purpose p).outcome ≡ true
    → (row_in c n own purpose p).keeps ≡ None
ended_keeps_in c n own purpose (Ended reply) ended = refl
ended_keeps_in c n own purpose Rested ended = refl
ended_keeps_in c n own purpose (Unclaim v None) ended = absurd (false≢true ended)
ended_keeps_in c n own purpose (Unclaim v (Some count)) ended = absurd (false≢true ended)
ended_keeps_in c n own purpose p ended = absurd (false≢true ended)

pub ended_progress : (f : Flight) (mark : ℕ) → has_ended (row_of f).outcome ≡ true → FitsMark mark (job_in f.purpose) → Fits f
    → (row_of f).progress ≡ at_rest mark (f.number + 1)
ended_progress f mark ended fits for = ended_progress_in f.processor f.number mark
    (own_space f.purpose) f.purpose f.phase ended fits for.kind

pub ended_keeps : (f : Flight) → has_ended (row_of f).outcome ≡ true → (row_of f).keeps ≡ None
ended_keeps f = ended_keeps_in f.processor f.number (own_space f.purpose) f.purpose f.phase

-- What comes of a flight's processor of this mark, among whose jobs the flight's is.
pub record Lands (mark : ℕ) (jobs : List Job) (f : Flight) (o : Option Flight) : Type 0 where
  pub progress : progress_by_flight mark jobs o ≡ (row_of f).progress
  pub left : entries_left jobs o ≤ (row_of f).entries + left_behind jobs (f.number + 1)
  pub keeps : kept_by o ≡ (row_of f).keeps
  pub keeper : (g : Flight) (s : ℕ) → o ≡ Some g → (row_of g).keeps ≡ Some s → g ≡ f
  pub processor : (g : Flight) → o ≡ Some g → g.processor ≡ f.processor
  pub job : (g : Flight) → o ≡ Some g → slice_get jobs g.number ≡ Some (job_in g.purpose)
  pub going : (g : Flight) → o ≡ Some g → (row_of g).outcome ≡ Going
  pub same : (g : Flight) → o ≡ Some g → (g ≡ f) ⊎ ((n : ℕ) × (k : Job) × (slice_get jobs n ≡ Some k) × (g ≡ flight_for f.processor n k))
  pub goes : ((o ≡ Some f) × ((row_of f).outcome ≡ Going)) ⊎ (o ≡ flight_of f.processor (f.number + 1) jobs)

-- it goes on in its job
Lands-going : (mark : ℕ) (jobs : List Job) (f : Flight) → slice_get jobs f.number ≡ Some (job_in f.purpose) → (row_of f).outcome ≡ Going
    → Lands mark jobs f (Some f)
Lands-going mark jobs f job going =
    record {
      progress = refl;
      left = omega arith;
      keeps = refl;
      keeper = λ g s is keeps. sym (same_Some f g is);
      processor = λ g is. ap (λ (x : Flight). x.processor) (sym (same_Some f g is));
      job = λ g is. subst (λ (x : Flight). slice_get jobs x.number ≡ Some (job_in x.purpose)) (same_Some f g is) job;
      going = λ g is. subst (λ (x : Flight). (row_of x).outcome ≡ Going) (same_Some f g is) going;
      same = λ g is. inl (sym (same_Some f g is));
      goes = inl (refl, going);
    }

-- or with the next one, where there is one
module _ (mark : ℕ) (jobs : List Job) (f : Flight) (are : AreOfMark mark jobs) (job : slice_get jobs f.number ≡ Some (job_in f.purpose))
    (fits : Fits f) (ended : has_ended (row_of f).outcome ≡ true) where
  done : (row_of f).progress ≡ at_rest mark (f.number + 1)
  done = ended_progress f mark ended (are f.number (job_in f.purpose) job) fits

  lands_next : (next : Option Job) → slice_get jobs (f.number + 1) ≡ next
      → Lands mark jobs f (option_map (flight_for f.processor (f.number + 1)) next)
  lands_next None at =
      let below = slice_get_within jobs f.number (job_in f.purpose) job in
      let past : length jobs ≤ f.number + 1 =
      (elim (slice_get_cases jobs (f.number + 1)).1 [
        | inl some ↦ (let e : Some some.0 ≡ None = sym some.2 ∙ at in cc)
        | inr none ↦
            none.0
      ]) in
      let all : length jobs ≡ f.number + 1 = omega (arith, below, past) in
      record {
        progress = ap (at_rest mark) all ∙ sym done;
        left = omega arith;
        keeps = sym (ended_keeps f ended);
        keeper = λ g s is keeps. absurd (none-some g is);
        processor = λ g is. absurd (none-some g is);
        job = λ g is. absurd (none-some g is);
        going = λ g is. absurd (none-some g is);
        same = λ g is. absurd (none-some g is);
        goes = inr (ap (option_map (flight_for f.processor (f.number + 1))) (sym at));
      }
  lands_next (Some k) at =
      let below = slice_get_within jobs (f.number + 1) k at in
      let n : ℕ = f.number + 1 in
      let first : Flight = flight_for f.processor n k in
      let starts = Starts-for f.processor n mark k (are n k at) in
      let more = sum_by-drop_more entries_of_job jobs n k below in
      let this : entries_of_job (get_or jobs n k) ≡ entries_of_job k = ap entries_of_job (get_or_from_slice_get jobs n k k at) in
      let behind : left_behind jobs (first.number + 1) ≡ left_behind jobs (n + 1) = ap (λ i. left_behind jobs (i + 1)) starts.number in
      let entries = starts.entries in
      record {
        progress = starts.progress ∙ sym done;
        left = omega (arith, more, this, behind, entries);
        keeps = starts.keeps_none ∙ sym (ended_keeps f ended);
        keeper = λ g s is keeps. absurd
            (none-some s (sym starts.keeps_none ∙ ap (λ (x : Flight). (row_of x).keeps) (same_Some first g is) ∙ keeps));
        processor = λ g is. ap (λ (x : Flight). x.processor) (sym (same_Some first g is)) ∙ starts.processor;
        job = λ g is. subst (λ (x : Flight). slice_get jobs x.number ≡ Some (job_in x.purpose)) (same_Some first g is)
            (ap (slice_get jobs) starts.number ∙ at ∙ ap Some (sym starts.job_is));
        going = λ g is. subst (λ (x : Flight). (row_of x).outcome ≡ Going) (same_Some first g is) starts.going;
        same = λ g is. inr (n, k, at, sym (same_Some first g is));
        goes = inr (ap (option_map (flight_for f.processor n)) (sym at));
      }

  Lands-ended : Lands mark jobs f (flight_of f.processor (f.number + 1) jobs)
  Lands-ended = lands_next (slice_get jobs (f.number + 1)) refl

-- Either way.
module _ (mark : ℕ) (jobs : List Job) (f : Flight) (are : AreOfMark mark jobs) (job : slice_get jobs f.number ≡ Some (job_in f.purpose))
    (fits : Fits f) where
  pub Lands-on : (o : Option Flight) → ((row_of f).outcome ≡ Going → o ≡ Some f)
      → (has_ended (row_of f).outcome ≡ true → o ≡ flight_of f.processor (f.number + 1) jobs) → Lands mark jobs f o
  Lands-on o going next = by (row_of f).outcome refl
    where
      ended : has_ended (row_of f).outcome ≡ true → Lands mark jobs f o
      ended is = subst (Lands mark jobs f) (sym (next is)) (Lands-ended mark jobs f are job fits is)

      by : (r : Outcome) → (row_of f).outcome ≡ r → Lands mark jobs f o
      by Going is = subst (Lands mark jobs f) (sym (going is)) (Lands-going mark jobs f job is)
      by TurnEnded is = ended (ap has_ended is)
      by (Answered r) is = ended (ap has_ended is)
