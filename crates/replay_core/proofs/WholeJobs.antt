-- A processor does one job to its end, while no other flight keeps a space.
use Rattle.std.proofs.Common.{◌≡◌, ◌≢◌, ℕ, zero, suc, ◌+◌, ◌-◌, ◌<◌, ◌≤◌, inl, inr, List, [], ◌∷◌, ◌++◌, length, Option, Some, None, refl, sym, ap, subst, ◌∙◌, arith}
use Rattle.std.proofs.lemmas.Bool.{cases_eq}
use Rattle.std.proofs.lemmas.List.{append-nil, append_assoc, map-append}
use Rattle.std.proofs.lemmas.Option.{none-some, same_Some, slice_get_within}
use Rattle.std.specs.List.{AllByRecursion, slice_get}
use Rattle.std.specs.Option.{option_map}
use Rattle.pager_model.specs.declared.entry.Entry.{Entry}
use Rattle.pager_model.specs.declared.entry.Numbered.{Numbered}
use Rattle.pager_model.specs.Legal.{entries_in}
use Rattle.pager_model.specs.Order.{at_rest}
use Rattle.pager_model.specs.Settings.{mark_of}
use Rattle.pager_model.specs.declared.trace.Job.{Job}
use Rattle.pager_model.specs.declared.trace.Job.TheVariants.{Call as MakesCall, Turn}
use Rattle.flight_core.specs.declared.flight.Flight.{Flight}
use Rattle.pager_core.specs.declared.machine.Advance.{Advance as Did}
use Rattle.pager_core.specs.declared.machine.Advance.TheVariants.{Ended as HasEnded, Stepped, Waits}
use Rattle.flight_core.specs.Rows.{Going, row_of}
use Rattle.pager_core.specs.Running.{Running, AreOfMark, jobs_at, flight_at, flight_for, flight_of, progress_of_actor, progress_by_flight, StillFlies, WentOn, OneMore, MustWait, IsLawful}
use Rattle.pager_core.proofs.Lands.{Starts-for}
use Rattle.flight_core.proofs.NextFlights.{made_going}
use Rattle.replay_core.specs.DoneJobs.{NoneKeeps, IsBetween, DidJob, DidJobs}

-- a new flight has its number, no reply, and keeps nothing
pub record IsNew (f : Flight) (number : ℕ) : Type 0 where
  pub same : f.number ≡ number
  pub going : (row_of f).outcome ≡ Going
  pub keeps : (row_of f).keeps ≡ None

IsNew-for : (c n : ℕ) (job : Job) → IsNew (flight_for c n job) n
IsNew-for c n (MakesCall call) = record { same = refl; going = refl; keeps = refl }
IsNew-for c n (Turn mark) = record { same = refl; going = refl; keeps = refl }

IsNew-of : (c n : ℕ) (job : Option Job) (f : Flight) → option_map (flight_for c n) job ≡ Some f → IsNew f n
IsNew-of c n None f is = absurd (none-some f is)
IsNew-of c n (Some job) f is = subst (λ g. IsNew g n) (same_Some _ _ is) (IsNew-for c n job)

pub IsNew-flight_of : (c n : ℕ) (jobs : List Job) (f : Flight) → flight_of c n jobs ≡ Some f → IsNew f n
IsNew-flight_of c n jobs f is = IsNew-of c n (slice_get jobs n) f is

-- there is such a job
job_there : (c n : ℕ) (job : Option Job) (f : Flight) → option_map (flight_for c n) job ≡ Some f
    → (x : Job) × (job ≡ Some x) × (flight_for c n x ≡ f)
job_there c n None f is = absurd (none-some f is)
job_there c n (Some job) f is = (job, refl, same_Some _ _ is)

pub within : (c n : ℕ) (jobs : List Job) (f : Flight) → flight_of c n jobs ≡ Some f → n < length jobs
within c n jobs f is = let there = job_there c n (slice_get jobs n) f is in slice_get_within jobs n there.0 there.1

pub none_left : (c n : ℕ) (job : Option Job) → None ≡ option_map (flight_for c n) job → job ≡ None
none_left c n None is = refl
none_left c n (Some job) is = absurd (none-some _ is)

-- no element is past the end alone
pub past : {X : Type 0} (xs : List X) (n : ℕ) → slice_get xs n ≡ None → length xs ≤ n
past [] n none = omega arith
past (x ∷ xs) zero none = absurd (none-some x (sym none))
past (x ∷ xs) (suc n) none = omega (arith, past xs n none)

-- where a processor is between two jobs of its mark
pub at_rest_by : (mark c n : ℕ) (jobs : List Job) (o : Option Flight) → AreOfMark mark jobs → o ≡ flight_of c n jobs → n ≤ length jobs
    → progress_by_flight mark jobs o ≡ at_rest mark n
at_rest_by mark c n jobs (Some f) are is some =
    let there = job_there c n (slice_get jobs n) f (sym is) in
    ap (λ g. (row_of g).progress) (sym there.2) ∙ (Starts-for c n mark there.0 (are n there.0 there.1)).progress
at_rest_by mark c n jobs None are is some =
    let few = past jobs n (none_left c n (slice_get jobs n) is) in
    ap (λ m. at_rest mark m) (let e : length jobs ≡ n = omega arith in e)

-- In the middle of a job: its processor made all entries since the start, and is in this job or just after it.
pub record InJob (start now : Running) (actor number : ℕ) : Type 0 where
  pub same_given : now.given ≡ start.given
  pub same_jobs : now.jobs ≡ start.jobs
  pub same_unused : now.unused ≡ start.unused
  pub lawful : IsLawful now
  pub there : number < length (jobs_at start.jobs actor)
  pub went : WentOn now actor number
  pub others : (c : ℕ) → c ≢ actor → flight_at now.flights c ≡ flight_at start.flights c
  pub piece : List Numbered
  pub history : now.history ≡ start.history ++ piece
  pub own : AllByRecursion (λ (e : Entry). e.processor ≡ actor) (entries_in piece)

pub InJob-start : (run : Running) (actor number : ℕ) → IsLawful run → (f : Flight) → flight_at run.flights actor ≡ Some f
    → flight_at run.flights actor ≡ flight_of actor number (jobs_at run.jobs actor) → InJob run run actor number
InJob-start run actor number lawful f flies between =
    let is : flight_of actor number (jobs_at run.jobs actor) ≡ Some f = sym between ∙ flies in
    let new = IsNew-flight_of actor number (jobs_at run.jobs actor) f is in
    record {
      same_given = refl;
      same_jobs = refl;
      same_unused = refl;
      lawful = lawful;
      there = within actor number (jobs_at run.jobs actor) f is;
      went = inl (record { flight = f; flies = flies; same_job = new.same; going = new.going });
      others = λ c other. refl;
      piece = [];
      history = sym (append-nil run.history);
      own = tt;
    }

-- how many jobs the processor has done, by where its flight is
made_still : (run : Running) (actor number : ℕ) → StillFlies run actor number → (progress_of_actor run actor).made ≡ number
made_still run actor number still =
    ap (λ f. (progress_by_flight (mark_of run.given actor) (jobs_at run.jobs actor) f).made) still.flies
    ∙ made_going still.flight still.going ∙ still.same_job

made_after : (mark c number : ℕ) (jobs : List Job) (o : Option Flight) → flight_of c (number + 1) jobs ≡ o → number < length jobs
    → number < (progress_by_flight mark jobs o).made
made_after mark c number jobs None none there = there
made_after mark c number jobs (Some f) is there =
    let new = IsNew-flight_of c (number + 1) jobs f is in
    let same = made_going f new.going ∙ new.same in
    omega (arith, same)

-- where it has done no more it is still in the job
pub still_in : (start now : Running) (actor number : ℕ) → InJob start now actor number → (progress_of_actor now actor).made ≡ number
    → StillFlies now actor number
still_in start now actor number job made = elim job.went [
  | inl still ↦ still
  | inr next ↦
      let same : jobs_at now.jobs actor ≡ jobs_at start.jobs actor = ap (λ l. jobs_at l actor) job.same_jobs in
      let there : number < length (jobs_at now.jobs actor) = subst (λ l. number < length l) (sym same) job.there in
      let more = made_after (mark_of now.given actor) actor number (jobs_at now.jobs actor) (flight_at now.flights actor)
      (sym next) there in
      absurd (omega (arith, more, made))
]

-- and where it has done another number, its next job comes
pub next_of : (start now : Running) (actor number : ℕ) → InJob start now actor number → (progress_of_actor now actor).made ≢ number
    → flight_at now.flights actor ≡ flight_of actor (number + 1) (jobs_at now.jobs actor)
next_of start now actor number job differs = elim job.went [
  | inl still ↦ absurd (differs (made_still now actor number still))
  | inr next ↦ next
]

-- a turn of the processor makes an entry: it has a job left, and nobody else keeps a space
pub advance_steps : (start now after : Running) (actor number : ℕ) (advance : Did) → NoneKeeps start.flights → InJob start now actor number
    → StillFlies now actor number → (advance ≡ HasEnded → (after ≡ now) × (flight_at now.flights actor ≡ None))
    → ((space : ℕ) → advance ≡ Waits space → (after ≡ now) × MustWait now actor space) → advance ≡ Stepped
advance_steps start now after actor number HasEnded none job still ended waits =
    absurd (none-some still.flight (sym (ended refl).1 ∙ still.flies))
advance_steps start now after actor number Stepped none job still ended waits = refl
advance_steps start now after actor number (Waits space) none job still ended waits =
    let kept = (waits space refl).1.kept in
    let was : flight_at start.flights kept.other ≡ Some kept.flight = sym (job.others kept.other kept.differs) ∙ kept.flies in
    absurd (none-some space (sym (none kept.other kept.flight was) ∙ kept.keeps))

own_more : (actor : ℕ) (es : List Entry) (e : Entry) → AllByRecursion (λ (e : Entry). e.processor ≡ actor) es → e.processor ≡ actor
    → AllByRecursion (λ (e : Entry). e.processor ≡ actor) (es ++ e ∷ [])
own_more actor [] e own is = (is, tt)
own_more actor (x ∷ es) e own is = (own.0, own_more actor es e own.1 is)

pub InJob-step : (start now after : Running) (actor number : ℕ) → InJob start now actor number → StillFlies now actor number
    → OneMore now after actor → (after.given ≡ now.given) × (after.jobs ≡ now.jobs) → after.unused ≡ now.unused → IsLawful after
    → InJob start after actor number
InJob-step start now after actor number job still more same unused lawful =
    let last : Numbered = record { number = length now.history; entry = more.entry } in
    record {
      same_given = same.0 ∙ job.same_given;
      same_jobs = same.1 ∙ job.same_jobs;
      same_unused = unused ∙ job.same_unused;
      lawful = lawful;
      there = job.there;
      went = subst (WentOn after actor) still.same_job (more.went_on still.flight still.flies);
      others = λ c other. more.others c other ∙ job.others c other;
      piece = job.piece ++ last ∷ [];
      history = more.history ∙ ap (λ h. h ++ last ∷ []) job.history ∙ append_assoc start.history job.piece (last ∷ []);
      own = subst (AllByRecursion (λ (e : Entry). e.processor ≡ actor)) (sym (map-append (λ (n : Numbered). n.entry) job.piece (last ∷ [])))
          (own_more actor (entries_in job.piece) more.entry job.own more.of_actor);
    }

pub DidJob-end : (start now : Running) (actor number : ℕ) → InJob start now actor number → (progress_of_actor now actor).made ≢ number
    → DidJob start now actor number
DidJob-end start now actor number job differs =
    record {
      same_given = job.same_given;
      same_jobs = job.same_jobs;
      same_unused = job.same_unused;
      lawful = job.lawful;
      there = job.there;
      next = next_of start now actor number job differs;
      others = job.others;
      piece = job.piece;
      history = job.history;
      own = job.own;
    }

-- After a job.

did_same : (old new : Running) (actor number : ℕ) → DidJob old new actor number → jobs_at new.jobs actor ≡ jobs_at old.jobs actor
did_same old new actor number did = ap (λ l. jobs_at l actor) did.same_jobs

-- the processor has done one more
pub done_more : (old new : Running) (actor number : ℕ) → DidJob old new actor number → number < length (jobs_at old.jobs actor)
    → (progress_of_actor new actor).made ≡ number + 1
done_more old new actor number did there =
    by (mark_of new.given actor) (jobs_at new.jobs actor) (flight_at new.flights actor) did.next
    (subst (λ l. number < length l) (sym (did_same old new actor number did)) there)
  where
    by : (mark : ℕ) (jobs : List Job) (o : Option Flight) → o ≡ flight_of actor (number + 1) jobs → number < length jobs
        → (progress_by_flight mark jobs o).made ≡ number + 1
    by mark jobs None is there =
        let few = past jobs (number + 1) (none_left actor (number + 1) (slice_get jobs (number + 1)) is) in
        (let e : length jobs ≡ number + 1 = omega (arith, few, there) in e)
    by mark jobs (Some f) is there =
        let new = IsNew-flight_of actor (number + 1) jobs f (sym is) in
        made_going f new.going ∙ new.same

pub between_after : (old new : Running) (actor number : ℕ) → DidJob old new actor number → number < length (jobs_at old.jobs actor)
    → IsBetween new actor
between_after old new actor number did there =
    did.next ∙ ap (λ n. flight_of actor n (jobs_at new.jobs actor)) (sym (done_more old new actor number did there))

-- and no flight keeps a space still
pub none_after : (old new : Running) (actor number : ℕ) → NoneKeeps old.flights → DidJob old new actor number → NoneKeeps new.flights
none_after old new actor number none did c f flies = elim (cases_eq c actor) [
  | inl same ↦ (IsNew-flight_of actor (number + 1) (jobs_at new.jobs actor) f
      (sym did.next ∙ sym (ap (flight_at new.flights) same) ∙ flies)).keeps
  | inr other ↦ none c f (sym (did.others c other) ∙ flies)
]

-- a flight that is there
pub flight_there : (o : Option Flight) → o ≢ None → (f : Flight) × (o ≡ Some f)
flight_there None some = absurd (some refl)
flight_there (Some f) some = (f, refl)

-- In the middle of all that are left: so many jobs are done, and the processor is between two of them.
pub record InRest (start now : Running) (actor : ℕ) : Type 0 where
  pub count : ℕ
  pub did : DidJobs count start now actor (progress_of_actor start actor).made
  pub made : (progress_of_actor now actor).made ≡ (progress_of_actor start actor).made + count
  pub lawful : IsLawful now
  pub between : IsBetween now actor
  pub none_keeps : NoneKeeps now.flights

pub InRest-start : (run : Running) (actor : ℕ) → IsLawful run → IsBetween run actor → NoneKeeps run.flights → InRest run run actor
InRest-start run actor lawful between none =
    record {
      count = 0;
      did = refl;
      made =
          (let e : (progress_of_actor run actor).made ≡ (progress_of_actor run actor).made + 0 = omega arith in e);
      lawful =
          lawful;
      between = between;
      none_keeps = none;
    }

pub InRest-more : (start now new : Running) (actor : ℕ) → InRest start now actor → DidJob now new actor (progress_of_actor now actor).made
    → InRest start new actor
InRest-more start now new actor rest did =
    let n = (progress_of_actor start actor).made in
    let one = done_more now new actor (progress_of_actor now actor).made did did.there in
    record {
      count = suc rest.count;
      did = (now, rest.did, subst (DidJob now new actor) rest.made did);
      made = (let was = rest.made in let e : (progress_of_actor new actor).made ≡ n + suc rest.count = omega (arith, one, was) in e);
      lawful = did.lawful;
      between = between_after now new actor (progress_of_actor now actor).made did did.there;
      none_keeps = none_after now new actor (progress_of_actor now actor).made rest.none_keeps did;
    }

-- and fewer are left
pub fewer_jobs : (now new : Running) (actor : ℕ) → DidJob now new actor (progress_of_actor now actor).made
    → length (jobs_at new.jobs actor) - (progress_of_actor new actor).made < length (jobs_at now.jobs actor) -
    (progress_of_actor now actor).made
fewer_jobs now new actor did =
    let there = did.there in
    let one = done_more now new actor (progress_of_actor now actor).made did there in
    let same : length (jobs_at new.jobs actor) ≡ length (jobs_at now.jobs actor) =
    ap length (did_same now new actor (progress_of_actor now actor).made did) in
    omega (arith, there, one, same)

pub none_flies : (o : Option Flight) → (o ≢ None → ⊥) → o ≡ None
none_flies None none = refl
none_flies (Some f) none = absurd (none (λ is. none-some f (sym is)))
