-- Where a processor is after a machine's history, and that its flight tells whether it can step.
use Rattle.std.proofs.Common.{◌≡◌, ◌≢◌, ℕ, ◌+◌, ◌<◌, ◌==◌, inl, inr, Bool, true, false, not, ◌&&◌, List, [], length, Option, Some, None, is_some, refl, sym, ap, subst, ◌∙◌, arith}
use Rattle.std.proofs.lemmas.Bool.{cases_lt, and_parts, eq-eqb, false_from_ne_true, false≢true}
use Rattle.std.proofs.lemmas.Bool.Decides.{nat_tests}
use Rattle.std.proofs.lemmas.List.{get_or_past}
use Rattle.std.proofs.lemmas.List.FromFn.{length-range_with_len, get_or-range_with_len}
use Rattle.std.proofs.lemmas.List.Folds.{Any-from_list_any, list_any_at}
use Rattle.std.proofs.lemmas.Option.{none-some, same_Some, slice_get_past}
use Rattle.std.specs.List.{slice_get, range_with_len, list_any}
use Rattle.std.specs.Option.{option_and_then}
use Rattle.pager_model.specs.Options.{is_that}
use Rattle.pager_model.specs.declared.trace.Job.{Job}
use Rattle.pager_model.specs.Entries.{entries_of}
use Rattle.pager_model.specs.Legal.{entries_in}
use Rattle.pager_model.specs.Order.{progress_of}
use Rattle.pager_model.specs.Scripts.{Script}
use Rattle.pager_model.specs.Settings.{Given, mark_of}
use Rattle.pager_model.specs.Showing.{actors, jobs_of}
use Rattle.pager_model.specs.Stores.{setting_over}
use Rattle.pager_model.specs.Stored.{Stored}
use Rattle.flight_core.specs.declared.flight.Flight.{Flight}
use Rattle.flight_core.specs.declared.flight.Purpose.{Purpose}
use Rattle.flight_core.specs.declared.flight.Purpose.TheVariants.{Call as OfCall, Turn as OfTurn}
use Rattle.flight_core.specs.Rows.{is_between, own_space, row_of, space_under}
use Rattle.pager_core.specs.Running.{Running, jobs_at, flight_at, progress_of_actor, progress_by_flight, job_in, kept_by, IsKeptByOther, IsOfJob, IsLawful}
use Rattle.pager_laws.proofs.Partition.{is_that-same}
use Rattle.flight_core.proofs.NextFlights.{keeps_by_place, keeps_under, made_going, under_by_place}
use Rattle.pager_model.specs.Locks.{under_in}
use Rattle.pager_model.specs.Schedules.{Standing, own_of, standing_by, standing_at, is_kept_by, is_kept_by_other, has_left, can_go, can_step}
use Rattle.replay_core.specs.Schedules.{flies, IsStuck}
use Rattle.replay_core.proofs.RunLemmas.{IsRunOf, jobs_known, length-jobs}

-- A test over the processors.

any_of : (p : ℕ → Bool) (n d : ℕ) → d < n → p d ≡ true → list_any p (range_with_len 0 n) ≡ true
any_of p n d below is =
    list_any_at p (range_with_len 0 n) d 0 (subst (λ k. d < k) (sym (length-range_with_len 0 n)) below)
    (ap p (get_or-range_with_len 0 n d 0 below ∙ (let e : 0 + d ≡ d = omega arith in e)) ∙ is)

one_of : (p : ℕ → Bool) (n : ℕ) → list_any p (range_with_len 0 n) ≡ true → (d : ℕ) × (d < n) × (p d ≡ true)
one_of p n is =
    let any = Any-from_list_any p (range_with_len 0 n) is in
    let below : any.0 < n = subst (λ k. any.0 < k) (length-range_with_len 0 n) any.2 in
    let same : any.1 ≡ any.0 = sym any.3 ∙ get_or-range_with_len 0 n any.0 any.1 below ∙ (let e : 0 + any.0 ≡ any.0 = omega arith in e) in
    (any.1, subst (λ k. k < n) (sym same) below, any.4)

-- Where a processor is, by its flight.

-- the space of a flight's job and its place
abbrev pub standing_of : Option Flight → Option Standing
standing_of None = None
standing_of (Some f) = Some (record { own = own_space f.purpose; doing = (row_of f).progress.doing })

own_of_job : (p : Purpose) → own_of (job_in p) ≡ own_space p
own_of_job (OfCall call claimed) = refl
own_of_job (OfTurn mark evictions) = refl

made_by : (jobs : List Job) (f : Flight) → IsOfJob jobs f → (row_of f).progress.made ≡ f.number
made_by jobs f of = made_going f of.going

standing_job : (jobs : List Job) (f : Flight) → IsOfJob jobs f → standing_by jobs (row_of f).progress ≡ standing_of (Some f)
standing_job jobs f of =
    ap (option_and_then (λ job. (let s : Standing = record { own = own_of job; doing = (row_of f).progress.doing } in Some s)))
    (ap (slice_get jobs) (made_by jobs f of) ∙ of.job)
    ∙ ap (λ own. (let s : Standing = record { own = own; doing = (row_of f).progress.doing } in Some s)) (own_of_job f.purpose)

standing_flight : (mark : ℕ) (jobs : List Job) (o : Option Flight) → ((f : Flight) → o ≡ Some f → IsOfJob jobs f)
    → standing_by jobs (progress_by_flight mark jobs o) ≡ standing_of o
standing_flight mark jobs None of = ap
    (option_and_then (λ job. (let s : Standing = record { own = own_of job; doing = (progress_by_flight mark jobs None).doing } in
    Some s))) (slice_get_past jobs (length jobs) (omega arith))
standing_flight mark jobs (Some f) of = standing_job jobs f (of f refl)

-- Tests.

is_some_of : (o : Option Flight) → is_some (standing_of o) ≡ is_some o
is_some_of None = refl
is_some_of (Some f) = refl

-- the processor whose flight keeps the space
keeper : (flights : List (Option Flight)) (c space d : ℕ) → d ≢ c → (o : Option Flight) → flight_at flights d ≡ o
    → is_that space (kept_by o) ≡ true → IsKeptByOther flights c space
keeper flights c space d differs None flies kept = absurd (false≢true kept)
keeper flights c space d differs (Some f) flies kept =
    record { other = d; differs = differs; flight = f; flies = flies; keeps = is_that-same space (row_of f).keeps kept }

-- a processor whose flight is there is known
pub known_flight : (run : Running) (c : ℕ) (f : Flight) → IsLawful run → flight_at run.flights c ≡ Some f → c < length run.jobs
known_flight run c f lawful there = elim (cases_lt c (length run.jobs)) [
  | inl below ↦ below
  | inr past ↦
      let none : jobs_at run.jobs c ≡ [] = get_or_past run.jobs c [] past in
      absurd (none-some (job_in f.purpose) (ap (λ l. slice_get l f.number) (sym none) ∙ (lawful.flying c f there).job))
]

-- The spaces that flights keep, of processors that are at these places.
module _ (script : Script) (stores : List Stored) (run : Running) (is : IsRunOf script stores run) where
  pub known_in : (c : ℕ) → c < actors script → c < length run.jobs
  known_in c known = subst (λ n. c < n) (sym (length-jobs script run.jobs is.jobs)) known

  standing_is : (c : ℕ) → c < actors script → standing_at script (entries_in run.history) c ≡ standing_of (flight_at run.flights c)
  standing_is c known =
      let mark : mark_of run.given c ≡ mark_of (setting_over script stores) c = ap (λ (g : Given). mark_of g c) is.given in
      let progress : progress_of (mark_of (setting_over script stores) c) (entries_of c (entries_in run.history))
      ≡ Some (progress_of_actor run c) =
      ap (λ m. progress_of m (entries_of c (entries_in run.history))) (sym mark) ∙ is.lawful.progress c (known_in c known) in
      ap (option_and_then (standing_by (jobs_of c script))) progress
      ∙ ap (λ l. standing_by l (progress_of_actor run c)) (sym (jobs_known script run.jobs is.jobs c known))
      ∙ standing_flight (mark_of run.given c) (jobs_at run.jobs c) (flight_at run.flights c) (λ f flies. is.lawful.flying c f flies)

  kept_is : (space : ℕ) (o : Option Flight) → ((f : Flight) → o ≡ Some f → is_between f.purpose f.phase ≡ true)
      → is_kept_by space (standing_of o) ≡ is_that space (kept_by o)
  kept_is space None fits = refl
  kept_is space (Some f) fits = ap (is_that space) (sym (keeps_by_place f (fits f refl)))

  kept_at : (space d : ℕ) → d < actors script → is_kept_by space (standing_at script (entries_in run.history) d)
      ≡ is_that space (kept_by (flight_at run.flights d))
  kept_at space d known =
      ap (is_kept_by space) (standing_is d known)
      ∙ kept_is space (flight_at run.flights d) (λ f flies. is.lawful.between d f flies)

  -- the test of the place tells the flight that keeps the space
  kept_from_test : (c space : ℕ) → is_kept_by_other script (entries_in run.history) c (Some space) ≡ true → IsKeptByOther run.flights c space
  kept_from_test c space test =
      let one = one_of (λ d. not (d == c) && is_kept_by space (standing_at script (entries_in run.history) d)) (actors script) test in
      let both = and_parts (not (one.0 == c)) (is_kept_by space (standing_at script (entries_in run.history) one.0)) one.2 in
      let kept : is_that space (kept_by (flight_at run.flights one.0)) ≡ true = sym (kept_at space one.0 one.1) ∙ both.1 in
      keeper run.flights c space one.0 (let differs = both.0 in λ same. absurd
      (let here : (one.0 == c) ≡ true = grind (arith, nat_tests) in false≢true (ap not (sym here) ∙ differs)))
      (flight_at run.flights one.0) refl kept

  test_from_kept : (c space : ℕ) → IsKeptByOther run.flights c space → is_kept_by_other script (entries_in run.history) c (Some space) ≡ true
  test_from_kept c space kept =
      let known : kept.other < actors script = subst (λ n. kept.other < n) (length-jobs script run.jobs is.jobs)
      (known_flight run kept.other kept.flight is.lawful kept.flies) in
      let differs : (kept.other == c) ≡ false = (let apart = kept.differs in grind (arith, nat_tests)) in
      let that : is_that space (kept_by (flight_at run.flights kept.other)) ≡ true = ap (λ o. is_that space (kept_by o)) kept.flies
      ∙ ap (is_that space) kept.keeps ∙ eq-eqb space space refl in
      any_of (λ d. not (d == c) && is_kept_by space (standing_at script (entries_in run.history) d)) (actors script) kept.other known
      (ap (λ b. not b && is_kept_by space (standing_at script (entries_in run.history) kept.other)) differs ∙ kept_at space kept.other known
      ∙ that)

  -- the space that a flight's next step is made under
  abbrev under_at : Flight → Option ℕ
  under_at f = under_in (own_space f.purpose) (row_of f).progress.doing

  under_is : (c : ℕ) (f : Flight) → flight_at run.flights c ≡ Some f → space_under (row_of f).needs ≡ under_at f
  under_is c f flies =
      let of = is.lawful.flying c f flies in
      under_by_place f (is.lawful.between c f flies) of.going

  can_is : (c : ℕ) (f : Flight) → c < actors script → flight_at run.flights c ≡ Some f
      → can_step script (entries_in run.history) c ≡ not (is_kept_by_other script (entries_in run.history) c (under_at f))
  can_is c f known flies = ap (can_go script (entries_in run.history) c) (standing_is c known ∙ ap standing_of flies)

  -- a processor that has a call left, by its flight
  pub left_is : (c : ℕ) → c < actors script → has_left script (entries_in run.history) c ≡ flies run.flights c
  left_is c known = ap is_some (standing_is c known) ∙ is_some_of (flight_at run.flights c)

  -- Whether it can step.

  pub cannot_step : (c : ℕ) → c < actors script → IsStuck run c → can_step script (entries_in run.history) c ≡ false
  cannot_step c known (inl none) = ap (can_go script (entries_in run.history) c) (standing_is c known ∙ ap standing_of none)
  cannot_step c known (inr (space, must)) =
      let under : Some space ≡ under_at must.flight = sym must.under ∙ under_is c must.flight must.flies in
      can_is c must.flight known must.flies
      ∙ ap not (subst (λ o. is_kept_by_other script (entries_in run.history) c o ≡ true) under (test_from_kept c space must.kept))

  stuck_by : (c : ℕ) (f : Flight) → flight_at run.flights c ≡ Some f → (o : Option ℕ) → space_under (row_of f).needs ≡ o
      → is_kept_by_other script (entries_in run.history) c o ≡ true → IsStuck run c
  stuck_by c f flies None under test = absurd (false≢true test)
  stuck_by c f flies (Some space) under test = inr
      (space, record { flight = f; flies = flies; under = under; kept = kept_from_test c space test })

  can_flying : (c : ℕ) → c < actors script → (IsStuck run c → ⊥) → (o : Option Flight) → flight_at run.flights c ≡ o
      → can_step script (entries_in run.history) c ≡ true
  can_flying c known free None flies = absurd (free (inl flies))
  can_flying c known free (Some f) flies =
      can_is c f known flies
      ∙ ap not (false_from_ne_true (is_kept_by_other script (entries_in run.history) c (under_at f))
      (λ test. free (stuck_by c f flies (under_at f) (under_is c f flies) test)))

  pub can_step_free : (c : ℕ) → c < actors script → (IsStuck run c → ⊥) → can_step script (entries_in run.history) c ≡ true
  can_step_free c known free = can_flying c known free (flight_at run.flights c) refl

-- Some processor can step.

-- who keeps the space that a stuck processor waits for
waits_for : (run : Running) (c : ℕ) (f : Flight) → flight_at run.flights c ≡ Some f → IsStuck run c
    → (space : ℕ) × (space_under (row_of f).needs ≡ Some space) × IsKeptByOther run.flights c space
waits_for run c f flies (inl none) = absurd (none-some f (sym none ∙ flies))
waits_for run c f flies (inr (space, must)) =
    let same : must.flight ≡ f = same_Some _ _ (sym must.flies ∙ flies) in
    (space, subst (λ (g : Flight). space_under (row_of g).needs ≡ Some space) same must.under, must.kept)

-- where one has a call left they aren't all stuck: one that keeps a space doesn't wait
pub not_all_stuck : (run : Running) (c : ℕ) (f : Flight) → IsLawful run → flight_at run.flights c ≡ Some f
    → ((d : ℕ) (g : Flight) → flight_at run.flights d ≡ Some g → IsStuck run d) → ⊥
not_all_stuck run c f lawful flies all =
    let waits = waits_for run c f flies (all c f flies) in
    let kept : IsKeptByOther run.flights c waits.0 = waits.2 in
    let g : Flight = kept.flight in
    let then = waits_for run kept.other g kept.flies (all kept.other g kept.flies) in
    let under = keeps_under g waits.0 kept.keeps in
    let again : IsKeptByOther run.flights kept.other then.0 = then.2 in
    let same : then.0 ≡ waits.0 = same_Some _ _ (sym then.1 ∙ under) in
    again.differs (lawful.one_keeper waits.0 again.other kept.other again.flight g again.flies kept.flies
    (again.keeps ∙ ap Some same) kept.keeps)
