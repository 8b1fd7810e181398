-- A turn from what its calls ensure.
use Rattle.std.proofs.Common.{◌≡◌, ℕ, ◌+◌, ◌<◌, true, List, [], ◌∷◌, ◌++◌, length, map, get_or, slice_get, Option, Some, None, option_map, refl, ap, sym, subst, ◌∙◌, arith, inl, inr}
use Rattle.std.proofs.lemmas.List.{get_or_read_under, get_or-map, get_or-set_same, get_or-set_other}
use Rattle.std.proofs.lemmas.Option.{same_Some, slice_get_read, slice_get_within}
use Rattle.std.proofs.Math.ListN.{set}
use Rattle.pager_model.specs.declared.entry.Numbered.{Numbered}
use Rattle.pager_model.specs.declared.trace.Job.{Job}
use Rattle.pager_model.specs.Legal.{entries_in}
use Rattle.pager_model.specs.Settings.{mark_of}
use Rattle.pager_model.proofs.Lists.{get_or_within}
use Rattle.space_core.specs.Standing.{Kept}
use Rattle.flight_core.specs.declared.flight.Flight.{Flight}
use Rattle.pager_core.specs.Machines.{IsOther, AreKeepers, IsMachine}
use Rattle.flight_core.specs.Rows.{Going, has_ended, row_of, space_under}
use Rattle.pager_core.specs.Running.{Running, jobs_at, flight_at, flight_of, IsKeptByOther, MustWait, StepsUnder, left_at, WentOn, OneMore}
use Rattle.flight_core.specs.Flying.{IsHere}
use Rattle.pager_core.proofs.FrameAdvances.{AdvancesOnFrames, Goes-on_frames}
use Rattle.pager_core.proofs.Keepers.{kept_if, other_if, AreKeepers-same, AreKeepers-moved}
use Rattle.pager_core.proofs.Lands.{Lands, Lands-on, job_kept}
use Rattle.pager_core.proofs.ReadyFlights.{space_within, IsHere-machine}
use Rattle.pager_core.proofs.Advances.{Goes, Grows, IsWhole, MachineParts, Step, run_after, left_own, IsMachine-advance}
use Rattle.flight_core.proofs.NextFlights.{keeps_none, keeps_under}
use Rattle.pager_core.proofs.SpaceAdvances.{Advances, Goes-in, keeps_here}

-- what an index gives

pub flight_read : (m : MachineParts) (self : Running) (actor : ℕ) (x : Option Flight) (f : Flight) → IsWhole m → m.run ≡ self
    → actor < length self.jobs → x ≡ get_or m.run.flights actor x → x ≡ Some f → flight_at self.flights actor ≡ Some f
flight_read m self actor x f machine same below read is =
    let known = machine.known in
    let jobs : length m.run.jobs ≡ length self.jobs = ap (λ (r : Running). length r.jobs) same in
    ap (λ (r : Running). flight_at r.flights actor) (sym same)
    ∙ sym (get_or_read_under m.run.flights actor (length m.run.flights) x None read (omega (arith, known, jobs, below)) refl) ∙ is

pub flies_in : (run self : Running) (c : ℕ) (f : Flight) → run ≡ self → flight_at self.flights c ≡ Some f → flight_at run.flights c ≡ Some f
flies_in run self c f same flies = ap (λ (r : Running). flight_at r.flights c) same ∙ flies

-- what is found in the actor's place is its flight, whose next step is made there
pub steps_read : (run self : Running) (actor : ℕ) (under : Option ℕ) (x : Option Flight) (f : Flight) → run ≡ self
    → StepsUnder self actor under → x ≡ get_or run.flights actor x → x ≡ Some f
    → (flight_at run.flights actor ≡ Some f) × (space_under (row_of f).needs ≡ under)
steps_read run self actor under x f same steps read is =
    let flies = flies_in run self actor steps.flight same steps.flies in
    let within = get_or_within run.flights actor steps.flight flies in
    let here = sym (get_or_read_under run.flights actor (length run.flights) x None read within refl) ∙ is in
    let same_flight = same_Some steps.flight f (sym flies ∙ here) in
    (here, ap (λ (g : Flight). space_under (row_of g).needs) (sym same_flight) ∙ steps.under)

pub jobs_read : {V : Type 0} (items : V → List Job) (vs : List V) (c : ℕ) (v : V) → c < length vs → v ≡ get_or vs c v
    → items v ≡ jobs_at (map items vs) c
jobs_read items vs c v below read = ap items read ∙ sym (get_or-map items vs c v [] below)

-- What a turn that goes on finds in a space: the actor's flight goes on in it, and no other flight keeps it.
pub record Finds (m : MachineParts) (c s : ℕ) (f : Flight) (was : Kept) : Type 0 where
  pub flies : flight_at m.run.flights c ≡ Some f
  pub under : space_under (row_of f).needs ≡ Some s
  pub at : slice_get m.spaces s ≡ Some was
  pub unkept : IsKeptByOther m.run.flights c s → ⊥
  pub here : IsHere m.run.given (entries_in m.run.history) 0 was f

module _ (m : MachineParts) (self : Running) (c s : ℕ) (f : Flight) (whole : IsWhole m) (same : m.run ≡ self)
    (flies : flight_at m.run.flights c ≡ Some f) (under : space_under (row_of f).needs ≡ Some s) where
  waits_if : IsKeptByOther m.run.flights c s → MustWait self c s
  waits_if kept = record {
    flight = f;
    flies = flies_in self m.run c f (sym same) flies;
    under = under;
    kept = subst (λ (r : Running). IsKeptByOther r.flights c s) same kept;
  }

  pub finds : (MustWait self c s → ⊥) → (was : Kept) → was ≡ get_or m.spaces s was → Finds m c s f was
  finds none was at_space =
      let at = slice_get_read m.spaces (length m.spaces) s was refl (space_within m c f whole flies s under) at_space in
      let unkept : IsKeptByOther m.run.flights c s → ⊥ = λ kept. none (waits_if kept) in
      record {
        flies = flies;
        under = under;
        at = at;
        unkept = unkept;
        here = IsHere-machine m c f whole flies s under was at unkept;
      }

  -- The actor waits where the space's keeper is another.
  module _ (keepers : List (Option ℕ)) (are : AreKeepers m.run.flights (length m.spaces) keepers) (keeper : Option ℕ)
      (read : keeper ≡ get_or keepers s keeper) where
    there : s < length m.spaces
    there = space_within m c f whole flies s under

    pub must_wait : IsOther keeper c → MustWait self c s
    must_wait other = waits_if (kept_if m.run.flights (length m.spaces) keepers are c s keeper there read other)

    pub is_other : MustWait self c s → IsOther keeper c
    is_other waits =
        other_if m.run.flights (length m.spaces) keepers are c s keeper there read
        (subst (λ (r : Running). IsKeptByOther r.flights c s) (sym same) waits.kept)

-- What comes of a flight after a step: it goes on, or its processor's next job comes next.
pub record HasNext (jobs : List (List Job)) (f : Flight) (o : Option Flight) : Type 0 where
  pub going : (row_of f).outcome ≡ Going → o ≡ Some f
  pub next : has_ended (row_of f).outcome ≡ true → o ≡ flight_of f.processor (f.number + 1) (jobs_at jobs f.processor)

module _ (m : MachineParts) (step : Step) (o : Option Flight) where
  -- what comes of the flight after a step
  landed : IsWhole m → flight_at m.run.flights step.actor ≡ Some step.old → Grows m step → HasNext m.run.jobs step.new o
      → Lands (mark_of m.run.given step.actor) (jobs_at m.run.jobs step.actor) step.new o
  landed machine flies grows has =
      let same = grows.added.same_work in
      let job = job_kept same in
      let processor_is = same.processor ∙ (machine.flights step.actor step.old flies).processor in
      Lands-on (mark_of m.run.given step.actor) (jobs_at m.run.jobs step.actor) step.new (machine.kinds step.actor)
      (ap (slice_get (jobs_at m.run.jobs step.actor)) same.number ∙ (machine.flights step.actor step.old flies).job ∙ ap Some (sym job))
      grows.flying.fits
      o has.going
      (λ ended. has.next ended ∙ ap (λ c. flight_of step.new.processor (step.new.number + 1) (jobs_at m.run.jobs c)) processor_is)

  -- under a space's lock
  pub Goes-of : (s : ℕ) (was now : Kept) → Advances m step s was now → HasNext m.run.jobs step.new o → Goes m step (set m.spaces s now) o
  Goes-of s was now advances has =
      Goes-in m step s was now advances o (landed advances.whole advances.flies advances.grows has)

  -- and then the space's keeper is the actor, or none
  pub AreKeepers-of : (s : ℕ) (was now : Kept) → Advances m step s was now → Goes m step (set m.spaces s now) o
      → (keepers : List (Option ℕ)) → AreKeepers m.run.flights (length m.spaces) keepers → (x : Option ℕ)
      → x ≡ option_map (λ (t : ℕ). step.actor) (row_of step.new).keeps
      → AreKeepers (set m.run.flights step.actor o) (length (set m.spaces s now)) (set keepers s x)
  AreKeepers-of s was now advances goes keepers are x is =
      subst (λ n. AreKeepers (set m.run.flights step.actor o) n (set keepers s x)) (sym goes.count)
      (AreKeepers-moved m.run.flights (length m.spaces) keepers are step.actor step.old o advances.flies s x
      (slice_get_within m.spaces s was advances.at)
      (λ t keeps. same_Some t s (sym (keeps_under step.old t keeps) ∙ advances.under))
      (λ t keeps. keeps_here m step s was now advances t (sym goes.lands.keeps ∙ keeps))
      advances.unkept (is ∙ ap (option_map (λ (t : ℕ). step.actor)) (sym goes.lands.keeps)))

  -- under the frames' lock alone
  pub Goes-of_frames : AdvancesOnFrames m step → HasNext m.run.jobs step.new o → Goes m step m.spaces o
  Goes-of_frames advances has = Goes-on_frames m step advances o (landed advances.whole advances.flies advances.grows has)

  pub AreKeepers-of_frames : AdvancesOnFrames m step → Goes m step m.spaces o → (keepers : List (Option ℕ))
      → AreKeepers m.run.flights (length m.spaces) keepers
      → AreKeepers (set m.run.flights step.actor o) (length m.spaces) keepers
  AreKeepers-of_frames advances goes keepers are =
      AreKeepers-same m.run.flights (length m.spaces) keepers are step.actor step.old o advances.flies (keeps_none step.old advances.under)
      (goes.lands.keeps ∙ advances.keeps_none)

module _ (m : MachineParts) (step : Step) (spaces' : List Kept) (o : Option Flight) where
  -- the machine then, whatever its capacity is called
  pub IsMachine-advanced : IsWhole m → Goes m step spaces' o → (new : Running) (room : ℕ) → new ≡ run_after m.run step.actor step.entry o
      → room ≡ m.capacity → IsMachine new spaces' step.after room
  IsMachine-advanced machine goes new room same same_room =
      subst (λ r. IsMachine r spaces' step.after room) (sym same)
      (subst (IsMachine (run_after m.run step.actor step.entry o) spaces' step.after) (sym same_room)
      (IsMachine-advance m step spaces' o machine goes))

  -- the actor's flight went on
  went_on : IsWhole m → Goes m step spaces' o → (self new : Running) → m.run ≡ self → new ≡ run_after m.run step.actor step.entry o
      → (g : Flight) → flight_at self.flights step.actor ≡ Some g → WentOn new step.actor g.number
  went_on machine goes self new same is_new g flies =
      let is : step.old ≡ g = same_Some step.old g (sym goes.flies ∙ flies_in m.run self step.actor g same flies) in
      let at : flight_at new.flights step.actor ≡ o = ap (λ (r : Running). flight_at r.flights step.actor) is_new
      ∙ get_or-set_same m.run.flights step.actor o None (get_or_within m.run.flights step.actor step.old goes.flies) in
      let jobs : new.jobs ≡ m.run.jobs = ap (λ (r : Running). r.jobs) is_new in
      let work = goes.grows.added.same_work in
      let number_is : step.new.number ≡ g.number = work.number ∙ ap (λ (x : Flight). x.number) is in
      let processor_is : step.new.processor ≡ step.actor = work.processor ∙ (machine.flights step.actor step.old goes.flies).processor in
      elim goes.lands.goes [
        | inl still ↦ inl (record { flight = step.new; flies = at ∙ still.0; same_job = number_is; going = still.1 })
        | inr next ↦ inr (at ∙ next
            ∙ ap (λ n. flight_of n (step.new.number + 1) (jobs_at m.run.jobs step.actor)) processor_is
            ∙ ap (λ n. flight_of step.actor (n + 1) (jobs_at m.run.jobs step.actor)) number_is
            ∙ ap (λ l. flight_of step.actor (g.number + 1) (jobs_at l step.actor)) (sym jobs))
      ]

  pub OneMore-advanced : IsWhole m → Goes m step spaces' o → (self new : Running) → m.run ≡ self
      → new ≡ run_after m.run step.actor step.entry o
      → OneMore self new step.actor
  OneMore-advanced machine goes self new same is_new =
      let was_history : m.run.history ≡ self.history = ap (λ (r : Running). r.history) same in
      record {
        entry = step.entry;
        history = ap (λ (r : Running). r.history) is_new
            ∙ ap (λ (l : List Numbered). l ++ (let x : Numbered = record { number = length l; entry = step.entry } in x) ∷ []) was_history;
        of_actor = goes.grows.added.own.0 ∙ (machine.flights step.actor step.old goes.flies).processor;
        others = λ d other.
            ap (λ (r : Running). flight_at r.flights d) is_new ∙ get_or-set_other m.run.flights step.actor d o None other
            ∙ ap (λ (r : Running). flight_at r.flights d) same;
        went_on = λ g flies. went_on machine goes self new same is_new g flies;
        fewer =
            let at : left_at new step.actor ≡ left_at (run_after m.run step.actor step.entry o) step.actor =
            ap (λ r. left_at r step.actor) is_new in
            let before : left_at m.run step.actor ≡ left_at self step.actor = ap (λ r. left_at r step.actor) same in
            let less = left_own m step spaces' o machine goes in
            omega (arith, at, before, less);
      }
