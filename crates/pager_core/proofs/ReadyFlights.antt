-- Before a turn's steps: the flight is where the machine's history leads, and ready in its space.
use Rattle.std.proofs.Common.{◌≡◌, ℕ, ◌+◌, ◌-◌, ◌^◌, ◌<◌, ◌≤◌, length, slice_get, Option, Some, None, IfSome, refl, ap, sym, subst, ◌∙◌, inl, inr, arith}
use Rattle.std.proofs.lemmas.Bool.{cases_eq}
use Rattle.std.proofs.lemmas.Option.{same_Some, slice_get_within}
use Rattle.std.proofs.Math.ListN.{length-map}
use Rattle.pager_model.specs.declared.entry.Numbered.{Numbered}
use Rattle.pager_model.specs.FrameStates.{FrameState}
use Rattle.pager_model.specs.Legal.{frames_at, progress_at, entries_in}
use Rattle.pager_model.specs.Settings.{mark_of}
use Rattle.pager_model.proofs.Lists.{get_or_within}
use Rattle.pager_laws.proofs.HistoryLists.{entries-few}
use Rattle.space_core.specs.Standing.{Kept}
use Rattle.flight_core.specs.declared.flight.Flight.{Flight}
use Rattle.flight_core.specs.declared.flight.Needs.TheVariants.{Frames}
use Rattle.flight_core.specs.Flights.{IsReady, IsAtRest}
use Rattle.flight_core.specs.Rows.{own_space, row_of, space_under}
use Rattle.flight_core.proofs.NextFlights.{anywhere, frames_needed, keeps_under}
use Rattle.flight_core.specs.Flying.{IsFlying as FliesOn, IsHere}
use Rattle.flight_core.proofs.Later.{later_none}
use Rattle.pager_core.specs.Running.{job_in, jobs_at, flight_at, entries_left, left_at, progress_by_flight, IsKeptByOther}
use Rattle.pager_core.proofs.Lands.{mark_of_job}
use Rattle.pager_core.proofs.Lists.{sum_by-within}
use Rattle.pager_core.proofs.Advances.{IsWhole, MachineParts, state_was}

module _ (m : MachineParts) (c : ℕ) (f : Flight) (machine : IsWhole m) (flies : flight_at m.run.flights c ≡ Some f) where
  processor_within : c < length m.run.jobs
  processor_within = (let at = get_or_within m.run.flights c f flies in let known = machine.known in omega (arith, at, known))

  -- the number of a job is small
  pub number-few : f.number + 1 ≤ 3149824
  number-few =
      let below = slice_get_within (jobs_at m.run.jobs c) f.number (job_in f.purpose) (machine.flights c f flies).job in
      let few = machine.few_jobs c in
      omega (arith, below, few)

  -- the history has room for what the flight may make still
  pub room-machine : (row_of f).entries ≤ m.capacity - length m.run.history
  room-machine =
      let left : left_at m.run c ≡ entries_left (jobs_at m.run.jobs c) (Some f) = ap (entries_left (jobs_at m.run.jobs c)) flies in
      let at = processor_within in
      let part = sum_by-within (left_at m.run) c 0 (length m.run.jobs) (omega arith) (omega (arith, at)) in
      let room = machine.room in
      omega (arith, left, part, room)

  pub entries-below : m.pool.entries < 2 ^ 45
  entries-below =
      let same : m.pool.entries ≡ (frames_at m.run.given (entries_in m.run.history)).entries =
      ap (λ (st : FrameState). st.entries) machine.frames in
      let few = entries-few m.run.given (entries_in m.run.history) in
      let count : length (entries_in m.run.history) ≡ length m.run.history = length-map m.run.history (λ (n : Numbered). n.entry) in
      let room = machine.few in
      omega (arith, same, few, count, room)

  -- its processor's list has led to where it is
  pub FliesOn-machine : FliesOn m.run.given (entries_in m.run.history) 0 f
  FliesOn-machine =
      let flying = machine.flights c f flies in
      let own = flying.processor in
      let at = processor_within in
      let marks = machine.marks in
      record {
        known = omega (arith, own, at, marks);
        mark = ap (mark_of m.run.given) own
            ∙ mark_of_job (mark_of m.run.given c) f.purpose (machine.kinds c f.number (job_in f.purpose) flying.job);
        none_before = λ call. refl;
        progress = ap (progress_at m.run.given (entries_in m.run.history)) own ∙ machine.lawful.progress c at
            ∙ ap (λ x. Some (progress_by_flight (mark_of m.run.given c) (jobs_at m.run.jobs c) x)) flies
            ∙ ap Some (sym (later_none (row_of f).progress));
        fits = flying.fits;
        on = subst (λ n. IfSome (own_space f.purpose) (λ s. s < n)) (sym machine.told) flying.on;
        under = λ s is. subst (λ n. s < n) (sym machine.told) (flying.under s is);
      }

  module _ (s : ℕ) (under : space_under (row_of f).needs ≡ Some s) where
    pub space_within : s < length m.spaces
    space_within = (machine.flights c f flies).under s under

    module _ (was : Kept) (at : slice_get m.spaces s ≡ Some was) (unkept : IsKeptByOther m.run.flights c s → ⊥) where
      -- no flight keeps the space where the actor's doesn't
      rests : (row_of f).keeps ≡ None → IsAtRest was (state_was m s)
      rests none =
          machine.rest s was at (λ d g flies' keeps. elim (cases_eq d c) [
            | inl is ↦
                let same : f ≡ g =
                (let x : Some f ≡ Some g = sym flies ∙ subst (λ n. flight_at m.run.flights n ≡ Some g) is flies' in cc) in
                let kept : None ≡ Some s = sym none ∙ ap (λ (x : Flight). (row_of x).keeps) same ∙ keeps in
                cc
            | inr other ↦ unkept (record { other = d; differs = other; flight = g; flies = flies'; keeps = keeps })
          ])

      ready_by : (o : Option ℕ) → (row_of f).keeps ≡ o → IsReady f was (state_was m s)
      ready_by (Some t) keeps =
          let here : t ≡ s = same_Some t s (sym (keeps_under f t keeps) ∙ under) in
          (machine.flights c f flies).keeps s was (keeps ∙ ap Some here) at
      ready_by None keeps =
          let flying = machine.flights c f flies in
          let rest = rests keeps in
          let found = anywhere f was s under flying.fits flying.going keeps rest.resting in
          record {
            under = under ∙ ap Some (sym (machine.space_is s was at).number);
            fits = flying.fits;
            stands = rest.stands;
            next = rest.next ∙ sym found.0;
            found = found.1;
          }

      -- it goes on in the space
      pub IsHere-machine : IsHere m.run.given (entries_in m.run.history) 0 was f
      IsHere-machine =
          let is = machine.space_is s was at in
          record {
            legal = machine.lawful.legal;
            flying = FliesOn-machine;
            space = record {
              within = subst (λ n. n < length m.run.given.told) (sym is.number) (subst (λ n. s < n) (sym machine.told) space_within);
              frames = is.frames;
              processors = is.processors ∙ sym machine.marks;
            };
            ready = subst (λ n. IsReady f was (state_was m n)) (sym is.number) (ready_by (row_of f).keeps refl);
          }

  -- a step that is made under no space is made under the frames' lock alone
  pub needs-frames : space_under (row_of f).needs ≡ None → (row_of f).needs ≡ Frames
  needs-frames under = frames_needed f (machine.flights c f flies).going under
