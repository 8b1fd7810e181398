-- What a turn leaves, whatever its step was made under, once the machine's log took its entry.
use Rattle.std.proofs.Common.{◌≡◌, ℕ, ◌+◌, ◌-◌, true, List, [], ◌∷◌, ◌++◌, length, Option, Some, None, option_map, ap, sym, subst}
use Rattle.std.proofs.Math.ListN.{set}
use Rattle.pager_model.specs.declared.entry.Entry.{Entry}
use Rattle.pager_model.specs.FrameStates.{FrameState}
use Rattle.pager_model.specs.Legal.{IsLegal, entries_in, frames_at}
use Rattle.pager_model.specs.Settings.{Given}
use Rattle.space_core.specs.Standing.{Kept}
use Rattle.flight_core.specs.declared.flight.Flight.{Flight}
use Rattle.flight_core.specs.Lacking.{NeverLacks}
use Rattle.flight_core.specs.Rows.{row_of, space_under}
use Rattle.flight_core.specs.Flying.{IsFlying, IsHere, in_space, since}
use Rattle.flight_core.specs.Logged.{Stepped, SteppedOnFrames}
use Rattle.pager_core.specs.declared.listed.Listed.{Listed}
use Rattle.pager_core.specs.Listing.{IsListed}
use Rattle.pager_core.specs.Machines.{AreKeepers, HasMemory, IsMachine}
use Rattle.pager_core.specs.Running.{Running, OneMore, flight_at}
use Rattle.pager_core.proofs.FrameAdvances.{AdvancesOnFrames-of, stands_on, step_on}
use Rattle.pager_core.proofs.Advances.{Goes, IsWhole, MachineParts, Step, run_after}
use Rattle.pager_core.proofs.Memory.{HasMemory-advanced}
use Rattle.pager_core.proofs.MoreEntries.{IsListed-machine, listed_for, items_more, room_of, same_room}
use Rattle.pager_core.proofs.ReadyFlights.{FliesOn-machine}
use Rattle.pager_core.proofs.SpaceAdvances.{Advances-of, stands_in, step_in}
use Rattle.pager_core.proofs.WholeAdvances.{AreKeepers-of, AreKeepers-of_frames, Finds, Goes-of, Goes-of_frames, HasNext, IsMachine-advanced, OneMore-advanced}

-- A machine before a turn of an actor, the actor's flight before and after the step, what comes of it, and the log then.
pub record Advancing (m : MachineParts) (self : Running) (c : ℕ) (f f' : Flight) (o : Option Flight) (log : Listed) : Type 0 where
  pub whole : IsWhole m
  pub same : m.run ≡ self
  pub next : HasNext m.run.jobs f' o
  pub fewer : room_of log + 1 ≡ m.capacity - length m.run.history

-- the machine's run after it
abbrev pub run_then : MachineParts → ℕ → Option Flight → Listed → Running
run_then m c o log =
    record {
      given = m.run.given;
      jobs = m.run.jobs;
      flights = set m.run.flights c o;
      history = log.history.items;
      unused = m.run.unused;
    }

-- What is made in a turn, by what its step ensures for every history that the log stands for.
module _ (m : MachineParts) (c : ℕ) (f f' : Flight) (whole : IsWhole m) (log : Listed) (pool : FrameState) where
  pub made_in : (s : ℕ) (was now : Kept) → Finds m c s f was
      → ((g : Given) (h : List Entry) (before : ℕ) → IsListed m.run.history m.capacity h → IsHere g h before was f
      → m.pool ≡ frames_at g h → Stepped listed_for (since g h before) log true (in_space f was) (in_space f' now) pool)
      → Stepped listed_for (since m.run.given (entries_in m.run.history) 0) log true (in_space f was) (in_space f' now) pool
  made_in s was now found made =
      made m.run.given (entries_in m.run.history) 0 (IsListed-machine m whole) found.here whole.frames

  pub made_on_frames : flight_at m.run.flights c ≡ Some f
      → ((g : Given) (h : List Entry) (before : ℕ) → IsListed m.run.history m.capacity h → IsLegal g h → IsFlying g h before f
      → m.pool ≡ frames_at g h → SteppedOnFrames listed_for (since g h before) log f f' pool)
      → SteppedOnFrames listed_for (since m.run.given (entries_in m.run.history) 0) log f f' pool
  made_on_frames flies made =
      made m.run.given (entries_in m.run.history) 0 (IsListed-machine m whole) whole.lawful.legal (FliesOn-machine m c f whole flies)
      whole.frames

-- A turn leaves a machine with one entry more, and with memory where the step never lacked it.
pub record Advanced (m : MachineParts) (self : Running) (c : ℕ) (f f' : Flight) (o : Option Flight) (log : Listed) (spaces : List Kept)
    (pool : FrameState) (keepers keepers' : List (Option ℕ)) : Type 0 where
  pub whole : IsMachine (run_then m c o log) spaces pool log.history.room
  pub more : OneMore self (run_then m c o log) c
  pub kept : AreKeepers m.run.flights (length m.spaces) keepers → AreKeepers (set m.run.flights c o) (length spaces) keepers'
  pub memory : HasMemory m.run → NeverLacks f.phase f'.phase → HasMemory (run_then m c o log)

module _ (m : MachineParts) (self : Running) (c : ℕ) (f f' : Flight) (o : Option Flight) (log : Listed)
    (advancing : Advancing m self c f f' o log) where
  module _ (e : Entry) (spaces : List Kept) (pool : FrameState) (keepers keepers' : List (Option ℕ)) where
    abbrev step : Step
    step = record { actor = c; old = f; new = f'; entry = e; after = pool }

    by_step : Goes m step spaces o → listed_for log m.run.given (entries_in m.run.history ++ e ∷ [])
        → (AreKeepers m.run.flights (length m.spaces) keepers → AreKeepers (set m.run.flights c o) (length spaces) keepers')
        → Advanced m self c f f' o log spaces pool keepers keepers'
    by_step goes listed kept =
        let whole = advancing.whole in
        let numbered = whole.lawful.numbered in
        let after_is : run_then m c o log ≡ run_after m.run c e o =
        ap (λ l. record (run_then m c o log) { history = l }) (items_more m.run.history log m.run.given e numbered listed) in
        let room = same_room m.run.history log m.run.given e numbered listed m.capacity advancing.fewer in
        record {
          whole = IsMachine-advanced m step spaces o whole goes (run_then m c o log) log.history.room after_is room;
          more = OneMore-advanced m step spaces o whole goes self (run_then m c o log) advancing.same after_is;
          kept = kept;
          memory = λ has never. subst HasMemory (sym after_is)
              (HasMemory-advanced m step o has goes.flies never goes.grows.added advancing.next);
        }

  -- under a space's lock
  pub Advanced-in : (s : ℕ) (was now : Kept) (pool : FrameState) → Finds m c s f was
      → Stepped listed_for (since m.run.given (entries_in m.run.history) 0) log true (in_space f was) (in_space f' now) pool
      → (keepers : List (Option ℕ)) (keeper : Option ℕ) → keeper ≡ option_map (λ (t : ℕ). c) (row_of f').keeps
      → Advanced m self c f f' o log (set m.spaces s now) pool keepers (set keepers s keeper)
  Advanced-in s was now pool found made keepers keeper is =
      let whole = advancing.whole in
      let step = step_in listed_for m c f f' s was now pool log made in
      let advances = Advances-of listed_for m c f f' s was now pool log made whole found.flies found.under found.at found.unkept in
      let goes = Goes-of m step o s was now advances advancing.next in
      by_step step.entry (set m.spaces s now) pool keepers (set keepers s keeper) goes (stands_in listed_for m c f f' s was now pool log made)
      (λ are. AreKeepers-of m step o s was now advances goes keepers are keeper is)

  -- under the frames' lock alone
  pub Advanced-on_frames : (pool : FrameState) → flight_at m.run.flights c ≡ Some f → space_under (row_of f).needs ≡ None
      → SteppedOnFrames listed_for (since m.run.given (entries_in m.run.history) 0) log f f' pool → (keepers : List (Option ℕ))
      → Advanced m self c f f' o log m.spaces pool keepers keepers
  Advanced-on_frames pool flies under made keepers =
      let step = step_on listed_for m c f f' pool log made in
      let advances = AdvancesOnFrames-of listed_for m c f f' pool log made advancing.whole flies under in
      let goes = Goes-of_frames m step o advances advancing.next in
      by_step step.entry m.spaces pool keepers keepers goes (stands_on listed_for m c f f' pool log made)
      (λ are. AreKeepers-of_frames m step o advances goes keepers are)
