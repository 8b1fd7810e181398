-- Orders of turns go on by one entry.
use Rattle.std.proofs.Common.{◌≡◌, ℕ, ◌+◌, ◌<◌, ◌≤◌, List, [], ◌∷◌, ◌++◌, length, drop, get_or, Some, None, inl, inr, refl, sym, ap, subst, ◌∙◌}
use Rattle.std.proofs.lemmas.Bool.{true≢false}
use Rattle.std.proofs.lemmas.List.{append-nil, append_assoc, drop_all, drop_more}
use Rattle.std.specs.List.{AllByRecursion, find, range_with_len}
use Rattle.pager_model.specs.declared.entry.Entry.{Entry}
use Rattle.pager_model.specs.Legal.{entries_in}
use Rattle.pager_model.specs.Scripts.{Script}
use Rattle.pager_model.specs.Showing.{actors}
use Rattle.pager_model.specs.Stored.{Stored}
use Rattle.pager_core.specs.Machines.{all_left}
use Rattle.pager_core.specs.declared.machine.Advance.{Advance}
use Rattle.pager_core.specs.declared.machine.Advance.TheVariants.{Ended as HasNone, Stepped, Waits}
use Rattle.pager_core.specs.Running.{Running, flight_at, MustWait, OneMore, IsLawful}
use Rattle.pager_model.specs.Schedules.{can_step, next_state, drawn, rotated, picked, IsDrawn, IsSeeded, AreLowest, Follows, IsScheduled}
use Rattle.replay_core.specs.Schedules.{drawn_order, flying_in, IsStuck, FirstStepped}
use Rattle.replay_core.proofs.RunLemmas.{IsRunOf, length-jobs}
use Rattle.replay_core.proofs.StandingLemmas.{cannot_step, can_step_free}
use Rattle.replay_core.proofs.ScheduleLemmas.{all_rotated, range_known, free_by, flying_known, left_same, entries_step, IsRunOf-step, found, fewer_left}

-- Drawn turns.

-- the state after the draws of these entries
pub state_on : ℕ → List Entry → ℕ
state_on x [] = x
state_on x (e ∷ es) = state_on (next_state x) es

pub state_on-push : (x : ℕ) (es : List Entry) (e : Entry) → state_on x (es ++ e ∷ []) ≡ next_state (state_on x es)
unfolding state_on
state_on-push x [] e = refl
state_on-push x (y ∷ es) e = state_on-push (next_state x) es e

pub state_on-none : (x : ℕ) → x ≡ state_on x []
unfolding state_on
state_on-none x = refl

IsDrawn-push : (script : Script) (x : ℕ) (h es : List Entry) (e : Entry) → IsDrawn script x h es
    → picked script (h ++ es) (state_on x es) ≡ Some e.processor → IsDrawn script x h (es ++ e ∷ [])
unfolding state_on
IsDrawn-push script x h [] e was is = (subst (λ l. picked script l x ≡ Some e.processor) (append-nil h) is, tt)
IsDrawn-push script x h (y ∷ es) e was is = (
  was.0,
  IsDrawn-push script (next_state x) (h ++ y ∷ []) es e was.1
      (subst (λ l. picked script l (state_on (next_state x) es) ≡ Some e.processor) (sym (append_assoc h (y ∷ []) es)) is),
)

-- The entries so far are drawn from the seed, and this is the generator's state.
pub record Drawing (script : Script) (stores : List Stored) (seed : ℕ) (run : Running) (state : ℕ) : Type 0 where
  pub of : IsRunOf script stores run
  pub seeded : IsSeeded script seed (entries_in run.history)
  pub state_is : state ≡ state_on seed (entries_in run.history)

pub Drawing-start : (script : Script) (stores : List Stored) (seed : ℕ) (run : Running) → IsRunOf script stores run → run.history ≡ []
    → Drawing script stores seed run seed
Drawing-start script stores seed run of none =
    record {
      of = of;
      seeded = subst (λ h. IsSeeded script seed (entries_in h)) (sym none) tt;
      state_is = state_on-none seed ∙ ap (λ h. state_on seed (entries_in h)) (sym none);
    }

-- one drawn step more
module _ (script : Script) (stores : List Stored) (seed : ℕ) (run : Running) (x : ℕ) (now : Drawing script stores seed run x) where
  known_drawn : AllByRecursion (λ c. c < actors script) (drawn_order run x)
  known_drawn =
      subst (λ n. AllByRecursion (λ c. c < n) (drawn_order run x)) (length-jobs script run.jobs now.of.jobs)
      (all_rotated (λ c. c < length run.jobs) (drawn x (length (flying_in run))) (flying_in run) (flying_known run))

  pub Drawing-step : (new : Running) → FirstStepped run new (drawn_order run x) → (state : ℕ) → state ≡ next_state x
      → Drawing script stores seed new state
  Drawing-step new step state is =
      let h = entries_in run.history in
      let e = step.more.entry in
      let found_there : picked script h x ≡ Some e.processor =
      ap (λ l. find (can_step script h) (rotated (drawn x (length l)) l)) (left_same script stores run now.of)
      ∙ found script stores run new (drawn_order run x) now.of step known_drawn in
      let more : entries_in new.history ≡ h ++ e ∷ [] = entries_step run new step.actor step.more in
      record {
        of = IsRunOf-step script stores run new (drawn_order run x) now.of step;
        seeded = subst (IsSeeded script seed) (sym more) (IsDrawn-push script seed [] h e now.seeded
            (subst (λ s. picked script h s ≡ Some e.processor) now.state_is found_there));
        state_is = is ∙ ap next_state now.state_is ∙ sym (state_on-push seed h e) ∙ ap (state_on seed) (sym more);
      }

  pub fewer_drawn : (new : Running) → FirstStepped run new (drawn_order run x) → all_left new < all_left run
  fewer_drawn new step = fewer_left script stores run new (drawn_order run x) now.of step known_drawn

-- Listed turns.

-- Whatever goes on by what is left of the schedule is scheduled as a whole.
abbrev pub Ahead : Script → List ℕ → List ℕ → List Entry → Type 0
Ahead script schedule left history = (es : List Entry) → Follows script left history es → Follows script schedule [] (history ++ es)

-- The first turns of the schedule are made.
pub record Following (script : Script) (stores : List Stored) (schedule : List ℕ) (k : ℕ) (run : Running) : Type 0 where
  pub of : IsRunOf script stores run
  pub ahead : Ahead script schedule (drop k schedule) (entries_in run.history)

pub Following-start : (script : Script) (stores : List Stored) (schedule : List ℕ) (run : Running) → IsRunOf script stores run → run.history ≡ []
    → Following script stores schedule 0 run
Following-start script stores schedule run of none =
    record { of = of; ahead = subst (λ h. Ahead script schedule schedule (entries_in h)) (sym none) (λ es follows. follows) }

-- The schedule has a step at this place, of one of the processors.
pub record NextScheduled (script : Script) (schedule : List ℕ) (k : ℕ) : Type 0 where
  pub below : k < length schedule
  pub known : get_or schedule k 0 < actors script

-- one step more, of a processor that can step, or of one that can't
module _ (script : Script) (stores : List Stored) (schedule : List ℕ) (k : ℕ) (run : Running)
    (now : Following script stores schedule k run) (next : NextScheduled script schedule k) where
  abbrev n : ℕ
  n = get_or schedule k 0

  ahead_at : Ahead script schedule (n ∷ drop (k + 1) schedule) (entries_in run.history)
  ahead_at = subst (λ l. Ahead script schedule l (entries_in run.history)) (drop_more schedule k 0 next.below) now.ahead

  pub Following-stepped : (new : Running) → (IsStuck run n → ⊥) → OneMore run new n → new.given ≡ run.given → new.jobs ≡ run.jobs
      → new.unused ≡ run.unused → IsLawful new → Following script stores schedule (k + 1) new
  Following-stepped new free more given calls unused lawful =
      let h = entries_in run.history in
      let can = can_step_free script stores run now.of n next.known free in
      record {
        of = record { given = given ∙ now.of.given; unused = unused ∙ now.of.unused; jobs = calls ∙ now.of.jobs; lawful = lawful };
        ahead = subst (Ahead script schedule (drop (k + 1) schedule)) (sym (entries_step run new n more))
            (λ es follows. subst (Follows script schedule []) (sym (append_assoc h (more.entry ∷ []) es))
            (ahead_at (more.entry ∷ es) (
              λ yes. (more.entry, es, refl, more.of_actor, follows),
              λ cannot. absurd (true≢false (sym can ∙ cannot)),
            )));
      }

  pub Following-passed : (new : Running) → new ≡ run → IsStuck run n → Following script stores schedule (k + 1) new
  Following-passed new same stuck =
      let cannot = cannot_step script stores run now.of n next.known stuck in
      subst (Following script stores schedule (k + 1)) (sym same)
      (record { of = now.of; ahead = λ es follows. ahead_at es (λ can. absurd (true≢false (sym can ∙ cannot)), λ no. follows) })

pub Following-advance : (script : Script) (stores : List Stored) (schedule : List ℕ) (k : ℕ) (run : Running)
    → Following script stores schedule k run → NextScheduled script schedule k → (new : Running) (advance : Advance)
    → (advance ≡ HasNone → (new ≡ run) × (flight_at run.flights (get_or schedule k 0) ≡ None))
    → (flight_at run.flights (get_or schedule k 0) ≡ None → advance ≡ HasNone)
    → ((space : ℕ) → advance ≡ Waits space → (new ≡ run) × MustWait run (get_or schedule k 0) space)
    → ((space : ℕ) → MustWait run (get_or schedule k 0) space → advance ≡ Waits space)
    → (advance ≡ Stepped → OneMore run new (get_or schedule k 0)) → (new.given ≡ run.given) × (new.jobs ≡ run.jobs) → new.unused ≡ run.unused
    → IsLawful new → Following script stores schedule (k + 1) new
Following-advance script stores schedule k run now next new Stepped ended not_ended waits not_waiting stepped same unused lawful =
    let n = get_or schedule k 0 in
    Following-stepped script stores schedule k run now next new (free_by run n Stepped not_ended not_waiting refl)
    (stepped refl) same.0 same.1 unused lawful
Following-advance script stores schedule k run now next new HasNone ended not_ended waits not_waiting stepped same unused lawful =
    Following-passed script stores schedule k run now next new (ended refl).0 (inl (ended refl).1)
Following-advance script stores schedule k run now next new (Waits space) ended not_ended waits not_waiting stepped same unused lawful =
    Following-passed script stores schedule k run now next new (waits space refl).0 (inr (space, (waits space refl).1))

-- The schedule's turns are made, and the entries after them are of the lowest that could step.
pub record Lowering (script : Script) (stores : List Stored) (schedule : List ℕ) (run : Running) : Type 0 where
  pub of : IsRunOf script stores run
  pub before : List Entry
  pub after : List Entry
  pub entries : entries_in run.history ≡ before ++ after
  pub lowest : AreLowest script before after
  pub ahead : (es : List Entry) → AreLowest script before es → IsScheduled script schedule (before ++ es)

pub Lowering-start : (script : Script) (stores : List Stored) (schedule : List ℕ) (k : ℕ) (run : Running)
    → Following script stores schedule k run → length schedule ≤ k → Lowering script stores schedule run
Lowering-start script stores schedule k run now all =
    record {
      of = now.of;
      before = entries_in run.history;
      after = [];
      entries = sym (append-nil (entries_in run.history));
      lowest = tt;
      ahead = subst (λ l. Ahead script schedule l (entries_in run.history)) (drop_all k schedule all) now.ahead;
    }

AreLowest-push : (script : Script) (h es : List Entry) (e : Entry) → AreLowest script h es
    → find (can_step script (h ++ es)) (range_with_len 0 (actors script)) ≡ Some e.processor → AreLowest script h (es ++ e ∷ [])
AreLowest-push script h [] e was is =
    (subst (λ l. find (can_step script l) (range_with_len 0 (actors script)) ≡ Some e.processor) (append-nil h) is, tt)
AreLowest-push script h (y ∷ es) e was is = (
  was.0,
  AreLowest-push script (h ++ y ∷ []) es e was.1
      (subst (λ l. find (can_step script l) (range_with_len 0 (actors script)) ≡ Some e.processor) (sym (append_assoc h (y ∷ []) es)) is),
)

-- one step more of the lowest
module _ (script : Script) (stores : List Stored) (schedule : List ℕ) (run new : Running) (now : Lowering script stores schedule run)
    (step : FirstStepped run new (range_with_len 0 (actors script))) where
  pub Lowering-step : Lowering script stores schedule new
  Lowering-step =
      let e = step.more.entry in
      let first : find (can_step script (now.before ++ now.after)) (range_with_len 0 (actors script)) ≡ Some e.processor =
      subst (λ l. find (can_step script l) (range_with_len 0 (actors script)) ≡ Some e.processor) now.entries
      (found script stores run new (range_with_len 0 (actors script)) now.of step (range_known (actors script))) in
      record {
        of = IsRunOf-step script stores run new (range_with_len 0 (actors script)) now.of step;
        before = now.before;
        after = now.after ++ e ∷ [];
        entries = entries_step run new step.actor step.more ∙ ap (λ l. l ++ e ∷ []) now.entries
            ∙ append_assoc now.before now.after (e ∷ []);
        lowest = AreLowest-push script now.before now.after e now.lowest first;
        ahead = now.ahead;
      }

  pub fewer_lowest : all_left new < all_left run
  fewer_lowest = fewer_left script stores run new (range_with_len 0 (actors script)) now.of step (range_known (actors script))

pub IsScheduled-end : (script : Script) (stores : List Stored) (schedule : List ℕ) (run : Running) → Lowering script stores schedule run
    → IsScheduled script schedule (entries_in run.history)
IsScheduled-end script stores schedule run now = subst (IsScheduled script schedule) (sym now.entries) (now.ahead now.after now.lowest)
