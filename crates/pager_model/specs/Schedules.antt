-- Schedules: which of the processors of a trace, of which its daemon is the last, makes each entry of a history, told by what the entries
-- before it lead to.
use Rattle.std.specs.Prelude.{ℕ, ◌≡◌, ◌+◌, ◌*◌, ◌/◌, ◌%◌, ◌^◌, ◌==◌, Bool, true, false, ◌&&◌, not, List, [], ◌∷◌, ◌++◌, length, take, drop, filter, find, slice_get, slice_index_or, Option, Some, None, is_some}
use Rattle.std.specs.List.{range_with_len, list_any}
use Rattle.std.specs.Option.{option_and_then}
use Rattle.pager_model.specs.Options.{is_that}
use Rattle.pager_model.specs.declared.entry.Entry.{Entry}
use Rattle.pager_model.specs.declared.trace.Job.{Job}
use Rattle.pager_model.specs.declared.trace.Job.TheVariants.{Call as MakesCall, Turn}
use Rattle.pager_model.specs.Entries.{entries_of}
use Rattle.pager_model.specs.Flat.{space_of_call}
use Rattle.pager_model.specs.Locks.{under_in, keeps_in}
use Rattle.pager_model.specs.Order.{Doing, Progress, progress_of}
use Rattle.pager_model.specs.Scripts.{Script}
use Rattle.pager_model.specs.Showing.{actors, jobs_of, marks_of}

-- Where a processor is after a history: in the call or turn that is in progress or comes next, where it has one left, and there in this place. A
-- call has a space of its own, and a turn has none.
pub record Standing : Type 0 where
  pub own : Option ℕ
  pub doing : Doing

abbrev pub own_of : Job → Option ℕ
own_of (MakesCall call) = Some (space_of_call call)
own_of (Turn mark) = None

abbrev pub standing_by : List Job → Progress → Option Standing
standing_by jobs p = option_and_then (λ job. Some (record { own = own_of job; doing = p.doing })) (slice_get jobs p.made)

abbrev pub standing_at : Script → List Entry → ℕ → Option Standing
standing_at script history c = option_and_then (standing_by (jobs_of c script))
    (progress_of (slice_index_or (marks_of script) c 0) (entries_of c history))

-- the space that its next step is made under; where there is none it is made under the frames alone
abbrev pub under_of : Standing → Option ℕ
under_of s = under_in s.own s.doing

abbrev pub is_kept_by : ℕ → Option Standing → Bool
is_kept_by space None = false
is_kept_by space (Some s) = is_that space (keeps_in s.own s.doing)

-- another processor keeps the space, where there is one
abbrev pub is_kept_by_other : Script → List Entry → ℕ → Option ℕ → Bool
is_kept_by_other script history c None = false
is_kept_by_other script history c (Some space) =
    list_any (λ d. not (d == c) && is_kept_by space (standing_at script history d)) (range_with_len 0 (actors script))

-- the processor has a call or a turn left
abbrev pub has_left : Script → List Entry → ℕ → Bool
has_left script history c = is_some (standing_at script history c)

abbrev pub can_go : Script → List Entry → ℕ → Option Standing → Bool
can_go script history c None = false
can_go script history c (Some s) = not (is_kept_by_other script history c (under_of s))

-- it has one, and no other processor keeps the space that its next step is made under
abbrev pub can_step : Script → List Entry → ℕ → Bool
can_step script history c = can_go script history c (standing_at script history c)

-- Drawn numbers: Knuth's generator of MMIX.

abbrev pub next_state : ℕ → ℕ
next_state x = (x * 6364136223846793005 + 1442695040888963407) % 2 ^ 64

-- a number below n, drawn from a state: of the next state without its lowest 33 bits
abbrev pub drawn : ℕ → ℕ → ℕ
drawn x n = next_state x / 2 ^ 33 % n

-- Orders.

-- the processors that have a call or a turn left, ascending
abbrev pub left_of : Script → List Entry → List ℕ
left_of script history = filter (has_left script history) (range_with_len 0 (actors script))

-- the list from place i on, and then its beginning
abbrev pub rotated : ℕ → List ℕ → List ℕ
rotated i actors = drop i actors ++ take i actors

-- the first in cyclic order, from a drawn place on, of the processors that have one left and can step
abbrev pub picked : Script → List Entry → ℕ → Option ℕ
picked script history x = find (can_step script history) (rotated (drawn x (length (left_of script history))) (left_of script history))

-- each of the entries is of the processor that is drawn after the history and the entries before it, with one draw an entry
abbrev pub IsDrawn : Script → ℕ → List Entry → List Entry → Type 0
IsDrawn script x history [] = Unit {0}
IsDrawn script x history (e ∷ es) = (picked script history x ≡ Some e.processor) × IsDrawn script (next_state x) (history ++ e ∷ []) es

-- the whole history is drawn from this seed
abbrev pub IsSeeded : Script → ℕ → List Entry → Type 0
IsSeeded script seed history = IsDrawn script seed [] history

-- each of the entries is of the lowest processor that can step
abbrev pub AreLowest : Script → List Entry → List Entry → Type 0
AreLowest script history [] = Unit {0}
AreLowest script history (e ∷ es) =
    (find (can_step script history) (range_with_len 0 (actors script)) ≡ Some e.processor) × AreLowest script (history ++ e ∷ []) es

-- The numbers of a schedule are taken in order: one gives the next entry where that processor can step, and none otherwise; and each
-- entry after them is of the lowest processor that can step.
abbrev pub Follows : Script → List ℕ → List Entry → List Entry → Type 0
Follows script [] history entries = AreLowest script history entries
Follows script (n ∷ ns) history entries =
    (can_step script history n ≡ true → (e : Entry) × (es : List Entry) × (entries ≡ e ∷ es) × (e.processor ≡ n)
    × Follows script ns (history ++ e ∷ []) es)
    × (can_step script history n ≡ false → Follows script ns history entries)

abbrev pub IsScheduled : Script → List ℕ → List Entry → Type 0
IsScheduled script schedule history = Follows script schedule [] history
