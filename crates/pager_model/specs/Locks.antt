-- The one table of locks: for each place of the order, the space whose lock the next step from there is made under, and the space whose
-- lock is kept until that step. Where the first is none the step is made under the frames' lock alone; where the second is, no space's lock is
-- kept. The first argument is the space of the processor's call; a turn of a daemon has none of its own.
use Rattle.std.specs.Prelude.{ℕ, ◌==◌, if◌then◌else◌, Option, Some, None}
use Rattle.pager_model.specs.Order.{Doing, Idle, Looking, Cleared, Pinned, Blocked, Uncopied, Filling, Unfilling, Claiming, Emptied, Unwritten, Holding, Late, Faulted, Lacking, Refusing}

-- the space, where it is the call's own: in another one, and in a turn, no lock is kept between this step and the next
abbrev pub own_if : Option ℕ → ℕ → Option ℕ
own_if None space = None
own_if (Some own) space = if space == own then Some own else None

-- the victim's space while its page is paged out, and else the call's own
abbrev pub under_in : Option ℕ → Doing → Option ℕ
under_in own (Claiming purpose victim) = Some victim.space
under_in own (Emptied purpose victim) = Some victim.space
under_in own (Unwritten purpose victim count) = Some victim.space
under_in own doing = own

abbrev pub keeps_in : Option ℕ → Doing → Option ℕ
keeps_in own Idle = None
keeps_in own (Looking mark evictions) = None
keeps_in own (Cleared space first len) = own
keeps_in own (Pinned space first len wired) = own
keeps_in own (Blocked space first len page) = own
keeps_in own (Uncopied space page count) = own_if own space
keeps_in own (Filling a frame) = own
keeps_in own (Unfilling a frame count) = own
keeps_in own (Claiming purpose victim) = own_if own victim.space
keeps_in own (Emptied purpose victim) = Some victim.space
keeps_in own (Unwritten purpose victim count) = Some victim.space
keeps_in own (Holding purpose victim) = own_if own victim.space
keeps_in own (Late a) = own
keeps_in own (Faulted a space count) = own_if own space
keeps_in own (Lacking a space) = own_if own space
keeps_in own (Refusing wired claimed held) = own
