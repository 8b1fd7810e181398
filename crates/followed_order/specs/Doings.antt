-- The places of the code as those of the definitions.
use Rattle.std.specs.Prelude.{◌<◌, ◌≤◌}
use Rattle.pager_model.specs.Order as order
use Rattle.followed_order.specs.declared.doing.Access.{Access}
use Rattle.followed_order.specs.declared.doing.Purpose.{Purpose}
use Rattle.followed_order.specs.declared.doing.Purpose.TheVariants.{ForAccess, ForTurn}
use Rattle.followed_order.specs.declared.doing.Doing.{Doing}
use Rattle.followed_order.specs.declared.doing.Doing.TheVariants.{Idle, Looking, Cleared, Pinned, Blocked, Uncopied, Filling, Unfilling, Claiming, Emptied, Unwritten, Holding, Late, Faulted, Lacking, Refusing}

abbrev pub access_of : Access → order.Access
access_of a = record { space = a.space; page = a.page; writing = a.writing }

abbrev pub purpose_of : Purpose → order.Purpose
purpose_of (ForAccess a) = order.Purpose.ForAccess (access_of a)
purpose_of (ForTurn mark evictions) = order.Purpose.ForTurn mark evictions

abbrev pub doing_of : Doing → order.Doing
doing_of Idle = order.Doing.Idle
doing_of (Looking mark evictions) = order.Doing.Looking mark evictions
doing_of (Cleared space first len) = order.Doing.Cleared space first len
doing_of (Pinned space first len wired) = order.Doing.Pinned space first len wired
doing_of (Blocked space first len page) = order.Doing.Blocked space first len page
doing_of (Uncopied space page count) = order.Doing.Uncopied space page count
doing_of (Filling a frame) = order.Doing.Filling (access_of a) frame
doing_of (Unfilling a frame count) = order.Doing.Unfilling (access_of a) frame count
doing_of (Claiming purpose victim) = order.Doing.Claiming (purpose_of purpose) victim
doing_of (Emptied purpose victim) = order.Doing.Emptied (purpose_of purpose) victim
doing_of (Unwritten purpose victim count) = order.Doing.Unwritten (purpose_of purpose) victim count
doing_of (Holding purpose victim) = order.Doing.Holding (purpose_of purpose) victim
doing_of (Late a) = order.Doing.Late (access_of a)
doing_of (Faulted a space count) = order.Doing.Faulted (access_of a) space count
doing_of (Lacking a space) = order.Doing.Lacking (access_of a) space
doing_of (Refusing wired claimed held) = order.Doing.Refusing wired claimed held

-- a turn's evictions are fewer than its mark while one is in progress
abbrev pub IsBegun : Purpose → Type 0
IsBegun (ForAccess a) = Unit {0}
IsBegun (ForTurn mark evictions) = evictions < mark

-- a turn makes no more evictions than its mark
abbrev pub IsFew : Doing → Type 0
IsFew (Looking mark evictions) = evictions ≤ mark
IsFew (Claiming purpose victim) = IsBegun purpose
IsFew (Emptied purpose victim) = IsBegun purpose
IsFew (Unwritten purpose victim count) = IsBegun purpose
IsFew (Holding purpose victim) = IsBegun purpose
IsFew doing = Unit {0}
