-- The lists of reservations as they are kept in memory that is taken once.
use Rattle.std.specs.Prelude.{ℕ, true, false, ◌≡◌, ◌≢◌, ◌<◌, ◌≤◌, Bool, ◌&&◌, ◌||◌, ◌==◌, not, filter, length, List, [], All, AllPairs, Option, Some, None, IfSome, slice_index_or}
use Rattle.std.specs.List.{list_any}
use Rattle.pager_model.specs.Ages.{Member, Lists, is_before, list_at, with_list, with_member}
use Rattle.reservation_lists.specs.declared.listed.Listed.{Listed}
use Rattle.reservation_lists.specs.declared.Lists.TheInside.{Inside}

-- the lists, and the number of frames: each list has room for a member of each frame
pub record KeptLists : Type 0 where
  pub lists : Lists
  pub frames : ℕ

-- the lists as the fields have them
abbrev pub lists_in : Inside → Lists
lists_in l = record { base = l.base.items; small = l.small.items; middle = l.middle.items }

abbrev pub no_members : Lists
no_members = record { base = []; small = []; middle = [] }

abbrev pub same_member : Member → Member → Bool
same_member a b = (a.stamp == b.stamp) && (a.frame == b.frame)

-- a list without a member
abbrev pub without_member : Member → List Member → List Member
without_member gone ms = filter (λ m. not (same_member gone m)) ms

abbrev pub has_member_of : ℕ → List Member → Bool
has_member_of frame ms = list_any (λ m. m.frame == frame) ms

-- some member of some list has the frame
abbrev pub is_listed : ℕ → Lists → Bool
is_listed frame lists = has_member_of frame lists.base || (has_member_of frame lists.small || has_member_of frame lists.middle)

-- a list, and the lists, without the member of a frame
abbrev pub without_member_of : ℕ → List Member → List Member
without_member_of frame ms = filter (λ m. not (m.frame == frame)) ms

abbrev pub without_frame : ℕ → Lists → Lists
without_frame frame lists = record {
  base = without_member_of frame lists.base;
  small = without_member_of frame lists.small;
  middle = without_member_of frame lists.middle;
}

-- the lists where the member of a frame went out of its list, if it was in one, and in again into the list of the size
abbrev pub moved_to : ℕ → Member → KeptLists → KeptLists
moved_to size new kept =
    let rest = without_frame new.frame kept.lists in
    record kept { lists = with_list rest size (with_member new (list_at rest size)) }

-- each member of a list comes before all that stand after it
abbrev pub IsInOrder : List Member → Type 0
IsInOrder ms = AllPairs (λ a b. is_before a b ≡ true) ms

-- the frames of a list differ
abbrev pub Differ : List Member → Type 0
Differ ms = AllPairs (λ a b. a.frame ≢ b.frame) ms

-- the members of a list are in order, have frames that differ and are known, and there is memory for one of each frame
pub record HasRoom (frames capacity : ℕ) (ms : List Member) : Type 0 where
  pub ordered : IsInOrder ms
  pub room : frames ≤ capacity
  pub known : All (λ m. m.frame < frames) ms
  pub differ : Differ ms

-- what is kept for a frame tells that the list of the size has a member of it by the stamp
abbrev pub tells : ℕ → ℕ → Option Listed → Bool
tells size stamp None = false
tells size stamp (Some l) = (l.size == size) && (l.stamp == stamp)

-- the list of the size has exactly the members that what is kept for each frame tells
abbrev pub IsTold : List (Option Listed) → ℕ → List Member → Type 0
IsTold listed size ms = (m : Member) → list_any (same_member m) ms ≡ tells size m.stamp (slice_index_or listed m.frame None)

-- something is kept for each frame, which tells what members the three lists have, and tells of no other list
pub record AreTold (frames : ℕ) (listed : List (Option Listed)) (lists : Lists) : Type 0 where
  pub long : length listed ≡ frames
  pub known : (frame : ℕ) → IfSome (slice_index_or listed frame None) (λ l. l.size < 3)
  pub base : IsTold listed 0 lists.base
  pub small : IsTold listed 1 lists.small
  pub middle : IsTold listed 2 lists.middle
