-- The layout of the frames: which are free, which reservations there are, and which of their places are used. What a page's
-- taking, a page's giving up and a processor's claim do to it.
use Rattle.std.specs.Prelude.{ℕ, ◌+◌, ◌-◌, ◌/◌, ◌^◌, zero, suc, Bool, true, false, ◌&&◌, ◌==◌, not, nat_le, nat_lt, if◌then◌else◌, List, [], ◌∷◌, replicate, slice_index_or, slice_set, fold, option_map, Option, Some, None, is_none}
use Rattle.std.specs.List.{range_with_len, list_any, list_all}
use Rattle.std.specs.Option.{option_or, option_and_then, option_map_or}
use Rattle.pager_model.specs.declared.entry.Want.{Want}
use Rattle.pager_model.specs.declared.reservation.Reservation.{Reservation}
use Rattle.pager_model.specs.Ages.{Member, first_oldest, with_member, oldest_in}
use Rattle.pager_model.specs.Extents.{extent_start}
use Rattle.pager_model.specs.FreeBlocks.{choice, with_range}
use Rattle.pager_model.specs.PreferredSize.{preferred_among}
use Rattle.pager_model.specs.Records.{is_used, none_used, yield_in, same_size, part_size, part_count, part_at, is_empty_at, parted_records, goes_on_at}
use Rattle.pager_model.specs.SizeSets.{SizeSet, has_size}

pub record Layout : Type 0 where
  -- which page sizes there are
  pub sizes : SizeSet
  -- for each frame whether it is free
  pub free : List Bool
  -- for each frame the reservation that begins at it, where one does
  pub records : List (Option Reservation)
  -- for each frame whether it is a used place
  pub used : List Bool

-- at first all frames are free
abbrev pub start_layout : SizeSet → ℕ → Layout
start_layout z frames = record { sizes = z; free = replicate frames true; records = replicate frames None; used = replicate frames false }

-- the reservation that begins at the frame, where one does
abbrev pub record_at : Layout → ℕ → Option Reservation
record_at l frame = slice_index_or l.records frame None

abbrev pub is_free : Layout → ℕ → Bool
is_free l frame = slice_index_or l.free frame false

-- Pages and their places.

-- the reservation has the page of the space
abbrev pub covers : ℕ → ℕ → Reservation → Bool
covers space page r = (r.space == space) && (nat_le r.first page && nat_lt page (r.first + 8 ^ r.size))

-- the reservation that has the page, where one has it
abbrev pub covering : ℕ → ℕ → List (Option Reservation) → Option Reservation
covering space page [] = None
covering space page (None ∷ rs) = covering space page rs
covering space page (Some r ∷ rs) = if covers space page r then Some r else covering space page rs

-- the frame that a reservation joins to a page of it
abbrev pub frame_for : ℕ → Reservation → ℕ
frame_for page r = r.frame + (page - r.first)

abbrev pub used_in : List Bool → ℕ → Option Reservation → Option ℕ
used_in used page None = None
used_in used page (Some r) = if is_used used (frame_for page r) then Some (frame_for page r) else None

-- the frame that is the used place of the page, where there is one
abbrev pub frame_in : Layout → ℕ → ℕ → Option ℕ
frame_in l space page = used_in l.used page (covering space page l.records)

-- Splitting, breaking and carving.

-- the frames of the i-th part of size k are free from then on, where it has no used place
abbrev pub freed_part : ℕ → (ℕ → Bool) → Reservation → List Bool → ℕ → List Bool
freed_part k used r free i = if is_empty_at k used r i then with_range free (part_at k r i).frame (8 ^ k) true else free

abbrev pub parted_free : ℕ → (ℕ → Bool) → Reservation → List Bool → List Bool
parted_free k used r free = fold (freed_part k used r) free (range_with_len 0 (part_count k r))

-- a reservation is split into its extents of size k: those with a used place are reservations, and the frames of the others are free
abbrev pub parted : ℕ → Reservation → Layout → Layout
parted k r l =
    record l { free = parted_free k (is_used l.used) r l.free; records = parted_records k (is_used l.used) r l.records }

-- a reservation is split into its extents of the next smaller size
abbrev pub split_layout : Reservation → Layout → Layout
split_layout r l = parted (part_size l.sizes r) r l

-- A reservation is split, over at most so many levels: and where a rule names one of its parts, that part is split in the same way.
abbrev pub split_on : (Reservation → Option Reservation) → ℕ → Reservation → Layout → Layout
split_on next zero r l = l
split_on next (suc levels) r l = option_map_or (λ part. split_on next levels part (split_layout r l)) (next r) (split_layout r l)

-- a reservation is broken: it is split, and while no part was empty, so is the lowest part with its yield
abbrev pub break_layout : Reservation → Layout → Layout
break_layout r l = split_on (goes_on_at l.sizes (is_used l.used)) r.size r l

-- the part of size k of a reservation that has the frame
abbrev pub part_with : ℕ → ℕ → Reservation → Reservation
part_with k frame r = part_at k r ((frame - r.frame) / 8 ^ k)

-- the part of a reservation that has the frame, where it is more than this frame
abbrev pub narrows_to : SizeSet → ℕ → Reservation → Option Reservation
narrows_to z frame r = if nat_lt 0 (part_size z r) then Some (part_with (part_size z r) frame r) else None

-- a reservation is split, and the part that has the frame again, down to the frame
abbrev pub narrow_layout : ℕ → Reservation → Layout → Layout
narrow_layout frame r l = split_on (narrows_to l.sizes frame) r.size r l

-- a reservation of one frame is none any more, and its frame is neither free nor a place
abbrev pub take_out : ℕ → Layout → Layout
take_out frame l = record l { records = slice_set l.records frame None; used = slice_set l.used frame false }

-- a used frame is carved out of its reservation
abbrev pub carve_layout : ℕ → Reservation → Layout → Layout
carve_layout frame r l = take_out frame (narrow_layout frame r l)

-- The lists of reservations by age.

abbrev pub with_listed : SizeSet → List Bool → ℕ → Option Reservation → List Member → List Member
with_listed z used k None ms = ms
with_listed z used k (Some r) ms =
    if same_size (yield_in z (is_used used) r) (Some k) then with_member (record { stamp = r.stamp; frame = r.frame }) ms else ms

-- list k: the reservations of yield k in order of stamp and then of first frame
abbrev pub list_of : SizeSet → List Bool → ℕ → List (Option Reservation) → List Member
list_of z used k [] = []
list_of z used k (r ∷ rs) = with_listed z used k r (list_of z used k rs)

abbrev pub lists_of : Layout → ℕ → List Member
lists_of l k = list_of l.sizes l.used k l.records

-- the first frame of the oldest reservation of list k
abbrev pub oldest_of : Layout → ℕ → Option ℕ
oldest_of l k = oldest_in (lists_of l k)

-- that of the first list that isn't empty, of the count lists from k on
abbrev pub oldest_from : Layout → ℕ → ℕ → Option ℕ
oldest_from l k count = first_oldest (lists_of l) k count

-- The reservation that is broken for an extent of size k: the oldest of the first of the lists k to 2 that isn't empty. A list of a
-- size that there isn't is empty, and so is that of the largest size, since a reservation has a used place.
abbrev pub to_break : Layout → ℕ → Option ℕ
to_break l k = oldest_from l k (3 - k)

-- the reservation that begins at the frame is broken
abbrev pub broken_at : ℕ → Layout → Layout
broken_at id l = option_map_or (λ r. break_layout r l) (record_at l id) l

-- Taking.

-- An extent of free frames for a new reservation: the layout that it is chosen in, its size and first frame, and how many
-- reservations were broken for it.
pub record FreeExtent : Type 0 where
  pub layout : Layout
  pub size : ℕ
  pub first : ℕ
  pub broken : ℕ

abbrev pub chosen : ℕ → ℕ → Layout → Option FreeExtent
chosen size broken l = option_map (λ first. record { layout = l; size = size; first = first; broken = broken }) (choice l.free size)

-- the choice for the size, and where there is none, the choice after a reservation was broken for it, where one can be
abbrev pub extent_of : ℕ → Layout → Option FreeExtent
extent_of size l = option_or (chosen size 0 l) (option_and_then (λ id. chosen size 1 (broken_at id l)) (to_break l size))

-- the extent of the largest size, up to this one, for which one can be had
abbrev pub largest_extent : ℕ → Layout → Option FreeExtent
largest_extent zero l = extent_of 0 l
largest_extent (suc size) l =
    if has_size l.sizes (suc size) then option_or (extent_of (suc size) l) (largest_extent size l) else largest_extent size l

abbrev pub meets : ℕ → ℕ → ℕ → Option Reservation → Bool
meets space k first None = false
meets space k first (Some r) = (r.space == space) && (nat_lt r.first (first + 8 ^ k) && nat_lt first (r.first + 8 ^ r.size))

-- the extent of pages of size k from first on meets a reservation of the space
abbrev pub meets_any : ℕ → List (Option Reservation) → ℕ → ℕ → Bool
meets_any space records k first = list_any (meets space k first) records

-- the size that is tried first for a page
abbrev pub preferred_in : Layout → ℕ → ℕ → Want → ℕ
preferred_in l space page want = preferred_among l.sizes (meets_any space l.records) page want

-- A page's place: the layout in which it is used, its frame, and how many reservations were broken for it.
pub record Placing : Type 0 where
  pub layout : Layout
  pub frame : ℕ
  pub broken : ℕ

abbrev pub stamped : Reservation → ℕ → Reservation
stamped r stamp = record r { stamp = stamp }

-- the page's place in a reservation is used from then on, and the reservation is as young as the stamp
abbrev pub populated : ℕ → ℕ → Layout → Reservation → Placing
populated stamp page l r =
    record {
      layout = record l { records = slice_set l.records r.frame (Some (stamped r stamp)); used = slice_set l.used (frame_for page r) true };
      frame = frame_for page r;
      broken = 0;
    }

-- the reservation that an extent of frames makes with the extent of pages of its size round the page
abbrev pub new_reservation : ℕ → ℕ → ℕ → FreeExtent → Reservation
new_reservation stamp space page found =
    record { space = space; first = extent_start found.size page; size = found.size; frame = found.first; stamp = stamp }

-- an extent that was found becomes a reservation whose one used place is the page's
abbrev pub reserved : ℕ → ℕ → ℕ → FreeExtent → Placing
reserved stamp space page found =
    let r = new_reservation stamp space page found in
    record {
      layout = record found.layout {
        free = with_range found.layout.free found.first (8 ^ found.size) false;
        records = slice_set found.layout.records found.first (Some r);
        used = slice_set found.layout.used (frame_for page r) true;
      };
      frame = frame_for page r;
      broken = found.broken;
    }

abbrev pub placing_in : ℕ → ℕ → ℕ → Want → Layout → Option Reservation → Option Placing
placing_in stamp space page want l (Some r) = Some (populated stamp page l r)
placing_in stamp space page want l None =
    option_map (reserved stamp space page) (largest_extent (preferred_in l space page want) l)

-- A place for a page without one: in the reservation that has the page, or else in a new one, of the largest size up to the
-- preferred one for which an extent can be had. There is none exactly where the layout is full.
abbrev pub placing : ℕ → ℕ → ℕ → Want → Layout → Option Placing
placing stamp space page want l = placing_in stamp space page want l (covering space page l.records)

abbrev pub is_full_record : SizeSet → List Bool → Option Reservation → Bool
is_full_record z used None = true
is_full_record z used (Some r) = is_none (yield_in z (is_used used) r)

-- no frame is free, and every reservation is full
abbrev pub is_full : Layout → Bool
is_full l = list_all not l.free && list_all (is_full_record l.sizes l.used) l.records

-- Giving up.

-- the reservation would be left without a used place
abbrev pub is_last : ℕ → Reservation → Layout → Bool
is_last frame r l = none_used (is_used (slice_set l.used frame false)) r.frame (8 ^ r.size)

-- a used place of a reservation is used no more, and a reservation without a used place becomes free
abbrev pub vacate_layout : ℕ → Reservation → Layout → Layout
vacate_layout frame r l =
    record l {
      free = if is_last frame r l then with_range l.free r.frame (8 ^ r.size) true else l.free;
      records = if is_last frame r l then slice_set l.records r.frame None else l.records;
      used = slice_set l.used frame false;
    }

-- a frame that was out of the layout is free
abbrev pub put_back : ℕ → Layout → Layout
put_back frame l = record l { free = with_range l.free frame 1 true }
