-- Reservations, their used places and their yields.
use Rattle.std.specs.Prelude.{ℕ, ◌+◌, ◌-◌, ◌*◌, ◌^◌, zero, suc, Bool, true, false, ◌&&◌, not, nat_lt, if◌then◌else◌, List, slice_index_or, slice_set, fold, ◌==◌, find, option_map, Option, Some, None}
use Rattle.std.specs.List.{range_with_len, list_any, list_all}
use Rattle.pager_model.specs.declared.reservation.Reservation.{Reservation}
use Rattle.pager_model.specs.SizeSets.{SizeSet, has_size, size_within}

-- Reservations as they are kept: for each frame the reservation that begins at it, where one does, and whether it is a used
-- place.
pub record Records : Type 0 where
  pub records : List (Option Reservation)
  pub used : List Bool

-- the frame is a used place
abbrev pub is_used : List Bool → ℕ → Bool
is_used used frame = slice_index_or used frame false

-- none of the count frames from first on is a used place
abbrev pub none_used : (ℕ → Bool) → ℕ → ℕ → Bool
none_used used first count = list_all (λ frame. not (used frame)) (range_with_len first count)

-- some extent of size k inside the reservation has no used place
abbrev pub has_empty : (ℕ → Bool) → Reservation → ℕ → Bool
has_empty used r k = list_any (λ i. none_used used (r.frame + i * 8 ^ k) (8 ^ k)) (range_with_len 0 (8 ^ (r.size - k)))

abbrev pub yield_up_to : (ℕ → Bool) → Reservation → ℕ → Option ℕ
yield_up_to used r zero = if has_empty used r 0 then Some 0 else None
yield_up_to used r (suc k) = if has_empty used r (suc k) then Some (suc k) else yield_up_to used r k

-- the yield of a reservation by all four sizes: the largest size of an extent inside it without a used place; a full one has none
abbrev pub yield_of : (ℕ → Bool) → Reservation → Option ℕ
yield_of used r = yield_up_to used r r.size

-- the i-th of the eight parts, by all four sizes, of a reservation of size 1 or more, which keeps the stamp
abbrev pub part_of : Reservation → ℕ → Reservation
part_of r i =
    record r { first = r.first + i * 8 ^ (r.size - 1); size = r.size - 1; frame = r.frame + i * 8 ^ (r.size - 1) }

abbrev pub is_part_empty : (ℕ → Bool) → Reservation → ℕ → Bool
is_part_empty used r i = none_used used (part_of r i).frame (8 ^ (r.size - 1))

-- one of these eight with a used place stays a reservation
abbrev pub kept_part : (ℕ → Bool) → Reservation → ℕ → Option Reservation
kept_part used r i = if is_part_empty used r i then None else Some (part_of r i)

-- by all four sizes the reservation is split into its eight parts, of which the empty ones are no reservations
abbrev pub split_records : (ℕ → Bool) → Reservation → List (Option Reservation) → List (Option Reservation)
split_records used r records = fold (λ rs i. slice_set rs (part_of r i).frame (kept_part used r i)) records (range_with_len 0 8)

abbrev pub same_size : Option ℕ → Option ℕ → Bool
same_size None None = true
same_size None (Some b) = false
same_size (Some a) None = false
same_size (Some a) (Some b) = a == b

-- By some sizes.

abbrev pub largest_empty : SizeSet → (ℕ → Bool) → Reservation → ℕ → Option ℕ
largest_empty z used r zero = if has_empty used r 0 then Some 0 else None
largest_empty z used r (suc k) = if has_size z (suc k) && has_empty used r (suc k) then Some (suc k) else largest_empty z used r k

-- the yield of a reservation by these sizes: the largest of them of which an extent inside it has no used place; a full one has none
abbrev pub yield_in : SizeSet → (ℕ → Bool) → Reservation → Option ℕ
yield_in z used r = largest_empty z used r r.size

-- the size of the parts into which, by these sizes, a reservation of size 1 or more is split: the next smaller one
abbrev pub part_size : SizeSet → Reservation → ℕ
part_size z r = size_within z (r.size - 1)

-- how many extents of size k a reservation has inside it
abbrev pub part_count : ℕ → Reservation → ℕ
part_count k r = 8 ^ (r.size - k)

-- the i-th of them, which keeps the stamp
abbrev pub part_at : ℕ → Reservation → ℕ → Reservation
part_at k r i = record r { first = r.first + i * 8 ^ k; size = k; frame = r.frame + i * 8 ^ k }

abbrev pub is_empty_at : ℕ → (ℕ → Bool) → Reservation → ℕ → Bool
is_empty_at k used r i = none_used used (part_at k r i).frame (8 ^ k)

-- one of them with a used place stays a reservation
abbrev pub kept_at : ℕ → (ℕ → Bool) → Reservation → ℕ → Option Reservation
kept_at k used r i = if is_empty_at k used r i then None else Some (part_at k r i)

-- the reservation is split into its extents of size k, of which the empty ones are no reservations
abbrev pub parted_records : ℕ → (ℕ → Bool) → Reservation → List (Option Reservation) → List (Option Reservation)
parted_records k used r records =
    fold (λ rs i. slice_set rs (part_at k r i).frame (kept_at k used r i)) records (range_with_len 0 (part_count k r))

-- the lowest part of size k with the yield of the whole, by these sizes
abbrev pub lowest_as_wide : SizeSet → ℕ → (ℕ → Bool) → Reservation → Option ℕ
lowest_as_wide z k used r =
    find (λ i. same_size (yield_in z used (part_at k r i)) (yield_in z used r)) (range_with_len 0 (part_count k r))

-- the part at which a breaking into parts of size k goes on: none where one is empty, else the lowest part with the yield of the whole
abbrev pub goes_on_in : SizeSet → ℕ → (ℕ → Bool) → Reservation → Option Reservation
goes_on_in z k used r =
    if list_any (is_empty_at k used r) (range_with_len 0 (part_count k r)) then None else option_map (part_at k r)
    (lowest_as_wide z k used r)

-- the part at which, by these sizes, a breaking goes on, where parts have more than one frame
abbrev pub goes_on_at : SizeSet → (ℕ → Bool) → Reservation → Option Reservation
goes_on_at z used r = if nat_lt 0 (part_size z r) then goes_on_in z (part_size z r) used r else None
