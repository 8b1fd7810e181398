-- What a splitting tells of its parts.
use Rattle.std.specs.Prelude.{ℕ, ◌-◌, Bool, List, map}
use Rattle.std.specs.List.{range_with_len}
use Rattle.pager_model.specs.Records.{part_of, is_part_empty}
use Rattle.pager_model.specs.declared.reservation.Reservation.{Reservation}
use Rattle.reservations.specs.declared.part.Part.{Part}

-- the frames of the i-th part, and whether none of them is a used place
abbrev pub told_part : (ℕ → Bool) → Reservation → ℕ → Part
told_part used r i = record { extent = record { size = r.size - 1; first = (part_of r i).frame }; empty = is_part_empty used r i }

abbrev pub told_parts : (ℕ → Bool) → Reservation → List Part
told_parts used r = map (told_part used r) (range_with_len 0 8)
