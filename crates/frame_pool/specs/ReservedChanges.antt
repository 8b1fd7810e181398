-- Layouts of the same reservations with other free frames, and what is left of reservations as used places go.
use Rattle.std.specs.Prelude.{ℕ, ◌≡◌, Bool, true, false, if◌then◌else◌, List, replicate, slice_set, Option, Some, None, MatchOption}
use Rattle.pager_model.specs.declared.extent.Extent.{Extent}
use Rattle.pager_model.specs.declared.reservation.Reservation.{Reservation}
use Rattle.pager_model.specs.Agreement.{has_frame}
use Rattle.pager_model.specs.Layouts.{Layout, record_at, is_last}
use Rattle.pager_model.specs.SizeSets.{SizeSet}

-- the layout with these free frames
abbrev pub with_free : List Bool → Layout → Layout
with_free free l = record l { free = free }

-- over so many frames, by these sizes, no frame is free and there is no reservation
abbrev pub none_reserved : SizeSet → ℕ → Layout
none_reserved z frames = record { sizes = z; free = replicate frames false; records = replicate frames None; used = replicate frames false }

-- a used place of a reservation is used no more, and a reservation without a used place is none any more
abbrev pub without_place : ℕ → Reservation → Layout → Layout
without_place frame r l =
    record l { records = if is_last frame r l then slice_set l.records r.frame None else l.records; used = slice_set l.used frame false }

-- The used frame is a used place no more. Where its reservation had no other used place, it went, and its frames are told.
pub record Vacates (old new : Layout) (frame : ℕ) (told : Option Extent) : Type 0 where
  pub whole : Reservation
  pub stood : record_at old whole.frame ≡ Some whole
  pub had : has_frame frame (Some whole) ≡ true
  pub left : new ≡ without_place frame whole old
  pub frames : MatchOption told (is_last frame whole old ≡ false) (λ e. (is_last frame whole old ≡ true)
      × (e ≡ record { size = whole.size; first = whole.frame }))
