-- What breaking a reservation does to a layout.
use Rattle.std.specs.Prelude.{ℕ, ◌≡◌, ◌≤◌, ◌<◌, ◌+◌, ◌-◌, ◌^◌, ◌⊎◌, true, Some}
use Rattle.pager_model.specs.declared.reservation.Reservation.{Reservation}
use Rattle.pager_model.specs.Agreement.{has_frame}
use Rattle.pager_model.specs.Extents.{IsExtent}
use Rattle.pager_model.specs.FreeBlocks.{run_free}
use Rattle.pager_model.specs.Layouts.{Layout, record_at, is_free}
use Rattle.pager_model.specs.Records.{is_used, none_used}
use Rattle.pager_laws.specs.Laid.{IsLaid}

-- the extent of size k from first on lies inside the reservation and has no used place, and its frames are free
pub record IsFreed (r : Reservation) (k : ℕ) (before after : Layout) (first : ℕ) : Type 0 where
  pub extent : IsExtent k first
  pub begins : r.frame ≤ first
  pub ends : first + 8 ^ k ≤ r.frame + 8 ^ r.size
  pub unused : none_used (is_used before.used) first (8 ^ k) ≡ true
  pub free : run_free after.free first (8 ^ k) ≡ true

-- a reservation that has the frame joins it to the same page of the same space as the whole does, and has its stamp
pub record KeepsPlace (r q : Reservation) (frame : ℕ) : Type 0 where
  pub has : has_frame frame (Some q) ≡ true
  pub space : q.space ≡ r.space
  pub page : q.first + (frame - q.frame) ≡ r.first + (frame - r.frame)
  pub stamp : q.stamp ≡ r.stamp

-- An extent of size k is freed, and each used place of the reservation stays one of a reservation; no other used place changes, and
-- beside the reservation none changes and no frame becomes free or taken. The layout stays sound, so that no free frame is in a
-- reservation.
pub record Breaks (r : Reservation) (k : ℕ) (before after : Layout) : Type 0 where
  pub laid : IsLaid after
  pub freed : (first : ℕ) × IsFreed r k before after first
  pub kept : (frame : ℕ) → has_frame frame (Some r) ≡ true → is_used before.used frame ≡ true
      → (q : Reservation) × (record_at after q.frame ≡ Some q) × KeepsPlace r q frame
  pub used : after.used ≡ before.used
  pub others : (id : ℕ) → (id < r.frame) ⊎ (r.frame + 8 ^ r.size ≤ id) → record_at after id ≡ record_at before id
  pub others_free : (frame : ℕ) → (frame < r.frame) ⊎ (r.frame + 8 ^ r.size ≤ frame) → is_free after frame ≡ is_free before frame
