-- Pages of a reservation that have no used place, from one of them on.
use Rattle.std.proofs.Common.{◌≡◌, ℕ, ◌+◌, ◌^◌, ◌<◌, ◌≤◌, true, false, Some, None, is_some, ap, ◌∙◌, arith}
use Rattle.pager_model.specs.declared.reservation.Reservation.{Reservation}
use Rattle.pager_model.specs.Layouts.{Layout, covering, frame_for, frame_in, used_in}
use Rattle.pager_model.specs.Records.{is_used}
use Rattle.pager_laws.specs.Laid.{IsLaid}
use Rattle.pager_laws.proofs.PagePlaces.{CoversPageOf-covers, covers-CoversPageOf, covering-found, frame_in-is, used_in-used, used_in-unused}

pub placeless_in : (l : Layout) (s p n : ℕ) (r : Reservation) → IsLaid l → covering s p l.records ≡ Some r
    → ((f : ℕ) → frame_for p r ≤ f → f < frame_for p r + n → is_used l.used f ≡ false) → p + n ≤ r.first + 8 ^ r.size
    → (other : ℕ) → p ≤ other → other < p + n → frame_in l s other ≡ None
placeless_in l s p n r laid found unused within other low high =
    let w = covering-found s p l.records r found in
    let at = CoversPageOf-covers s p r w.3 in
    let has = covers-CoversPageOf s other r (record { space_is = at.space_is; low = omega (arith, at.low); high = omega arith }) in
    frame_in-is l s other w.0 r laid w.2 has
    ∙ used_in-unused l other r (unused (frame_for other r) (omega (arith, at.low)) (omega (arith, at.low)))

-- a used one is its page's place
pub placed_in : (l : Layout) (s p : ℕ) (r : Reservation) → covering s p l.records ≡ Some r → is_used l.used (frame_for p r) ≡ true
    → is_some (frame_in l s p) ≡ true
placed_in l s p r found used = ap is_some (ap (used_in l.used p) found ∙ used_in-used l p r used)
