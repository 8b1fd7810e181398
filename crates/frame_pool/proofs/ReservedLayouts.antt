-- Layouts of the same reservations with fewer free frames, or none.
use Rattle.std.proofs.Common.{◌≡◌, ℕ, ◌+◌, ◌^◌, ◌≤◌, Bool, true, false, cond, List, length, get_or, set, replicate, Some, None, inl, refl, sym, ap, ◌∙◌, arith}
use Rattle.std.proofs.lemmas.Bool.{cond_both, false≢true}
use Rattle.std.proofs.lemmas.List.{length-replicate, length-set}
use Rattle.pager_model.specs.declared.reservation.Reservation.{Reservation}
use Rattle.pager_model.specs.Agreement.{has_frame}
use Rattle.pager_model.specs.FreeBlocks.{with_range}
use Rattle.pager_model.specs.Layouts.{Layout, record_at, is_free, is_last, take_out, vacate_layout}
use Rattle.pager_model.specs.Records.{Records, is_used, none_used}
use Rattle.pager_model.proofs.Lists.{get_or-alike, get_or-set_default}
use Rattle.pager_laws.specs.Laid.{IsLaid}
use Rattle.pager_laws.proofs.LayoutRelease.{Gives-vacate, with_range_free}
use Rattle.frame_pool.specs.Placed.{with_reservation}
use Rattle.frame_pool.specs.ReservedChanges.{with_free, without_place}

-- a sound layout stays sound as fewer frames are free
pub IsLaid-fewer : (l : Layout) (free : List Bool) → IsLaid l → length free ≡ length l.free
    → ((f : ℕ) → get_or free f false ≡ true → is_free l f ≡ true) → IsLaid (with_free free l)
IsLaid-fewer l free laid long fewer = record {
  records_long = laid.records_long ∙ sym long;
  used_long = laid.used_long ∙ sym long;
  placed = laid.placed;
  apart = laid.apart;
  not_free = λ f id now has. laid.not_free f id (fewer f now) has;
  places = laid.places;
  some_used = laid.some_used;
  one_cover = laid.one_cover;
}

-- or none is
pub IsLaid-none_free : (l : Layout) (frames : ℕ) → IsLaid l → length l.free ≡ frames → IsLaid (with_free (replicate frames false) l)
IsLaid-none_free l frames laid long =
    IsLaid-fewer l (replicate frames false) laid (length-replicate frames false ∙ sym long)
    (λ f free. absurd (false≢true (sym (get_or-alike frames f false) ∙ free)))

-- also with one reservation more, where it is sound with some frames free
pub IsLaid-with : (l : Layout) (r : Reservation) (page frames : ℕ) → IsLaid l → length l.free ≡ frames → (free : List Bool)
    → IsLaid (with_free free (with_reservation r page l)) → IsLaid (with_free (replicate frames false) (with_reservation r page l))
IsLaid-with l r page frames laid known free after =
    IsLaid-none_free (with_free free (with_reservation r page l)) frames after
    (sym after.records_long ∙ length-set l.records r.frame (Some r) ∙ laid.records_long ∙ known)

-- A used place goes.

-- the layout stays sound
pub IsLaid-without_place : (l : Layout) (frame : ℕ) (r : Reservation) → IsLaid l → record_at l r.frame ≡ Some r
    → has_frame frame (Some r) ≡ true → is_used l.used frame ≡ true → IsLaid (without_place frame r l)
IsLaid-without_place l frame r laid is has used =
    let gives = Gives-vacate l r.frame frame r laid is has used in
    let fits : r.frame + 8 ^ r.size ≤ length l.free = omega (arith, (laid.placed r.frame r is).within, laid.records_long) in
    IsLaid-fewer (vacate_layout frame r l) l.free gives.laid (sym gives.long) (λ f free.
    cond_both (is_last frame r l) (with_range l.free r.frame (8 ^ r.size) true) l.free (λ fs. get_or fs f false ≡ true)
    (λ _. (with_range_free l.free r.frame (8 ^ r.size) fits f).1 (inl free)) (λ _. free))

-- a reservation whose last used place this was goes, and another one stays
pub vacated : (l : Layout) (frame : ℕ) (r : Reservation) (last : Bool) (st : Records) → is_last frame r l ≡ last
    → st ≡ record { records = cond last (set l.records r.frame None) l.records; used = set l.used frame false }
    → record { sizes = l.sizes; free = l.free; records = st.records; used = st.used } ≡ without_place frame r l
vacated l frame r last st is kept =
    let with_records : Records → Layout = λ k. record { sizes = l.sizes; free = l.free; records = k.records; used = k.used } in
    let by_last : Bool → Layout =
    λ b. record {
      sizes = l.sizes;
      free = l.free;
      records = cond b (set l.records r.frame None) l.records;
      used = set l.used frame false;
    } in
    ap with_records kept ∙ sym (ap by_last is)

-- a reservation of one frame goes with it
pub without_only : (l : Layout) (frame : ℕ) (r : Reservation) → r.frame ≡ frame → r.size ≡ 0 → without_place frame r l ≡ take_out frame l
without_only l frame r named one =
    let left : Bool → ℕ → Layout =
    λ b f. record {
      sizes = l.sizes;
      free = l.free;
      records = cond b (set l.records f None) l.records;
      used = set l.used frame false;
    } in
    let used = is_used (set l.used frame false) in
    let alone : none_used used frame 1 ≡ true = rw (get_or-set_default l.used frame frame false refl) refl in
    let last : is_last frame r l ≡ true = ap (λ k. none_used used r.frame (8 ^ k)) one ∙ ap (λ f. none_used used f 1) named ∙ alone in
    ap (λ b. left b r.frame) last ∙ ap (left true) named

-- Where the frames of a reservation without a used place become free, the place was given up.
pub given : (l : Layout) (frame : ℕ) (r : Reservation) (free : List Bool) (last : Bool) → is_last frame r l ≡ last
    → free ≡ cond last (with_range l.free r.frame (8 ^ r.size) true) l.free
    → with_free free (without_place frame r l) ≡ vacate_layout frame r l
given l frame r free last is freed =
    let by_free : List Bool → Layout = λ fs. with_free fs (without_place frame r l) in
    ap by_free freed ∙ sym (ap (λ b. by_free (cond b (with_range l.free r.frame (8 ^ r.size) true) l.free)) is)
