-- Which reservation has a page, and which frame is a page's place.
use Rattle.std.proofs.Common.{◌≡◌, ℕ, zero, suc, ◌+◌, ◌^◌, ◌<◌, ◌≤◌, true, false, cond, List, [], ◌∷◌, length, get_or, Option, Some, None, refl, sym, ap, ◌∙◌, arith}
use Rattle.std.proofs.lemmas.Bool.{and_parts, and_from, eqb-true, eq-eqb, leb-true, le-leb, ltb-true, lt-ltb, false≢true}
use Rattle.pager_model.specs.declared.reservation.Reservation.{Reservation}
use Rattle.pager_model.specs.Agreement.{has_frame}
use Rattle.pager_model.specs.Layouts.{Layout, covers, covering, frame_for, used_in, frame_in, record_at}
use Rattle.pager_model.specs.Records.{is_used}
use Rattle.pager_model.proofs.RecordFrames.{has_frame_from}
use Rattle.pager_laws.specs.Laid.{IsLaid}

-- the page of the space is one of the reservation's, as the test covers says
pub record CoversPageOf (space page : ℕ) (r : Reservation) : Type 0 where
  pub space_is : r.space ≡ space
  pub low : r.first ≤ page
  pub high : page < r.first + 8 ^ r.size

pub CoversPageOf-covers : (space page : ℕ) (r : Reservation) → covers space page r ≡ true → CoversPageOf space page r
CoversPageOf-covers space page r has =
    let parts = and_parts _ _ has in
    let bounds = and_parts _ _ parts.1 in
    record { space_is = eqb-true _ _ parts.0; low = leb-true _ _ bounds.0; high = ltb-true _ _ bounds.1 }

pub covers-CoversPageOf : (space page : ℕ) (r : Reservation) → CoversPageOf space page r → covers space page r ≡ true
covers-CoversPageOf space page r has = and_from _ _ (eq-eqb _ _ has.space_is) (and_from _ _ (le-leb _ _ has.low) (lt-ltb _ _ has.high))

-- the frame that a reservation joins to a page of it is one of its places
pub has_frame_for : (space page : ℕ) (r : Reservation) → covers space page r ≡ true → has_frame (frame_for page r) (Some r) ≡ true
has_frame_for space page r has =
    let at = CoversPageOf-covers space page r has in
    has_frame_from (frame_for page r) r (omega arith) (omega (arith, at.low, at.high))

-- what is found stands somewhere
pub covering-found : (s p : ℕ) (rs : List (Option Reservation)) (r : Reservation) → covering s p rs ≡ Some r
    → (k : ℕ) × (k < length rs) × (get_or rs k None ≡ Some r) × (covers s p r ≡ true)
covering-found s p [] r found = cc
covering-found s p (None ∷ rs) r found = let w = covering-found s p rs r found in (suc w.0, omega (arith, w.1), w.2, w.3)
covering-found s p (Some q ∷ rs) r found =
    elim (covers s p q) as (λ b. covers s p q ≡ b → cond b (Some q) (covering s p rs) ≡ Some r
    → (k : ℕ) × (k < suc (length rs)) × (get_or (Some q ∷ rs) k None ≡ Some r) × (covers s p r ≡ true)) [
      | true ↦ λ is h. (0, omega arith, h, cc)
      | false ↦ λ is h. let w = covering-found s p rs r h in (suc w.0, omega (arith, w.1), w.2, w.3)
    ] refl found

-- where none is found, none has the page
pub covering-none : (s p : ℕ) (rs : List (Option Reservation)) → covering s p rs ≡ None → (k : ℕ) (r : Reservation)
    → get_or rs k None ≡ Some r → covers s p r ≡ false
covering-none s p [] none k r is = cc
covering-none s p (None ∷ rs) none zero r is = cc
covering-none s p (None ∷ rs) none (suc k) r is = covering-none s p rs none k r is
covering-none s p (Some q ∷ rs) none zero r is =
    (let same : q ≡ r = (let e : Some q ≡ Some r = is in cc) in
    elim (covers s p q) as (λ b. covers s p q ≡ b → cond b (Some q) (covering s p rs) ≡ None → covers s p r ≡ false) [
      | true ↦ λ covered h. (let e : Some q ≡ None = h in cc)
      | false ↦ λ missed h. ap (covers s p) (sym same) ∙ missed
    ] refl none)
covering-none s p (Some q ∷ rs) none (suc k) r is =
    elim (covers s p q) as (λ b. cond b (Some q) (covering s p rs) ≡ None → covers s p r ≡ false) [
      | true ↦ λ h. (let e : Some q ≡ None = h in cc)
      | false ↦ λ h. covering-none s p rs h k r is
    ] none

-- in a sound layout the reservation that has the page is found
pub covering-is : (l : Layout) (s p id : ℕ) (r : Reservation) → IsLaid l → record_at l id ≡ Some r → covers s p r ≡ true
    → covering s p l.records ≡ Some r
covering-is l s p id r laid is has =
    elim (covering s p l.records) as (λ o. covering s p l.records ≡ o → o ≡ Some r) [
      | None ↦ λ none. absurd (false≢true (sym (covering-none s p l.records none id r is) ∙ has))
      | Some q ↦ λ found.
          let w = covering-found s p l.records q found in
          let same = laid.one_cover id w.0 s p r q is w.2 has w.3 in
          sym (sym is ∙ ap (record_at l) same ∙ w.2)
    ] refl

pub used_in-used : (l : Layout) (p : ℕ) (r : Reservation) → is_used l.used (frame_for p r) ≡ true → used_in l.used p (Some r) ≡ Some (frame_for p r)
used_in-used l p r used = ap (λ b. cond b (Some (frame_for p r)) None) used

pub used_in-unused : (l : Layout) (p : ℕ) (r : Reservation) → is_used l.used (frame_for p r) ≡ false → used_in l.used p (Some r) ≡ None
used_in-unused l p r unused = ap (λ b. cond b (Some (frame_for p r)) None) unused

-- the place of a page of a reservation is the frame that it joins to the page, where this is used
pub frame_in-is : (l : Layout) (s p id : ℕ) (r : Reservation) → IsLaid l → record_at l id ≡ Some r → covers s p r ≡ true
    → frame_in l s p ≡ used_in l.used p (Some r)
frame_in-is l s p id r laid is has = ap (used_in l.used p) (covering-is l s p id r laid is has)

-- what is a page's place is one in a reservation that has the page
pub record HasPlace (l : Layout) (s p f : ℕ) : Type 0 where
  pub id : ℕ
  pub reservation : Reservation
  pub is : record_at l id ≡ Some reservation
  pub covers_page : covers s p reservation ≡ true
  pub frame : f ≡ frame_for p reservation
  pub used : is_used l.used f ≡ true

-- the frame is a place of the reservation
pub HasPlace-has : (l : Layout) (s p f : ℕ) (place : HasPlace l s p f) → has_frame f (Some place.reservation) ≡ true
HasPlace-has l s p f place = ap (λ g. has_frame g (Some place.reservation)) place.frame
    ∙ has_frame_for s p place.reservation place.covers_page

-- a place stays its page's in a layout where the reservation stands and the frame is used
pub HasPlace-kept : (l m : Layout) (s p f : ℕ) (place : HasPlace l s p f) → record_at m place.id ≡ Some place.reservation
    → is_used m.used f ≡ true → HasPlace m s p f
HasPlace-kept l m s p f place is used =
    record { id = place.id; reservation = place.reservation; is = is; covers_page = place.covers_page; frame = place.frame; used = used }

pub frame_in-found : (l : Layout) (s p f : ℕ) → frame_in l s p ≡ Some f → HasPlace l s p f
frame_in-found l s p f found =
    elim (covering s p l.records) as (λ o. covering s p l.records ≡ o → used_in l.used p o ≡ Some f → HasPlace l s p f) [
      | None ↦ λ none h. (let e : None ≡ Some f = h in cc)
      | Some r ↦ λ is h.
          let w = covering-found s p l.records r is in
          elim (is_used l.used (frame_for p r)) as (λ b. is_used l.used (frame_for p r) ≡ b → cond b (Some (frame_for p r)) None ≡ Some f
          → HasPlace l s p f) [
            | true ↦ λ used e.
                let at : f ≡ frame_for p r = (let same : Some (frame_for p r) ≡ Some f = e in cc) in
                record { id = w.0; reservation = r; is = w.2; covers_page = w.3; frame = at; used = ap (is_used l.used) at ∙ used }
            | false ↦ λ unused e. (let no : None ≡ Some f = e in cc)
          ] refl h
    ] refl found

pub frame_in-from : (l : Layout) (s p f : ℕ) → IsLaid l → HasPlace l s p f → frame_in l s p ≡ Some f
frame_in-from l s p f laid has =
    frame_in-is l s p has.id has.reservation laid has.is has.covers_page
    ∙ used_in-used l p has.reservation (sym (ap (is_used l.used) has.frame) ∙ has.used)
    ∙ ap Some (sym has.frame)

-- a page without a place is at no used place of a reservation that has it
pub frame_in-none : (l : Layout) (s p id : ℕ) (r : Reservation) → IsLaid l → frame_in l s p ≡ None → record_at l id ≡ Some r
    → covers s p r ≡ true → is_used l.used (frame_for p r) ≡ false
frame_in-none l s p id r laid none is has =
    elim (is_used l.used (frame_for p r)) as (λ b. is_used l.used (frame_for p r) ≡ b → b ≡ false) [
      | true ↦ λ used. (let e : Some (frame_for p r) ≡ None = sym (used_in-used l p r used) ∙ sym (frame_in-is l s p id r laid is has)
          ∙ none in cc)
      | false ↦ λ unused. refl
    ] refl

-- two options are the same where each value of one is the other's
pub same_option : (a b : Option ℕ) → ((n : ℕ) → a ≡ Some n → b ≡ Some n) → ((n : ℕ) → b ≡ Some n → a ≡ Some n) → a ≡ b
same_option None None f g = refl
same_option None (Some m) f g = g m refl
same_option (Some n) b f g = sym (f n refl)
