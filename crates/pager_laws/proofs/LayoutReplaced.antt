-- A layout after the reservation at a frame gave way to others, of the same frames and pages.
use Rattle.std.proofs.Common.{◌≡◌, ◌≢◌, ℕ, ◌⊎◌, ◌↔◌, inl, inr, true, false, length, Option, Some, None, refl, sym, ap, subst, ◌∙◌}
use Rattle.std.proofs.lemmas.Bool.{cases_Bool, false≢true, false_from_ne_true}
use Rattle.std.proofs.lemmas.Option.{same_Some}
use Rattle.pager_model.specs.declared.reservation.Reservation.{Reservation}
use Rattle.pager_model.specs.Agreement.{has_frame}
use Rattle.pager_model.specs.Layouts.{Layout, covers, frame_in, record_at, is_free}
use Rattle.pager_model.specs.Records.{is_used}
use Rattle.pager_model.specs.RecordPlaces.{IsPlaced}
use Rattle.pager_laws.specs.Laid.{IsLaid, IsIn}
use Rattle.pager_laws.proofs.PagePlaces.{HasPlace-kept, HasPlace-has, frame_in-found, frame_in-from, same_option}

-- the frames and pages of r are of no reservation but the one at this frame, and that one has no others
pub record IsRegion (l : Layout) (r : Reservation) (at : ℕ) : Type 0 where
  pub alone : (f j : ℕ) → has_frame f (Some r) ≡ true → has_frame f (record_at l j) ≡ true → j ≡ at
  pub frames : (f : ℕ) → has_frame f (record_at l at) ≡ true → has_frame f (Some r) ≡ true
  pub apart : (s p j : ℕ) (q : Reservation) → record_at l j ≡ Some q → covers s p q ≡ true → covers s p r ≡ true → j ≡ at
  pub pages : (s p : ℕ) (q : Reservation) → record_at l at ≡ Some q → covers s p q ≡ true → covers s p r ≡ true

-- so are those of a reservation of a sound layout
pub IsRegion-own : (l : Layout) (id : ℕ) (r : Reservation) → IsLaid l → record_at l id ≡ Some r → IsRegion l r id
IsRegion-own l id r laid is = record {
  alone = λ f j mine has. laid.apart f j id has (ap (has_frame f) is ∙ mine);
  frames = λ f has. sym (ap (has_frame f) is) ∙ has;
  apart = λ s p j q stands has mine. laid.one_cover j id s p q r stands is has mine;
  pages = λ s p q stands has. ap (covers s p) (same_Some r q (sym is ∙ stands)) ∙ has;
}

-- a reservation that came in a move: in its place, with a used place, and of frames and pages of r alone
pub record CameIn (old new : Layout) (r : Reservation) (id : ℕ) (q : Reservation) : Type 0 where
  pub placed : IsPlaced (length old.records) id q
  pub frames : (f : ℕ) → has_frame f (Some q) ≡ true → has_frame f (Some r) ≡ true
  pub pages : (s p : ℕ) → covers s p q ≡ true → covers s p r ≡ true
  pub some_used : (f : ℕ) × (has_frame f (Some q) ≡ true) × (is_used new.used f ≡ true)

-- The reservation at a frame gave way to others. Beside r all is as before; in the frames and pages of r the new layout is sound.
pub record Replaces (old new : Layout) (r : Reservation) (at : ℕ) : Type 0 where
  pub region : IsRegion old r at
  pub records_long : length new.records ≡ length old.records
  pub free_long : length new.free ≡ length old.free
  pub used_long : length new.used ≡ length old.used
  -- what stands stood before, at another frame, or came; and what stood at another frame stands
  pub who : (j : ℕ) (q : Reservation) → record_at new j ≡ Some q → ((j ≢ at) × (record_at old j ≡ Some q)) ⊎ CameIn old new r j q
  pub stays : (j : ℕ) (q : Reservation) → j ≢ at → record_at old j ≡ Some q → record_at new j ≡ Some q
  -- beside r the same frames are free and used
  pub free : (f : ℕ) → has_frame f (Some r) ≡ false → is_free new f ≡ is_free old f
  pub used : (f : ℕ) → has_frame f (Some r) ≡ false → is_used new.used f ≡ is_used old.used f
  -- in r no frame is of two reservations, no place free, each used place a place, and no page in two
  pub one_frame : (f id other : ℕ) → has_frame f (Some r) ≡ true → has_frame f (record_at new id) ≡ true
      → has_frame f (record_at new other) ≡ true → id ≡ other
  pub not_free : (f id : ℕ) → has_frame f (Some r) ≡ true → is_free new f ≡ true → has_frame f (record_at new id) ≡ true → ⊥
  pub places : (f : ℕ) → has_frame f (Some r) ≡ true → is_used new.used f ≡ true → (id : ℕ) × (has_frame f (record_at new id) ≡ true)
  pub one_page : (id other s p : ℕ) (q t : Reservation) → record_at new id ≡ Some q → record_at new other ≡ Some t → covers s p q ≡ true
      → covers s p t ≡ true → covers s p r ≡ true → id ≡ other

-- who has a frame
pub holder : (f : ℕ) (o : Option Reservation) → has_frame f o ≡ true → (q : Reservation) × (o ≡ Some q) × (has_frame f (Some q) ≡ true)
holder f None has = absurd (false≢true has)
holder f (Some q) has = (q, refl, has)

module _ (old new : Layout) (r : Reservation) (at : ℕ) (laid : IsLaid old) (move : Replaces old new r at) where
  -- a frame of another reservation is beside r, and as used as before
  used_beside : (f j : ℕ) (q : Reservation) → j ≢ at → record_at old j ≡ Some q → has_frame f (Some q) ≡ true
      → is_used new.used f ≡ is_used old.used f
  used_beside f j q other is has = move.used f
      (false_from_ne_true _ (λ mine. other (move.region.alone f j mine (ap (has_frame f) is ∙ has))))

  -- a frame beside r is of the reservations that it was of
  pub has_beside : (f j : ℕ) → has_frame f (Some r) ≡ false → (has_frame f (record_at new j) ≡ true) ↔
      (has_frame f (record_at old j) ≡ true)
  has_beside f j out = (
    λ now. let w = holder f (record_at new j) now in elim (move.who j w.0 w.1) [
      | inl still ↦ ap (has_frame f) still.1 ∙ w.2
      | inr came ↦ absurd (false≢true (sym out ∙ came.frames f w.2))
    ],
    λ was.
        let w = holder f (record_at old j) was in
        let other : j ≢ at = λ here. false≢true (sym out ∙ move.region.frames f
        (sym (ap (λ k. has_frame f (record_at old k)) here) ∙ was)) in
        ap (has_frame f) (move.stays j w.0 other w.1) ∙ w.2,
  )

  -- a reservation with a page beside r stood before
  stood_beside : (j s p : ℕ) (q : Reservation) → covers s p r ≡ false → record_at new j ≡ Some q → covers s p q ≡ true
      → (j ≢ at) × (record_at old j ≡ Some q)
  stood_beside j s p q out is has = elim (move.who j q is) [
    | inl still ↦ still
    | inr came ↦
        absurd (false≢true (sym out ∙ came.pages s p has))
  ]

  -- the new layout is sound
  pub IsLaid-replaced : IsLaid new
  IsLaid-replaced = record {
    records_long = move.records_long ∙ laid.records_long ∙ sym move.free_long;
    used_long = move.used_long ∙ laid.used_long ∙ sym move.free_long;
    placed = λ j q is. subst (λ n. IsPlaced n j q) (sym move.records_long)
        (elim (move.who j q is) [ inl still ↦ laid.placed j q still.1 | inr came ↦ came.placed ]);
    apart = λ f j k a b. elim (cases_Bool (has_frame f (Some r))) [
      | inl inside ↦ move.one_frame f j k inside a b
      | inr out ↦ laid.apart f j k ((has_beside f j out).0 a) ((has_beside f k out).0 b)
    ];
    not_free = λ f j free has. elim (cases_Bool (has_frame f (Some r))) [
      | inl inside ↦ move.not_free f j inside free has
      | inr out ↦ laid.not_free f j (sym (move.free f out) ∙ free) ((has_beside f j out).0 has)
    ];
    places = λ f used. elim (cases_Bool (has_frame f (Some r))) [
      | inl inside ↦ move.places f inside used
      | inr out ↦ let was = laid.places f (sym (move.used f out) ∙ used) in (was.0, (has_beside f was.0 out).1 was.1)
    ];
    some_used = λ j q is. elim (move.who j q is) [
      | inl still ↦ let u = laid.some_used j q still.1 in (u.0, u.1, used_beside u.0 j q still.0 still.1 u.1 ∙ u.2)
      | inr came ↦ came.some_used
    ];
    one_cover = λ j k s p q t is also has both. elim (cases_Bool (covers s p r)) [
      | inl inside ↦ move.one_page j k s p q t is also has both inside
      | inr out ↦ laid.one_cover j k s p q t (stood_beside j s p q out is has).1 (stood_beside k s p t out also both).1 has both
    ];
  }

  -- the same frames beside r are in it
  pub IsIn-beside : (f : ℕ) → has_frame f (Some r) ≡ false → IsIn new f ↔ IsIn old f
  IsIn-beside f out = (
    λ now. elim now [ inl free ↦ inl (sym (move.free f out) ∙ free) | inr place ↦ inr (place.0, (has_beside f place.0 out).0 place.1) ],
    λ was. elim was [ inl free ↦ inl (move.free f out ∙ free) | inr place ↦ inr (place.0, (has_beside f place.0 out).1 place.1) ],
  )

  -- and every page beside r keeps its place
  pub frame_in-beside : (s p : ℕ) → covers s p r ≡ false → frame_in new s p ≡ frame_in old s p
  frame_in-beside s p out =
      same_option (frame_in new s p) (frame_in old s p)
      (λ f found.
      let place = frame_in-found new s p f found in
      let was = stood_beside place.id s p place.reservation out place.is place.covers_page in
      let used = used_beside f place.id place.reservation was.0 was.1 (HasPlace-has new s p f place) in
      frame_in-from old s p f laid (HasPlace-kept new old s p f place was.1 (sym used ∙ place.used)))
      (λ f found.
      let place = frame_in-found old s p f found in
      let other : place.id ≢ at = λ here. false≢true (sym out ∙ move.region.pages s p place.reservation
      (sym (ap (record_at old) here) ∙ place.is) place.covers_page) in
      let used = used_beside f place.id place.reservation other place.is (HasPlace-has old s p f place) in
      frame_in-from new s p f IsLaid-replaced (HasPlace-kept old new s p f place (move.stays place.id place.reservation other place.is)
      (used ∙ place.used)))
