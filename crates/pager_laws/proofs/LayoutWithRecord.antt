-- A layout after a reservation is kept at its first frame and one of its places becomes a used one.
use Rattle.std.proofs.Common.{◌≡◌, ◌≢◌, ℕ, ◌<◌, ◌↔◌, ◌⊎◌, Bool, true, false, cond, eqb, ◌&&◌, List, length, get_or, set, Some, None, refl, sym, ap, subst, ◌∙◌, inl, inr, arith}
use Rattle.std.proofs.lemmas.Bool.{cases_eq, cases_Bool, cond-true, cond-false, and_parts, and_from, eqb-true, eq-eqb, false≢true, false_from_ne_true}
use Rattle.std.proofs.lemmas.List.{get_or-set_same, get_or-set_other, length-set}
use Rattle.std.proofs.lemmas.Option.{same_Some}
use Rattle.std.specs.Cmp.{both_ways}
use Rattle.pager_model.specs.declared.reservation.Reservation.{Reservation}
use Rattle.pager_model.specs.Agreement.{has_frame}
use Rattle.pager_model.specs.Layouts.{Layout, covers, frame_for, used_in, frame_in, record_at, is_free}
use Rattle.pager_model.specs.Records.{is_used}
use Rattle.pager_model.specs.RecordPlaces.{IsPlaced}
use Rattle.pager_model.proofs.RecordFrames.{has_frame_bounds}
use Rattle.pager_laws.specs.Laid.{IsLaid, IsIn}
use Rattle.pager_laws.proofs.LayoutReplaced.{CameIn, Replaces, IsLaid-replaced, IsIn-beside, frame_in-beside}
use Rattle.pager_laws.proofs.PagePlaces.{CoversPageOf-covers, has_frame_for, frame_in-is, used_in-used}

-- the layout with the reservation at its first frame, these free frames, and one more used place
abbrev pub put : Layout → Reservation → ℕ → List Bool → Layout
put l q frame free = record { sizes = l.sizes; free = free; records = set l.records q.frame (Some q); used = set l.used frame true }

-- The reservation has the page, at a frame that is no used place. It may be put into the layout: it takes the place of a
-- reservation with the same frames and pages, or of free frames and of pages that no reservation has.
pub record MayPut (l : Layout) (space page : ℕ) (q : Reservation) (free : List Bool) : Type 0 where
  pub laid : IsLaid l
  pub placed : IsPlaced (length l.records) q.frame q
  pub known : q.frame < length l.records
  pub has : covers space page q ≡ true
  pub unused : is_used l.used (frame_for page q) ≡ false
  pub long : length free ≡ length l.free
  -- its frames are of no other reservation, and were in the layout; they aren't free then, and the other ones are as before
  pub alone : (frame id : ℕ) → has_frame frame (Some q) ≡ true → has_frame frame (record_at l id) ≡ true → id ≡ q.frame
  pub was_in : (frame : ℕ) → has_frame frame (Some q) ≡ true → IsIn l frame
  pub taken : (frame : ℕ) → get_or free frame false ≡ true → (is_free l frame ≡ true) × (has_frame frame (Some q) ≡ true → ⊥)
  pub left : (frame : ℕ) → is_free l frame ≡ true → (get_or free frame false ≡ true) ⊎ (has_frame frame (Some q) ≡ true)
  -- the reservation that it takes the place of has no more frames and no more pages
  pub frames : (frame : ℕ) → has_frame frame (record_at l q.frame) ≡ true → has_frame frame (Some q) ≡ true
  pub pages : (s p : ℕ) (r : Reservation) → record_at l q.frame ≡ Some r → covers s p r ≡ true → covers s p q ≡ true
  -- its pages are of no other reservation, and have the places that they had
  pub apart : (s p id : ℕ) (r : Reservation) → record_at l id ≡ Some r → covers s p r ≡ true → covers s p q ≡ true → id ≡ q.frame
  pub same : (s p : ℕ) → covers s p q ≡ true → frame_in l s p ≡ used_in l.used p (Some q)

module _ (l : Layout) (space page : ℕ) (q : Reservation) (free : List Bool) (may : MayPut l space page q free) where
  abbrev new : Layout
  new = put l q (frame_for page q) free

  -- the reservation of the new layout at a frame
  here_is : (id : ℕ) → id ≡ q.frame → record_at new id ≡ Some q
  here_is id here = ap (record_at new) here ∙ get_or-set_same l.records q.frame (Some q) None may.known

  there_is : (id : ℕ) → id ≢ q.frame → record_at new id ≡ record_at l id
  there_is id other = get_or-set_other l.records q.frame id (Some q) None other

  -- the page's frame is a place of the reservation
  used_frame : has_frame (frame_for page q) (Some q) ≡ true
  used_frame = has_frame_for space page q may.has

  -- which frames are used places in the new layout
  known_frame : frame_for page q < length l.used
  known_frame =
      let bounds = has_frame_bounds (frame_for page q) q used_frame in
      omega (arith, bounds.1, may.placed.within, may.laid.records_long, may.laid.used_long)

  now_used : (frame : ℕ) → frame ≡ frame_for page q → is_used new.used frame ≡ true
  now_used frame here = ap (is_used new.used) here ∙ get_or-set_same l.used (frame_for page q) true false known_frame

  as_used : (frame : ℕ) → frame ≢ frame_for page q → is_used new.used frame ≡ is_used l.used frame
  as_used frame other = get_or-set_other l.used (frame_for page q) frame true false other

  own : (frame : ℕ) → has_frame frame (Some q) ≡ true → has_frame frame (record_at new q.frame) ≡ true
  own frame has = ap (has_frame frame) (here_is q.frame refl) ∙ has

  -- a frame of the reservation is of no other one then, and no page of it is
  only_frame : (frame id : ℕ) → has_frame frame (Some q) ≡ true → has_frame frame (record_at new id) ≡ true → id ≡ q.frame
  only_frame frame id mine has = elim (cases_eq id q.frame) [
    | inl here ↦ here
    | inr other ↦ may.alone frame id mine (sym (ap (has_frame frame) (there_is id other)) ∙ has)
  ]

  only_page : (s p id : ℕ) (r : Reservation) → record_at new id ≡ Some r → covers s p r ≡ true → covers s p q ≡ true → id ≡ q.frame
  only_page s p id r is has mine = elim (cases_eq id q.frame) [
    | inl here ↦ here
    | inr other ↦
        may.apart s p id r (sym (there_is id other) ∙ is) has mine
  ]

  -- what stood at its first frame gave way to the reservation
  Replaces-put : Replaces l new q q.frame
  Replaces-put = record {
    region = record { alone = may.alone; frames = may.frames; apart = may.apart; pages = may.pages };
    records_long = length-set l.records q.frame (Some q);
    free_long = may.long;
    used_long = length-set l.used (frame_for page q) true;
    who = λ id r is. elim (cases_eq id q.frame) [
      | inl here ↦
          let came : CameIn l new q q.frame q =
          record {
            placed = may.placed;
            frames = λ f has. has;
            pages = λ s p has. has;
            some_used = (frame_for page q, used_frame, now_used (frame_for page q) refl);
          } in
          inr (subst (λ k. CameIn l new q k r) (sym here) (subst (CameIn l new q q.frame)
          (same_Some q r (sym (here_is id here) ∙ is)) came))
      | inr other ↦ inl (other, sym (there_is id other) ∙ is)
    ];
    stays = λ id r other is. there_is id other ∙ is;
    free = λ f out. both_ways _ _ (λ now. (may.taken f now).0) (λ was. elim
        (may.left f was) [ inl left ↦ left | inr mine ↦ absurd (false≢true (sym out ∙ mine)) ]);
    used = λ f out. as_used f (λ same. false≢true (sym out ∙ ap (λ g. has_frame g (Some q)) same ∙ used_frame));
    one_frame = λ f id other mine a b. only_frame f id mine a ∙ sym (only_frame f other mine b);
    not_free = λ f id mine free _. (may.taken f free).1 mine;
    places = λ f mine _. (q.frame, own f mine);
    one_page = λ id other s p a b is too has has_too mine. only_page s p id a is has mine ∙ sym (only_page s p other b too has_too mine);
  }

  -- the new layout is sound
  pub IsLaid-put : IsLaid (put l q (frame_for page q) free)
  IsLaid-put = IsLaid-replaced l new q q.frame may.laid Replaces-put

  -- the same frames are in it
  pub IsIn-put : (frame : ℕ) → IsIn (put l q (frame_for page q) free) frame ↔ IsIn l frame
  IsIn-put frame = elim (cases_Bool (has_frame frame (Some q))) [
    | inl mine ↦ (λ _. may.was_in frame mine, λ _. inr (q.frame, own frame mine))
    | inr out ↦ IsIn-beside l new q q.frame may.laid Replaces-put frame out
  ]

  -- pages of the reservation: the page has the new place, and the other pages have theirs
  same_page : (s p : ℕ) → covers s p q ≡ true → frame_for p q ≡ frame_for page q → (eqb space s && eqb p page) ≡ true
  same_page s p has at =
      let one = CoversPageOf-covers s p q has in
      let two = CoversPageOf-covers space page q may.has in
      let pages : p ≡ page = omega (arith, one.low, two.low) in
      and_from _ _ (eq-eqb space s (sym two.space_is ∙ one.space_is)) (eq-eqb p page pages)

  new_place : (s p : ℕ) → covers s p q ≡ true → frame_in new s p ≡ used_in new.used p (Some q)
  new_place s p has = frame_in-is new s p q.frame q IsLaid-put (here_is q.frame refl) has

  inside : (s p : ℕ) → covers s p q ≡ true → frame_in new s p ≡ cond (eqb space s && eqb p page) (Some (frame_for page q)) (frame_in l s p)
  inside s p has = elim (cases_eq (frame_for p q) (frame_for page q)) [
    | inl here ↦
        new_place s p has ∙ used_in-used new p q (now_used (frame_for p q) here) ∙ ap Some here
        ∙ sym (cond-true _ _ _ (same_page s p has here))
    | inr other ↦
        let differs : (eqb space s && eqb p page) ≡ false = false_from_ne_true _
        (λ same. other (ap (λ n. frame_for n q) (eqb-true p page (and_parts _ _ same).1))) in
        new_place s p has ∙ ap (λ b. cond b (Some (frame_for p q)) None) (as_used (frame_for p q) other) ∙ sym (may.same s p has)
        ∙ sym (cond-false _ _ _ differs)
  ]

  -- every other page keeps its place
  pub frame_in-put : (s p : ℕ) → frame_in (put l q (frame_for page q) free) s p
      ≡ cond (eqb space s && eqb p page) (Some (frame_for page q)) (frame_in l s p)
  frame_in-put s p = elim (cases_Bool (covers s p q)) [
    | inl has ↦ inside s p has
    | inr out ↦
        let differs : (eqb space s && eqb p page) ≡ false = false_from_ne_true _ (λ same. false≢true (sym out ∙ at_page s p same)) in
        frame_in-beside l new q q.frame may.laid Replaces-put s p out ∙ sym (cond-false _ _ _ differs)
  ]
    where
      at_page : (s p : ℕ) → (eqb space s && eqb p page) ≡ true → covers s p q ≡ true
      at_page s p same =
          let parts = and_parts _ _ same in
          subst (λ n. covers n p q ≡ true) (eqb-true space s parts.0)
          (subst (λ n. covers space n q ≡ true) (sym (eqb-true p page parts.1)) may.has)
