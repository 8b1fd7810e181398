-- What giving a frame up, carving it out and putting it back keep.
use Rattle.std.proofs.Common.{◌≡◌, ◌≢◌, ℕ, ◌+◌, ◌^◌, ◌<◌, ◌≤◌, ◌↔◌, ◌⊎◌, inl, inr, Bool, true, false, cond, List, length, get_or, set, Some, None, refl, sym, ap, ◌∙◌, arith}
use Rattle.std.proofs.lemmas.List.{get_or-set_other, length-set}
use Rattle.std.proofs.lemmas.Bool.{cases_Bool, cases_eq, false≢true}
use Rattle.std.proofs.lemmas.Option.{none-some, same_Some}
use Rattle.std.specs.Cmp.{both_ways}
use Rattle.pager_model.proofs.FreeRanges.{length-with_range, with_range_inside, with_range_outside, range_cases}
use Rattle.pager_model.specs.declared.reservation.Reservation.{Reservation}
use Rattle.pager_model.specs.Agreement.{has_frame}
use Rattle.pager_model.specs.FreeBlocks.{with_range}
use Rattle.pager_model.specs.Layouts.{Layout, frame_in, vacate_layout, carve_layout, narrow_layout, take_out, put_back, is_last, record_at, is_free}
use Rattle.pager_model.specs.Records.{is_used}
use Rattle.pager_model.proofs.Lists.{get_or-set_default, unset_before}
use Rattle.pager_model.proofs.RecordFrames.{has_frame_bounds, has_frame_from, unused_in}
use Rattle.pager_laws.specs.Laid.{IsLaid, IsIn}
use Rattle.pager_laws.proofs.PagePlaces.{HasPlace, HasPlace-kept, HasPlace-has, frame_in-found, frame_in-from}
use Rattle.pager_laws.proofs.LayoutReplaced.{IsRegion-own, Replaces, holder, IsLaid-replaced, IsIn-beside}
use Rattle.pager_laws.proofs.SplitFrames.{some_used_in}
use Rattle.pager_laws.proofs.LayoutBreak.{Narrows-narrow}

-- the frame is no used place any more, and every other place stays its page's; by which frames are in the layout
pub record Gives (old new : Layout) (frame : ℕ) (in_after : ℕ → Type 0) : Type 0 where
  pub laid : IsLaid new
  pub long : length new.free ≡ length old.free
  pub used : new.used ≡ set old.used frame false
  pub within : (f : ℕ) → IsIn new f ↔ in_after f
  pub pages : (s p f : ℕ) → (frame_in new s p ≡ Some f) ↔ ((f ≢ frame) × (frame_in old s p ≡ Some f))

-- a used place after a frame became unused was one before, and is another frame
pub used_before : (used : List Bool) (frame f : ℕ) → is_used (set used frame false) f ≡ true → (f ≢ frame) × (is_used used f ≡ true)
used_before used frame f is = unset_before used frame f false true false≢true is

-- a page's place is the one that it had, where those that stand stood before, and those with used places still stand
pages_by : (old new : Layout) (frame : ℕ) → IsLaid old → IsLaid new → new.used ≡ set old.used frame false
    → ((j : ℕ) (q : Reservation) → record_at new j ≡ Some q → record_at old j ≡ Some q)
    → ((s p f : ℕ) (place : HasPlace old s p f) → is_used new.used f ≡ true → record_at new place.id ≡ Some place.reservation) → (s p f : ℕ)
    → (frame_in new s p ≡ Some f) ↔ ((f ≢ frame) × (frame_in old s p ≡ Some f))
pages_by old new frame was now same before after s p f = (
  λ is.
      let place = frame_in-found new s p f is in
      let used = used_before old.used frame f (sym (ap (λ u. is_used u f) same) ∙ place.used) in
      (used.0, frame_in-from old s p f was (HasPlace-kept new old s p f place (before place.id place.reservation place.is) used.1)),
  λ had.
      let place = frame_in-found old s p f had.1 in
      let used = ap (λ u. is_used u f) same ∙ get_or-set_other old.used frame f false false had.0 ∙ place.used in
      frame_in-from new s p f now (HasPlace-kept old new s p f place (after s p f place used) used),
)

-- after a range became free, what is free was free before or is in the range
pub with_range_free : (free : List Bool) (first count : ℕ) → first + count ≤ length free → (f : ℕ)
    → (get_or (with_range free first count true) f false ≡ true) ↔ ((get_or free f false ≡ true) ⊎ ((first ≤ f) × (f < first + count)))
with_range_free free first count fits =
    range_cases first count (λ f. (get_or (with_range free first count true) f false ≡ true) ↔
    ((get_or free f false ≡ true) ⊎ ((first ≤ f) × (f < first + count))))
    (λ f out. let same = with_range_outside free first count true fits f out in (
      λ is. inl (sym same ∙ is),
      λ was. elim was [
        | inl is ↦ same ∙ is
        | inr inside ↦
            absurd (elim out [ inl before ↦ omega (arith, inside.0) | inr behind ↦ omega (arith, inside.1) ])
      ],
    ))
    (λ f low high. (λ is. inr (low, high), λ was. with_range_inside free first count true fits f low high))

-- after a reservation went no other one has a frame of it
pub not_in_rest : (l : Layout) (id : ℕ) (r : Reservation) → IsLaid l → record_at l id ≡ Some r → (f j : ℕ) → has_frame f (Some r) ≡ true
    → has_frame f (get_or (set l.records id None) j None) ≡ true → ⊥
not_in_rest l id r laid is f j mine has =
    let w = holder f (get_or (set l.records id None) j None) has in
    let was = unset_before l.records id j None (Some w.0) (none-some w.0) w.1 in
    was.0 (laid.apart f j id (ap (has_frame f) was.1 ∙ w.2) (ap (has_frame f) is ∙ mine))

-- A reservation goes whose one used place, if any, is the frame: its frames are free from then on, or out of the layout.
pub record GoesFree (l : Layout) (free : List Bool) (id frame : ℕ) (r : Reservation) : Type 0 where
  pub laid : IsLaid l
  pub is : record_at l id ≡ Some r
  pub long : length free ≡ length l.free
  pub beside : (f : ℕ) → has_frame f (Some r) ≡ false → get_or free f false ≡ is_free l f
  pub unused : (f : ℕ) → has_frame f (Some r) ≡ true → is_used (set l.used frame false) f ≡ false
  pub has : has_frame frame (Some r) ≡ true

module _ (l : Layout) (free : List Bool) (id frame : ℕ) (r : Reservation) (goes : GoesFree l free id frame r) where
  abbrev without : Layout
  without = record { sizes = l.sizes; free = free; records = set l.records id None; used = set l.used frame false }

  -- what stands then stood before, at another frame
  stood : (j : ℕ) (q : Reservation) → record_at without j ≡ Some q → (j ≢ id) × (record_at l j ≡ Some q)
  stood j q at = unset_before l.records id j None (Some q) (none-some q) at

  -- nothing came in its place
  Replaces-without : Replaces l without r id
  Replaces-without = record {
    region = IsRegion-own l id r goes.laid goes.is;
    records_long = length-set l.records id None;
    free_long = goes.long;
    used_long = length-set l.used frame false;
    who = λ j q at. inl (stood j q at);
    stays = λ j q other at. get_or-set_other l.records id j None None other ∙ at;
    free = goes.beside;
    used = λ f out. get_or-set_other l.used frame f false false
        (λ same. false≢true (sym out ∙ ap (λ g. has_frame g (Some r)) same ∙ goes.has));
    one_frame = λ f j k mine one two. absurd (not_in_rest l id r goes.laid goes.is f j mine one);
    not_free = λ f j mine free_now has_now. not_in_rest l id r goes.laid goes.is f j mine has_now;
    places = λ f mine used. absurd (false≢true (sym (goes.unused f mine) ∙ used));
    one_page = λ j k s p q t at_j at_k by_j by_k mine. let w = stood j q at_j in
        absurd (w.0 (goes.laid.one_cover j id s p q r w.1 goes.is by_j mine));
  }

  -- so the frame is given up, by which of the reservation's frames are in the layout then
  Gives-without : (in_after : ℕ → Type 0) → ((f : ℕ) → has_frame f (Some r) ≡ true → IsIn without f ↔ in_after f)
      → ((f : ℕ) → has_frame f (Some r) ≡ false → IsIn l f ↔ in_after f) → Gives l without frame in_after
  Gives-without in_after inside outside =
      let laid_after = IsLaid-replaced l without r id goes.laid Replaces-without in
      record {
        laid = laid_after;
        long = goes.long;
        used = refl;
        within = λ f. elim (cases_Bool (has_frame f (Some r))) [
          | inl mine ↦ inside f mine
          | inr out ↦
              let same = IsIn-beside l without r id goes.laid Replaces-without f out in
              (λ now. (outside f out).0 (same.0 now), λ was. same.1 ((outside f out).1 was))
        ];
        pages = pages_by l without frame goes.laid laid_after refl (λ j q at. (stood j q at).1) (λ s p f place used.
            let other : place.id ≢ id = λ here.
            (let same : place.reservation ≡ r = same_Some place.reservation r (sym place.is ∙ ap (record_at l) here ∙ goes.is) in
            false≢true (sym (goes.unused f (ap (λ q. has_frame f (Some q)) (sym same) ∙ HasPlace-has l s p f place)) ∙ used)) in
            get_or-set_other l.records id place.id None None other ∙ place.is);
      }

-- the reservation keeps a used place
Gives-keeping : (l : Layout) (id frame : ℕ) (r : Reservation) → IsLaid l → record_at l id ≡ Some r → has_frame frame (Some r) ≡ true
    → is_last frame r l ≡ false
    → Gives l (record { sizes = l.sizes; free = l.free; records = l.records; used = set l.used frame false }) frame (IsIn l)
Gives-keeping l id frame r laid is has keeps =
    let new : Layout = record { sizes = l.sizes; free = l.free; records = l.records; used = set l.used frame false } in
    let laid_after : IsLaid new = record {
      records_long = laid.records_long;
      used_long = length-set l.used frame false ∙ laid.used_long;
      placed = laid.placed;
      apart = laid.apart;
      not_free = laid.not_free;
      places = λ f used. laid.places f (used_before l.used frame f used).1;
      some_used = λ j q at. elim (cases_eq j id) [
        | inl here ↦
            let w = some_used_in (is_used (set l.used frame false)) r.frame (8 ^ r.size) keeps in
            let same : r ≡ q = same_Some r q (sym is ∙ ap (record_at l) (sym here) ∙ at) in
            (w.0, ap (λ s. has_frame w.0 (Some s)) (sym same) ∙ has_frame_from w.0 r w.1 w.2, w.3)
        | inr other ↦
            let u = laid.some_used j q at in
            let apart_from : u.0 ≢ frame = λ same. other (laid.apart u.0 j id (ap (has_frame u.0) at ∙ u.1)
            (ap (has_frame u.0) is ∙ ap (λ f. has_frame f (Some r)) same ∙ has)) in
            (u.0, u.1, get_or-set_other l.used frame u.0 false false apart_from ∙ u.2)
      ];
      one_cover = laid.one_cover;
    } in
    record {
      laid = laid_after;
      long = refl;
      used = refl;
      within = λ f. (λ now. now, λ was. was);
      pages = pages_by l new frame laid laid_after refl (λ j q at. at) (λ s p f place used. place.is);
    }

-- the reservation has no used place left
Gives-last : (l : Layout) (frame : ℕ) (r : Reservation) → IsLaid l → record_at l r.frame ≡ Some r → has_frame frame (Some r) ≡ true
    → is_last frame r l ≡ true
    → Gives l (record {
      sizes = l.sizes;
      free = with_range l.free r.frame (8 ^ r.size) true;
      records = set l.records r.frame None;
      used = set l.used frame false;
    }) frame (IsIn l)
Gives-last l frame r laid is has last =
    let placed = laid.placed r.frame r is in
    let fits : r.frame + 8 ^ r.size ≤ length l.free = omega (arith, placed.within, laid.records_long) in
    let long = length-with_range l.free r.frame (8 ^ r.size) true fits in
    let freed = with_range_free l.free r.frame (8 ^ r.size) fits in
    let unused : (f : ℕ) → has_frame f (Some r) ≡ true → is_used (set l.used frame false) f ≡ false =
    λ f mine. (let bounds = has_frame_bounds f r mine in unused_in (is_used (set l.used frame false)) r.frame
    (8 ^ r.size) last f bounds.0 bounds.1) in
    let beside : (f : ℕ) → has_frame f (Some r) ≡ false → get_or (with_range l.free r.frame (8 ^ r.size) true) f false ≡ is_free l f =
    λ f out. both_ways _ _
    (λ now. elim ((freed f).0 now) [ inl was ↦ was | inr inside ↦ absurd (false≢true (sym out ∙ has_frame_from f r inside.0 inside.1)) ])
    (λ was. (freed f).1 (inl was)) in
    Gives-without l (with_range l.free r.frame (8 ^ r.size) true) r.frame frame r
    (record { laid = laid; is = is; long = long; beside = beside; unused = unused; has = has }) (IsIn l)
    (λ f mine. (λ _. inr (r.frame, ap (has_frame f) is ∙ mine), λ _. inl ((freed f).1 (inr (has_frame_bounds f r mine)))))
    (λ f out. (λ now. now, λ was. was))

-- a used place is unused from then on, and no frame leaves the layout or comes into it
pub Gives-vacate : (l : Layout) (id frame : ℕ) (r : Reservation) → IsLaid l → record_at l id ≡ Some r → has_frame frame (Some r) ≡ true
    → is_used l.used frame ≡ true → Gives l (vacate_layout frame r l) frame (IsIn l)
Gives-vacate l id frame r laid is has used =
    elim (is_last frame r l) as (λ b. is_last frame r l ≡ b → Gives l (record {
      sizes = l.sizes;
      free = cond b (with_range l.free r.frame (8 ^ r.size) true) l.free;
      records = cond b (set l.records r.frame None) l.records;
      used = set l.used frame false;
    }) frame (IsIn l)) [
      | true ↦ λ last. Gives-last l frame r laid (ap (record_at l) (laid.placed id r is).named ∙ is) has last
      | false ↦ λ keeps. Gives-keeping l id frame r laid is has keeps
    ] refl

-- a reservation of one frame goes, and its frame is out of the layout
pub Gives-take_out : (l : Layout) (frame : ℕ) (r : Reservation) → IsLaid l → record_at l frame ≡ Some r → r.size ≡ 0
    → Gives l (take_out frame l) frame (λ f. IsIn l f × (f ≢ frame))
Gives-take_out l frame r laid is one =
    let named = (laid.placed frame r is).named in
    let width : 8 ^ r.size ≡ 1 = ap (λ k. 8 ^ k) one in
    let has : has_frame frame (Some r) ≡ true = has_frame_from frame r (omega (arith, named)) (omega (arith, named, width)) in
    let only : (f : ℕ) → has_frame f (Some r) ≡ true → f ≡ frame = λ f mine.
    (let bounds = has_frame_bounds f r mine in omega (arith, bounds.0, bounds.1, named, width)) in
    Gives-without l l.free frame frame r (record {
      laid = laid;
      is = is;
      long = refl;
      beside = λ f out. refl;
      unused = λ f mine. get_or-set_default l.used frame f false (only f mine);
      has = has;
    }) (λ f. IsIn l f × (f ≢ frame))
    (λ f mine. (
      λ now. elim now [
        | inl free ↦ absurd (laid.not_free f frame free (ap (has_frame f) is ∙ mine))
        | inr place ↦ absurd (not_in_rest l frame r laid is f place.0 mine place.1)
      ],
      λ was. absurd (was.1 (only f mine)),
    ))
    (λ f out. (λ now. (now, λ same. false≢true (sym out ∙ ap (λ g. has_frame g (Some r)) same ∙ has)), λ was. was.0))

-- a used place is carved out, and this frame alone leaves the layout
pub Gives-carve : (l : Layout) (id frame : ℕ) (r : Reservation) → IsLaid l → record_at l id ≡ Some r → has_frame frame (Some r) ≡ true
    → is_used l.used frame ≡ true → Gives l (carve_layout frame r l) frame (λ f. IsIn l f × (f ≢ frame))
Gives-carve l id frame r laid is has used =
    let n = Narrows-narrow l id frame r laid is has used in
    let s = n.settles in
    let g = Gives-take_out (narrow_layout frame r l) frame n.alone s.laid n.is n.one in
    record {
      laid = g.laid;
      long = g.long ∙ s.long;
      used = g.used ∙ ap (λ u. set u frame false) s.used;
      within = λ f. (
        λ after. let w = (g.within f).0 after in ((s.within f).0 w.0, w.1),
        λ before. (g.within f).1 ((s.within f).1 before.0, before.1),
      );
      pages = λ t p f. (
        λ after. let w = (g.pages t p f).0 after in (w.0, sym (s.pages t p) ∙ w.1),
        λ before. (g.pages t p f).1 (before.0, s.pages t p ∙ before.1),
      );
    }

-- a frame that was out of the layout is in it, and free
pub record PutsBack (old new : Layout) (frame : ℕ) : Type 0 where
  pub laid : IsLaid new
  pub long : length new.free ≡ length old.free
  pub within : (f : ℕ) → IsIn new f ↔ (IsIn old f ⊎ (f ≡ frame))

-- a frame out of the layout is put back
pub PutsBack-put_back : (l : Layout) (frame : ℕ) → IsLaid l → frame < length l.free → (IsIn l frame → ⊥)
    → PutsBack l (put_back frame l) frame
PutsBack-put_back l frame laid known out =
    let long = length-with_range l.free frame 1 true (omega (arith, known)) in
    let freed = with_range_free l.free frame 1 (omega (arith, known)) in
    let free_or_back : (f : ℕ) → get_or (with_range l.free frame 1 true) f false ≡ true → (is_free l f ≡ true) ⊎ (f ≡ frame) =
    λ f now. elim ((freed f).0 now) [ inl was ↦ inl was | inr inside ↦ inr (omega (arith, inside.0, inside.1)) ] in
    record {
      laid = record {
        records_long = laid.records_long ∙ sym long;
        used_long = laid.used_long ∙ sym long;
        placed = laid.placed;
        apart = laid.apart;
        not_free = λ f id now has. elim (free_or_back f now) [
          | inl was ↦ laid.not_free f id was has
          | inr same ↦ out (inr (id, ap (λ g. has_frame g (record_at l id)) (sym same) ∙ has))
        ];
        places = laid.places;
        some_used = laid.some_used;
        one_cover = laid.one_cover;
      };
      long = long;
      within = λ f. (
        λ now. elim now [
          | inl free ↦ elim (free_or_back f free) [ inl was ↦ inl (inl was) | inr same ↦ inr same ]
          | inr place ↦ inl (inr place)
        ],
        λ was. elim was [
          | inl before ↦ elim before [ inl free ↦ inl ((freed f).1 (inl free)) | inr place ↦ inr place ]
          | inr same ↦ inl ((freed f).1 (inr (omega (arith, same), omega (arith, same))))
        ],
      );
    }
