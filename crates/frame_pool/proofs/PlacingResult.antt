-- What placing a page answers: in the reservation that has the page, or in a new one of an extent that was found.
use Rattle.std.proofs.Common.{◌≡◌, ℕ, ◌+◌, ◌^◌, ◌<◌, ◌≤◌, false, inl, inr, length, Some, None, option_map, refl, sym, ap, subst, ◌∙◌, arith}
use Rattle.std.proofs.lemmas.Bool.{cases_Bool, cond-true}
use Rattle.std.proofs.lemmas.Nat.{div-add-mod', mod_below}
use Rattle.std.proofs.lemmas.Option.{none-some}
use Rattle.pager_model.specs.declared.entry.Want.{Want}
use Rattle.pager_model.specs.declared.reservation.Reservation.{Reservation}
use Rattle.pager_model.specs.Extents.{extent_start}
use Rattle.pager_model.specs.Layouts.{Layout, Placing, covering, frame_for, frame_in, largest_extent, preferred_in, populated, new_reservation, reserved, placing_in, placing, record_at, used_in}
use Rattle.pager_model.specs.Records.{is_used}
use Rattle.reservations.specs.Kept.{CoversPage}
use Rattle.pager_model.proofs.ExtentLemmas.{eight_pos}
use Rattle.pager_laws.specs.Laid.{IsLaid}
use Rattle.frame_pool.specs.declared.layout.FreeExtent.{FreeExtent as FoundExtent}
use Rattle.frame_pool.specs.Placed.{FindsExtent, PlacesPage, with_reservation, without_extent}
use Rattle.pager_laws.proofs.PagePlaces.{CoversPageOf-covers, covering-found}
use Rattle.pager_laws.proofs.LayoutPlacing.{WasPlaced-placing}

-- what the definition gives is a place of the page
pub PlacesPage-from : (l new : Layout) (stamp space page : ℕ) (want : Want) (place : Placing) → IsLaid l → frame_in l space page ≡ None
    → placing stamp space page want l ≡ Some place → new ≡ place.layout → place.broken ≤ 1
    → PlacesPage l new (placing stamp space page want l) place.frame place.broken
PlacesPage-from l new stamp space page want place laid unplaced is layout few =
    let places = WasPlaced-placing l stamp space page want place laid unplaced is in
    record {
      place = place;
      is = is;
      layout = layout;
      same_frame = refl;
      same_broken = refl;
      few_broken = few;
      known = omega (arith, places.known, places.long, ap (λ (m : Layout). length m.free) layout);
      unused = places.was_unused;
      used = ap (λ (m : Layout). m.used) layout ∙ places.used;
    }

-- In the reservation that has the page.

pub placing-covered : (l : Layout) (stamp space page : ℕ) (want : Want) (r : Reservation) → covering space page l.records ≡ Some r
    → placing stamp space page want l ≡ Some (populated stamp page l r)
placing-covered l stamp space page want r is = ap (placing_in stamp space page want l) is

module _ (l : Layout) (space page : ℕ) (r : Reservation) (laid : IsLaid l) (covers : covering space page l.records ≡ Some r) where
  -- it stands at its first frame
  pub record_at-covered : record_at l r.frame ≡ Some r
  record_at-covered =
      let w = covering-found space page l.records r covers in
      ap (record_at l) (laid.placed w.0 r w.2).named ∙ w.2

  pub HasPage-covered : CoversPage r page
  HasPage-covered =
      let w = covering-found space page l.records r covers in
      let bounds = CoversPageOf-covers space page r w.3 in
      (bounds.low, bounds.high)

  -- and the page's place in it is unused where the page has none
  pub unused_covered : frame_in l space page ≡ None → is_used l.used (frame_for page r) ≡ false
  unused_covered none = elim (cases_Bool (is_used l.used (frame_for page r))) [
    | inl used ↦ absurd (none-some (frame_for page r) (sym none ∙ ap (used_in l.used page) covers ∙ cond-true _ _ _ used))
    | inr not ↦ not
  ]

-- In a new reservation.

-- the page lies in the extent of pages round it
pub round_page : (size page start : ℕ) → start ≡ extent_start size page → (start ≤ page) × (page < start + 8 ^ size)
round_page size page start round =
    let whole = div-add-mod' page (8 ^ size) in
    let rest = mod_below page (8 ^ size) (eight_pos size) in
    (omega (arith, whole, round), omega (arith, whole, rest, round))

-- The page that is placed, and how it is wanted.
pub record Asked : Type 0 where
  pub space : ℕ
  pub page : ℕ
  pub want : Want

abbrev pub asked : ℕ → ℕ → Want → Asked
asked space page want = record { space = space; page = page; want = want }

module _ (l new : Layout) (stamp : ℕ) (a : Asked) (f : FoundExtent) (none : covering a.space a.page l.records ≡ None)
    (finds : FindsExtent new (largest_extent (preferred_in l a.space a.page a.want) l) f.size f.first f.broken) where
  abbrev added : Reservation
  added = record { space = a.space; first = extent_start f.size a.page; size = f.size; frame = f.first; stamp = stamp }

  -- it is the one that the definition makes
  added_is : added ≡ new_reservation stamp a.space a.page finds.found
  added_is = rw (finds.same_size, finds.same_first) refl

  layout_is : with_reservation added a.page new ≡ (reserved stamp a.space a.page finds.found).layout
  layout_is =
      ap (with_reservation added a.page) finds.layout
      ∙ ap (λ r. with_reservation r a.page (without_extent finds.found)) added_is

  placing_is : placing stamp a.space a.page a.want l ≡ Some (reserved stamp a.space a.page finds.found)
  placing_is = ap (placing_in stamp a.space a.page a.want l) none ∙ ap (option_map (reserved stamp a.space a.page)) finds.is

  pub IsLaid-added : IsLaid l → frame_in l a.space a.page ≡ None → IsLaid (with_reservation added a.page new)
  IsLaid-added laid unplaced =
      subst IsLaid (sym layout_is) (WasPlaced-placing l stamp a.space a.page a.want
      (reserved stamp a.space a.page finds.found) laid unplaced placing_is).laid

  pub PlacesPage-added : IsLaid l → frame_in l a.space a.page ≡ None
      → PlacesPage l (with_reservation added a.page new) (placing stamp a.space a.page a.want l) (frame_for a.page added) f.broken
  PlacesPage-added laid unplaced =
      let few : finds.found.broken ≤ 1 = omega (arith, finds.same_broken, finds.few_broken) in
      let places = PlacesPage-from l (with_reservation added a.page new) stamp a.space a.page a.want
      (reserved stamp a.space a.page finds.found) laid unplaced placing_is layout_is few in
      subst (λ g. PlacesPage l (with_reservation added a.page new) (placing stamp a.space a.page a.want l) g f.broken)
      (sym (ap (frame_for a.page) added_is))
      (subst (PlacesPage l (with_reservation added a.page new) (placing stamp a.space a.page a.want l)
      (reserved stamp a.space a.page finds.found).frame) (sym finds.same_broken) places)
