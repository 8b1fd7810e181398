-- What splitting a reservation keeps: the layout stays sound, the same frames are in it, and every page keeps its place.
use Rattle.std.proofs.Common.{◌≡◌, ◌≢◌, ℕ, ◌-◌, ◌^◌, ◌<◌, ◌≤◌, ◌⊎◌, ◌↔◌, inl, inr, true, false, length, Some, None, sym, ap, subst, ◌∙◌, arith}
use Rattle.std.proofs.lemmas.Bool.{cases_Bool, cond-true, cond-false, false≢true}
use Rattle.std.proofs.lemmas.Option.{none-some, same_Some}
use Rattle.std.specs.Cmp.{both_ways}
use Rattle.pager_model.specs.declared.reservation.Reservation.{Reservation}
use Rattle.pager_model.specs.Agreement.{has_frame}
use Rattle.pager_model.specs.Layouts.{Layout, covers, frame_for, frame_in, parted, record_at}
use Rattle.pager_model.specs.Records.{is_used, part_count, part_at, is_empty_at}
use Rattle.pager_model.specs.RecordPlaces.{IsPlaced}
use Rattle.pager_laws.proofs.PartsAt.{part_ends, part_at-placed, find_part, part_in_whole, same_part, which_part, used_part}
use Rattle.pager_model.proofs.ExtentLemmas.{eight_pos}
use Rattle.pager_model.proofs.RecordFrames.{has_frame_from}
use Rattle.pager_laws.specs.Laid.{IsLaid, IsIn}
use Rattle.pager_laws.proofs.PagePlaces.{has_frame_for, frame_in-found, frame_in-from, same_option}
use Rattle.pager_laws.proofs.LayoutReplaced.{IsRegion, IsRegion-own, CameIn, Replaces, holder, IsLaid-replaced, IsIn-beside, frame_in-beside}
use Rattle.pager_laws.proofs.SplitFrames.{IsSplit, IsSplit-parted, covers_whole, frame_for_part, one_part_covers, part_covers, some_used_in}

-- from a layout to another one only reservations were split
pub record Settles (old new : Layout) : Type 0 where
  pub laid : IsLaid new
  pub long : length new.free ≡ length old.free
  pub used : new.used ≡ old.used
  pub sizes : new.sizes ≡ old.sizes
  pub within : (frame : ℕ) → IsIn new frame ↔ IsIn old frame
  pub pages : (space page : ℕ) → frame_in new space page ≡ frame_in old space page
  -- a reservation has no page that none had before
  pub covered : (id space page : ℕ) (r : Reservation) → record_at new id ≡ Some r → covers space page r ≡ true
      → (other : ℕ) × (q : Reservation) × (record_at old other ≡ Some q) × (covers space page q ≡ true)

-- a reservation is in its place at its own first frame
pub placed_own : (l : Layout) (id : ℕ) (r : Reservation) → IsLaid l → record_at l id ≡ Some r → IsPlaced (length l.records) r.frame r
placed_own l id r laid is = let placed = laid.placed id r is in subst (λ k. IsPlaced (length l.records) k r) (sym placed.named) placed

-- the record at this frame is the i-th part, which has a used place
pub record IsPartAt (k : ℕ) (l : Layout) (r : Reservation) (j i : ℕ) : Type 0 where
  pub below : i < part_count k r
  pub at : j ≡ (part_at k r i).frame
  pub filled : is_empty_at k (is_used l.used) r i ≡ false

module _ (k : ℕ) (l new : Layout) (r : Reservation) (laid : IsLaid l) (is : record_at l r.frame ≡ Some r) (split : IsSplit k l new r) where
  -- its frames and pages are of no other one
  pub region : IsRegion l r r.frame
  region = IsRegion-own l r.frame r laid is

  -- a record beside the reservation is at no part's frame
  pub beside_parts : (j : ℕ) (q : Reservation) → j ≢ r.frame → record_at l j ≡ Some q → (i : ℕ) → i < part_count k r
      → j ≡ (part_at k r i).frame → ⊥
  beside_parts j q other stands i one at =
      let own = laid.placed j q stands in
      let ends = part_ends k i r split.small one in
      let in_r = has_frame_from j r (omega (arith, at)) (omega (arith, at, ends, eight_pos k)) in
      let in_q = has_frame_from j q (omega (arith, own.named)) (omega (arith, own.named, eight_pos q.size)) in
      other (region.alone j j in_r (ap (has_frame j) stands ∙ in_q))

  -- it still stands
  pub stands_still : (j : ℕ) (q : Reservation) → j ≢ r.frame → record_at l j ≡ Some q → record_at new j ≡ Some q
  stands_still j q other stands = split.others j (beside_parts j q other stands) ∙ stands

  -- and so does each part with a used place
  pub part_stands : (i : ℕ) → i < part_count k r → is_empty_at k (is_used l.used) r i ≡ false
      → record_at new (part_at k r i).frame ≡ Some (part_at k r i)
  part_stands i one filled = split.parts i one ∙ cond-false _ _ _ filled

  -- a record that stands then stood before and isn't the reservation, or is a part with a used place
  pub who_stands : (j : ℕ) (q : Reservation) → record_at new j ≡ Some q
      → ((j ≢ r.frame) × (record_at l j ≡ Some q)) ⊎ ((i : ℕ) × IsPartAt k l r j i × (part_at k r i ≡ q))
  who_stands j q stands = elim (find_part k r (part_count k r) j) [
    | inl at ↦ elim (cases_Bool (is_empty_at k (is_used l.used) r at.0)) [
      | inl empty ↦
          let none : record_at new j ≡ None = ap (record_at new) at.2 ∙ split.parts at.0 at.1 ∙ cond-true _ _ _ empty in
          absurd (none-some q (sym none ∙ stands))
      | inr filled ↦ inr (
        at.0,
        record { below = at.1; at = at.2; filled = filled },
        same_Some _ q (sym (ap (record_at new) at.2 ∙ part_stands at.0 at.1 filled) ∙ stands),
      )
    ]
    | inr none ↦ inl (λ same. none 0 (eight_pos (r.size - k)) (omega (arith, same)), sym (split.others j none) ∙ stands)
  ]

  -- a page of a part is a page of the reservation
  pub whole_covers : (s p : ℕ) (q : Reservation) (i : ℕ) → i < part_count k r → part_at k r i ≡ q → covers s p q ≡ true
      → covers s p r ≡ true
  whole_covers s p q i one same has = covers_whole k s p i r split.small one (ap (covers s p) same ∙ has)

  -- a frame of the reservation is one of a part then
  pub part_holds : (f j : ℕ) → has_frame f (Some r) ≡ true → has_frame f (record_at new j) ≡ true
      → (i : ℕ) × IsPartAt k l r j i × (has_frame f (Some (part_at k r i)) ≡ true)
  part_holds f j inside has =
      let w = holder f (record_at new j) has in
      elim (who_stands j w.0 w.1) [
        | inl still ↦ absurd (still.0 (region.alone f j inside (ap (has_frame f) still.1 ∙ w.2)))
        | inr part ↦ (part.0, part.1, ap (λ q. has_frame f (Some q)) part.2 ∙ w.2)
      ]

  -- and a page of it is one of a part
  pub part_has_page : (j s p : ℕ) (q : Reservation) → covers s p r ≡ true → record_at new j ≡ Some q → covers s p q ≡ true
      → (i : ℕ) × IsPartAt k l r j i × (part_at k r i ≡ q) × (covers s p (part_at k r i) ≡ true)
  part_has_page j s p q inside stands has = elim (who_stands j q stands) [
    | inl still ↦ absurd (still.0 (region.apart s p j q still.1 has inside))
    | inr part ↦ (part.0, part.1, part.2, ap (covers s p) part.2 ∙ has)
  ]

  -- a used frame of the reservation is one of a part that stands
  pub used_stands : (f : ℕ) → has_frame f (Some r) ≡ true → is_used l.used f ≡ true
      → (i : ℕ) × (has_frame f (Some (part_at k r i)) ≡ true) × (record_at new (part_at k r i).frame ≡ Some (part_at k r i))
  used_stands f has used =
      let part = which_part k r split.small f has in
      (part.0, part.2, split.parts part.0 part.1 ∙ used_part k r (is_used l.used) f part.0 used part.2)

  -- a part that stands came in its place, with a used one
  pub part_came : (j i : ℕ) → IsPartAt k l r j i → CameIn l new r j (part_at k r i)
  part_came j i part = record {
    placed = subst (λ n. IsPlaced (length l.records) n (part_at k r i)) (sym part.at)
        (part_at-placed (length l.records) k i r (placed_own l r.frame r laid is) split.small part.below);
    frames = part_in_whole k r split.small i part.below;
    pages = λ s p. covers_whole k s p i r split.small part.below;
    some_used =
        let some = some_used_in (is_used l.used) (part_at k r i).frame (8 ^ k) part.filled in
        (some.0, has_frame_from some.0 (part_at k r i) some.1 some.2, ap (λ u. is_used u some.0) split.used ∙ some.3);
  }

  -- the reservation gave way to its parts
  pub Replaces-split : Replaces l new r r.frame
  Replaces-split = record {
    region = region;
    records_long = split.records_long;
    free_long = split.free_long;
    used_long = ap length split.used;
    who = λ j q stands. elim (who_stands j q stands) [
      | inl still ↦ inl still
      | inr part ↦
          inr (subst (CameIn l new r j) part.2 (part_came j part.0 part.1))
    ];
    stays = stands_still;
    free = λ f out. both_ways _ _
        (λ now. elim (split.free_cases f now) [
          | inl was ↦ was
          | inr emptied ↦
              absurd (false≢true (sym out ∙ part_in_whole k r split.small emptied.part emptied.below f emptied.has))
        ])
        (split.free_before f);
    used = λ f out. ap (λ u. is_used u f) split.used;
    one_frame = λ f j m inside a b.
        let x = part_holds f j inside a in
        let y = part_holds f m inside b in
        x.1.at ∙ ap (λ n. (part_at k r n).frame) (same_part k r f x.0 y.0 x.2 y.2) ∙ sym y.1.at;
    not_free = λ f j inside free has. elim (split.free_cases f free) [
      | inl was ↦ laid.not_free f r.frame was (ap (has_frame f) is ∙ inside)
      | inr emptied ↦
          let x = part_holds f j inside has in
          false≢true (sym x.1.filled ∙ ap (is_empty_at k (is_used l.used) r) (same_part k r f x.0 emptied.part x.2 emptied.has)
          ∙ emptied.empty)
    ];
    places = λ f inside used.
        let part = used_stands f inside (sym (ap (λ u. is_used u f) split.used) ∙ used) in
        ((part_at k r part.0).frame, ap (has_frame f) part.2 ∙ part.1);
    one_page = λ j m s p q t stands also has both inside.
        let x = part_has_page j s p q inside stands has in
        let y = part_has_page m s p t inside also both in
        x.1.at ∙ ap (λ n. (part_at k r n).frame) (one_part_covers k s p x.0 y.0 r x.3 y.3) ∙ sym y.1.at;
  }

  -- the new layout is sound
  pub IsLaid-split : IsLaid new
  IsLaid-split = IsLaid-replaced l new r r.frame laid Replaces-split

  -- the same frames are in it
  pub within_split : (f : ℕ) → IsIn new f ↔ IsIn l f
  within_split f = elim (cases_Bool (has_frame f (Some r))) [
    | inr out ↦ IsIn-beside l new r r.frame laid Replaces-split f out
    | inl inside ↦ (
      λ _. inr (r.frame, ap (has_frame f) is ∙ inside),
      λ _. let part = which_part k r split.small f inside in
          elim (cases_Bool (is_empty_at k (is_used l.used) r part.0)) [
            | inl empty ↦ inl (split.free_part part.0 f part.1 empty part.2)
            | inr filled ↦ inr ((part_at k r part.0).frame, ap (has_frame f) (part_stands part.0 part.1 filled) ∙ part.2)
          ],
    )
  ]

  -- and every page keeps its place
  pub pages_split : (s p : ℕ) → frame_in new s p ≡ frame_in l s p
  pages_split s p = elim (cases_Bool (covers s p r)) [
    | inr out ↦ frame_in-beside l new r r.frame laid Replaces-split s p out
    | inl has ↦
        same_option (frame_in new s p) (frame_in l s p)
        (λ f found.
        let place = frame_in-found new s p f found in
        let part = part_has_page place.id s p place.reservation has place.is place.covers_page in
        frame_in-from l s p f laid (record {
          id = r.frame;
          reservation = r;
          is = is;
          covers_page = has;
          frame = place.frame ∙ ap (frame_for p) (sym part.2) ∙ frame_for_part k s p part.0 r part.3;
          used = sym (ap (λ u. is_used u f) split.used) ∙ place.used;
        }))
        (λ f found.
        let place = frame_in-found l s p f found in
        let same = region.apart s p place.id place.reservation place.is place.covers_page has in
        let at : f ≡ frame_for p r = place.frame ∙ ap (frame_for p) (same_Some place.reservation r
        (sym place.is ∙ ap (record_at l) same ∙ is)) in
        let part = used_stands (frame_for p r) (has_frame_for s p r has) (sym (ap (is_used l.used) at) ∙ place.used) in
        let part_has = part_covers k s p part.0 r has part.1 in
        frame_in-from new s p f IsLaid-split (record {
          id = (part_at k r part.0).frame;
          reservation = part_at k r part.0;
          is = part.2;
          covers_page = part_has;
          frame = at ∙ sym (frame_for_part k s p part.0 r part_has);
          used = ap (λ u. is_used u f) split.used ∙ place.used;
        }))
  ]

  -- no reservation has a page that none had before
  pub covered_split : (j s p : ℕ) (q : Reservation) → record_at new j ≡ Some q → covers s p q ≡ true
      → (other : ℕ) × (t : Reservation) × (record_at l other ≡ Some t) × (covers s p t ≡ true)
  covered_split j s p q stands has = elim (who_stands j q stands) [
    | inl still ↦ (j, q, still.1, has)
    | inr part ↦ (r.frame, r, is, whole_covers s p q part.0 part.1.below part.2 has)
  ]

  -- so whatever a split leaves settles
  pub Settles-from : Settles l new
  Settles-from = record {
    laid = IsLaid-split;
    long = split.free_long;
    used = split.used;
    sizes = split.sizes;
    within = within_split;
    pages = pages_split;
    covered = covered_split;
  }

-- splitting a reservation keeps all this
pub Settles-parted : (k : ℕ) (l : Layout) (id : ℕ) (r : Reservation) → IsLaid l → record_at l id ≡ Some r → k ≤ r.size
    → Settles l (parted k r l)
Settles-parted k l id r laid is le =
    let own = ap (record_at l) (laid.placed id r is).named ∙ is in
    Settles-from k l (parted k r l) r laid own (IsSplit-parted k l r laid.records_long (placed_own l id r laid is) le)
