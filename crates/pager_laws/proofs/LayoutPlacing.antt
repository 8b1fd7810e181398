-- What placing a page keeps, and when a page has a place.
use Rattle.std.proofs.Common.{◌≡◌, ℕ, ◌<◌, ◌≤◌, ◌+◌, ◌^◌, ◌↔◌, ◌⊎◌, Bool, true, false, cond, eqb, ◌&&◌, List, length, get_or, set, Option, Some, None, option_map, refl, sym, ap, subst, ◌∙◌, inl, inr, arith}
use Rattle.std.proofs.Math.Nat.{mul-mod_left}
use Rattle.std.proofs.lemmas.Bool.{cases_lt, false≢true, false_from_ne_true}
use Rattle.std.proofs.lemmas.Option.{none-some, same_Some}
use Rattle.pager_model.proofs.FreeRanges.{length-with_range, with_range_inside, with_range_outside}
use Rattle.pager_model.proofs.FreeRuns.{IsExtent-choice, run_free-choice, choice_within, run_free_frames}
use Rattle.pager_model.specs.declared.entry.Want.{Want}
use Rattle.pager_model.specs.declared.reservation.Reservation.{Reservation}
use Rattle.pager_model.specs.Agreement.{has_frame}
use Rattle.pager_model.specs.FreeBlocks.{choice, with_range}
use Rattle.pager_model.specs.Layouts.{Layout, FreeExtent, Placing, covers, covering, frame_for, used_in, frame_in, stamped, populated, new_reservation, reserved, preferred_in, largest_extent, placing_in, placing, is_full, record_at, is_free}
use Rattle.pager_model.specs.Records.{is_used}
use Rattle.pager_model.proofs.ExtentLemmas.{eight_pos}
use Rattle.pager_model.proofs.RecordFrames.{has_frame_bounds, has_frame_from, no_frame}
use Rattle.pager_laws.specs.Laid.{IsLaid, IsIn}
use Rattle.pager_laws.proofs.PagePlaces.{CoversPageOf-covers, covers-CoversPageOf, has_frame_for, covering-found, used_in-unused, frame_in-is, frame_in-none}
use Rattle.pager_laws.proofs.FullLayout.{EachFull-from, is_full-from, EachFull-none, none-choice, to_break-full, used-full}
use Rattle.pager_laws.proofs.FoundExtents.{IsFound-largest_extent, largest_extent-none, none-largest_extent}
use Rattle.pager_laws.proofs.PreferredExtent.{Misses, Misses-preferred, Misses-smaller, extent_low, extent_high}
use Rattle.pager_laws.proofs.LayoutWithRecord.{put, MayPut, IsLaid-put, IsIn-put, frame_in-put}
use Rattle.pager_laws.proofs.LayoutSplit.{Settles}

-- The page of the space has this frame now, which was no used place; the same frames are in the layout, and every other page
-- keeps its place.
pub record WasPlaced (old new : Layout) (space page frame : ℕ) : Type 0 where
  pub laid : IsLaid new
  pub long : length new.free ≡ length old.free
  pub used : new.used ≡ set old.used frame true
  pub was_unused : is_used old.used frame ≡ false
  pub known : frame < length old.free
  pub was_in : IsIn old frame
  pub within : (f : ℕ) → IsIn new f ↔ IsIn old f
  pub pages : (s p : ℕ) → frame_in new s p ≡ cond (eqb space s && eqb p page) (Some frame) (frame_in old s p)

-- a reservation that may be put into the layout places the page
WasPlaced-put : (l : Layout) (space page : ℕ) (q : Reservation) (free : List Bool) → MayPut l space page q free
    → WasPlaced l (put l q (frame_for page q) free) space page (frame_for page q)
WasPlaced-put l space page q free may = record {
  laid = IsLaid-put l space page q free may;
  long = may.long;
  used = refl;
  was_unused = may.unused;
  known =
      let bounds = has_frame_bounds (frame_for page q) q (has_frame_for space page q may.has) in
      omega (arith, bounds.1, may.placed.within, may.laid.records_long);
  was_in = may.was_in (frame_for page q) (has_frame_for space page q may.has);
  within = IsIn-put l space page q free may;
  pages = frame_in-put l space page q free may;
}

-- the reservation that has the page may stand in its place with another stamp
pub MayPut-stamped : (l : Layout) (stamp space page id : ℕ) (r : Reservation) → IsLaid l → record_at l id ≡ Some r
    → covers space page r ≡ true → frame_in l space page ≡ None → MayPut l space page (stamped r stamp) l.free
MayPut-stamped l stamp space page id r laid is has none =
    let placed = laid.placed id r is in
    let named = placed.named in
    let at : record_at l r.frame ≡ Some r = ap (record_at l) named ∙ is in
    record {
      laid = laid;
      placed = record { named = refl; aligned = placed.aligned; within = placed.within; pages_aligned = placed.pages_aligned };
      known = omega (arith, placed.within, eight_pos r.size);
      has = has;
      unused = frame_in-none l space page id r laid none is has;
      long = refl;
      alone = λ frame other mine had. laid.apart frame other r.frame had (ap (has_frame frame) at ∙ mine);
      was_in = λ frame mine. inr (r.frame, ap (has_frame frame) at ∙ mine);
      taken = λ frame free. (free, λ mine. laid.not_free frame r.frame free (ap (has_frame frame) at ∙ mine));
      left = λ frame free. inl free;
      frames = λ frame had. sym (ap (has_frame frame) at) ∙ had;
      pages = λ s p q there covered. ap (covers s p) (same_Some r q (sym at ∙ there)) ∙ covered;
      apart = λ s p other q there covered mine. laid.one_cover other r.frame s p q r there at covered mine;
      same = λ s p mine. frame_in-is l s p r.frame r laid at mine;
    }

-- The reservation that a choice of free frames makes with an extent of pages that no other one has, may be put into the layout.
pub record IsChosen (l : Layout) (space page : ℕ) (found : FreeExtent) : Type 0 where
  pub laid : IsLaid l
  pub is : choice l.free found.size ≡ Some found.first
  pub misses : Misses l space page found.size

module _ (l : Layout) (stamp space page : ℕ) (found : FreeExtent) (chosen : IsChosen l space page found) where
  abbrev made : Reservation
  made = new_reservation stamp space page found

  abbrev freed : List Bool
  freed = with_range l.free found.first (8 ^ found.size) false

  ends_within : found.first + 8 ^ found.size ≤ length l.free
  ends_within = choice_within l.free found.size found.first chosen.is

  was_free : (frame : ℕ) → has_frame frame (Some made) ≡ true → is_free l frame ≡ true
  was_free frame has =
      let bounds = has_frame_bounds frame made has in
      run_free_frames l.free found.first (8 ^ found.size) (run_free-choice l.free found.size found.first chosen.is) frame bounds.0 bounds.1

  -- a frame of the extent is of no reservation, and no used place
  no_one : (frame id : ℕ) → has_frame frame (Some made) ≡ true → has_frame frame (record_at l id) ≡ true → ⊥
  no_one frame id mine had = chosen.laid.not_free frame id (was_free frame mine) had

  idle : (frame : ℕ) → has_frame frame (Some made) ≡ true → is_used l.used frame ≡ false
  idle frame mine = false_from_ne_true _ (λ used. let held = chosen.laid.places frame used in no_one frame held.0 mine held.1)

  vacant_at : (o : Option Reservation) → record_at l found.first ≡ o → record_at l found.first ≡ None
  vacant_at None here = here
  vacant_at (Some r) here =
      let placed = chosen.laid.placed found.first r here in
      let had = has_frame_from found.first r (omega (arith, placed.named)) (omega (arith, placed.named, eight_pos r.size)) in
      let mine = has_frame_from found.first made (omega arith) (omega (arith, eight_pos found.size)) in
      absurd (no_one found.first found.first mine (ap (has_frame found.first) here ∙ had))

  vacant : record_at l found.first ≡ None
  vacant = vacant_at (record_at l found.first) refl

  -- a page of the extent is in no reservation
  not_had : (s p id : ℕ) (r : Reservation) → record_at l id ≡ Some r → covers s p r ≡ true → covers s p made ≡ true → ⊥
  not_had s p id r here has mine =
      let at = CoversPageOf-covers s p made mine in
      chosen.misses id p r here (ap (λ n. covers n p r) at.space_is ∙ has) at.low at.high

  nowhere : (s p : ℕ) → covers s p made ≡ true → covering s p l.records ≡ None
  nowhere s p mine =
      elim (covering s p l.records) as (λ o. covering s p l.records ≡ o → o ≡ None) [
        | None ↦ λ _. refl
        | Some r ↦ λ here. let w = covering-found s p l.records r here in absurd (not_had s p w.0 r w.2 w.3 mine)
      ] refl

  now_free : (frame : ℕ) → get_or freed frame false ≡ true → (is_free l frame ≡ true) × (has_frame frame (Some made) ≡ true → ⊥)
  now_free frame free =
      let out : has_frame frame (Some made) ≡ true → ⊥ =
      λ mine.
      let bounds = has_frame_bounds frame made mine in
      false≢true (sym (with_range_inside l.free found.first (8 ^ found.size) false ends_within frame bounds.0 bounds.1) ∙ free) in (
        elim (cases_lt frame found.first) [
          | inl before ↦ sym (with_range_outside l.free found.first (8 ^ found.size) false ends_within frame (inl before)) ∙ free
          | inr low ↦ elim (cases_lt frame (found.first + 8 ^ found.size)) [
            | inl high ↦ absurd (out (has_frame_from frame made low high))
            | inr behind ↦ sym (with_range_outside l.free found.first (8 ^ found.size) false ends_within frame (inr behind)) ∙ free
          ]
        ],
        out,
      )

  still_free : (frame : ℕ) → is_free l frame ≡ true → (get_or freed frame false ≡ true) ⊎ (has_frame frame (Some made) ≡ true)
  still_free frame free = elim (cases_lt frame found.first) [
    | inl before ↦ inl (with_range_outside l.free found.first (8 ^ found.size) false ends_within frame (inl before) ∙ free)
    | inr low ↦ elim (cases_lt frame (found.first + 8 ^ found.size)) [
      | inl high ↦ inr (has_frame_from frame made low high)
      | inr behind ↦ inl (with_range_outside l.free found.first (8 ^ found.size) false ends_within frame (inr behind) ∙ free)
    ]
  ]

  covers_page : covers space page made ≡ true
  covers_page = covers-CoversPageOf space page made
      (record { space_is = refl; low = extent_low found.size page; high = extent_high found.size page })

  MayPut-reserved : MayPut l space page made freed
  MayPut-reserved =
      let aligned = IsExtent-choice l.free found.size found.first chosen.is in
      record {
        laid = chosen.laid;
        placed = record {
          named = refl;
          aligned = aligned;
          within = omega (arith, ends_within, chosen.laid.records_long);
          pages_aligned = (aligned.0, mul-mod_left _ _);
        };
        known = omega (arith, ends_within, chosen.laid.records_long, eight_pos found.size);
        has = covers_page;
        unused = idle (frame_for page made) (has_frame_for space page made covers_page);
        long = length-with_range l.free found.first (8 ^ found.size) false ends_within;
        alone = λ frame id mine had. absurd (no_one frame id mine had);
        was_in = λ frame mine. inl (was_free frame mine);
        taken = now_free;
        left = still_free;
        frames = λ frame had. absurd (no_frame frame _ vacant had);
        pages = λ s p r here has. absurd (none-some r (sym vacant ∙ here));
        apart = λ s p id r here has mine. absurd (not_had s p id r here has mine);
        same = λ s p mine. ap (used_in l.used p) (nowhere s p mine) ∙ sym
            (used_in-unused l p made (idle (frame_for p made) (has_frame_for s p made mine)));
      }

-- a place in a layout that differs by splittings alone is a place
WasPlaced-settled : (l from new : Layout) (space page frame : ℕ) → Settles l from → WasPlaced from new space page frame
    → WasPlaced l new space page frame
WasPlaced-settled l from new space page frame settles places = record {
  laid = places.laid;
  long = places.long ∙ settles.long;
  used = places.used ∙ ap (λ u. set u frame true) settles.used;
  was_unused = sym (ap (λ u. is_used u frame) settles.used) ∙ places.was_unused;
  known = omega (arith, places.known, settles.long);
  was_in = (settles.within frame).0 places.was_in;
  within = λ f. (λ now. (settles.within f).0 ((places.within f).0 now), λ was. (places.within f).1 ((settles.within f).1 was));
  pages = λ s p. places.pages s p ∙ ap (λ o. cond (eqb space s && eqb p page) (Some frame) o) (settles.pages s p);
}

-- splitting makes no reservation meet an extent that none met
Misses-settled : (l from : Layout) (space page size : ℕ) → Settles l from → Misses l space page size → Misses from space page size
Misses-settled l from space page size settles misses id p r is has low high =
    let was = settles.covered id space p r is has in
    misses was.0 p was.1 was.2 was.3 low high

-- an extent that is found places the page
WasPlaced-reserved : (l : Layout) (stamp space page : ℕ) (want : Want) (found : FreeExtent) → IsLaid l → covering space page l.records ≡ None
    → largest_extent (preferred_in l space page want) l ≡ Some found
    → WasPlaced l (reserved stamp space page found).layout space page (reserved stamp space page found).frame
WasPlaced-reserved l stamp space page want found laid none is =
    let size = preferred_in l space page want in
    let at = IsFound-largest_extent l size found laid is in
    let misses = Misses-smaller l space page found.size size at.small (Misses-preferred l space page want none) in
    let may = MayPut-reserved found.layout stamp space page found
    (record { laid = at.settles.laid; is = at.is; misses = Misses-settled l found.layout space page found.size at.settles misses }) in
    WasPlaced-settled l found.layout _ space page _ at.settles (WasPlaced-put found.layout space page _ _ may)

pub WasPlaced-placing : (l : Layout) (stamp space page : ℕ) (want : Want) (place : Placing) → IsLaid l → frame_in l space page ≡ None
    → placing stamp space page want l ≡ Some place → WasPlaced l place.layout space page place.frame
WasPlaced-placing l stamp space page want place laid none is =
    elim (covering space page l.records) as (λ o. covering space page l.records ≡ o → placing_in stamp space page want l o ≡ Some place
    → WasPlaced l place.layout space page place.frame) [
      | Some r ↦ λ here h.
          let w = covering-found space page l.records r here in
          subst (λ q. WasPlaced l q.layout space page q.frame) (same_Some (populated stamp page l r) place h)
          (WasPlaced-put l space page (stamped r stamp) l.free (MayPut-stamped l stamp space page w.0 r laid w.2 w.3 none))
      | None ↦ λ nowhere h.
          elim (largest_extent (preferred_in l space page want) l) as
          (λ o. largest_extent (preferred_in l space page want) l ≡ o → option_map (reserved stamp space page) o ≡ Some place
          → WasPlaced l place.layout space page place.frame) [
            | None ↦ λ _ e. absurd (none-some place e)
            | Some found ↦
                λ found_is e. subst (λ q. WasPlaced l q.layout space page q.frame) (same_Some (reserved stamp space page found) place e)
                (WasPlaced-reserved l stamp space page want found laid nowhere found_is)
          ] refl h
    ] refl is

-- there is no place exactly where no frame is free and every reservation is full
pub full-placing : (l : Layout) (stamp space page : ℕ) (want : Want) → IsLaid l → frame_in l space page ≡ None
    → placing stamp space page want l ≡ None → is_full l ≡ true
full-placing l stamp space page want laid none is =
    elim (covering space page l.records) as (λ o. placing_in stamp space page want l o ≡ None → is_full l ≡ true) [
      | Some r ↦ λ h. absurd (none-some (populated stamp page l r) (sym h))
      | None ↦ λ h.
          elim (largest_extent (preferred_in l space page want) l) as
          (λ o. largest_extent (preferred_in l space page want) l ≡ o → option_map (reserved stamp space page) o ≡ None
          → is_full l ≡ true) [
            | None ↦ λ nothing _.
                let at = largest_extent-none l (preferred_in l space page want) laid nothing in
                is_full-from l (EachFull-none l laid at.0 at.1)
            | Some found ↦ λ _ e. absurd (none-some (reserved stamp space page found) (sym e))
          ] refl h
    ] is

pub placing-full : (l : Layout) (stamp space page : ℕ) (want : Want) → IsLaid l → frame_in l space page ≡ None → is_full l ≡ true
    → placing stamp space page want l ≡ None
placing-full l stamp space page want laid none full =
    let all = EachFull-from l full in
    elim (covering space page l.records) as (λ o. covering space page l.records ≡ o → placing_in stamp space page want l o ≡ None) [
      | Some r ↦ λ here.
          let w = covering-found space page l.records r here in
          let used = used-full l (frame_for page r) w.0 r all w.2 (has_frame_for space page r w.3) in
          absurd (false≢true (sym (frame_in-none l space page w.0 r laid none w.2 w.3) ∙ used))
      | None ↦ λ _. ap (option_map (reserved stamp space page)) (none-largest_extent l (preferred_in l space page want)
          (λ k. none-choice l.free k all.taken) (λ k. to_break-full l k laid all))
    ] refl
