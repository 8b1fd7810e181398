-- What the calls of a layout keep: it stays sound, and its lists are those of its reservations.
use Rattle.std.proofs.Common.{◌≡◌, ℕ, suc, ◌-◌, ◌^◌, ◌<◌, ◌≤◌, inl, inr, Bool, true, false, List, length, get_or, set, Option, Some, None, refl, sym, ap, subst, ◌∙◌, arith}
use Rattle.std.specs.Option.{IfNone, IsSome, IsSomeAnd, option_map_or}
use Rattle.std.proofs.lemmas.Bool.{cases_lt, cases_Bool, cond-true, cond-false, lt-ltb, le-ltb, false≢true}
use Rattle.std.proofs.lemmas.List.{get_or-set_other, length-set, set-set}
use Rattle.std.proofs.lemmas.Option.{none-some, same_Some}
use Rattle.pager_model.specs.declared.reservation.Reservation.{Reservation}
use Rattle.pager_model.specs.Ages.{Lists}
use Rattle.pager_model.specs.Agreement.{has_frame}
use Rattle.pager_model.specs.Layouts.{Layout, frame_for, stamped, populated, split_layout, part_with, narrows_to, narrow_layout, split_on, record_at, is_free}
use Rattle.pager_model.specs.Records.{Records, is_used, part_size, part_count, part_at, split_records}
use Rattle.pager_model.specs.SizeSets.{SizeSet}
use Rattle.reservation_lists.specs.Kept.{KeptLists, is_listed, without_frame}
use Rattle.reservations.specs.Kept.{CoversPage}
use Rattle.pager_model.specs.RecordPlaces.{IsPlaced, ArePlaced}
use Rattle.pager_laws.proofs.PartsAt.{part_ends, used_part}
use Rattle.pager_model.proofs.ExtentLemmas.{eight_pos, part_inside}
use Rattle.pager_model.proofs.Lists.{get_or_within, get_or-set_default}
use Rattle.reservations.proofs.FrameIds.{ArePlaced-set}
use Rattle.pager_model.proofs.RecordFrames.{has_frame_bounds, has_frame_from}
use Rattle.reservations.proofs.SplitLemmas.{split_records-open}
use Rattle.pager_laws.specs.Laid.{IsLaid}
use Rattle.pager_laws.specs.Listed.{AreListed}
use Rattle.frame_pool.specs.Listed.{IsInOrder, MayBegin, WasSplit}
use Rattle.frame_pool.specs.Mapped.{IsMapped}
use Rattle.population_map.specs.Populations.{Populations}
use Rattle.pager_laws.proofs.LayoutBreak.{record_at-part, part_with-has, part_size-most, part_size-less, Settles-split, Falls-narrows, split_on-enough}
use Rattle.pager_laws.proofs.LayoutRelease.{not_in_rest}
use Rattle.pager_laws.proofs.AgeLists.{list_of-used}
use Rattle.frame_pool.proofs.ListsByFrame.{found_record_and}
use Rattle.frame_pool.proofs.UnlistedFrames.{AreListed-without_frame, is_listed-full, yield_in-alone}
use Rattle.pager_laws.proofs.PagePlaces.{covers-CoversPageOf, frame_in-is, used_in-unused}
use Rattle.pager_laws.proofs.LayoutPlacing.{MayPut-stamped}
use Rattle.pager_laws.proofs.LayoutWithRecord.{IsLaid-put}
use Rattle.pager_laws.proofs.SplitFrames.{free_up_to, free_up_to-cases}

-- Which reservation has a frame.

-- a used frame is one of a reservation
pub reservation_is : (l : Layout) (frame : ℕ) (o : Option Reservation) → IsLaid l → is_used l.used frame ≡ true
    → IfNone o ((id : ℕ) → has_frame frame (record_at l id) ≡ false) → IsSome o
reservation_is l frame None laid used none =
    let place = laid.places frame used in
    absurd (false≢true (sym (none place.0) ∙ place.1))
reservation_is l frame (Some r) laid used none = refl

-- the frame that a reservation joins to a page of it is one of its frames
pub place_has : (r : Reservation) (page : ℕ) → CoversPage r page → has_frame (frame_for page r) (Some r) ≡ true
place_has r page has = has_frame_from (frame_for page r) r (omega arith) (omega (arith, has.0, has.1))

-- Populating.

-- a page's place in a reservation is used from then on, and the reservation is younger
pub IsLaid-populated : (l : Layout) (r : Reservation) (stamp page : ℕ) → IsLaid l → record_at l r.frame ≡ Some r → CoversPage r page
    → is_used l.used (frame_for page r) ≡ false → IsLaid (populated stamp page l r).layout
IsLaid-populated l r stamp page laid is has unused =
    let covers_page = covers-CoversPageOf r.space page r (record { space_is = refl; low = has.0; high = has.1 }) in
    let none = frame_in-is l r.space page r.frame r laid is covers_page ∙ used_in-unused l page r unused in
    IsLaid-put l r.space page (stamped r stamp) l.free (MayPut-stamped l stamp r.space page r.frame r laid is covers_page none)

-- Lists, as a frame becomes used or unused.

-- lists stay those of reservations that don't have the frame
pub AreListed-used : (z : SizeSet) (lists : Lists) (used : List Bool) (records : List (Option Reservation)) (f : ℕ) (b : Bool)
    → AreListed z lists used records → ((id : ℕ) → has_frame f (get_or records id None) ≡ true → ⊥)
    → AreListed z lists (set used f b) records
AreListed-used z lists used records f b are out =
    let same : (g id : ℕ) → has_frame g (get_or records id None) ≡ true → is_used (set used f b) g ≡ is_used used g =
    λ g id has. get_or-set_other used f g b false (λ here. out id (ap (λ h. has_frame h (get_or records id None)) (sym here) ∙ has)) in
    λ k small. are k small ∙ sym (list_of-used z used (set used f b) k records same)

-- A layout in which this reservation, or none, stands in the place of another one, of which a frame became used or unused.
pub record Renews (l : Layout) (id : ℕ) (r : Reservation) (o : Option Reservation) (new : Layout) : Type 0 where
  pub frame : ℕ
  pub has : has_frame frame (Some r) ≡ true
  pub becomes : Bool
  pub laid : IsLaid new
  pub sizes : new.sizes ≡ l.sizes
  pub used : new.used ≡ set l.used frame becomes
  pub records : new.records ≡ set l.records id o

-- A reservation is taken out of the records.
module _ (l : Layout) (id : ℕ) (r : Reservation) (laid : IsLaid l) (is : record_at l id ≡ Some r) where
  -- none stands there
  none_there : get_or (set l.records id None) id None ≡ None
  none_there = get_or-set_default l.records id id None refl

  -- the others are in their places
  pub rest_placed : ArePlaced (set l.records id None)
  rest_placed = ArePlaced-set l.records id None laid.placed (get_or_within l.records id r is) (λ q e. absurd (none-some q e))

  -- the lists know its first frame
  pub known_to_lists : (kept : KeptLists) (map : Populations) → IsInOrder l kept map → id < kept.frames
  known_to_lists kept map order = omega (arith, get_or_within l.records id r is, laid.records_long, order.known)

  -- the lists without it
  abbrev rest_of : KeptLists → KeptLists
  rest_of kept = record kept { lists = without_frame id kept.lists }

  -- are those of the others, also as a frame of it becomes used or unused
  rest_listed : (lists : Lists) (f : ℕ) (b : Bool) → has_frame f (Some r) ≡ true → AreListed l.sizes lists l.used l.records
      → AreListed l.sizes (without_frame id lists) (set l.used f b) (set l.records id None)
  rest_listed lists f b mine are =
      AreListed-used l.sizes (without_frame id lists) l.used (set l.records id None) f b
      (AreListed-without_frame l.sizes lists l.used l.records id r are laid.placed is) (λ j has. not_in_rest l id r laid is f j mine has)

  -- and from there it was split
  pub WasSplit-from : (kept : KeptLists) (after : Records) → kept.frames ≡ length l.records → AreListed l.sizes kept.lists l.used l.records
      → after.records ≡ split_records (is_used l.used) r l.records → after.used ≡ l.used → WasSplit l.sizes (rest_of kept) after r
  WasSplit-from kept after room are split used =
      let long = length-set l.records id None in
      let placed = laid.placed id r is in
      record {
        records = set l.records id None;
        placed = subst (λ n. IsPlaced n r.frame r) (sym long) (subst (λ k. IsPlaced (length l.records) k r) (sym placed.named) placed);
        others_placed = rest_placed;
        vacant = λ f j mine. elim (cases_Bool (has_frame f (get_or (set l.records id None) j None))) [
          | inl has ↦ absurd (not_in_rest l id r laid is f j mine has)
          | inr none ↦ none
        ];
        room = room ∙ sym long;
        split =
            split ∙ sym (split_records-open (is_used l.used) r id l.records placed.named)
            ∙ ap (λ u. split_records (is_used u) r (set l.records id None)) (sym used);
        listed = subst (λ u. AreListed l.sizes (without_frame id kept.lists) u (set l.records id None)) (sym used)
            (AreListed-without_frame l.sizes kept.lists l.used l.records id r are laid.placed is);
      }

  -- no frame of it is free
  pub not_free_there : (f : ℕ) → has_frame f (Some r) ≡ true → is_free l f ≡ false
  not_free_there f mine = elim (cases_Bool (is_free l f)) [
    | inl free ↦ absurd (laid.not_free f id free (ap (has_frame f) is ∙ mine))
    | inr taken ↦ taken
  ]

  -- the lists without it are those of the others then
  rest_renewed : (o : Option Reservation) (new : Layout) (kept : KeptLists) → AreListed l.sizes kept.lists l.used l.records
      → Renews l id r o new → AreListed l.sizes (without_frame id kept.lists) new.used (set l.records id None)
  rest_renewed o new kept listed renews = subst (λ u. AreListed l.sizes (without_frame id kept.lists) u (set l.records id None))
      (sym renews.used) (rest_listed kept.lists renews.frame renews.becomes renews.has listed)

  -- It goes back into the lists as another one may stand in its place.
  pub IsInOrder-again : (q : Reservation) (new : Layout) (kept after : KeptLists) (map mapped : Populations) → IsInOrder l kept map
      → Renews l id r (Some q) new → length new.free ≡ after.frames → after.frames ≡ kept.frames
      → ((records : List (Option Reservation)) → MayBegin l.sizes (without_frame id kept.lists) new.used records id
      → AreListed l.sizes after.lists new.used (set records id (Some q)))
      → IsMapped mapped new.records → IsInOrder new after mapped
  IsInOrder-again q new kept after map mapped order renews long room enlists is_mapped =
      let known = get_or_within l.records id r is in
      let rest = rest_renewed (Some q) new kept order.listed renews in
      let again : set (set l.records id None) id (Some q) ≡ new.records =
      set-set l.records id None (Some q) ∙ sym renews.records in
      record {
        known = long;
        few = omega (arith, room, order.few);
        laid = renews.laid;
        listed = subst (λ z. AreListed z after.lists new.used new.records) (sym renews.sizes)
            (subst (AreListed l.sizes after.lists new.used) again (enlists (set l.records id None)
            (record { none = none_there; known = omega (arith, known, length-set l.records id None); listed = rest })));
        mapped = is_mapped;
      }

  -- It goes, and none stands in its place.
  pub IsInOrder-gone : (new : Layout) (kept : KeptLists) (map mapped : Populations) → IsInOrder l kept map → Renews l id r None new
      → length new.free ≡ kept.frames → IsMapped mapped new.records → IsInOrder new (rest_of kept) mapped
  IsInOrder-gone new kept map mapped order renews long is_mapped = record {
    known = long;
    few = order.few;
    laid = renews.laid;
    listed =
        subst (λ z. AreListed z (without_frame id kept.lists) new.used new.records) (sym renews.sizes)
        (subst (AreListed l.sizes (without_frame id kept.lists) new.used) (sym renews.records)
        (rest_renewed None new kept order.listed renews));
    mapped = is_mapped;
  }

  -- it is the only one with a frame of it
  pub same_reservation : (f j : ℕ) (q : Reservation) → has_frame f (Some r) ≡ true → record_at l j ≡ Some q → has_frame f (Some q) ≡ true
      → r ≡ q
  same_reservation f j q mine stands also =
      let here = laid.apart f id j (ap (has_frame f) is ∙ mine) (ap (has_frame f) stands ∙ also) in
      same_Some r q (sym is ∙ ap (record_at l) here ∙ stands)

-- Splitting.

-- a frame of the next part isn't free yet, where none of the whole was
pub free_up_to-later : (k : ℕ) (used : ℕ → Bool) (r : Reservation) (free : List Bool) (n f : ℕ) → k ≤ r.size
    → IsPlaced (length free) r.frame r → n < part_count k r → ((g : ℕ) → has_frame g (Some r) ≡ true → get_or free g false ≡ false)
    → has_frame f (Some (part_at k r n)) ≡ true → get_or (free_up_to n k used r free) f false ≡ false
free_up_to-later k used r free n f le placed below taken has =
    let bounds = has_frame_bounds f (part_at k r n) has in
    elim (cases_Bool (get_or (free_up_to n k used r free) f false)) [
      | inl free_now ↦ elim (free_up_to-cases k used r free le placed.within n f (omega arith) free_now) [
        | inl was ↦
            let mine = has_frame_from f r (omega (arith, bounds.0)) (omega (arith, bounds.1, part_ends k n r le below)) in
            absurd (false≢true (sym (taken f mine) ∙ was))
        | inr emptied ↦
            let earlier = has_frame_bounds f (part_at k r emptied.part) emptied.has in
            absurd (omega (arith, bounds.0, earlier.1, part_inside emptied.part (8 ^ k) n emptied.below))
      ]
      | inr not_yet ↦ not_yet
    ]

-- Narrowing.

-- a reservation of one frame has no other
pub only_frame : (r : Reservation) (frame : ℕ) → r.size ≡ 0 → has_frame frame (Some r) ≡ true → frame ≡ r.frame
only_frame r frame one has =
    let bounds = has_frame_bounds frame r has in
    let width : 8 ^ r.size ≡ 1 = ap (λ k. 8 ^ k) one in
    omega (arith, bounds.0, bounds.1, width)

-- a narrowing begins with a split, and goes on at the part with the frame
narrow_suc : (n frame : ℕ) (r : Reservation) (l : Layout) → r.size ≡ suc n
    → narrow_layout frame r l ≡ narrow_layout frame (part_with (part_size l.sizes r) frame r) (split_layout r l)
narrow_suc n frame r l size =
    let z = l.sizes in
    let k = part_size z r in
    let next = split_layout r l in
    let part = part_with k frame r in
    let narrow : ℕ → Reservation → Layout → Layout = split_on (narrows_to z frame) in
    let step : Option Reservation → Layout = λ o. option_map_or (λ p. narrow n p next) o next in
    let less = part_size-less z r (omega arith) in
    ap (λ k. narrow k r l) size ∙ elim (cases_lt 0 k) [
      | inl more ↦
          ap step (cond-true _ _ _ (lt-ltb 0 k more))
          ∙ split_on-enough (narrows_to z frame) (Falls-narrows z frame) n k part next more (omega arith) (omega arith)
      | inr most ↦
          let last : k ≡ 0 = omega arith in
          ap step (cond-false _ _ _ (le-ltb 0 k most)) ∙ sym (ap (λ m. narrow m part next) last)
    ]

-- the reservation that has the frame after a split is smaller, and narrowing it ends where narrowing the whole does
pub narrow_step : (l : Layout) (frame : ℕ) (r q : Reservation) → IsLaid l → record_at l r.frame ≡ Some r → has_frame frame (Some r) ≡ true
    → is_used l.used frame ≡ true → 0 < r.size → record_at (split_layout r l) q.frame ≡ Some q → has_frame frame (Some q) ≡ true
    → (q.size < r.size) × (narrow_layout frame q (split_layout r l) ≡ narrow_layout frame r l)
narrow_step l frame r q laid is has used splits at holds =
    let z = l.sizes in
    let k = part_size z r in
    let le = part_size-most z r in
    let next = split_layout r l in
    let part = part_with-has k l r.frame frame r le has in
    let mine = part_at k r part.0 in
    let kept = used_part k r (is_used l.used) frame part.0 used part.3 in
    let stands = record_at-part k l r.frame r laid is part.0 le part.1 kept in
    let same = same_reservation next mine.frame mine (Settles-split l r.frame r laid is).laid stands frame q.frame q part.3 at holds in
    subst (λ p. (p.size < r.size) × (narrow_layout frame p next ≡ narrow_layout frame r l)) same
    (part_size-less z r splits, ap (λ p. narrow_layout frame p next) part.2 ∙ sym (narrow_suc (r.size - 1) frame r l (omega arith)))

-- A reservation of one frame begins at the frame.
module _ (l : Layout) (frame : ℕ) (laid : IsLaid l) (alone : IsSomeAnd (record_at l frame) (λ r. r.size ≡ 0)) where
  own : (r : Reservation) × (record_at l frame ≡ Some r) × (r.size ≡ 0)
  own = found_record_and (record_at l frame) (λ r. r.size ≡ 0) alone

  named : own.0.frame ≡ frame
  named = (laid.placed frame own.0 own.1).named

  -- the frame is used
  pub used_alone : is_used l.used frame ≡ true
  used_alone =
      let some = laid.some_used frame own.0 own.1 in
      ap (is_used l.used) (sym named ∙ sym (only_frame own.0 some.0 own.2 some.1)) ∙ some.2

  -- so it stands in no list
  pub unlisted_alone : (kept : KeptLists) (map : Populations) → IsInOrder l kept map → is_listed frame kept.lists ≡ false
  unlisted_alone kept map order =
      is_listed-full l.sizes kept.lists l.used l.records frame own.0 order.listed laid.placed own.1
      (yield_in-alone l.sizes (is_used l.used) own.0 own.2 (ap (is_used l.used) named ∙ used_alone))

  -- and no other reservation has it
  pub same_alone : (q : Reservation) → record_at l q.frame ≡ Some q → has_frame frame (Some q) ≡ true → (q.frame ≡ frame) × (q.size ≡ 0)
  same_alone q stands has =
      let mine = has_frame_from frame own.0 (omega (arith, named)) (omega (arith, named, eight_pos own.0.size)) in
      let same = same_reservation l frame own.0 laid own.1 frame q.frame q mine stands has in
      (ap (λ (r : Reservation). r.frame) (sym same) ∙ named, ap (λ (r : Reservation). r.size) (sym same) ∙ own.2)
