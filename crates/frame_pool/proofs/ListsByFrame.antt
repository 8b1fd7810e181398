-- What putting a reservation into the lists leaves, by the reservation that is found at the frame.
use Rattle.std.proofs.Common.{◌≡◌, ℕ, zero, suc, ◌+◌, ◌-◌, ◌^◌, ◌<◌, ◌≤◌, Bool, false, List, set, get_or, length, Option, Some, None, IsSomeAnd, inl, inr, refl, sym, ap, subst, ◌∙◌, arith}
use Rattle.std.proofs.Math.Numerals.{add-one}
use Rattle.std.proofs.lemmas.Bool.{cases_Bool, cond-true}
use Rattle.std.proofs.lemmas.Option.{none-some}
use Rattle.std.proofs.lemmas.List.{get_or-set_same, set-set, set-get_or}
use Rattle.pager_model.specs.declared.reservation.Reservation.{Reservation}
use Rattle.pager_model.specs.Ages.{Lists, list_at, with_list, with_member}
use Rattle.pager_model.specs.Headline.{member_of}
use Rattle.pager_model.specs.Records.{Records, is_used, yield_in, part_of, is_part_empty, kept_part}
use Rattle.pager_model.specs.SizeSets.{SizeSet}
use Rattle.reservation_lists.specs.Kept.{KeptLists, is_listed}
use Rattle.pager_model.specs.RecordPlaces.{IsPlaced, ArePlaced}
use Rattle.frame_pool.proofs.PartRecords.{split_suc, length-split, parts_apart, part_known, split_at, split_other}
use Rattle.pager_model.proofs.ExtentLemmas.{eight_pos, part_of_eight}
use Rattle.pager_model.proofs.RecordFrames.{has_frame_from}
use Rattle.reservations.proofs.FrameIds.{none_begins}
use Rattle.reservations.proofs.SplitLemmas.{split_up_to, split_up_to-more, kept_cases, ArePlaced-part}
use Rattle.pager_laws.specs.Listed.{AreListed}
use Rattle.frame_pool.specs.Listed.{MayBegin, WasSplit}
use Rattle.pager_laws.proofs.AgeLists.{AreListed-with, AreListed-full}
use Rattle.pager_laws.proofs.SplitFrames.{some_used_in}
use Rattle.frame_pool.proofs.UnlistedFrames.{is_listed-none, yield_in-alone}

-- where something stands, it is a reservation
pub found_record_and : (o : Option Reservation) (P : Reservation → Type 0) → IsSomeAnd o P → (r : Reservation) × (o ≡ Some r) × P r
found_record_and None P some = absurd some
found_record_and (Some r) P some = (r, refl, some)

-- where nothing stands, noting that nothing does changes nothing
pub set-none : (records : List (Option Reservation)) (id : ℕ) → get_or records id None ≡ None → set records id None ≡ records
set-none records id none = ap (set records id) (sym none) ∙ set-get_or records id None

-- a reservation comes in at its frame, at which none began
module _ (z : SizeSet) (lists : Lists) (used : List Bool) (records : List (Option Reservation)) (r : Reservation)
    (may : MayBegin z lists used records r.frame) where
  there : get_or (set records r.frame (Some r)) r.frame None ≡ Some r
  there = get_or-set_same records r.frame (Some r) None may.known

  without : AreListed z lists used (set (set records r.frame (Some r)) r.frame None)
  without = subst (AreListed z lists used) (sym (set-set records r.frame (Some r) None ∙ set-none records r.frame may.none)) may.listed

  pub AreListed-enlisted : (k : ℕ) → yield_in z (is_used used) r ≡ Some k → k < 3
      → AreListed z (with_list lists k (with_member (member_of r) (list_at lists k))) used (set records r.frame (Some r))
  AreListed-enlisted k yields small = AreListed-with z lists used (set records r.frame (Some r)) r.frame k r without there yields small

  pub AreListed-not_enlisted : ((k : ℕ) → yield_in z (is_used used) r ≡ Some k → 3 ≤ k)
      → AreListed z lists used (set records r.frame (Some r))
  AreListed-not_enlisted full = AreListed-full z lists used (set records r.frame (Some r)) r.frame r without there full

-- What a split left: the sizes and the lists that it began with, the records after it, and the reservation that they were split from.
pub record SplitFrom : Type 0 where
  pub sizes : SizeSet
  pub start : KeptLists
  pub after : Records
  pub whole : Reservation

abbrev pub split_from : SizeSet → KeptLists → Records → Reservation → SplitFrom
split_from sizes start after whole = record { sizes = sizes; start = start; after = after; whole = whole }

-- From its lists on, the first n parts that the reservation was split into went into the lists.
pub record HasParts (s : SplitFrom) (n : ℕ) (lists : KeptLists) : Type 0 where
  pub was : WasSplit s.sizes s.start s.after s.whole
  pub room : lists.frames ≡ s.start.frames
  pub listed : AreListed s.sizes lists.lists s.after.used (split_up_to n (is_used s.after.used) s.whole was.records)

pub HasParts-none : (s : SplitFrom) → WasSplit s.sizes s.start s.after s.whole → HasParts s 0 s.start
HasParts-none s was = record { was = was; room = refl; listed = was.listed }

pub HasParts-all : (s : SplitFrom) (lists : KeptLists) → HasParts s 8 lists → AreListed s.sizes lists.lists s.after.used s.after.records
HasParts-all s lists has = subst (AreListed s.sizes lists.lists s.after.used) (sym has.was.split) has.listed

-- the first parts are in their places
pub ArePlaced-parts : (records : List (Option Reservation)) (used : List Bool) (whole : Reservation) (n : ℕ) → 0 < whole.size
    → IsPlaced (length records) whole.frame whole → ArePlaced records → n ≤ 8 → ArePlaced (split_up_to n (is_used used) whole records)
ArePlaced-parts records used whole zero splits placed are small = are
ArePlaced-parts records used whole (suc n) splits placed are small =
    let before = split_up_to n (is_used used) whole records in
    let long = length-split (is_used used) whole records splits placed n in
    subst ArePlaced (sym (split_suc n (is_used used) whole records))
    (ArePlaced-part before used whole n splits (omega arith) (subst (λ k. IsPlaced k whole.frame whole) (sym long) placed)
    (ArePlaced-parts records used whole n splits placed are (omega arith)))

-- the next part
module _ (s : SplitFrom) (n : ℕ) (lists : KeptLists) (splits : 0 < s.whole.size) (small : n < 8) (has : HasParts s n lists) where
  abbrev used : ℕ → Bool
  used = is_used s.after.used

  abbrev first : ℕ
  first = (part_of s.whole n).frame

  abbrev before : List (Option Reservation)
  before = split_up_to n used s.whole has.was.records

  pub part_found : get_or s.after.records first None ≡ kept_part used s.whole n
  part_found = ap (λ l. get_or l first None) has.was.split ∙ split_at used s.whole has.was.records splits has.was.placed 8 n small
      (omega arith)

  none_before : get_or before first None ≡ None
  none_before =
      let ends = part_of_eight n s.whole.size splits small in
      let in_whole = has_frame_from first s.whole (omega arith) (omega (arith, ends, eight_pos (s.whole.size - 1))) in
      split_other used s.whole has.was.records splits has.was.placed n first
      (λ i lt same. omega (arith, parts_apart used s.whole has.was.records splits has.was.placed n i same))
      ∙ none_begins has.was.records first has.was.others_placed (has.was.vacant first first in_whole)

  known_before : first < length before
  known_before = omega (
    arith,
    part_known used s.whole has.was.records splits has.was.placed n small,
    length-split used s.whole has.was.records splits has.was.placed n,
  )

  pub part_in_room : first < lists.frames
  part_in_room = omega (arith, part_known used s.whole has.was.records splits has.was.placed n small, has.room, has.was.room)

  pub part_unlisted : is_listed first lists.lists ≡ false
  part_unlisted =
      is_listed-none s.sizes lists.lists s.after.used before first has.listed
      (ArePlaced-parts has.was.records s.after.used s.whole n splits has.was.placed has.was.others_placed (omega arith)) none_before

  may_begin : MayBegin s.sizes lists.lists s.after.used before first
  may_begin = record { none = none_before; known = known_before; listed = has.listed }

  -- it goes in where it is a reservation
  pub HasParts-more : (new : KeptLists) (r : Reservation) → r.frame ≡ first → get_or s.after.records first None ≡ Some r
      → ((records : List (Option Reservation)) → MayBegin s.sizes lists.lists s.after.used records r.frame
      → AreListed s.sizes new.lists s.after.used (set records r.frame (Some r))) → new.frames ≡ lists.frames → HasParts s (n + 1) new
  HasParts-more new r begins stands enlists room = record {
    was = has.was;
    room = room ∙ has.room;
    listed = subst (AreListed s.sizes new.lists s.after.used)
        (ap (set before first) (sym stands ∙ part_found) ∙ sym (split_up_to-more n used s.whole has.was.records))
        (subst (λ id. MayBegin s.sizes lists.lists s.after.used before id → AreListed s.sizes new.lists s.after.used (set before id (Some r)))
        begins (enlists before) may_begin);
  }

  pub HasParts-skip : get_or s.after.records first None ≡ None → HasParts s (n + 1) lists
  HasParts-skip none = record {
    was = has.was;
    room = has.room;
    listed = subst (AreListed s.sizes lists.lists s.after.used)
        (sym (ap (set before first) (sym part_found ∙ none) ∙ set-none before first none_before)
        ∙ sym (split_up_to-more n used s.whole has.was.records)) has.listed;
  }

-- The parts of a reservation of eight frames are of one frame each, and those that are reservations are full: lists that had none of them
-- are theirs.
module _ (s : SplitFrom) (was : WasSplit s.sizes s.start s.after s.whole) (eight : s.whole.size ≡ 1) where
  full_alone : (i : ℕ) → kept_part (is_used s.after.used) s.whole i ≡ Some (part_of s.whole i)
      → yield_in s.sizes (is_used s.after.used) (part_of s.whole i) ≡ None
  full_alone i kept = elim (cases_Bool (is_part_empty (is_used s.after.used) s.whole i)) [
    | inl empty ↦ absurd (none-some (part_of s.whole i) (sym (cond-true _ _ _ empty) ∙ kept))
    | inr filled ↦
        let one : 8 ^ (s.whole.size - 1) ≡ 1 = ap (λ k. 8 ^ (k - 1)) eight in
        let used = some_used_in (is_used s.after.used) (part_of s.whole i).frame (8 ^ (s.whole.size - 1)) filled in
        let here : used.0 ≡ (part_of s.whole i).frame = omega (arith, used.1, used.2, one) in
        yield_in-alone s.sizes (is_used s.after.used) (part_of s.whole i) (omega (arith, eight))
        (ap (is_used s.after.used) (sym here) ∙ used.3)
  ]

  has_alone : (n : ℕ) → n ≤ 8 → HasParts s n s.start
  has_alone zero le = HasParts-none s was
  has_alone (suc n) le =
      let has = has_alone n (omega arith) in
      let splits : 0 < s.whole.size = omega (arith, eight) in
      let found = part_found s n s.start splits (omega arith) has in
      subst (λ k. HasParts s k s.start) (add-one n) (elim (kept_cases (is_used s.after.used) s.whole n) [
        | inl empty ↦ HasParts-skip s n s.start splits (omega arith) has (found ∙ empty.0)
        | inr whole ↦
            let part = part_of s.whole n in
            HasParts-more s n s.start splits (omega arith) has s.start part refl (found ∙ whole)
            (λ records may. AreListed-not_enlisted s.sizes s.start.lists s.after.used records part may
            (λ k yields. absurd (none-some k (sym (full_alone n whole) ∙ yields)))) refl
      ])

  pub AreListed-alone : AreListed s.sizes s.start.lists s.after.used s.after.records
  AreListed-alone = HasParts-all s s.start (has_alone 8 (omega arith))
