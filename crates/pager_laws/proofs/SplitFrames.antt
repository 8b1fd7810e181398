-- What stands after a reservation was split into its extents of a smaller size, and which frames are free then.
use Rattle.std.proofs.Common.{◌≡◌, ℕ, zero, suc, ◌+◌, ◌-◌, ◌^◌, ◌<◌, ◌≤◌, ◌⊎◌, inl, inr, Bool, true, false, not, ◌&&◌, List, [], ◌∷◌, ◌++◌, length, get_or, fold, Some, refl, sym, ap, subst, ◌∙◌, arith}
use Rattle.std.specs.List.{range_with_len}
use Rattle.std.proofs.Math.Numerals.{add-one}
use Rattle.std.proofs.lemmas.Bool.{cases_Bool, cases_lt, cond-true, cond-false, false≢true}
use Rattle.std.proofs.lemmas.List.Sums.{fold_push}
use Rattle.pager_model.specs.declared.reservation.Reservation.{Reservation}
use Rattle.pager_model.specs.Agreement.{has_frame}
use Rattle.pager_model.specs.FreeBlocks.{with_range}
use Rattle.pager_model.specs.Layouts.{Layout, covers, frame_for, freed_part, parted, record_at, is_free}
use Rattle.pager_model.specs.Records.{is_used, none_used, part_count, part_at, is_empty_at, kept_at}
use Rattle.pager_model.proofs.FreeRanges.{length-with_range, with_range_inside, with_range_outside}
use Rattle.pager_model.specs.RecordPlaces.{IsPlaced}
use Rattle.pager_laws.proofs.PartsAt.{part_ends, length-parted, parted_at, parted_other}
use Rattle.pager_model.proofs.ExtentLemmas.{extent_of_frame}
use Rattle.pager_model.proofs.RecordFrames.{has_frame_bounds, has_frame_from}
use Rattle.pager_model.proofs.Ranges.{range_with_len-more}
use Rattle.pager_laws.proofs.PagePlaces.{CoversPageOf-covers, covers-CoversPageOf}

-- The pages of a reservation and of its parts.

-- a page of a part is a page of the whole
pub covers_whole : (k s p i : ℕ) (r : Reservation) → k ≤ r.size → i < part_count k r → covers s p (part_at k r i) ≡ true
    → covers s p r ≡ true
covers_whole k s p i r le one has =
    let at = CoversPageOf-covers s p (part_at k r i) has in
    let ends = part_ends k i r le one in
    covers-CoversPageOf s p r (record { space_is = at.space_is; low = omega (arith, at.low); high = omega (arith, at.high, ends) })

-- a part joins its pages to the same frames as the whole does
pub frame_for_part : (k s p i : ℕ) (r : Reservation) → covers s p (part_at k r i) ≡ true → frame_for p (part_at k r i) ≡ frame_for p r
frame_for_part k s p i r has = let at = CoversPageOf-covers s p (part_at k r i) has in omega (arith, at.low)

-- a page is a page of one part only
pub one_part_covers : (k s p i j : ℕ) (r : Reservation) → covers s p (part_at k r i) ≡ true → covers s p (part_at k r j) ≡ true → i ≡ j
one_part_covers k s p i j r by_i by_j =
    let w = 8 ^ k in
    let in_i = CoversPageOf-covers s p (part_at k r i) by_i in
    let in_j = CoversPageOf-covers s p (part_at k r j) by_j in
    sym (extent_of_frame i w (p - r.first) (omega (arith, in_i.low)) (omega (arith, in_i.low, in_i.high)))
    ∙ extent_of_frame j w (p - r.first) (omega (arith, in_j.low)) (omega (arith, in_j.low, in_j.high))

-- the part that has the frame of a page has the page
pub part_covers : (k s p i : ℕ) (r : Reservation) → covers s p r ≡ true → has_frame (frame_for p r) (Some (part_at k r i)) ≡ true
    → covers s p (part_at k r i) ≡ true
part_covers k s p i r has in_part =
    let at = CoversPageOf-covers s p r has in
    let within = has_frame_bounds (frame_for p r) (part_at k r i) in_part in
    covers-CoversPageOf s p (part_at k r i)
    (record { space_is = at.space_is; low = omega (arith, at.low, within.0); high = omega (arith, at.low, within.1) })

-- some frame is a used place, where not none of them is
pub some_used_in : (p : ℕ → Bool) (first n : ℕ) → none_used p first n ≡ false → (f : ℕ) × (first ≤ f) × (f < first + n) × (p f ≡ true)
some_used_in p first zero some = absurd (false≢true (sym some))
some_used_in p first (suc n) some = elim (cases_Bool (p first)) [
  | inl here ↦ (first, omega arith, omega arith, here)
  | inr missed ↦
      let later = sym (ap (λ b. not b && none_used p (first + 1) n) missed) ∙ some in
      let rest = some_used_in p (first + 1) n later in
      (rest.0, omega (arith, rest.1), omega (arith, rest.2), rest.3)
]

-- The free frames after a split.

-- the frames of the first parts are free where they have no used place
abbrev pub free_up_to : ℕ → ℕ → (ℕ → Bool) → Reservation → List Bool → List Bool
free_up_to n k used r free = fold (freed_part k used r) free (range_with_len 0 n)

-- one part more
pub free_up_to-suc : (n k : ℕ) (used : ℕ → Bool) (r : Reservation) (free : List Bool)
    → free_up_to (suc n) k used r free ≡ freed_part k used r (free_up_to n k used r free) n
free_up_to-suc n k used r free =
    let more : range_with_len 0 (n + 1) ≡ range_with_len 0 n ++ n ∷ [] = range_with_len-more n in
    ap (λ m. free_up_to m k used r free) (sym (add-one n)) ∙ ap (fold (freed_part k used r) free) more
    ∙ fold_push (freed_part k used r) free (range_with_len 0 n) n

-- the frame is one of an empty part, of the first n parts
pub record IsEmptied (k : ℕ) (used : ℕ → Bool) (r : Reservation) (n f : ℕ) : Type 0 where
  pub part : ℕ
  pub below : part < n
  pub empty : is_empty_at k used r part ≡ true
  pub has : has_frame f (Some (part_at k r part)) ≡ true

module _ (k : ℕ) (used : ℕ → Bool) (r : Reservation) (free : List Bool) (le : k ≤ r.size)
    (within : r.frame + 8 ^ r.size ≤ length free) where
  -- one part changes no length
  pub length-freed_part : (fs : List Bool) (i : ℕ) → length fs ≡ length free → i < part_count k r
      → length (freed_part k used r fs i) ≡ length free
  length-freed_part fs i long one = elim (cases_Bool (is_empty_at k used r i)) [
    | inl empty ↦
        ap length (cond-true _ _ _ empty)
        ∙ length-with_range fs (part_at k r i).frame (8 ^ k) true (omega (arith, part_ends k i r le one)) ∙ long
    | inr filled ↦ ap length (cond-false _ _ _ filled) ∙ long
  ]

  -- what one part does to a frame: it becomes free as a frame of an empty part, or it stays as it was
  pub freed_part_at : (fs : List Bool) (i f : ℕ) → length fs ≡ length free → i < part_count k r
      → ((is_empty_at k used r i ≡ true) × (has_frame f (Some (part_at k r i)) ≡ true) ×
      (get_or (freed_part k used r fs i) f false ≡ true)) ⊎
      ((get_or (freed_part k used r fs i) f false ≡ get_or fs f false) ×
      (is_empty_at k used r i ≡ true → has_frame f (Some (part_at k r i)) ≡ true → ⊥))
  freed_part_at fs i f long one = elim (cases_Bool (is_empty_at k used r i)) [
    | inl empty ↦
        let w = 8 ^ k in
        let fits : (part_at k r i).frame + w ≤ length fs = omega (arith, part_ends k i r le one) in
        let is = ap (λ xs. get_or xs f false) (cond-true (is_empty_at k used r i) (with_range fs (part_at k r i).frame w true) fs empty) in
        elim (cases_lt f (part_at k r i).frame) [
          | inl before ↦ inr (
            is ∙ with_range_outside fs (part_at k r i).frame w true fits f (inl before),
            λ _ has. let bounds = has_frame_bounds f (part_at k r i) has in omega (arith, bounds.0, before),
          )
          | inr low ↦ elim (cases_lt f ((part_at k r i).frame + w)) [
            | inl high ↦ inl (
              empty,
              has_frame_from f (part_at k r i) low high,
              is
                  ∙ with_range_inside fs (part_at k r i).frame w true fits f low high,
            )
            | inr past ↦ inr (
              is ∙ with_range_outside fs (part_at k r i).frame w true fits f (inr past),
              λ _ has. let bounds = has_frame_bounds f (part_at k r i) has in omega (arith, bounds.1, past),
            )
          ]
        ]
    | inr filled ↦ inr (ap (λ xs. get_or xs f false) (cond-false _ _ _ filled), λ empty _. false≢true (sym filled ∙ empty))
  ]

  -- nor do the first parts
  pub length-free_up_to : (n : ℕ) → n ≤ part_count k r → length (free_up_to n k used r free) ≡ length free
  length-free_up_to zero most = refl
  length-free_up_to (suc n) most =
      ap length (free_up_to-suc n k used r free)
      ∙ length-freed_part (free_up_to n k used r free) n (length-free_up_to n (omega arith)) (omega arith)

  -- a frame that is free then was free before, or is one of an empty part
  pub free_up_to-cases : (n f : ℕ) → n ≤ part_count k r → get_or (free_up_to n k used r free) f false ≡ true
      → (get_or free f false ≡ true) ⊎ IsEmptied k used r n f
  free_up_to-cases zero f most is = inl is
  free_up_to-cases (suc n) f most is =
      elim (freed_part_at (free_up_to n k used r free) n f (length-free_up_to n (omega arith)) (omega arith)) [
        | inl here ↦ inr (record { part = n; below = omega arith; empty = here.0; has = here.1 })
        | inr other ↦
            elim (free_up_to-cases n f (omega arith) (sym other.0 ∙ sym (ap (λ xs. get_or xs f false) (free_up_to-suc n k used r free))
            ∙ is)) [
              | inl before ↦ inl before
              | inr part ↦ inr (record { part = part.part; below = omega (arith, part.below); empty = part.empty; has = part.has })
            ]
      ]

  -- what was free before is free
  pub free_up_to-before : (n f : ℕ) → n ≤ part_count k r → get_or free f false ≡ true → get_or (free_up_to n k used r free) f false ≡ true
  free_up_to-before zero f most was = was
  free_up_to-before (suc n) f most was =
      ap (λ xs. get_or xs f false) (free_up_to-suc n k used r free)
      ∙ elim (freed_part_at (free_up_to n k used r free) n f (length-free_up_to n (omega arith)) (omega arith)) [
        | inl here ↦ here.2
        | inr other ↦ other.0 ∙ free_up_to-before n f (omega arith) was
      ]

  -- and so is each frame of an empty part
  pub free_up_to-part : (n i f : ℕ) → n ≤ part_count k r → i < n → is_empty_at k used r i ≡ true → has_frame f (Some (part_at k r i)) ≡ true
      → get_or (free_up_to n k used r free) f false ≡ true
  free_up_to-part zero i f most lt empty has = absurd (omega arith)
  free_up_to-part (suc n) i f most lt empty has =
      ap (λ xs. get_or xs f false) (free_up_to-suc n k used r free)
      ∙ elim (freed_part_at (free_up_to n k used r free) n f (length-free_up_to n (omega arith)) (omega arith)) [
        | inl here ↦ here.2
        | inr other ↦ other.0 ∙ elim (cases_lt i n) [
          | inl before ↦ free_up_to-part n i f (omega arith) before empty has
          | inr last ↦
              let at : i ≡ n = omega arith in
              absurd (other.1 (subst (λ m. is_empty_at k used r m ≡ true) at empty)
              (subst (λ m. has_frame f (Some (part_at k r m)) ≡ true) at has))
        ]
      ]

-- What a split does to a layout: each part stands where it has a used place, and is free where it has none; every other record
-- and every other frame is as before.
pub record IsSplit (k : ℕ) (old new : Layout) (r : Reservation) : Type 0 where
  pub small : k ≤ r.size
  pub records_long : length new.records ≡ length old.records
  pub free_long : length new.free ≡ length old.free
  pub used : new.used ≡ old.used
  pub sizes : new.sizes ≡ old.sizes
  pub parts : (i : ℕ) → i < part_count k r → record_at new (part_at k r i).frame ≡ kept_at k (is_used old.used) r i
  pub others : (j : ℕ) → ((i : ℕ) → i < part_count k r → j ≡ (part_at k r i).frame → ⊥) → record_at new j ≡ record_at old j
  pub free_cases : (f : ℕ) → is_free new f ≡ true → (is_free old f ≡ true) ⊎ IsEmptied k (is_used old.used) r (part_count k r) f
  pub free_before : (f : ℕ) → is_free old f ≡ true → is_free new f ≡ true
  pub free_part : (i f : ℕ) → i < part_count k r → is_empty_at k (is_used old.used) r i ≡ true → has_frame f (Some (part_at k r i)) ≡ true
      → is_free new f ≡ true

-- this is what splitting does
pub IsSplit-parted : (k : ℕ) (l : Layout) (r : Reservation) → length l.records ≡ length l.free → IsPlaced (length l.records) r.frame r
    → k ≤ r.size → IsSplit k l (parted k r l) r
IsSplit-parted k l r long placed le =
    let used : ℕ → Bool = is_used l.used in
    let within : r.frame + 8 ^ r.size ≤ length l.free = omega (arith, placed.within, long) in
    let n = part_count k r in
    let most : n ≤ n = omega arith in
    record {
      small = le;
      records_long = length-parted k used r l.records le placed n;
      free_long = length-free_up_to k used r l.free le within n most;
      used = refl;
      sizes = refl;
      parts = λ i one. parted_at k used r l.records le placed n i one most;
      others = λ j none. parted_other k used r l.records le placed n j none;
      free_cases = λ f is. free_up_to-cases k used r l.free le within n f most is;
      free_before = λ f was. free_up_to-before k used r l.free le within n f most was;
      free_part = λ i f one empty has. free_up_to-part k used r l.free le within n i f most one empty has;
    }
