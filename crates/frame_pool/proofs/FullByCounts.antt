-- The layout is full exactly where the used places and the frames that are held are as many as all frames.
use Rattle.std.proofs.Common.{◌≡◌, ◌<◌, ◌≤◌, ℕ, zero, suc, ◌+◌, ◌*◌, ◌-◌, ◌^◌, Bool, true, false, List, [], ◌∷◌, length, get_or, sum_by, count_by, is_some, Option, Some, None, refl, sym, ap, ◌∙◌, inl, inr, arith}
use Rattle.std.specs.List.{range_with_len}
use Rattle.std.proofs.lemmas.Bool.{cases_Bool, cases_lt, false≢true, false_from_ne_true, true_from_ne_false}
use Rattle.std.proofs.lemmas.List.{get_or_past}
use Rattle.std.proofs.lemmas.List.FromFn.{length-range_with_len, get_or-range_with_len}
use Rattle.std.proofs.lemmas.List.Sums.{sum_by-cons}
use Rattle.pager_model.specs.declared.reservation.Reservation.{Reservation}
use Rattle.pager_model.specs.Agreement.{has_frame}
use Rattle.pager_model.specs.FrameStates.{FrameState, layout_of, used_at, used_count, held_count, IsFull}
use Rattle.pager_model.specs.Layouts.{record_at, is_free}
use Rattle.pager_model.specs.Options.{is_that}
use Rattle.pager_model.specs.Records.{is_used, yield_in}
use Rattle.pager_model.specs.SizeSets.{SizeSet}
use Rattle.pager_model.proofs.CountLemmas.{weight}
use Rattle.pager_model.proofs.ExtentLemmas.{eight_pos, eight_split, part_inside}
use Rattle.pager_model.proofs.RecordFrames.{has_frame_bounds, has_frame_from, unused_in}
use Rattle.pager_laws.specs.Laid.{IsIn, IsSound}
use Rattle.pager_laws.proofs.FrameCounts.{sum_by-plus, sum_by-le_at, sum_by-ones, count-indexes, counts_sum, all_held, used_long, below}
use Rattle.pager_laws.proofs.FullLayout.{EachFull, EachFull-from, is_full-from, used-full}
use Rattle.pager_laws.proofs.Partition.{IsPartition-sound, none_holds, one_holds}
use Rattle.pager_laws.proofs.PartYields.{IsWidest-from, has_empty_some}
use Rattle.pager_laws.proofs.StateSoundness.{is_used-layout_of}

-- terms that are at most others, and sum to no less, are these
sum_by-each : {X : Type 0} (f g : X → ℕ) (xs : List X) (d : X) → ((i : ℕ) → i < length xs → f (get_or xs i d) ≤ g (get_or xs i d))
    → sum_by g xs ≤ sum_by f xs → (i : ℕ) → i < length xs → f (get_or xs i d) ≡ g (get_or xs i d)
sum_by-each f g [] d each all i within = absurd (omega (arith, within))
sum_by-each f g (x ∷ xs) d each all zero within =
    let head : f x ≤ g x = each 0 (omega arith) in
    let rest = sum_by-le_at f g xs d (λ i known. each (suc i) (omega arith)) in
    omega (arith, sum_by-cons f x xs, sum_by-cons g x xs, all, head, rest)
sum_by-each f g (x ∷ xs) d each all (suc i) within =
    let head : f x ≤ g x = each 0 (omega arith) in
    sum_by-each f g xs d (λ j known. each (suc j) (omega arith)) (omega (arith, sum_by-cons f x xs, sum_by-cons g x xs, all, head)) i
    (omega arith)

-- a reservation whose places are all used has no yield
yield_in-used : (z : SizeSet) (used : ℕ → Bool) (r : Reservation) → ((f : ℕ) → has_frame f (Some r) ≡ true → used f ≡ true)
    → yield_in z used r ≡ None
yield_in-used z used r all = at (yield_in z used r) refl
  where
    at : (o : Option ℕ) → yield_in z used r ≡ o → o ≡ None
    at None _ = refl
    at (Some k) yields =
        let widest = IsWidest-from z used r r.size k yields in
        let found = has_empty_some used r k widest.has in
        let first = r.frame + found.0 * 8 ^ k in
        let inside = part_inside found.0 (8 ^ k) (8 ^ (r.size - k)) found.1 in
        let has = has_frame_from first r (omega arith) (omega (arith, inside, eight_split k r.size widest.low, eight_pos k)) in
        absurd (false≢true (sym (unused_in used first (8 ^ k) found.2 first (omega arith) (omega (arith, eight_pos k))) ∙ all first has))

-- how often a frame is a used place or held
abbrev taken : FrameState → ℕ → ℕ
taken st f = weight (is_some (used_at st f)) + count_by (is_that f) st.held

module _ (frames processors : ℕ) (st : FrameState) (sound : IsSound frames processors st) where
  -- over all frames the used places and the frames that are held
  all_taken : sum_by (taken st) (range_with_len 0 frames) ≡ used_count st + held_count st
  all_taken =
      let used = count-indexes is_some st.used None frames (used_long frames processors st sound) in
      let parts = sum_by-plus (λ f. weight (is_some (used_at st f))) (λ f. count_by (is_that f) st.held) (range_with_len 0 frames) in
      omega (arith, parts, used, all_held frames processors st sound)

  -- in a full layout each frame is a used place or held
  some_taken : EachFull (layout_of st) → (f : ℕ) → f < frames → 1 ≤ taken st f
  some_taken full f known = elim (sound.accounted f known) [
    | inl within ↦ elim within [
      | inl free ↦ absurd (false≢true (sym (full.taken f) ∙ free))
      | inr place ↦
          let used = place_used place.0 place.1 (record_at (layout_of st) place.0) refl in
          let one : weight (is_some (used_at st f)) ≡ 1 = ap weight (sym (is_used-layout_of st f) ∙ used) in
          omega (arith, one)
    ]
    | inr holds ↦ omega (arith, one_holds frames processors st sound f holds.0 holds.1)
  ]
    where
      place_used : (id : ℕ) → has_frame f (record_at (layout_of st) id) ≡ true → (o : Option Reservation) → record_at (layout_of st) id ≡ o
          → is_used (layout_of st).used f ≡ true
      place_used id has None none = absurd (false≢true (sym (ap (has_frame f) none) ∙ has))
      place_used id has (Some r) is = used-full (layout_of st) f id r full is (sym (ap (has_frame f) is) ∙ has)

  pub counts-full : IsFull st → used_count st + held_count st ≡ frames
  counts-full is =
      let fs = range_with_len 0 frames in
      let each = sum_by-le_at (λ f. 1) (taken st) fs 0
      (λ i within. some_taken (EachFull-from (layout_of st) is) (get_or fs i 0) (below frames processors st sound i within)) in
      omega (arith, each, sum_by-ones fs, length-range_with_len 0 frames, all_taken, counts_sum frames processors st sound)

module _ (frames processors : ℕ) (st : FrameState) (sound : IsSound frames processors st) (all : used_count st + held_count st ≡ frames) where
  taken_few : (f : ℕ) → f < frames → taken st f ≤ 1
  taken_few f known =
      let part = IsPartition-sound frames processors st sound f known in
      elim (cases_Bool (is_some (used_at st f))) [
        | inl some ↦ let one : weight (is_some (used_at st f)) ≡ 1 = ap weight some in omega (arith, one, part.0, part.1 some)
        | inr none ↦ let no : weight (is_some (used_at st f)) ≡ 0 = ap weight none in omega (arith, no, part.0)
      ]

  -- each frame is a used place or held
  each_taken : (f : ℕ) → f < frames → taken st f ≡ 1
  each_taken f known =
      let fs = range_with_len 0 frames in
      let long = length-range_with_len 0 frames in
      let whole : length fs ≤ sum_by (taken st) fs = omega (arith, long, all_taken frames processors st sound, all) in
      let one = sum_by-each (taken st) (λ g. 1) fs 0 (λ i within. taken_few _ (below frames processors st sound i within))
      (omega (arith, sum_by-ones fs, whole)) f (omega (arith, long, known)) in
      let at : get_or fs f 0 ≡ f = get_or-range_with_len 0 frames f 0 known ∙ omega arith in
      ap (taken st) (sym at) ∙ one

  -- so each that is free or a place is used, since nobody holds it
  used_within : (f : ℕ) → f < frames → IsIn (layout_of st) f → is_some (used_at st f) ≡ true
  used_within f known within =
      let none = none_holds frames processors st sound f within in
      true_from_ne_false _ (λ unused.
      let no : weight (is_some (used_at st f)) ≡ 0 = ap weight unused in
      omega (arith, none, no, each_taken f known))

  none_free : (f : ℕ) → is_free (layout_of st) f ≡ false
  none_free f = elim (cases_lt f frames) [
    | inr past ↦ get_or_past st.free f false (omega (arith, past, sound.known))
    | inl known ↦ false_from_ne_true _ (λ free.
        let place = sound.laid.places f (is_used-layout_of st f ∙ used_within f known (inl free)) in
        sound.laid.not_free f place.0 free place.1)
  ]

  places_used : (id : ℕ) (r : Reservation) → record_at (layout_of st) id ≡ Some r → (f : ℕ) → has_frame f (Some r) ≡ true
      → is_used (layout_of st).used f ≡ true
  places_used id r is f has =
      let bounds = has_frame_bounds f r has in
      let placed = sound.laid.placed id r is in
      let known : f < frames = omega (arith, bounds.1, placed.within, sound.laid.records_long, sound.known) in
      is_used-layout_of st f ∙ used_within f known (inr (id, ap (has_frame f) is ∙ has))

  pub full-by_counts : IsFull st
  full-by_counts = is_full-from (layout_of st) (record {
    taken = none_free;
    full = λ id r is. yield_in-used st.sizes (is_used (layout_of st).used) r (places_used id r is);
  })
