-- Where the state of the frames is sound, the counts of the roles sum to all frames.
use Rattle.std.proofs.Common.{◌≡◌, ◌≢◌, ℕ, zero, suc, ◌+◌, ◌<◌, ◌≤◌, ◌^◌, Bool, true, false, ◌&&◌, cond, eqb, leb, ltb, List, [], ◌∷◌, ◌++◌, length, get_or, take, sum_by, count_by, is_some, Option, Some, None, inl, inr, refl, sym, ap, subst, ◌∙◌, arith}
use Rattle.std.specs.List.{range_with_len}
use Rattle.std.proofs.Math.Path.{fun_ext}
use Rattle.std.proofs.lemmas.Bool.{cases_Bool, false≢true, and_parts, leb-true, ltb-true, le-leb, lt-ltb, and_from, eq-eqb, ne_eqb}
use Rattle.std.proofs.lemmas.Bool.Decides.{nat_tests}
use Rattle.std.proofs.lemmas.List.{length-map, take_all}
use Rattle.std.proofs.lemmas.List.FromFn.{length-range_with_len, get_or-range_with_len}
use Rattle.std.proofs.lemmas.List.Sums.{sum_by-cons, sum_by_push, sum_by_more}
use Rattle.pager_model.specs.Options.{is_that}
use Rattle.pager_model.specs.declared.reservation.Reservation.{Reservation}
use Rattle.pager_model.specs.Agreement.{has_frame, roles}
use Rattle.pager_model.specs.FrameStates.{FrameState, layout_of, used_at, free_count, used_count, places_in, reserved_count, held_count}
use Rattle.pager_model.specs.Layouts.{Layout, is_free}
use Rattle.pager_model.proofs.CountLemmas.{count-one_more, weight}
use Rattle.pager_model.proofs.Ranges.{range_with_len-more}
use Rattle.pager_laws.specs.Laid.{IsLaid, IsSound}
use Rattle.pager_laws.proofs.Partition.{IsPartition-sound, count-nowhere}

-- Sums.

-- a sum of sums
pub sum_by-plus : {X : Type 0} (f g : X → ℕ) (xs : List X) → sum_by (λ x. f x + g x) xs ≡ sum_by f xs + sum_by g xs
sum_by-plus f g [] = refl
sum_by-plus f g (x ∷ xs) =
    omega (arith, sum_by-cons (λ y. f y + g y) x xs, sum_by-cons f x xs, sum_by-cons g x xs, sum_by-plus f g xs)

-- term by term one sum is at most the other
pub sum_by-le_at : {X : Type 0} (f g : X → ℕ) (xs : List X) (d : X) → ((i : ℕ) → i < length xs → f (get_or xs i d) ≤ g (get_or xs i d))
    → sum_by f xs ≤ sum_by g xs
sum_by-le_at f g [] d each = omega arith
sum_by-le_at f g (x ∷ xs) d each =
    let head : f x ≤ g x = each 0 (omega arith) in
    let rest = sum_by-le_at f g xs d (λ i known. each (suc i) (omega arith)) in
    omega (arith, sum_by-cons f x xs, sum_by-cons g x xs, head, rest)

-- term by term two sums are the same
pub sum_by-same_at : {X : Type 0} (f g : X → ℕ) (xs : List X) (d : X) → ((i : ℕ) → i < length xs → f (get_or xs i d) ≡ g (get_or xs i d))
    → sum_by f xs ≡ sum_by g xs
sum_by-same_at f g xs d each =
    let most = sum_by-le_at f g xs d (λ i known. omega (arith, each i known)) in
    let least = sum_by-le_at g f xs d (λ i known. omega (arith, each i known)) in
    omega (arith, most, least)

-- a sum of ones
pub sum_by-ones : (xs : List ℕ) → sum_by (λ x. 1) xs ≡ length xs
sum_by-ones [] = refl
sum_by-ones (x ∷ xs) = omega (arith, sum_by-cons (λ y. 1) x xs, sum_by-ones xs)

-- what never passes is not counted
count-never : (xs : List ℕ) → count_by (λ x. false) xs ≡ 0
count-never xs = count-nowhere (λ x. false) xs 0 (λ i is. false≢true is)

-- pairs that pass are as many, whichever of the two is counted over first
pub exchange : {X : Type 0} (p : ℕ → X → Bool) (xs : List X) (fs : List ℕ)
    → sum_by (λ f. count_by (p f) xs) fs ≡ sum_by (λ x. count_by (λ f. p f x) fs) xs
exchange p [] fs = count-never fs
exchange p (x ∷ xs) fs =
    let split = ap (λ h. sum_by h fs) (fun_ext (λ f. sum_by-cons (λ y. cond (p f y) 1 0) x xs)) in
    let parts = sum_by-plus (λ f. cond (p f x) 1 0) (λ f. count_by (p f) xs) fs in
    let rest = exchange p xs fs in
    omega (arith, split, parts, rest, sum_by-cons (λ y. count_by (λ f. p f y) fs) x xs)

-- the first elements that pass are as many as their indexes
count-first_indexes : {X : Type 0} (p : X → Bool) (xs : List X) (d : X) (n : ℕ) → n ≤ length xs
    → count_by (λ i. p (get_or xs i d)) (range_with_len 0 n) ≡ count_by p (take n xs)
count-first_indexes p xs d zero within = refl
count-first_indexes p xs d (suc n) within =
    let at : ℕ → ℕ = λ i. cond (p (get_or xs i d)) 1 0 in
    let rest = count-first_indexes p xs d n (omega arith) in
    let longer : sum_by at (range_with_len 0 (n + 1)) ≡ sum_by at (range_with_len 0 n ++ n ∷ []) = ap (sum_by at) (range_with_len-more n) in
    let more = sum_by_more (λ x. cond (p x) 1 0) xs n d (omega arith) in
    let next : n + 1 ≡ suc n = omega arith in
    let step : sum_by at (range_with_len 0 (n + 1)) ≡ count_by p (take (n + 1) xs) =
    omega (arith, longer, sum_by_push at (range_with_len 0 n) n, more, rest) in
    subst (λ k. sum_by at (range_with_len 0 k) ≡ count_by p (take k xs)) next step

-- the elements that pass are as many as their indexes
pub count-indexes : {X : Type 0} (p : X → Bool) (xs : List X) (d : X) (n : ℕ) → length xs ≡ n
    → count_by (λ i. p (get_or xs i d)) (range_with_len 0 n) ≡ count_by p xs
count-indexes p xs d n long = count-first_indexes p xs d n (omega arith) ∙ ap (count_by p) (take_all n xs (omega arith))

-- Frames below a number.

-- of w frames from first on there are w
count-between : (first w n : ℕ) → first + w ≤ n → count_by (λ f. leb first f && ltb f (first + w)) (range_with_len 0 n) ≡ w
count-between first zero n within =
    count-nowhere (λ f. leb first f && ltb f (first + 0)) (range_with_len 0 n) 0 (λ i is.
    let bounds = and_parts (leb first (get_or (range_with_len 0 n) i 0)) (ltb (get_or (range_with_len 0 n) i 0) (first + 0)) is in
    omega (arith, leb-true _ _ bounds.0, ltb-true _ _ bounds.1))
count-between first (suc w) n within =
    let fewer : ℕ → Bool = λ f. leb first f && ltb f (first + w) in
    let more : ℕ → Bool = λ f. leb first f && ltb f (first + suc w) in
    let fails : fewer (first + w) ≡ false = grind (arith, nat_tests) in
    let passes : more (first + w) ≡ true =
    and_from (leb first (first + w)) (ltb (first + w) (first + suc w)) (le-leb first (first + w) (omega arith))
    (lt-ltb (first + w) (first + suc w) (omega arith)) in
    let agree : (g : ℕ) → g ≢ first + w → fewer g ≡ more g = λ g other. ap (λ b. leb first g && b) (grind (arith, nat_tests)) in
    omega (
      arith,
      count-one_more fewer more (first + w) fails passes agree 0 n (omega arith) (omega arith),
      count-between first w n (omega arith),
    )

-- a reservation of known frames has its places
count-places_in : (n : ℕ) (o : Option Reservation) → ((r : Reservation) → o ≡ Some r → r.frame + 8 ^ r.size ≤ n)
    → count_by (λ f. has_frame f o) (range_with_len 0 n) ≡ places_in o
count-places_in n None within = count-never (range_with_len 0 n)
count-places_in n (Some r) within = count-between r.frame (8 ^ r.size) n (within r refl)

-- a known frame that is held is one
pub count-held : (n : ℕ) (o : Option ℕ) → ((f : ℕ) → o ≡ Some f → f < n)
    → count_by (λ g. is_that g o) (range_with_len 0 n) ≡ cond (is_some o) 1 0
count-held n None known = count-never (range_with_len 0 n)
count-held n (Some f) known =
    let one_more = count-one_more (λ g. false) (λ g. eqb f g) f refl (eq-eqb f f refl)
    (λ g other. sym (ne_eqb f g (λ same. other (sym same)))) 0 n (omega arith) (omega (arith, known f refl)) in
    omega (arith, one_more, count-never (range_with_len 0 n))

-- what adds 1 at most where a number is 1 adds at most the number
weight-le : (b : Bool) (n : ℕ) → (b ≡ true → n ≡ 1) → cond b 1 0 ≤ n
weight-le true n one = omega (arith, one refl)
weight-le false n one = omega arith

-- over all frames the reservations that have each are the places
all_places_of : (frames : ℕ) (records : List (Option Reservation))
    → ((id : ℕ) (r : Reservation) → get_or records id None ≡ Some r → r.frame + 8 ^ r.size ≤ frames)
    → sum_by (λ f. count_by (has_frame f) records) (range_with_len 0 frames) ≡ sum_by places_in records
all_places_of frames records within =
    exchange has_frame records (range_with_len 0 frames)
    ∙ sum_by-same_at (λ o. count_by (λ f. has_frame f o) (range_with_len 0 frames)) places_in records None
    (λ i _. count-places_in frames (get_or records i None) (within i))

-- where the element of one index at most passes, one is counted at most
pub count-one_most : {X : Type 0} (p : X → Bool) (xs : List X) (d : X)
    → ((i j : ℕ) → p (get_or xs i d) ≡ true → p (get_or xs j d) ≡ true → i ≡ j) → count_by p xs ≤ 1
count-one_most p [] d only = omega arith
count-one_most p (x ∷ xs) d only =
    let both = sum_by-cons (λ y. weight (p y)) x xs in
    elim (cases_Bool (p x)) [
      | inl here ↦
          let head : weight (p x) ≡ 1 = ap weight here in
          let rest = count-nowhere p xs d (λ i is. let same = only 0 (suc i) here is in omega (arith, same)) in
          omega (arith, head, rest, both)
      | inr not ↦
          let head : weight (p x) ≡ 0 = ap weight not in
          let rest = count-one_most p xs d (λ i j a b. let same = only (suc i) (suc j) a b in omega (arith, same)) in
          omega (arith, head, rest, both)
    ]

-- in a sound layout there are no more places than frames
pub places_few : (l : Layout) → IsLaid l → sum_by places_in l.records ≤ length l.free
places_few l laid =
    let frames = length l.free in
    let each = sum_by-le_at (λ f. count_by (has_frame f) l.records) (λ f. 1) (range_with_len 0 frames) 0
    (λ i _. let f = get_or (range_with_len 0 frames) i 0 in count-one_most (has_frame f) l.records None (λ j k. laid.apart f j k)) in
    let all = all_places_of frames l.records (λ id r is. omega (arith, (laid.placed id r is).within, laid.records_long)) in
    omega (arith, each, all, sum_by-ones (range_with_len 0 frames), length-range_with_len 0 frames)

module _ (frames processors : ℕ) (st : FrameState) (sound : IsSound frames processors st) where
  -- each number of the range is a frame's
  pub below : (i : ℕ) → i < length (range_with_len 0 frames) → get_or (range_with_len 0 frames) i 0 < frames
  below i within =
      let known : i < frames = omega (arith, length-range_with_len 0 frames) in
      omega (arith, known, get_or-range_with_len 0 frames i 0 known)

  -- over all frames the processors that hold each are the ones that hold one
  pub all_held : sum_by (λ f. count_by (is_that f) st.held) (range_with_len 0 frames) ≡ held_count st
  all_held =
      exchange is_that st.held (range_with_len 0 frames)
      ∙ sum_by-same_at (λ o. count_by (λ f. is_that f o) (range_with_len 0 frames)) (λ o. cond (is_some o) 1 0) st.held None
      (λ c _. count-held frames (get_or st.held c None) (λ f is. (sound.held_apart c f is).0))

  -- over all frames the free ones
  all_free : sum_by (λ f. cond (is_free (layout_of st) f) 1 0) (range_with_len 0 frames) ≡ free_count st
  all_free = count-indexes (λ free. free) st.free false frames sound.known

  -- of each frame something may be noted
  pub used_long : length st.used ≡ frames
  used_long = sym (length-map st.used is_some) ∙ sound.laid.used_long ∙ sound.known

  -- over all frames the used ones
  all_used : sum_by (λ f. cond (is_some (used_at st f)) 1 0) (range_with_len 0 frames) ≡ used_count st
  all_used = count-indexes is_some st.used None frames used_long

  -- over all frames the places
  all_places : sum_by (λ f. count_by (has_frame f) st.records) (range_with_len 0 frames) ≡ sum_by places_in st.records
  all_places = all_places_of frames st.records
      (λ i r is. omega (arith, (sound.laid.placed i r is).within, sound.laid.records_long, sound.known))

  -- no more places are used than there are
  pub used_places_few : used_count st ≤ sum_by places_in st.records
  used_places_few =
      let each = sum_by-le_at (λ f. cond (is_some (used_at st f)) 1 0) (λ f. count_by (has_frame f) st.records) (range_with_len 0 frames) 0
      (λ i within. weight-le _ _ (IsPartition-sound frames processors st sound _ (below i within)).1) in
      omega (arith, each, all_used, all_places)

  -- the free frames, the unused and the used places, and the frames that are held are all frames
  pub counts_sum : free_count st + reserved_count st + used_count st + held_count st ≡ frames
  counts_sum =
      let ones = sum_by-same_at (roles st) (λ f. 1) (range_with_len 0 frames) 0
      (λ i within. (IsPartition-sound frames processors st sound _ (below i within)).0) in
      let all = ones ∙ sum_by-ones (range_with_len 0 frames) ∙ length-range_with_len 0 frames in
      let in_layout : ℕ → ℕ = λ f. cond (is_free (layout_of st) f) 1 0 + count_by (has_frame f) st.records in
      let parts = sum_by-plus in_layout (λ f. count_by (is_that f) st.held) (range_with_len 0 frames) in
      let more_parts = sum_by-plus (λ f. cond (is_free (layout_of st) f) 1 0) (λ f. count_by (has_frame f) st.records)
      (range_with_len 0 frames) in
      omega (arith, all, parts, more_parts, all_free, all_places, all_held, used_places_few)
