-- What stays true of an image as tiles go and come.
use Rattle.std.proofs.Common.{◌≡◌, ◌≢◌, ℕ, zero, suc, ◌+◌, ◌-◌, ◌<◌, ◌≤◌, Bool, true, false, not, cond, ◌||◌, List, [], ◌∷◌, ◌++◌, length, inl, inr, get_or, take, drop, filter, nat_lt, count_by, is_some, Some, None, refl, sym, ap, ◌∙◌, subst, add-one, length-take, take_all, arith}
use Rattle.std.specs.List.{All, AllPairs, list_any, position, position_or_len, items_where_true, remove}
use Rattle.std.proofs.lemmas.Bool.{cases_lt, lt-ltb, le-ltb, false_from_ne_true, false≢true, or_parts, cond-true, cond-false, not_from_true, not_from_false, not-true}
use Rattle.std.proofs.lemmas.List.{length-take-le, take_more, take-take, get_or-take, drop_at}
use Rattle.std.proofs.lemmas.List.Edits.{length-remove}
use Rattle.std.proofs.lemmas.List.Elements.{All-cons, All-head, All-tail, filter_passes}
use Rattle.std.proofs.lemmas.List.Folds.{list_any_none}
use Rattle.std.proofs.lemmas.List.Sums.{length-filter, count_by-le-length, sum_by-cons, sum_by-remove}
use Rattle.std.proofs.lemmas.List.Kept.{AllPairs-cons, AllPairs-filter}
use Rattle.std.proofs.lemmas.List.Quantifiers.{position-Some}
use Rattle.pager_model.specs.declared.region.Rights.TheVariants.{NoAccess}
use Rattle.pager_model.specs.declared.tile.Tile.{Tile}
use Rattle.pager_model.specs.declared.page_range.PageRange.{PageRange}
use Rattle.pager_model.specs.Images.{image_capacity, touched}
use Rattle.pager_model.specs.Tiles.{same_tile}
use Rattle.pager_model.proofs.TileParts.{same_tile-true, same_tile-refl}
use Rattle.tlb_images.specs.Image.{IsImage, begins_in}

pub same_tile-ne : (t u : Tile) → t ≢ u → same_tile t u ≡ false
same_tile-ne t u differ = false_from_ne_true (same_tile t u) (λ h. differ (same_tile-true t u h))

-- no two tiles of the list are equal
abbrev pub Once : List Tile → Type 0
Once ts = AllPairs (λ t u. t ≢ u) ts

Once-tail : (t : Tile) (ts : List Tile) → Once (t ∷ ts) → Once ts
Once-tail t ts once i j d lt below = once (suc i) (suc j) d (omega arith) (omega arith)

Once-head : (t : Tile) (ts : List Tile) → Once (t ∷ ts) → list_any (same_tile t) ts ≡ false
Once-head t ts once =
    list_any_none (same_tile t) ts (λ k d below. same_tile-ne t (get_or ts k d) (once 0 (suc k) d (omega arith) (omega arith)))

-- the image without the tile
abbrev pub without : Tile → List Tile → List Tile
without t image = filter (λ u. not (same_tile t u)) image

-- what stands nowhere isn't missed
without-absent : (t : Tile) (ts : List Tile) → list_any (same_tile t) ts ≡ false → without t ts ≡ ts
without-absent t [] absent = refl
without-absent t (u ∷ us) absent =
    let parts = or_parts (same_tile t u) (list_any (same_tile t) us) absent in
    cond-true (not (same_tile t u)) (u ∷ without t us) (without t us) (not_from_false _ parts.0)
    ∙ ap (λ rest. u ∷ rest) (without-absent t us parts.1)

-- taking a tile out at the one place where it stands leaves the image without it
remove-is_without : (t : Tile) (ts : List Tile) (n : ℕ) (d : Tile) → Once ts → n < length ts → same_tile t (get_or ts n d) ≡ true
    → ((k : ℕ) → k < n → same_tile t (get_or ts k d) ≡ false) → remove ts n ≡ without t ts
remove-is_without t [] n d once below here before = absurd (omega arith)
remove-is_without t (u ∷ us) zero d once below here before =
    let others = subst (λ v. list_any (same_tile v) us ≡ false) (sym (same_tile-true t u here)) (Once-head u us once) in
    sym (cond-false (not (same_tile t u)) (u ∷ without t us) (without t us) (not_from_true _ here) ∙ without-absent t us others)
remove-is_without t (u ∷ us) (suc n) d once below here before =
    ap (λ rest. u ∷ rest) (remove-is_without t us n d (Once-tail u us once) (omega arith) here (λ k lt. before (suc k) (omega arith)))
    ∙ sym (cond-true (not (same_tile t u)) (u ∷ without t us) (without t us) (not_from_false _ (before 0 (omega arith))))

blank : Tile
blank = record { extent = record { size = 0; first = 0 }; frame = 0; rights = NoAccess; dirty = false }

remove-at_position : (t : Tile) (ts : List Tile) (n : ℕ) → Once ts → position (same_tile t) ts ≡ Some n → remove ts n ≡ without t ts
remove-at_position t ts n once is =
    let found = position-Some (same_tile t) ts n blank is in
    remove-is_without t ts n blank once found.0 found.1 found.2

-- what is found is there
found-list_any : {X : Type 0} (p : X → Bool) (xs : List X) → nat_lt (position_or_len p xs) (length xs) ≡ list_any p xs
found-list_any p [] = refl
found-list_any p (x ∷ xs) =
    let n = position_or_len p xs in
    let m = length xs in
    let later : nat_lt (1 + n) (suc m) ≡ nat_lt n m = elim (cases_lt n m) [
      | inl h ↦ lt-ltb (1 + n) (suc m) (omega arith) ∙ sym (lt-ltb n m h)
      | inr h ↦ le-ltb (1 + n) (suc m) (omega arith) ∙ sym (le-ltb n m h)
    ] in
    elim (p x) as (λ b. nat_lt (cond (not b) (1 + position_or_len p xs) 0) (suc (length xs)) ≡ (b || list_any p xs)) [
      | true ↦
          lt-ltb 0 (suc m) (omega arith)
      | false ↦ later ∙ found-list_any p xs
    ]

pub is_some-position : {X : Type 0} (p : X → Bool) (xs : List X) → is_some (position p xs) ≡ list_any p xs
is_some-position p xs =
    elim (nat_lt (position_or_len p xs) (length xs)) as (λ b. is_some (cond b (Some (position_or_len p xs)) None) ≡ b) [
      | true ↦
          refl
      | false ↦ refl
    ]
    ∙ found-list_any p xs

IsImage-without : (t : Tile) (ts : List Tile) → IsImage ts → IsImage (without t ts)
IsImage-without t ts image = record {
  at_most = omega (arith, image.at_most, length-filter (λ u. not (same_tile t u)) ts, count_by-le-length (λ u. not (same_tile t u)) ts);
  once = AllPairs-filter (λ u v. u ≢ v) (λ u. not (same_tile t u)) ts image.once;
}

-- no tile of what is left is the one that was taken out
without-differs : (t : Tile) (ts : List Tile) → All (λ u. same_tile t u ≡ false) (without t ts)
without-differs t ts k d below = not-true _ (filter_passes (λ u. not (same_tile t u)) ts k d below)

pub touched-absent : (t : Tile) (ts : List Tile) → list_any (same_tile t) ts ≡ false → take image_capacity (t ∷ ts) ≡ touched t ts
touched-absent t ts absent = ap (λ us. take image_capacity (t ∷ us)) (sym (without-absent t ts absent))

-- a tile that stands in the image comes to the front of the others, and none has to go
pub touched-found : (t : Tile) (ts : List Tile) (n : ℕ) (d : Tile) → IsImage ts → position (same_tile t) ts ≡ Some n
    → get_or ts n d ∷ remove ts n ≡ touched t ts
touched-found t ts n d image is =
    let found = position-Some (same_tile t) ts n d is in
    let rest = remove-at_position t ts n image.once is in
    let room : length (t ∷ without t ts) ≤ image_capacity = rw (← rest) (omega (arith, image.at_most, length-remove ts n found.0)) in
    (λ i. sym (same_tile-true t (get_or ts n d) found.1) i ∷ rest i) ∙ sym (take_all image_capacity (t ∷ without t ts) room)

Once-take : (n : ℕ) (ts : List Tile) → Once ts → Once (take n ts)
Once-take n ts once i j d lt below =
    let lengths = length-take n ts in
    rw (get_or-take n ts i d (omega (arith, lengths)), get_or-take n ts j d (omega (arith, lengths)))
    (once i j d lt (omega (arith, lengths)))

pub IsImage-touched : (t : Tile) (ts : List Tile) → IsImage ts → IsImage (touched t ts)
IsImage-touched t ts image =
    let left = IsImage-without t ts image in
    let differ : All (λ u. t ≢ u) (without t ts) = λ k d below same.
    false≢true (sym (without-differs t ts k d below) ∙ ap (same_tile t) (sym same) ∙ same_tile-refl t) in
    record {
      at_most = omega (arith, length-take image_capacity (t ∷ without t ts));
      once = Once-take image_capacity (t ∷ without t ts) (AllPairs-cons (λ u v. u ≢ v) t (without t ts) differ left.once);
    }

-- bringing a tile to the front loses none, and makes no other
pub count-rotated : (f : Tile → Bool) (ts : List Tile) (n : ℕ) (d : Tile) → n < length ts
    → count_by f (get_or ts n d ∷ remove ts n) ≡ count_by f ts
count-rotated f ts n d below =
    omega (arith, sum_by-cons (λ u. cond (f u) 1 0) (get_or ts n d) (remove ts n), sum_by-remove (λ u. cond (f u) 1 0) ts n d below)

-- rotating the front of a list by one brings the place that it ends with to the front
pub rotated : (ts : List Tile) (n : ℕ) (d : Tile) → n < length ts
    → (let front = take (n + 1) ts in (drop (length front - 1) front ++ take (length front - 1) front) ++ drop
    (n + 1) ts ≡ get_or ts n d ∷ remove ts n)
rotated ts n d below =
    let front : List Tile = take (n + 1) ts in
    let one : length front - 1 ≡ n = omega (arith, length-take-le (n + 1) ts (omega arith)) in
    let split : front ≡ take n ts ++ get_or ts n d ∷ [] = take_more ts n d below in
    let long = length-take-le n ts (omega arith) in
    let last : drop n front ≡ get_or ts n d ∷ [] = rw split (drop_at (take n ts) (get_or ts n d ∷ []) n long) in
    let others : take n front ≡ take n ts = take-take n (n + 1) ts (omega arith) in
    ap (λ k. (drop k front ++ take k front) ++ drop (n + 1) ts) one ∙ (λ i. (last i ++ others i) ++ drop (add-one n i) ts)

picked-All : (P : Tile → Type 0) (bs : List Bool) (ts : List Tile) → All P ts → All P (items_where_true bs ts)
picked-All P [] ts all = λ k d below. absurd (omega arith)
picked-All P (b ∷ bs) [] all = λ k d below. absurd (omega arith)
picked-All P (true ∷ bs) (t ∷ ts) all =
    All-cons P t (items_where_true bs ts) (All-head P t ts all) (picked-All P bs ts (All-tail P t ts all))
picked-All P (false ∷ bs) (t ∷ ts) all = picked-All P bs ts (All-tail P t ts all)

picked-once : (bs : List Bool) (ts : List Tile) → Once ts → Once (items_where_true bs ts)
picked-once [] ts once = λ i j d lt below. absurd (omega arith)
picked-once (b ∷ bs) [] once = λ i j d lt below. absurd (omega arith)
picked-once (true ∷ bs) (t ∷ ts) once =
    AllPairs-cons (λ u v. u ≢ v) t (items_where_true bs ts)
    (picked-All (λ u. t ≢ u) bs ts (λ k d below. once 0 (suc k) d (omega arith) (omega arith)))
    (picked-once bs ts (Once-tail t ts once))
picked-once (false ∷ bs) (t ∷ ts) once = picked-once bs ts (Once-tail t ts once)

-- what a test keeps of an image is one, whatever it answers
pub IsImage-picked : (bs : List Bool) (ts us : List Tile) → IsImage ts → us ≡ items_where_true bs ts → length us ≤ length ts → IsImage us
IsImage-picked bs ts us image is shorter = record {
  at_most = omega (arith, image.at_most);
  once = subst Once (sym is) (picked-once bs ts image.once);
}

-- and no test is passed by more of them
pub count-picked : (f : Tile → Bool) (bs : List Bool) (ts : List Tile) → count_by f (items_where_true bs ts) ≤ count_by f ts
count-picked f [] ts = omega arith
count-picked f (b ∷ bs) [] = omega arith
count-picked f (true ∷ bs) (t ∷ ts) =
    omega (
      arith,
      sum_by-cons (λ u. cond (f u) 1 0) t (items_where_true bs ts),
      sum_by-cons (λ u. cond (f u) 1 0) t ts,
      count-picked f bs ts,
    )
count-picked f (false ∷ bs) (t ∷ ts) = omega (arith, sum_by-cons (λ u. cond (f u) 1 0) t ts, count-picked f bs ts)

-- where none begins in the range, none of those in it goes
pub kept-outside : (range : PageRange) (test : Tile → Bool) (ts : List Tile) → list_any (begins_in range) ts ≡ false
    → filter (λ t. not (begins_in range t) || test t) ts ≡ ts
kept-outside range test [] none = refl
kept-outside range test (t ∷ ts) none =
    let parts = or_parts (begins_in range t) (list_any (begins_in range) ts) none in
    let passes : (not (begins_in range t) || test t) ≡ true = rw parts.0 refl in
    cond-true _ _ _ passes ∙ ap (λ rest. t ∷ rest) (kept-outside range test ts parts.1)
