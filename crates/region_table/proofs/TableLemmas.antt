-- Laws of the regions of a table, and of what the calls make of them.
use Rattle.std.proofs.Common.{◌≡◌, ℕ, zero, suc, ◌+◌, ◌<◌, ◌≤◌, Bool, true, false, not, cond, ◌||◌, ltb, leb, List, [], ◌∷◌, length, get_or, set, map, filter, Option, Some, None, is_some, ◌⊎◌, inl, inr, refl, sym, ap, ◌∙◌, subst, arith}
use Rattle.std.specs.List.{find, list_any, position, position_or_len, prefix_len, slice_get, insert, remove}
use Rattle.std.specs.List.Sorted.{IsNonDecreasingBy}
use Rattle.std.proofs.lemmas.Bool.{ltb-true, ltb-false, leb-true, leb-false, lt-ltb, le-ltb, le-leb, lt-leb, and_from, and_left, and_right, and_cases, and_parts, or_parts, or_from, not_from_true, not_from_false, cond-true, cond-false, cases_lt, cases_eq, cases_Bool}
use Rattle.std.proofs.lemmas.Bool.Decides.{nat_tests}
use Rattle.std.proofs.lemmas.List.{length-set}
use Rattle.std.proofs.lemmas.List.Edits.{length-insert, length-remove}
use Rattle.std.proofs.lemmas.List.Sums.{prefix_len_passes, prefix_len_stops, prefix_len-le-length, position_or_len_is}
use Rattle.std.proofs.lemmas.List.Folds.{find_at}
use Rattle.std.proofs.lemmas.List.Quantifiers.{position-Some}
use Rattle.std.proofs.lemmas.Option.{slice_get-get_or, slice_get_past, none-some, same_Some}
use Rattle.pager_model.specs.Bounds.{space_pages}
use Rattle.pager_model.specs.declared.region.Region.{Region}
use Rattle.pager_model.specs.declared.region.Kind.{Kind}
use Rattle.pager_model.specs.declared.region.Kind.TheVariants.{Fixed, Growing, Wired}
use Rattle.pager_model.specs.declared.region.Rights.TheVariants.{NoAccess}
use Rattle.pager_model.specs.declared.reply.Reply.{Reply}
use Rattle.pager_model.specs.declared.reply.Reply.TheVariants.{Done, Unmapped, Denied, Overlap, OutOfSpace, NotGrowing}
use Rattle.pager_model.specs.Regions.{end_of, has_page, meets_range, region_at, next_start, with_region, without_region, grown_region, grown_regions, grows, grow_reply, grow_reply_at, is_wired_kind, wire_reply_at, unwire_reply_at, pinned_region, pinned_regions}
use Rattle.pager_model.specs.contracts.region.Kind.{the_type}
use denote.Enum.Bare.{sameb}
use Rattle.region_table.specs.Table.{LieFrom, IsTable, pin_reply}

-- what a read of a region gives past the end
abbrev pub blank : Region
blank = record { first = 0; length = 0; kind = Fixed; rights = NoAccess; pinned = false }

-- a region that ends at the page or below, or begins above it, doesn't have it
pub has_page-end : (page : ℕ) (r : Region) → end_of r ≤ page → has_page page r ≡ false
has_page-end page r h = and_right _ _ (le-ltb page (end_of r) h)

pub has_page-first : (page : ℕ) (r : Region) → page < r.first → has_page page r ≡ false
has_page-first page r h = and_left _ _ (lt-leb r.first page h)

pub has_page-within : (page : ℕ) (r : Region) → r.first ≤ page → page < end_of r → has_page page r ≡ true
has_page-within page r h k = and_from _ _ (le-leb r.first page h) (lt-ltb page (end_of r) k)

-- a range and a region without a common page lie one behind the other
pub apart_from_meets : (first len : ℕ) (r : Region) → meets_range first len r ≡ false → (first + len ≤ r.first) ⊎ (end_of r ≤ first)
apart_from_meets first len r h =
    elim (and_cases _ _ h) [ inl e ↦ inl (ltb-false r.first (first + len) e) | inr e ↦ inr (ltb-false first (end_of r) e) ]

-- what lies from a page on lies from each lower page on
pub LieFrom-lower : (low high : ℕ) (rs : List Region) → low ≤ high → LieFrom high rs → LieFrom low rs
LieFrom-lower low high [] h l = omega arith
LieFrom-lower low high (r ∷ rs) h l = (omega (arith, l.0), l.1, l.2)

pub LieFrom-within : (low : ℕ) (rs : List Region) → LieFrom low rs → low ≤ space_pages
LieFrom-within low [] l = l
LieFrom-within low (r ∷ rs) l = omega (arith, l.0, LieFrom-within (end_of r) rs l.2)

-- none of the regions that lie from a page on begins below it; each has a page, and ends within the space
pub first-ge : (low : ℕ) (rs : List Region) → LieFrom low rs → (j : ℕ) (d : Region) → j < length rs → low ≤ (get_or rs j d).first
first-ge low [] l j d h = absurd (omega arith)
first-ge low (r ∷ rs) l zero d h = l.0
first-ge low (r ∷ rs) l (suc j) d h = omega (arith, l.0, l.1, first-ge (end_of r) rs l.2 j d (omega arith))

pub end-le : (low : ℕ) (rs : List Region) → LieFrom low rs → (j : ℕ) (d : Region) → j < length rs
    → (1 ≤ (get_or rs j d).length) × (end_of (get_or rs j d) ≤ space_pages)
end-le low [] l j d h = absurd (omega arith)
end-le low (r ∷ rs) l zero d h = (l.1, LieFrom-within (end_of r) rs l.2)
end-le low (r ∷ rs) l (suc j) d h = end-le (end_of r) rs l.2 j d (omega arith)

-- each ends before the later ones begin
pub apart : (low : ℕ) (rs : List Region) → LieFrom low rs → (i j : ℕ) (d : Region) → i < j → j < length rs
    → end_of (get_or rs i d) ≤ (get_or rs j d).first
apart low [] l i j d h k = absurd (omega arith)
apart low (r ∷ rs) l i zero d h k = absurd (omega arith)
apart low (r ∷ rs) l zero (suc j) d h k = first-ge (end_of r) rs l.2 j d (omega arith)
apart low (r ∷ rs) l (suc i) (suc j) d h k = apart (end_of r) rs l.2 i j d (omega arith) (omega arith)

-- so their first pages rise, as a search by halves asks
pub first-rises : (low : ℕ) (rs : List Region) → LieFrom low rs → IsNonDecreasingBy (λ r. r.first) rs
first-rises low rs l i j d h k =
    elim (cases_eq i j) [
      | inl e ↦ let P : ℕ → Type 0 = λ n. (get_or rs i d).first ≤ (get_or rs n d).first in
          subst P e (omega arith)
      | inr n ↦ omega (arith, apart low rs l i j d (omega arith) k)
    ]

-- the test by which the search halves
abbrev pub begins_by : ℕ → Region → Bool
begins_by page r = leb r.first page

pub begins_by-below : (page : ℕ) (rs : List Region) (j : ℕ) (d : Region) → j < prefix_len (begins_by page) rs → (get_or rs j d).first ≤ page
begins_by-below page rs j d h = leb-true _ _ (prefix_len_passes (begins_by page) rs j d h)

pub begins_by-above : (low : ℕ) (rs : List Region) → LieFrom low rs → (page j : ℕ) (d : Region) → prefix_len (begins_by page) rs ≤ j
    → j < length rs → page < (get_or rs j d).first
begins_by-above low rs l page j d h k =
    let n = prefix_len (begins_by page) rs in
    let stop = leb-false _ _ (prefix_len_stops (begins_by page) rs d (omega arith)) in
    let rise = first-rises low rs l n j d h k in
    omega (arith, stop, rise)

-- what `prefix_len` says of the first element
pub prefix_len-none : (p : Region → Bool) (r : Region) (rs : List Region) → p r ≡ false → prefix_len p (r ∷ rs) ≡ 0
prefix_len-none p r rs h = cond-false _ _ _ h

pub prefix_len-more : (p : Region → Bool) (r : Region) (rs : List Region) → p r ≡ true → prefix_len p (r ∷ rs) ≡ 1 + prefix_len p rs
prefix_len-more p r rs h = cond-true _ _ _ h

pub prefix_len-zero : (p : Region → Bool) (r : Region) (rs : List Region) → prefix_len p (r ∷ rs) ≡ 0 → p r ≡ false
prefix_len-zero p r rs e =
    elim (cases_Bool (p r)) [ inl passes ↦ absurd (omega (arith, e, prefix_len-more p r rs passes)) | inr fails ↦ fails ]

pub prefix_len-suc : (p : Region → Bool) (r : Region) (rs : List Region) (i : ℕ) → prefix_len p (r ∷ rs) ≡ suc i
    → (p r ≡ true) × (prefix_len p rs ≡ i)
prefix_len-suc p r rs i e =
    elim (cases_Bool (p r)) [
      | inl passes ↦ (passes, omega (arith, e, prefix_len-more p r rs passes))
      | inr fails ↦ absurd (omega (arith, e, prefix_len-none p r rs fails))
    ]

-- of two regions apart, the one that begins first ends before the other begins
new-before : (new r : Region) → 1 ≤ r.length → new.first < r.first → (end_of new ≤ r.first) ⊎ (end_of r ≤ new.first) → end_of new ≤ r.first
new-before new r some before apart = omega arith

new-behind : (new r : Region) → 1 ≤ new.length → r.first ≤ new.first → (end_of new ≤ r.first) ⊎ (end_of r ≤ new.first)
    → end_of r ≤ new.first
new-behind new r some behind apart = omega arith

-- the one place at which a test passes, and none
pub position-is : (p : Region → Bool) (xs : List Region) (i : ℕ) (d : Region) → i < length xs
    → ((k : ℕ) → k < i → p (get_or xs k d) ≡ false) → p (get_or xs i d) ≡ true → position p xs ≡ Some i
position-is p xs i d h before here =
    let e = position_or_len_is p xs i d (omega arith) before (λ _. here) in
    cond-true _ _ _ (lt-ltb (position_or_len p xs) (length xs) (omega (arith, e))) ∙ ap Some e

pub position-is_none : (p : Region → Bool) (xs : List Region) (d : Region) → ((k : ℕ) → k < length xs → p (get_or xs k d) ≡ false)
    → position p xs ≡ None
position-is_none p xs d none =
    let e = position_or_len_is p xs (length xs) d (omega arith) none (λ h. absurd (omega arith)) in
    cond-false _ _ _ (le-ltb (position_or_len p xs) (length xs) (omega (arith, e)))

-- where no region that begins by the page has it, none has it
pub place-none : (low : ℕ) (rs : List Region) → LieFrom low rs → (page n : ℕ) (d : Region) → n ≡ prefix_len (begins_by page) rs
    → ((k : ℕ) → k < n → end_of (get_or rs k d) ≤ page) → position (has_page page) rs ≡ None
place-none low rs l page n d e ended =
    position-is_none (has_page page) rs d (λ k within.
    elim (cases_lt k n) [
      | inl begun ↦ has_page-end page (get_or rs k d) (ended k begun)
      | inr above ↦ has_page-first page (get_or rs k d) (begins_by-above low rs l page k d (omega arith) within)
    ])

-- of those that begin by the page, only the last can have it
pub last-begun : (low : ℕ) (rs : List Region) → LieFrom low rs → (page i k : ℕ) (d : Region) → i + 1 ≡ prefix_len (begins_by page) rs
    → k < i → end_of (get_or rs k d) ≤ page
last-begun low rs l page i k d e h =
    omega (
      arith,
      apart low rs l k i d h (omega (arith, prefix_len-le-length (begins_by page) rs)),
      begins_by-below page rs i d (omega arith),
    )

pub place-some : (low : ℕ) (rs : List Region) → LieFrom low rs → (page i : ℕ) (d : Region) → i + 1 ≡ prefix_len (begins_by page) rs
    → page < end_of (get_or rs i d) → position (has_page page) rs ≡ Some i
place-some low rs l page i d e has =
    position-is (has_page page) rs i d (omega (arith, prefix_len-le-length (begins_by page) rs))
    (λ k h. has_page-end page (get_or rs k d) (last-begun low rs l page i k d e h))
    (has_page-within page (get_or rs i d) (begins_by-below page rs i d (omega arith)) has)

pub place-ended : (low : ℕ) (rs : List Region) → LieFrom low rs → (page i : ℕ) (d : Region) → i + 1 ≡ prefix_len (begins_by page) rs
    → end_of (get_or rs i d) ≤ page → position (has_page page) rs ≡ None
place-ended low rs l page i d e ended =
    place-none low rs l page (i + 1) d e (λ k h.
    elim (cases_lt k i) [
      | inl before ↦ last-begun low rs l page i k d e before
      | inr here ↦ let P : ℕ → Type 0 = λ n. end_of (get_or rs n d) ≤ page in subst P (omega arith) ended
    ])

-- what is found is what stands at that place
pub find-at_none : (p : Region → Bool) (xs : List Region) → position p xs ≡ None → find p xs ≡ None
find-at_none p xs h =
    elim (cases_lt (position_or_len p xs) (length xs)) [
      | inl lt ↦ absurd (none-some _ (sym h ∙ cond-true _ _ _ (lt-ltb _ _ lt)))
      | inr ge ↦ find_at p xs ∙ slice_get_past xs _ ge
    ]

pub find-at_some : (p : Region → Bool) (xs : List Region) (i : ℕ) → position p xs ≡ Some i → find p xs ≡ slice_get xs i
find-at_some p xs i h =
    elim (cases_lt (position_or_len p xs) (length xs)) [
      | inl lt ↦ find_at p xs ∙ ap (slice_get xs) (same_Some _ _ (sym (cond-true _ _ _ (lt-ltb _ _ lt)) ∙ h))
      | inr ge ↦ absurd (none-some _ (sym (cond-false _ _ _ (le-ltb _ _ ge)) ∙ h))
    ]

pub region_at-place : (rs : List Region) (page i : ℕ) (d : Region) → position (has_page page) rs ≡ Some i
    → region_at rs page ≡ Some (get_or rs i d)
region_at-place rs page i d e =
    find-at_some (has_page page) rs i e ∙ slice_get-get_or rs i d ((position-Some (has_page page) rs i d e).0)

-- no region behind a page has it, or has a page of a range that ends there
pub find-none : (low : ℕ) (rs : List Region) → LieFrom low rs → (page : ℕ) → page < low → find (has_page page) rs ≡ None
find-none low [] l page h = refl
find-none low (r ∷ rs) l page h =
    cond-false _ _ _ (has_page-first page r (omega (arith, l.0))) ∙ find-none (end_of r) rs l.2 page (omega (arith, l.0))

pub meets-none : (low : ℕ) (rs : List Region) → LieFrom low rs → (first len : ℕ) → first + len ≤ low
    → list_any (meets_range first len) rs ≡ false
meets-none low [] l first len h = refl
meets-none low (r ∷ rs) l first len h =
    or_from _ _ (and_left _ _ (le-ltb r.first (first + len) (omega (arith, l.0))))
    (meets-none (end_of r) rs l.2 first len (omega (arith, l.0)))

-- the first region of the list begins above the page: nothing behind it tells
meets-step_above : (page len : ℕ) (r : Region) (m : Bool) (f : Option Region) (n : ℕ) → page < r.first → 1 ≤ r.length → f ≡ None
    → (page + len ≤ end_of r → m ≡ false)
    → (meets_range page len r || m) ≡ (is_some (cond (has_page page r) (Some r) f) || ltb (cond (ltb page r.first) r.first n) (page + len))
meets-step_above page len r m f n h k none past = grind (arith, nat_tests)

meets-step_within : (page len : ℕ) (r : Region) (m : Bool) (f : Option Region) (n : ℕ) → r.first ≤ page → page < end_of r → 1 ≤ len
    → (meets_range page len r || m) ≡ (is_some (cond (has_page page r) (Some r) f) || ltb (cond (ltb page r.first) r.first n) (page + len))
meets-step_within page len r m f n h k some = grind (arith, nat_tests)

meets-step_below : (page len : ℕ) (r : Region) (m : Bool) (f : Option Region) (n : ℕ) → end_of r ≤ page
    → m ≡ (is_some f || ltb n (page + len))
    → (meets_range page len r || m) ≡ (is_some (cond (has_page page r) (Some r) f) || ltb (cond (ltb page r.first) r.first n) (page + len))
meets-step_below page len r m f n h e = grind (arith, nat_tests)

-- a region has one of the pages exactly where one has the first of them, or the next one begins before they end
pub meets-is : (low : ℕ) (rs : List Region) → LieFrom low rs → (page len : ℕ) → 1 ≤ len → page + len ≤ space_pages
    → list_any (meets_range page len) rs ≡ (is_some (find (has_page page) rs) || ltb (next_start rs page) (page + len))
meets-is low [] l page len some within = sym (le-ltb space_pages (page + len) within)
meets-is low (r ∷ rs) l page len some within =
    elim (cases_lt page r.first) [
      | inl above ↦ meets-step_above page len r _ _ _ above l.1 (find-none (end_of r) rs l.2 page (omega arith))
          (λ past. meets-none (end_of r) rs l.2 page len past)
      | inr begun ↦ elim (cases_lt page (end_of r)) [
        | inl has ↦ meets-step_within page len r _ _ _ begun has some
        | inr past ↦ meets-step_below page len r _ _ _ past (meets-is (end_of r) rs l.2 page len some within)
      ]
    ]

-- the next region above the page is the one behind all that begin by it
pub next_start-at_some : (rs : List Region) (page i : ℕ) (d : Region) → i ≡ prefix_len (begins_by page) rs → i < length rs
    → next_start rs page ≡ (get_or rs i d).first
next_start-at_some [] page i d e h = absurd (omega arith)
next_start-at_some (r ∷ rs) page zero d e h =
    cond-true _ _ _ (lt-ltb page r.first (leb-false r.first page (prefix_len-zero (begins_by page) r rs (sym e))))
next_start-at_some (r ∷ rs) page (suc i) d e h =
    let begun = prefix_len-suc (begins_by page) r rs i (sym e) in
    cond-false _ _ _ (le-ltb page r.first (leb-true r.first page begun.0)) ∙ next_start-at_some rs page i d (sym begun.1) (omega arith)

pub next_start-at_none : (rs : List Region) (page : ℕ) → length rs ≤ prefix_len (begins_by page) rs → next_start rs page ≡ space_pages
next_start-at_none [] page h = refl
next_start-at_none (r ∷ rs) page h =
    elim (cases_lt page r.first) [
      | inl above ↦ absurd (omega (arith, h, prefix_len-none (begins_by page) r rs (lt-leb r.first page above)))
      | inr begun ↦
          cond-false _ _ _ (le-ltb page r.first begun) ∙ next_start-at_none rs page
          (omega (arith, h, prefix_len-more (begins_by page) r rs (le-leb r.first page begun)))
    ]

-- a new region's place is behind all that begin by its first page
pub with_region-insert : (new : Region) (rs : List Region) (i : ℕ) → i ≡ prefix_len (begins_by new.first) rs
    → with_region new rs ≡ insert rs i new
with_region-insert new [] zero e = refl
with_region-insert new [] (suc i) e = absurd (omega (arith, e))
with_region-insert new (r ∷ rs) zero e =
    cond-true _ _ _ (lt-ltb new.first r.first (leb-false r.first new.first (prefix_len-zero (begins_by new.first) r rs (sym e))))
with_region-insert new (r ∷ rs) (suc i) e =
    let begun = prefix_len-suc (begins_by new.first) r rs i (sym e) in
    cond-false _ _ _ (le-ltb new.first r.first (leb-true r.first new.first begun.0))
    ∙ ap (λ xs. r ∷ xs) (with_region-insert new rs i (sym begun.1))

-- and with it the regions lie one behind another
pub LieFrom-with_region : (low : ℕ) (new : Region) (rs : List Region) → LieFrom low rs → low ≤ new.first → 1 ≤ new.length
    → end_of new ≤ space_pages → list_any (meets_range new.first new.length) rs ≡ false → LieFrom low (with_region new rs)
LieFrom-with_region low new [] l above some within free = (above, some, within)
LieFrom-with_region low new (r ∷ rs) l above some within free =
    let parts = or_parts _ _ free in
    let apart = apart_from_meets new.first new.length r parts.0 in
    elim (cases_lt new.first r.first) [
      | inl before ↦ let P : List Region → Type 0 = LieFrom low in
          subst P (sym (cond-true _ _ _ (lt-ltb new.first r.first before))) (above, some, (new-before new r l.1 before apart, l.1, l.2))
      | inr behind ↦ let P : List Region → Type 0 = LieFrom low in
          subst P (sym (cond-false _ _ _ (le-ltb new.first r.first behind)))
          (l.0, l.1, LieFrom-with_region (end_of r) new rs l.2 (new-behind new r some behind apart) some within parts.1)
    ]

-- the map of a list that begins with r
grown-cons : (f : Region → Region) (r s : Region) (rs ss : List Region) → f r ≡ s → map f rs ≡ ss → map f (r ∷ rs) ≡ s ∷ ss
grown-cons f r s rs ss e es = ap (λ x. x ∷ map f rs) e ∙ ap (λ xs. s ∷ xs) es

range-before : (low by : ℕ) (r : Region) → low ≤ r.first → 1 ≤ r.length → (low + by ≤ r.first) ⊎ (end_of r ≤ low) → low + by ≤ r.first
range-before low by r above some apart = omega arith

-- what stays of regions one behind another lies so too
pub LieFrom-filter : (p : Region → Bool) (low : ℕ) (rs : List Region) → LieFrom low rs → LieFrom low (filter p rs)
LieFrom-filter p low [] l = l
LieFrom-filter p low (r ∷ rs) l =
    elim (cases_Bool (p r)) [
      | inl stays ↦ let P : List Region → Type 0 = LieFrom low in
          subst P (sym (cond-true _ _ _ stays)) (l.0, l.1, LieFrom-filter p (end_of r) rs l.2)
      | inr goes ↦ let P : List Region → Type 0 = LieFrom low in
          subst P (sym (cond-false _ _ _ goes)) (LieFrom-lower low (end_of r) (filter p rs) (omega (arith, l.0))
          (LieFrom-filter p (end_of r) rs l.2))
    ]

-- regions behind a page stay as they are
pub without_region-none : (low : ℕ) (rs : List Region) → LieFrom low rs → (page : ℕ) → page < low → without_region page rs ≡ rs
without_region-none low [] l page h = refl
without_region-none low (r ∷ rs) l page h =
    cond-true _ _ _ (not_from_false _ (has_page-first page r (omega (arith, l.0))))
    ∙ ap (λ xs. r ∷ xs) (without_region-none (end_of r) rs l.2 page (omega (arith, l.0)))

pub grown_regions-none : (low : ℕ) (rs : List Region) → LieFrom low rs → (page by : ℕ) → page < low → grown_regions page by rs ≡ rs
grown_regions-none low [] l page by h = refl
grown_regions-none low (r ∷ rs) l page by h =
    grown-cons (grown_region page by) r r rs rs (cond-false _ _ _ (has_page-first page r (omega (arith, l.0))))
    (grown_regions-none (end_of r) rs l.2 page by (omega (arith, l.0)))

-- the page of a later region is behind the first
pub page-behind : (r : Region) (rs : List Region) → LieFrom (end_of r) rs → (page i : ℕ) (d : Region) → i < length rs
    → has_page page (get_or rs i d) ≡ true → end_of r ≤ page
page-behind r rs l page i d h has =
    omega (arith, first-ge (end_of r) rs l i d h, leb-true (get_or rs i d).first page ((and_parts _ _ has).0))

-- only the region at the place goes, or grows
pub without_region-at : (low : ℕ) (rs : List Region) → LieFrom low rs → (page i : ℕ) (d : Region) → i < length rs
    → has_page page (get_or rs i d) ≡ true → without_region page rs ≡ remove rs i
without_region-at low [] l page i d h has = absurd (omega arith)
without_region-at low (r ∷ rs) l page zero d h has =
    cond-false _ _ _ (not_from_true _ has) ∙ without_region-none (end_of r) rs l.2 page (ltb-true page (end_of r) ((and_parts _ _ has).1))
without_region-at low (r ∷ rs) l page (suc i) d h has =
    cond-true _ _ _ (not_from_false _ (has_page-end page r (page-behind r rs l.2 page i d (omega arith) has)))
    ∙ ap (λ xs. r ∷ xs) (without_region-at (end_of r) rs l.2 page i d (omega arith) has)

abbrev pub longer : ℕ → Region → Region
longer by r = record r { length = r.length + by }

pub grown_regions-at : (low : ℕ) (rs : List Region) → LieFrom low rs → (page by i : ℕ) (d : Region) → i < length rs
    → has_page page (get_or rs i d) ≡ true → grown_regions page by rs ≡ set rs i (longer by (get_or rs i d))
grown_regions-at low [] l page by i d h has = absurd (omega arith)
grown_regions-at low (r ∷ rs) l page by zero d h has =
    grown-cons (grown_region page by) r (longer by r) rs rs (cond-true _ _ _ has)
    (grown_regions-none (end_of r) rs l.2 page by (ltb-true page (end_of r) ((and_parts _ _ has).1)))
grown_regions-at low (r ∷ rs) l page by (suc i) d h has =
    grown-cons (grown_region page by) r r rs (set rs i (longer by (get_or rs i d)))
    (cond-false _ _ _ (has_page-end page r (page-behind r rs l.2 page i d (omega arith) has)))
    (grown_regions-at (end_of r) rs l.2 page by i d (omega arith) has)

-- only the region at the place is pinned
abbrev pub repinned : Bool → Region → Region
repinned pinned r = record r { pinned = pinned }

pub pinned_regions-none : (low : ℕ) (rs : List Region) → LieFrom low rs → (page : ℕ) (pinned : Bool) → page < low
    → pinned_regions page pinned rs ≡ rs
pinned_regions-none low [] l page pinned h = refl
pinned_regions-none low (r ∷ rs) l page pinned h =
    grown-cons (pinned_region page pinned) r r rs rs (cond-false _ _ _ (has_page-first page r (omega (arith, l.0))))
    (pinned_regions-none (end_of r) rs l.2 page pinned (omega (arith, l.0)))

pub pinned_regions-at : (low : ℕ) (rs : List Region) → LieFrom low rs → (page : ℕ) (pinned : Bool) (i : ℕ) (d : Region) → i < length rs
    → has_page page (get_or rs i d) ≡ true → pinned_regions page pinned rs ≡ set rs i (repinned pinned (get_or rs i d))
pinned_regions-at low [] l page pinned i d h has = absurd (omega arith)
pinned_regions-at low (r ∷ rs) l page pinned zero d h has =
    grown-cons (pinned_region page pinned) r (repinned pinned r) rs rs (cond-true _ _ _ has)
    (pinned_regions-none (end_of r) rs l.2 page pinned (ltb-true page (end_of r) ((and_parts _ _ has).1)))
pinned_regions-at low (r ∷ rs) l page pinned (suc i) d h has =
    grown-cons (pinned_region page pinned) r r rs (set rs i (repinned pinned (get_or rs i d)))
    (cond-false _ _ _ (has_page-end page r (page-behind r rs l.2 page i d (omega arith) has)))
    (pinned_regions-at (end_of r) rs l.2 page pinned i d (omega arith) has)

-- and it lies where it lay
pub LieFrom-repinned : (low : ℕ) (rs : List Region) → LieFrom low rs → (i : ℕ) (pinned : Bool) (d : Region) → i < length rs
    → LieFrom low (set rs i (repinned pinned (get_or rs i d)))
LieFrom-repinned low [] l i pinned d h = absurd (omega arith)
LieFrom-repinned low (r ∷ rs) l zero pinned d h = (l.0, l.1, l.2)
LieFrom-repinned low (r ∷ rs) l (suc i) pinned d h = (l.0, l.1, LieFrom-repinned (end_of r) rs l.2 i pinned d (omega arith))

-- what begins behind a free range lies from its end on
pub LieFrom-free : (low by : ℕ) (rs : List Region) → LieFrom low rs → 1 ≤ by → low + by ≤ space_pages → list_any (meets_range low by) rs ≡ false
    → LieFrom (low + by) rs
LieFrom-free low by [] l some within free = within
LieFrom-free low by (r ∷ rs) l some within free =
    (range-before low by r l.0 l.1 (apart_from_meets low by r (or_parts _ _ free).0), l.1, l.2)

-- with a region grown by pages that none has, the regions lie one behind another
pub LieFrom-longer : (low : ℕ) (rs : List Region) → LieFrom low rs → (i by : ℕ) (d : Region) → i < length rs → 1 ≤ by
    → end_of (get_or rs i d) + by ≤ space_pages → list_any (meets_range (end_of (get_or rs i d)) by) rs ≡ false
    → LieFrom low (set rs i (longer by (get_or rs i d)))
LieFrom-longer low [] l i by d h some within free = absurd (omega arith)
LieFrom-longer low (r ∷ rs) l zero by d h some within free =
    let P : ℕ → Type 0 = λ n. LieFrom n rs in
    (l.0, omega (arith, l.1), subst P (omega arith) (LieFrom-free (end_of r) by rs l.2 some within ((or_parts _ _ free).1)))
LieFrom-longer low (r ∷ rs) l (suc i) by d h some within free =
    (l.0, l.1, LieFrom-longer (end_of r) rs l.2 i by d (omega arith) some within ((or_parts _ _ free).1))

-- the table with a region more, without one, and with one grown
pub IsTable-with_region : (rs : List Region) (new : Region) (i : ℕ) → IsTable rs → 1 ≤ new.length → end_of new ≤ space_pages
    → list_any (meets_range new.first new.length) rs ≡ false → length rs < 64 → i ≡ prefix_len (begins_by new.first) rs
    → IsTable (with_region new rs)
IsTable-with_region rs new i t some within free room e = record {
  in_order = LieFrom-with_region 0 new rs t.in_order (omega arith) some within free;
  at_most = rw (with_region-insert new rs i e)
      (omega (arith, length-insert rs i new (omega (arith, prefix_len-le-length (begins_by new.first) rs))));
}

pub IsTable-without_region : (rs : List Region) (page i : ℕ) → IsTable rs → position (has_page page) rs ≡ Some i → (d : Region)
    → (without_region page rs ≡ remove rs i) × IsTable (without_region page rs)
IsTable-without_region rs page i t e d =
    let at = position-Some (has_page page) rs i d e in
    let is = without_region-at 0 rs t.in_order page i d at.0 at.1 in (
      is,
      record {
        in_order = LieFrom-filter _ 0 rs t.in_order;
        at_most = rw is (omega (arith, t.at_most, length-remove rs i at.0));
      },
    )

pub IsTable-grown : (rs : List Region) (page by i : ℕ) (d : Region) → IsTable rs → position (has_page page) rs ≡ Some i → 1 ≤ by
    → end_of (get_or rs i d) + by ≤ space_pages → list_any (meets_range (end_of (get_or rs i d)) by) rs ≡ false
    → (grown_regions page by rs ≡ set rs i (longer by (get_or rs i d))) × IsTable (grown_regions page by rs)
IsTable-grown rs page by i d t e some within free =
    let at = position-Some (has_page page) rs i d e in
    let is = grown_regions-at 0 rs t.in_order page by i d at.0 at.1 in (
      is,
      rw is (record {
        in_order = LieFrom-longer 0 rs t.in_order i by d at.0 some within free;
        at_most = omega (arith, t.at_most, length-set rs i (longer by (get_or rs i d)));
      }),
    )

pub IsTable-pinned : (rs : List Region) (page : ℕ) (pinned : Bool) (i : ℕ) (d : Region) → IsTable rs → position (has_page page) rs ≡ Some i
    → (pinned_regions page pinned rs ≡ set rs i (repinned pinned (get_or rs i d))) × IsTable (pinned_regions page pinned rs)
IsTable-pinned rs page pinned i d t e =
    let at = position-Some (has_page page) rs i d e in
    let is = pinned_regions-at 0 rs t.in_order page pinned i d at.0 at.1 in (
      is,
      rw is (record {
        in_order = LieFrom-repinned 0 rs t.in_order i pinned d at.0;
        at_most = omega (arith, t.at_most, length-set rs i (repinned pinned (get_or rs i d)));
      }),
    )

-- the reply of a pin, by the region that has the page
pub pin_reply-none : (pinned : Bool) (rs : List Region) (page : ℕ) → region_at rs page ≡ None → pin_reply pinned rs page ≡ Unmapped
pin_reply-none true rs page none = ap wire_reply_at none
pin_reply-none false rs page none = ap unwire_reply_at none

pub pin_reply-done : (pinned : Bool) (rs : List Region) (page : ℕ) (r : Region) → region_at rs page ≡ Some r
    → (pinned || not (is_wired_kind r.kind)) ≡ true → pin_reply pinned rs page ≡ Done
pin_reply-done true rs page r at may = ap wire_reply_at at
pin_reply-done false rs page r at may = ap unwire_reply_at at ∙ cond-false _ _ _ (not_true (is_wired_kind r.kind) may)
  where
    not_true : (b : Bool) → not b ≡ true → b ≡ false
    not_true true is = absurd cc
    not_true false is = refl

pub pin_reply-denied : (pinned : Bool) (rs : List Region) (page : ℕ) (r : Region) → region_at rs page ≡ Some r
    → (pinned || not (is_wired_kind r.kind)) ≡ false → pin_reply pinned rs page ≡ Denied
pin_reply-denied true rs page r at may = absurd cc
pin_reply-denied false rs page r at may = ap unwire_reply_at at ∙ cond-true _ _ _ (not_false (is_wired_kind r.kind) may)
  where
    not_false : (b : Bool) → not b ≡ false → b ≡ true
    not_false true is = refl
    not_false false is = absurd cc

-- the region that is pinned is found as it is then
pub region_at-pinned : (rs : List Region) (page : ℕ) (pinned : Bool) (r : Region) → region_at rs page ≡ Some r
    → region_at (pinned_regions page pinned rs) page ≡ Some (repinned pinned r)
region_at-pinned [] page pinned r at = absurd (none-some r at)
region_at-pinned (q ∷ rs) page pinned r at = elim (cases_Bool (has_page page q)) [
  | inl here ↦
      let same : q ≡ r = same_Some q r (sym (cond-true _ _ _ here) ∙ at) in
      ap (λ (p : Region). find (has_page page) (p ∷ pinned_regions page pinned rs)) (cond-true (has_page page q) (repinned pinned q) q here)
      ∙ cond-true _ _ _ here ∙ ap (λ p. Some (repinned pinned p)) same
  | inr there ↦
      ap (λ (p : Region). find (has_page page) (p ∷ pinned_regions page pinned rs)) (cond-false (has_page page q) (repinned pinned q) q there)
      ∙ cond-false _ _ _ there
      ∙ region_at-pinned rs page pinned r (sym (cond-false _ _ _ there) ∙ at)
]

-- the comparison of kinds is the one of the definition
grows-is : (kind : Kind) → grows kind ≡ sameb the_type kind Growing
grows-is Fixed = refl
grows-is Growing = refl
grows-is Wired = refl

-- the reply of a growth, from what the region at the page's place is
module _ (rs : List Region) (page by i : ℕ) (place : Some i ≡ position (has_page page) rs) where
  reply-at : grow_reply rs page by ≡ grow_reply_at rs by (Some (get_or rs i blank))
  reply-at = ap (grow_reply_at rs by) (region_at-place rs page i blank (sym place))

  pub grow_reply-kept : true ≡ not (sameb the_type (get_or rs i blank).kind Growing) → grow_reply rs page by ≡ NotGrowing
  grow_reply-kept kept = reply-at ∙ cond-true _ _ _ (ap not (grows-is _) ∙ sym kept)

  module _ (grown : false ≡ not (sameb the_type (get_or rs i blank).kind Growing)) where
    at-growing : (r : Reply) → cond (not (grows (get_or rs i blank).kind)) NotGrowing r ≡ r
    at-growing r = cond-false _ _ _ (ap not (grows-is _) ∙ sym grown)

    pub grow_reply-far : space_pages < end_of (get_or rs i blank) + by → grow_reply rs page by ≡ OutOfSpace
    grow_reply-far far = reply-at ∙ at-growing _ ∙ cond-true _ _ _ (lt-ltb space_pages _ far)

    pub grow_reply-near : (meets : Bool) → end_of (get_or rs i blank) + by ≤ space_pages
        → meets ≡ list_any (meets_range (end_of (get_or rs i blank)) by) rs → grow_reply rs page by ≡ cond meets Overlap Done
    grow_reply-near meets near is =
        reply-at ∙ at-growing _ ∙ cond-false _ _ _ (le-ltb space_pages _ near) ∙ ap (λ b. cond b Overlap Done) (sym is)
