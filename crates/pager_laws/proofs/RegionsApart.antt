-- The regions of a space: no two have a common page, and which one has a page after a map, a growth, an unmap and a pin.
use Rattle.std.proofs.Common.{◌≡◌, ◌≢◌, ℕ, ltb, ◌+◌, Bool, true, false, cond, List, [], ◌∷◌, option_map, Some, None, refl, sym, ap, subst, inl, inr, ◌∙◌, arith, not}
use Rattle.std.specs.List.{list_any}
use Rattle.std.proofs.lemmas.Bool.{cases_Bool, cases_lt, cond-true, cond-false, or_parts, lt-ltb, false≢true, true≢false, and_from}
use Rattle.std.proofs.lemmas.Option.{none-some, same_Some}
use Rattle.pager_model.specs.declared.region.Region.{Region}
use Rattle.pager_model.specs.Regions.{end_of, has_page, in_range, is_wired, meets_range, region_at, with_region, without_region, grown_regions, pinned_region, pinned_regions}
use Rattle.pager_model.proofs.Ranges.{in_bounds, bounds_in}

-- each region's pages are none of a later one
abbrev pub AreApart : List Region → Type 0
AreApart [] = Unit {0}
AreApart (r ∷ rs) = ((p : ℕ) → has_page p r ≡ true → region_at rs p ≡ None) × AreApart rs

-- what is found has the page
pub found_has : (rs : List Region) (page : ℕ) (r : Region) → region_at rs page ≡ Some r → has_page page r ≡ true
found_has [] page r h = absurd (none-some r h)
found_has (s ∷ rs) page r h =
    elim (cases_Bool (has_page page s)) [
      | inl here ↦ ap (has_page page) (sym (same_Some _ _ (sym (cond-true _ _ _ here) ∙ h))) ∙ here
      | inr there ↦ found_has rs page r (sym (cond-false _ _ _ there) ∙ h)
    ]

-- the first region has the page, or it is looked for among the others
found_first : (q : Region) (rs : List Region) (p : ℕ) → has_page p q ≡ true → region_at (q ∷ rs) p ≡ Some q
found_first q rs p has = cond-true _ _ _ has

found_later : (q : Region) (rs : List Region) (p : ℕ) → has_page p q ≡ false → region_at (q ∷ rs) p ≡ region_at rs p
found_later q rs p hasnt = cond-false _ _ _ hasnt

-- a region that is found has each of its pages
pub found_same : (rs : List Region) (page p : ℕ) (r : Region) → AreApart rs → region_at rs page ≡ Some r → has_page p r ≡ true
    → region_at rs p ≡ Some r
found_same [] page p r apart at has = absurd (none-some r at)
found_same (q ∷ rs) page p r apart at has =
    elim (cases_Bool (has_page page q)) [
      | inl here ↦
          let same : q ≡ r = same_Some q r (sym (found_first q rs page here) ∙ at) in
          found_first q rs p (ap (has_page p) same ∙ has) ∙ ap Some same
      | inr there ↦
          let later = found_same rs page p r apart.1 (sym (found_later q rs page there) ∙ at) has in
          elim (cases_Bool (has_page p q)) [
            | inl also ↦ absurd (none-some r (sym (apart.0 p also) ∙ later))
            | inr other ↦ found_later q rs p other ∙ later
          ]
    ]

-- a page of a range is none of a region that the range doesn't meet
meets_page : (first len p : ℕ) (r : Region) → in_range first len p ≡ true → has_page p r ≡ true → meets_range first len r ≡ true
meets_page first len p r i h =
    let a = in_bounds first len p i in
    let b = in_bounds r.first r.length p h in
    and_from _ _ (lt-ltb r.first (first + len) (omega (arith, a.1, b.0))) (lt-ltb first (end_of r) (omega (arith, a.0, b.1)))

no_common : (first len p : ℕ) (r : Region) → meets_range first len r ≡ false → in_range first len p ≡ true → has_page p r ≡ false
no_common first len p r m i = elim (cases_Bool (has_page p r)) [
  | inl has ↦ absurd (false≢true (sym m ∙ meets_page first len p r i has))
  | inr hasnt ↦ hasnt
]

-- nor is it found
pub none_in : (first len p : ℕ) (rs : List Region) → list_any (meets_range first len) rs ≡ false → in_range first len p ≡ true
    → region_at rs p ≡ None
none_in first len p [] m i = refl
none_in first len p (r ∷ rs) m i =
    let parts = or_parts (meets_range first len r) (list_any (meets_range first len) rs) m in
    found_later r rs p (no_common first len p r parts.0 i) ∙ none_in first len p rs parts.1 i

-- Maps.

-- a page that isn't of the new region is found as before
pub found_with : (new : Region) (rs : List Region) (p : ℕ) → has_page p new ≡ false → region_at (with_region new rs) p ≡ region_at rs p
found_with new [] p other = found_later new [] p other
found_with new (r ∷ rs) p other =
    elim (cases_Bool (ltb new.first r.first)) [
      | inl before ↦
          ap (λ l. region_at l p) (cond-true _ (new ∷ r ∷ rs) (r ∷ with_region new rs) before)
          ∙ found_later new (r ∷ rs) p other
      | inr behind ↦
          ap (λ l. region_at l p) (cond-false _ (new ∷ r ∷ rs) (r ∷ with_region new rs) behind)
          ∙ elim (cases_Bool (has_page p r)) [
            | inl has ↦ found_first r (with_region new rs) p has ∙ sym (found_first r rs p has)
            | inr hasnt ↦ found_later r (with_region new rs) p hasnt ∙ found_with new rs p other ∙ sym (found_later r rs p hasnt)
          ]
    ]

pub AreApart-with : (new : Region) (rs : List Region) → AreApart rs → list_any (meets_range new.first new.length) rs ≡ false
    → AreApart (with_region new rs)
AreApart-with new [] apart free = (λ p has. refl, tt)
AreApart-with new (r ∷ rs) apart free =
    let parts = or_parts (meets_range new.first new.length r) (list_any (meets_range new.first new.length) rs) free in
    elim (cases_Bool (ltb new.first r.first)) [
      | inl before ↦ subst AreApart (sym (cond-true _ (new ∷ r ∷ rs) (r ∷ with_region new rs) before)) (
        λ p has. none_in new.first new.length p (r ∷ rs) free has,
        apart,
      )
      | inr behind ↦ subst AreApart (sym (cond-false _ (new ∷ r ∷ rs) (r ∷ with_region new rs) behind)) (
        λ p has. elim (cases_Bool (has_page p new)) [
          | inl also ↦ absurd (true≢false (sym has ∙ no_common new.first new.length p r parts.0 also))
          | inr other ↦ found_with new rs p other ∙ apart.0 p has
        ],
        AreApart-with new rs apart.1 parts.1,
      )
    ]

-- Unmaps.

-- a page whose region stays is found in it still
pub found_without : (page : ℕ) (rs : List Region) (p : ℕ) (r : Region) → region_at rs p ≡ Some r → has_page page r ≡ false
    → region_at (without_region page rs) p ≡ Some r
found_without page [] p r at other = absurd (none-some r at)
found_without page (q ∷ rs) p r at other =
    elim (cases_Bool (has_page p q)) [
      | inl here ↦
          let same : q ≡ r = same_Some q r (sym (found_first q rs p here) ∙ at) in
          let stays : not (has_page page q) ≡ true = ap not (ap (has_page page) same ∙ other) in
          ap (λ l. region_at l p) (cond-true _ (q ∷ without_region page rs) (without_region page rs) stays)
          ∙ found_first q (without_region page rs) p here ∙ ap Some same
      | inr there ↦
          let later = found_without page rs p r (sym (found_later q rs p there) ∙ at) other in
          elim (cases_Bool (not (has_page page q))) [
            | inl stays ↦
                ap (λ l. region_at l p) (cond-true _ (q ∷ without_region page rs) (without_region page rs) stays)
                ∙ found_later q (without_region page rs) p there ∙ later
            | inr goes ↦
                ap (λ l. region_at l p) (cond-false _ (q ∷ without_region page rs) (without_region page rs) goes) ∙ later
          ]
    ]

none_without : (page : ℕ) (rs : List Region) (p : ℕ) → region_at rs p ≡ None → region_at (without_region page rs) p ≡ None
none_without page [] p none = refl
none_without page (q ∷ rs) p none =
    elim (cases_Bool (has_page p q)) [
      | inl here ↦ absurd (none-some q (sym none ∙ found_first q rs p here))
      | inr there ↦
          let later = none_without page rs p (sym (found_later q rs p there) ∙ none) in
          elim (cases_Bool (not (has_page page q))) [
            | inl stays ↦
                ap (λ l. region_at l p) (cond-true _ (q ∷ without_region page rs) (without_region page rs) stays)
                ∙ found_later q (without_region page rs) p there ∙ later
            | inr goes ↦
                ap (λ l. region_at l p) (cond-false _ (q ∷ without_region page rs) (without_region page rs) goes) ∙ later
          ]
    ]

pub AreApart-without : (page : ℕ) (rs : List Region) → AreApart rs → AreApart (without_region page rs)
AreApart-without page [] apart = tt
AreApart-without page (q ∷ rs) apart =
    let later = AreApart-without page rs apart.1 in
    elim (cases_Bool (not (has_page page q))) [
      | inl stays ↦ subst AreApart (sym (cond-true _ (q ∷ without_region page rs) (without_region page rs) stays))
          (λ p has. none_without page rs p (apart.0 p has), later)
      | inr goes ↦ subst AreApart (sym (cond-false _ (q ∷ without_region page rs) (without_region page rs) goes)) later
    ]

-- Pins.

-- a pin changes no region's pages
same_pages : (page p : ℕ) (pinned : Bool) (r : Region) → has_page p (pinned_region page pinned r) ≡ has_page p r
same_pages page p pinned r = by_page (has_page page r)
  where
    by_page : (b : Bool) → has_page p (cond b (record r { pinned = pinned }) r) ≡ has_page p r
    by_page true = refl
    by_page false = refl

pub found_pinned : (page : ℕ) (pinned : Bool) (rs : List Region) (p : ℕ)
    → region_at (pinned_regions page pinned rs) p ≡ option_map (pinned_region page pinned) (region_at rs p)
found_pinned page pinned [] p = refl
found_pinned page pinned (q ∷ rs) p =
    elim (cases_Bool (has_page p q)) [
      | inl here ↦
          found_first (pinned_region page pinned q) (pinned_regions page pinned rs) p (same_pages page p pinned q ∙ here)
          ∙ sym (ap (option_map (pinned_region page pinned)) (found_first q rs p here))
      | inr there ↦
          found_later (pinned_region page pinned q) (pinned_regions page pinned rs) p (same_pages page p pinned q ∙ there)
          ∙ found_pinned page pinned rs p
          ∙ sym (ap (option_map (pinned_region page pinned)) (found_later q rs p there))
    ]

pub AreApart-pinned : (page : ℕ) (pinned : Bool) (rs : List Region) → AreApart rs → AreApart (pinned_regions page pinned rs)
AreApart-pinned page pinned [] apart = tt
AreApart-pinned page pinned (q ∷ rs) apart = (
  λ p has. found_pinned page pinned rs p
      ∙ ap (option_map (pinned_region page pinned)) (apart.0 p (sym (same_pages page p pinned q) ∙ has)),
  AreApart-pinned page pinned rs apart.1,
)

-- Growths.

-- where no region has the page, none grows
grown-none : (page by : ℕ) (rs : List Region) → region_at rs page ≡ None → grown_regions page by rs ≡ rs
grown-none page by [] none = refl
grown-none page by (q ∷ rs) none =
    elim (cases_Bool (has_page page q)) [
      | inl has ↦ absurd (none-some q (sym none ∙ found_first q rs page has))
      | inr hasnt ↦
          ap (λ r. r ∷ grown_regions page by rs) (cond-false (has_page page q) (record q { length = q.length + by }) q hasnt)
          ∙ ap (λ l. q ∷ l) (grown-none page by rs (sym (found_later q rs page hasnt) ∙ none))
    ]

-- the region that grows, and the others stay
abbrev longer : ℕ → Region → Region
longer by q = record q { length = q.length + by }

grown-first : (page by : ℕ) (q : Region) (rs : List Region) → AreApart (q ∷ rs) → has_page page q ≡ true
    → grown_regions page by (q ∷ rs) ≡ longer by q ∷ rs
grown-first page by q rs apart has =
    ap (λ r. r ∷ grown_regions page by rs) (cond-true (has_page page q) (longer by q) q has)
    ∙ ap (λ l. longer by q ∷ l) (grown-none page by rs (apart.0 page has))

grown-later : (page by : ℕ) (q : Region) (rs : List Region) → has_page page q ≡ false
    → grown_regions page by (q ∷ rs) ≡ q ∷ grown_regions page by rs
grown-later page by q rs hasnt =
    ap (λ r. r ∷ grown_regions page by rs) (cond-false (has_page page q) (longer by q) q hasnt)

-- a page of a region that grew was one before, or is one of those that it grew by
longer_has : (by p : ℕ) (q : Region) → in_range (end_of q) by p ≡ false → has_page p q ≡ false → has_page p (longer by q) ≡ false
longer_has by p q out hasnt = elim (cases_Bool (has_page p (longer by q))) [
  | inl has ↦
      let b = in_bounds q.first (q.length + by) p has in
      elim (cases_lt p (end_of q)) [
        | inl old ↦ absurd (false≢true (sym hasnt ∙ bounds_in q.first q.length p b.0 (omega (arith, old))))
        | inr new ↦ absurd (false≢true (sym out ∙ bounds_in (end_of q) by p (omega (arith, new)) (omega (arith, b.1))))
      ]
  | inr none ↦ none
]

has_longer : (by p : ℕ) (q : Region) → has_page p q ≡ true → has_page p (longer by q) ≡ true
has_longer by p q has =
    let b = in_bounds q.first q.length p has in
    bounds_in q.first (q.length + by) p b.0 (omega (arith, b.1))

-- a region has the page, and none has a page of those behind it
pub record HasRoom (rs : List Region) (page by : ℕ) (r : Region) : Type 0 where
  pub at : region_at rs page ≡ Some r
  pub free : list_any (meets_range (end_of r) by) rs ≡ false

room_later : (q : Region) (rs : List Region) (page by : ℕ) (r : Region) → has_page page q ≡ false → HasRoom (q ∷ rs) page by r
    → HasRoom rs page by r
room_later q rs page by r hasnt room = record {
  at = sym (found_later q rs page hasnt) ∙ room.at;
  free = (or_parts (meets_range (end_of r) by q) (list_any (meets_range (end_of r) by) rs) room.free).1;
}

-- the region that grows is the first one here
room_first : (q : Region) (rs : List Region) (page by : ℕ) (r : Region) → has_page page q ≡ true → HasRoom (q ∷ rs) page by r → r ≡ q
room_first q rs page by r has room = same_Some r q (sym room.at ∙ found_first q rs page has)

-- a page that a region has isn't one of those that the region grows by
out_of_room : (q : Region) (rs : List Region) (page by p : ℕ) (r : Region) → has_page page q ≡ true → HasRoom (q ∷ rs) page by r
    → region_at (q ∷ rs) p ≢ None → in_range (end_of q) by p ≡ false
out_of_room q rs page by p r has room found = elim (cases_Bool (in_range (end_of q) by p)) [
  | inl new ↦
      let same = room_first q rs page by r has room in
      absurd (found (none_in (end_of q) by p (q ∷ rs) (subst (λ t. list_any (meets_range (end_of t) by) (q ∷ rs) ≡ false) same room.free) new))
  | inr old ↦ old
]

-- a page with a region is in a region that is wired as that was
pub wired-grown : (rs : List Region) (page by p : ℕ) (r o : Region) → AreApart rs → HasRoom rs page by r → region_at rs p ≡ Some o
    → (t : Region) × (region_at (grown_regions page by rs) p ≡ Some t) × (is_wired t ≡ is_wired o)
wired-grown [] page by p r o apart room at = absurd (none-some o at)
wired-grown (q ∷ rs) page by p r o apart room at =
    elim (cases_Bool (has_page page q)) [
      | inl grows ↦
          let list = ap (λ l. region_at l p) (grown-first page by q rs apart grows) in
          elim (cases_Bool (has_page p q)) [
            | inl here ↦ (
              longer by q,
              list ∙ found_first (longer by q) rs p (has_longer by p q here),
              ap is_wired (same_Some q o (sym (found_first q rs p here) ∙ at)),
            )
            | inr there ↦
                let out = out_of_room q rs page by p r grows room (λ none. none-some o (sym none ∙ at)) in (
                  o,
                  list ∙ found_later (longer by q) rs p (longer_has by p q out there) ∙ sym (found_later q rs p there) ∙ at,
                  refl,
                )
          ]
      | inr stays ↦
          let list = ap (λ l. region_at l p) (grown-later page by q rs stays) in
          elim (cases_Bool (has_page p q)) [
            | inl here ↦ (
              q,
              list ∙ found_first q (grown_regions page by rs) p here,
              ap is_wired (same_Some q o (sym (found_first q rs p here) ∙ at)),
            )
            | inr there ↦
                let later = wired-grown rs page by p r o apart.1 (room_later q rs page by r stays room)
                (sym (found_later q rs p there) ∙ at) in
                (later.0, list ∙ found_later q (grown_regions page by rs) p there ∙ later.1, later.2)
          ]
    ]

-- a page without a region that isn't one of those that a region grows by has none still
none_grown : (rs : List Region) (page by p : ℕ) (r : Region) → AreApart rs → HasRoom rs page by r → region_at rs p ≡ None
    → in_range (end_of r) by p ≡ false → region_at (grown_regions page by rs) p ≡ None
none_grown [] page by p r apart room none out = refl
none_grown (q ∷ rs) page by p r apart room none out =
    let there : has_page p q ≡ false = elim (cases_Bool (has_page p q)) [
      | inl here ↦ absurd (none-some q (sym none ∙ found_first q rs p here))
      | inr there ↦ there
    ] in
    let later = sym (found_later q rs p there) ∙ none in
    elim (cases_Bool (has_page page q)) [
      | inl grows ↦
          let same = room_first q rs page by r grows room in
          ap (λ l. region_at l p) (grown-first page by q rs apart grows)
          ∙ found_later (longer by q) rs p (longer_has by p q (subst (λ t. in_range (end_of t) by p ≡ false) same out) there)
          ∙ later
      | inr stays ↦
          ap (λ l. region_at l p) (grown-later page by q rs stays)
          ∙ found_later q (grown_regions page by rs) p there
          ∙ none_grown rs page by p r apart.1 (room_later q rs page by r stays room) later out
    ]

pub AreApart-grown : (rs : List Region) (page by : ℕ) (r : Region) → AreApart rs → HasRoom rs page by r
    → AreApart (grown_regions page by rs)
AreApart-grown [] page by r apart room = tt
AreApart-grown (q ∷ rs) page by r apart room =
    elim (cases_Bool (has_page page q)) [
      | inl grows ↦
          let same = room_first q rs page by r grows room in
          let free = (or_parts (meets_range (end_of q) by q) (list_any (meets_range (end_of q) by) rs)
          (subst (λ t. list_any (meets_range (end_of t) by) (q ∷ rs) ≡ false) same room.free)).1 in
          subst AreApart (sym (grown-first page by q rs apart grows)) (
            λ p has. elim (cases_Bool (has_page p q)) [
              | inl old ↦ apart.0 p old
              | inr new ↦ elim (cases_Bool (in_range (end_of q) by p)) [
                | inl inside ↦ none_in (end_of q) by p rs free inside
                | inr out ↦ absurd (false≢true (sym (longer_has by p q out new) ∙ has))
              ]
            ],
            apart.1,
          )
      | inr stays ↦
          let room_there = room_later q rs page by r stays room in
          let behind = (or_parts (meets_range (end_of r) by q) (list_any (meets_range (end_of r) by) rs) room.free).0 in
          subst AreApart (sym (grown-later page by q rs stays)) (
            λ p has. none_grown rs page by p r apart.1 room_there (apart.0 p has) (elim (cases_Bool (in_range (end_of r) by p)) [
              | inl inside ↦ absurd (true≢false (sym has ∙ no_common (end_of r) by p q behind inside))
              | inr out ↦ out
            ]),
            AreApart-grown rs page by r apart.1 room_there,
          )
    ]
