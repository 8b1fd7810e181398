-- Which region has a page after a map, a growth and an unmap.
use Rattle.std.proofs.Common.{◌≡◌, ℕ, ◌+◌, ◌<◌, ◌≤◌, Bool, true, false, if◌then◌else◌, List, [], ◌∷◌, Option, Some, None, refl, sym, ap, inl, inr, ◌∙◌, arith, not, subst}
use Rattle.std.specs.List.{list_any}
use Rattle.std.proofs.lemmas.Bool.{cases_Bool, cases_lt, cond-true, cond-false, or_parts, lt-ltb, le-ltb, true≢false}
use Rattle.std.proofs.lemmas.Option.{none-some, same_Some}
use Rattle.pager_model.specs.Bounds.{space_pages}
use Rattle.pager_model.specs.declared.region.Region.{Region}
use Rattle.pager_model.specs.Regions.{end_of, has_page, in_range, meets_range, region_at, with_region, without_region, grown_regions}
use Rattle.pager_model.proofs.Ranges.{in_bounds, bounds_in}
use Rattle.region_table.specs.Table.{LieFrom}
use Rattle.region_table.proofs.TableLemmas.{apart_from_meets, has_page-end, has_page-first, LieFrom-within, find-none, without_region-none, grown_regions-none}

-- a page of the range is none of a region that doesn't meet it
no_common : (first len p : ℕ) (r : Region) → meets_range first len r ≡ false → in_range first len p ≡ true → has_page p r ≡ false
no_common first len p r m i =
    let b = in_bounds first len p i in
    elim (apart_from_meets first len r m) [
      | inl before ↦ has_page-first p r (omega arith)
      | inr behind ↦ has_page-end p r (omega arith)
    ]

pub none_in : (first len p : ℕ) (rs : List Region) → list_any (meets_range first len) rs ≡ false → in_range first len p ≡ true
    → region_at rs p ≡ None
none_in first len p [] m i = refl
none_in first len p (r ∷ rs) m i =
    let parts = or_parts (meets_range first len r) (list_any (meets_range first len) rs) m in
    cond-false _ _ _ (no_common first len p r parts.0 i) ∙ none_in first len p rs parts.1 i

pub found_has : (rs : List Region) (page : ℕ) (r : Region) → region_at rs page ≡ Some r → has_page page r ≡ true
found_has [] page r h = absurd (none-some r h)
found_has (s ∷ rs) page r h =
    elim (cases_Bool (has_page page s)) [
      | inl here ↦ ap (has_page page) (sym (same_Some _ _ (sym (cond-true _ _ _ here) ∙ h))) ∙ here
      | inr there ↦ found_has rs page r (sym (cond-false _ _ _ there) ∙ h)
    ]

-- a region that is found begins at the list's start or later, has a page, and ends in the space
pub record IsFound (low : ℕ) (r : Region) : Type 0 where
  pub from_on : low ≤ r.first
  pub some : 1 ≤ r.length
  pub in_space : end_of r ≤ space_pages

pub found_from : (low : ℕ) (rs : List Region) → LieFrom low rs → (page : ℕ) (r : Region) → region_at rs page ≡ Some r → IsFound low r
found_from low [] l page r h = absurd (none-some r h)
found_from low (s ∷ rs) l page r h =
    elim (cases_Bool (has_page page s)) [
      | inl here ↦
          let e : s ≡ r = same_Some _ _ (sym (cond-true _ _ _ here) ∙ h) in
          subst (λ (x : Region). IsFound low x) e (record { from_on = l.0; some = l.1; in_space = LieFrom-within (end_of s) rs l.2 })
      | inr there ↦
          let f = found_from (end_of s) rs l.2 page r (sym (cond-false _ _ _ there) ∙ h) in
          record { from_on = omega (arith, l.0, f.from_on); some = f.some; in_space = f.in_space }
    ]

-- a region that begins behind another has none of its pages
behind_none : (s r : Region) (p : ℕ) → end_of s ≤ r.first → has_page p r ≡ true → has_page p s ≡ false
behind_none s r p h has = has_page-end p s (omega (arith, (in_bounds r.first r.length p has).0))

-- each page of a region finds it
pub found_same : (low : ℕ) (rs : List Region) → LieFrom low rs → (page : ℕ) (r : Region) → region_at rs page ≡ Some r → (p : ℕ)
    → has_page p r ≡ true → region_at rs p ≡ Some r
found_same low [] l page r h p has = absurd (none-some r h)
found_same low (s ∷ rs) l page r h p has =
    elim (cases_Bool (has_page page s)) [
      | inl here ↦
          let e : s ≡ r = same_Some _ _ (sym (cond-true _ _ _ here) ∙ h) in
          cond-true _ _ _ (ap (has_page p) e ∙ has) ∙ ap Some e
      | inr there ↦
          let tail = sym (cond-false _ _ _ there) ∙ h in
          let f = found_from (end_of s) rs l.2 page r tail in
          cond-false _ _ _ (behind_none s r p f.from_on has) ∙ found_same (end_of s) rs l.2 page r tail p has
    ]

-- two tests of which at most one holds may be made in either order
swap_tests : (a b : Bool) (x y z : Option Region) → (a ≡ true → b ≡ false)
    → (if b then y else (if a then x else z)) ≡ (if a then x else (if b then y else z))
swap_tests true true x y z h = absurd (true≢false (h refl))
swap_tests true false x y z h = refl
swap_tests false true x y z h = refl
swap_tests false false x y z h = refl

pub found_with : (new : Region) (rs : List Region) (p : ℕ) → list_any (meets_range new.first new.length) rs ≡ false
    → region_at (with_region new rs) p ≡ (if has_page p new then Some new else region_at rs p)
found_with new [] p m = refl
found_with new (r ∷ rs) p m =
    let parts = or_parts (meets_range new.first new.length r) (list_any (meets_range new.first new.length) rs) m in
    elim (cases_lt new.first r.first) [
      | inl l ↦ ap (λ xs. region_at xs p) {y = new ∷ r ∷ rs} (cond-true _ _ _ (lt-ltb _ _ l))
      | inr ge ↦
          ap (λ xs. region_at xs p) {y = r ∷ with_region new rs} (cond-false _ _ _ (le-ltb _ _ ge))
          ∙ ap (λ o. if has_page p r then Some r else o) (found_with new rs p parts.1)
          ∙ swap_tests (has_page p new) (has_page p r) _ _ _ (λ has. no_common new.first new.length p r parts.0 has)
    ]

pub found_without : (low : ℕ) (rs : List Region) → LieFrom low rs → (page : ℕ) (r : Region) → region_at rs page ≡ Some r → (p : ℕ)
    → region_at (without_region page rs) p ≡ (if has_page p r then None else region_at rs p)
found_without low [] l page r h p = absurd (none-some r h)
found_without low (s ∷ rs) l page r h p =
    elim (cases_Bool (has_page page s)) [
      | inl here ↦
          let e : s ≡ r = same_Some _ _ (sym (cond-true _ _ _ here) ∙ h) in
          let after : without_region page (s ∷ rs) ≡ rs = cond-false _ _ _ (ap not here)
          ∙ without_region-none (end_of s) rs l.2 page (in_bounds s.first s.length page here).1 in
          ap (λ xs. region_at xs p) after
          ∙ elim (cases_Bool (has_page p s)) [
            | inl has ↦ find-none (end_of s) rs l.2 p (in_bounds s.first s.length p has).1
                ∙ sym (cond-true _ _ _ (ap (has_page p) (sym e) ∙ has))
            | inr hasnt ↦ sym (cond-false _ _ _ (ap (has_page p) (sym e) ∙ hasnt) ∙ cond-false _ _ _ hasnt)
          ]
      | inr there ↦
          let tail = sym (cond-false _ _ _ there) ∙ h in
          let f = found_from (end_of s) rs l.2 page r tail in
          let after : without_region page (s ∷ rs) ≡ s ∷ without_region page rs = cond-true _ _ _ (ap not there) in
          ap (λ xs. region_at xs p) after
          ∙ ap (λ o. if has_page p s then Some s else o) (found_without (end_of s) rs l.2 page r tail p)
          ∙ swap_tests (has_page p r) (has_page p s) _ _ _ (λ has. behind_none s r p f.from_on has)
    ]

-- the region is longer by so many pages
abbrev pub grown : ℕ → Region → Region
grown by r = record r { length = r.length + by }

has_grown : (by p : ℕ) (r : Region) → has_page p (grown by r) ≡ false → has_page p r ≡ false
has_grown by p r h =
    elim (cases_Bool (has_page p r)) [
      | inl has ↦ let b = in_bounds r.first r.length p has in absurd (true≢false
          (sym (bounds_in r.first (r.length + by) p b.0 (omega arith)) ∙ h))
      | inr hasnt ↦ hasnt
    ]

pub found_grown : (low : ℕ) (rs : List Region) → LieFrom low rs → (page by : ℕ) (r : Region) → region_at rs page ≡ Some r → (p : ℕ)
    → region_at (grown_regions page by rs) p ≡ (if has_page p (grown by r) then Some (grown by r) else region_at rs p)
found_grown low [] l page by r h p = absurd (none-some r h)
found_grown low (s ∷ rs) l page by r h p =
    elim (cases_Bool (has_page page s)) [
      | inl here ↦
          let e : s ≡ r = same_Some _ _ (sym (cond-true _ _ _ here) ∙ h) in
          let after : grown_regions page by (s ∷ rs) ≡ grown by s ∷ rs =
          ap (λ x. x ∷ grown_regions page by rs) (cond-true _ _ _ here)
          ∙ ap (λ xs. grown by s ∷ xs) (grown_regions-none (end_of s) rs l.2 page by (in_bounds s.first s.length page here).1) in
          ap (λ xs. region_at xs p) after
          ∙ subst (λ (x : Region). (if has_page p (grown by s) then Some (grown by s) else region_at rs p) ≡
          (if has_page p (grown by x) then Some (grown by x) else (if has_page p s then Some s else region_at rs p))) e
          (elim (cases_Bool (has_page p (grown by s))) [
            | inl has ↦ cond-true _ _ _ has ∙ sym (cond-true _ _ _ has)
            | inr hasnt ↦ cond-false _ _ _ hasnt ∙ sym (cond-false _ _ _ hasnt ∙ cond-false _ _ _ (has_grown by p s hasnt))
          ])
      | inr there ↦
          let tail = sym (cond-false _ _ _ there) ∙ h in
          let f = found_from (end_of s) rs l.2 page r tail in
          let after : grown_regions page by (s ∷ rs) ≡ s ∷ grown_regions page by rs =
          ap (λ x. x ∷ grown_regions page by rs) (cond-false _ _ _ there) in
          ap (λ xs. region_at xs p) after
          ∙ ap (λ o. if has_page p s then Some s else o) (found_grown (end_of s) rs l.2 page by r tail p)
          ∙ swap_tests (has_page p (grown by r)) (has_page p s) _ _ _ (λ has. behind_none s (grown by r) p f.from_on has)
    ]

-- a page of the longer region is one of its old pages or of its new ones
pub grown-old : (by p : ℕ) (r : Region) → has_page p (grown by r) ≡ true → in_range (end_of r) by p ≡ false → has_page p r ≡ true
grown-old by p r has out =
    let b = in_bounds r.first (r.length + by) p has in
    elim (cases_lt p (end_of r)) [
      | inl l ↦ bounds_in r.first r.length p b.0 l
      | inr past ↦ absurd (true≢false (sym (bounds_in (end_of r) by p past (omega arith)) ∙ out))
    ]

pub grown-new : (by p : ℕ) (r : Region) → in_range (end_of r) by p ≡ true → has_page p (grown by r) ≡ true
grown-new by p r new = let b = in_bounds (end_of r) by p new in bounds_in r.first (r.length + by) p (omega arith) (omega arith)

-- each page of a range within a region finds it
pub found_within : (low : ℕ) (rs : List Region) → LieFrom low rs → (page len : ℕ) (r : Region) → region_at rs page ≡ Some r
    → page + len ≤ end_of r → (p : ℕ) → in_range page len p ≡ true → region_at rs p ≡ Some r
found_within low rs l page len r at within p inside =
    let b = in_bounds page len p inside in
    found_same low rs l page r at p
    (bounds_in r.first r.length p (omega (arith, (in_bounds r.first r.length page (found_has rs page r at)).0)) (omega arith))

-- what is known of a region that has a page
pub record HasPage (page : ℕ) (r : Region) : Type 0 where
  pub from_on : r.first ≤ page
  pub before_end : page < end_of r
  pub in_space : end_of r ≤ space_pages

pub found_page : (rs : List Region) → LieFrom 0 rs → (page : ℕ) (r : Region) → region_at rs page ≡ Some r → HasPage page r
found_page rs l page r h =
    let b = in_bounds r.first r.length page (found_has rs page r h) in
    record { from_on = b.0; before_end = b.1; in_space = (found_from 0 rs l page r h).in_space }
