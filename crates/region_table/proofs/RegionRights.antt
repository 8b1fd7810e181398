-- What map, grow, pin and protect do to the rights of pages, of which each has its own, or else its region's first ones.
use Rattle.std.proofs.Common.{◌≡◌, ◌+◌, ◌≤◌, ℕ, Bool, true, false, if◌then◌else◌, List, [], ◌∷◌, Option, Some, None, is_some, option_map, refl, sym, ap, inl, inr, ◌∙◌, arith}
use Rattle.std.specs.List.{list_any}
use Rattle.std.proofs.lemmas.Bool.{cases_Bool, cond-true, cond-false, leb-true, true≢false}
use Rattle.std.proofs.lemmas.Option.{none-some, same_Some}
use Rattle.pager_model.specs.declared.region.Region.{Region}
use Rattle.pager_model.specs.declared.region.Rights.{Rights}
use Rattle.pager_model.specs.declared.region.Rights.TheVariants.{NoAccess}
use Rattle.pager_model.specs.Bounds.{space_pages}
use Rattle.pager_model.specs.Regions.{end_of, has_page, in_range, meets_range, range_in, region_at, rights_by, with_region, without_region, grown_regions, pinned_regions}
use Rattle.pager_model.proofs.Ranges.{in_bounds}
use Rattle.region_table.specs.Table.{IsTable}
use Rattle.region_table.proofs.RegionSearch.{found_from, found_grown, found_same, found_with, found_within, found_without, grown, grown-new, grown-old, none_in}

-- only pages of regions have rights of their own
abbrev pub OwnRightsIn : List Region → (ℕ → Option Rights) → Type 0
OwnRightsIn regions own = (p : ℕ) → region_at regions p ≡ None → own p ≡ None

-- the pages of regions have these rights
abbrev pub AreRights : List Region → (ℕ → Option Rights) → (ℕ → Rights) → Type 0
AreRights regions own f = (p : ℕ) → is_some (region_at regions p) ≡ true → f p ≡ rights_by (own p) (region_at regions p)

-- A map and a growth.

-- a region's first page and its first rights
abbrev pub start_of : Option Region → Option (ℕ × Rights)
start_of o = option_map (λ (r : Region). (r.first, r.rights)) o

-- The pages of a range had no region, and have one now, with these first rights; every other page has a region that begins at the same page
-- and has the same first rights, or none as before.
pub record Gains (regions changed : List Region) (first len : ℕ) (rights : Rights) : Type 0 where
  pub none : (p : ℕ) → in_range first len p ≡ true → region_at regions p ≡ None
  pub given : (p : ℕ) → in_range first len p ≡ true → (r : Region) × (region_at changed p ≡ Some r) × (r.rights ≡ rights)
  pub others : (p : ℕ) → in_range first len p ≡ false → start_of (region_at changed p) ≡ start_of (region_at regions p)

pub map_gains : (regions : List Region) (new : Region) → list_any (meets_range new.first new.length) regions ≡ false
    → Gains regions (with_region new regions) new.first new.length new.rights
map_gains regions new free =
    record {
      none = λ p has. none_in new.first new.length p regions free has;
      given = λ p has. (new, found_with new regions p free ∙ cond-true _ _ _ has, refl);
      others = λ p hasnt. ap start_of (found_with new regions p free ∙ cond-false _ _ _ hasnt);
    }

-- the region that has the page grows by pages behind it that no region has
pub grow_gains : (regions : List Region) (page by : ℕ) (r : Region) → IsTable regions → region_at regions page ≡ Some r
    → list_any (meets_range (end_of r) by) regions ≡ false → Gains regions (grown_regions page by regions) (end_of r) by r.rights
grow_gains regions page by r ordered at free =
    let at_larger : (p : ℕ) → region_at (grown_regions page by regions) p ≡
    (if has_page p (grown by r) then Some (grown by r) else region_at regions p) =
    λ p. found_grown 0 regions ordered.in_order page by r at p in
    record {
      none = λ p new. none_in (end_of r) by p regions free new;
      given = λ p new. (grown by r, at_larger p ∙ cond-true _ _ _ (grown-new by p r new), refl);
      others = λ p old. elim (cases_Bool (has_page p (grown by r))) [
        | inl has ↦
            let found = found_same 0 regions ordered.in_order page r at p (grown-old by p r has old) in
            ap start_of (at_larger p ∙ cond-true _ _ _ has) ∙ sym (ap start_of found)
        | inr hasnt ↦ ap start_of (at_larger p ∙ cond-false _ _ _ hasnt)
      ];
    }

-- what is the same of regions that begin alike
pub started : (o q : Option Region) → start_of o ≡ start_of q → is_some o ≡ is_some q
started None None same = refl
started None (Some q) same = absurd (none-some (q.first, q.rights) same)
started (Some r) None same = absurd (none-some (r.first, r.rights) (sym same))
started (Some r) (Some q) same = refl

unstarted : (o q : Option Region) → start_of o ≡ start_of q → o ≡ None → q ≡ None
unstarted None None same none = refl
unstarted None (Some q) same none = absurd (none-some (q.first, q.rights) same)
unstarted (Some r) q same none = absurd (none-some r (sym none))

pub rights_alike : (own : Option Rights) (o q : Option Region) → start_of o ≡ start_of q → rights_by own o ≡ rights_by own q
rights_alike (Some x) o q same = refl
rights_alike None None None same = refl
rights_alike None None (Some q) same = absurd (none-some (q.first, q.rights) same)
rights_alike None (Some r) None same = absurd (none-some (r.first, r.rights) (sym same))
rights_alike None (Some r) (Some q) same = ap (λ (x : ℕ × Rights). x.1) (same_Some _ _ same)

-- the pages that gained a region have its first rights, and all others those that they had
module _ (regions changed : List Region) (first len : ℕ) (rights : Rights) (gains : Gains regions changed first len rights) where
  pub gains_owned : (own : ℕ → Option Rights) → OwnRightsIn regions own → OwnRightsIn changed own
  gains_owned own owned p none =
      elim (cases_Bool (in_range first len p)) [
        | inl new ↦ let given = gains.given p new in absurd (none-some given.0 (sym none ∙ given.1))
        | inr old ↦ owned p (unstarted (region_at changed p) (region_at regions p) (gains.others p old) none)
      ]

  pub gains_rights : (own : ℕ → Option Rights) → OwnRightsIn regions own → (f : ℕ → Rights) → AreRights regions own f
      → AreRights changed own (λ p. if in_range first len p then rights else f p)
  gains_rights own owned f before p has =
      elim (cases_Bool (in_range first len p)) [
        | inl new ↦
            let given = gains.given p new in
            cond-true _ _ _ new ∙ sym (rw (given.1, owned p (gains.none p new)) given.2)
        | inr old ↦
            let same = gains.others p old in
            cond-false _ _ _ old ∙ before p (sym (started (region_at changed p) (region_at regions p) same) ∙ has)
            ∙ sym (rights_alike (own p) _ _ same)
      ]

-- A pin.

-- the region that has a page begins where it began, and with the same first rights
pinned_start : (regions : List Region) (page p : ℕ) (pinned : Bool)
    → start_of (region_at (pinned_regions page pinned regions) p) ≡ start_of (region_at regions p)
pinned_start [] page p pinned = refl
pinned_start (r ∷ regions) page p pinned =
    let rest = pinned_start regions page p pinned in
    elim (cases_Bool (has_page page r)) [
      | inl here ↦
          ap (λ (x : Region). start_of (region_at (x ∷ pinned_regions page pinned regions) p))
          (cond-true (has_page page r) (record r { pinned = pinned }) r here)
          ∙ either (has_page p r) (record r { pinned = pinned }) r (region_at (pinned_regions page pinned regions) p) (region_at regions p) refl rest
      | inr there ↦
          ap (λ (x : Region). start_of (region_at (x ∷ pinned_regions page pinned regions) p))
          (cond-false (has_page page r) (record r { pinned = pinned }) r there)
          ∙ either (has_page p r) r r (region_at (pinned_regions page pinned regions) p) (region_at regions p) refl rest
    ]
  where
    either : (b : Bool) (x y : Region) (o q : Option Region) → start_of (Some x) ≡ start_of (Some y) → start_of o ≡ start_of q
        → start_of (if b then Some x else o) ≡ start_of (if b then Some y else q)
    either true x y o q same rest = same
    either false x y o q same rest = rest

-- no page is one of none
pub none_in_empty : (p : ℕ) → in_range 0 0 p ≡ false
none_in_empty p =
    elim (cases_Bool (in_range 0 0 p)) [
      | inl inside ↦ absurd (omega (arith, (in_bounds 0 0 p inside).1))
      | inr outside ↦ outside
    ]

-- so a pin gives no page a region
pub pin_gains : (regions : List Region) (page : ℕ) (pinned : Bool) → Gains regions (pinned_regions page pinned regions) 0 0 NoAccess
pin_gains regions page pinned =
    record {
      none = λ p inside. absurd (true≢false (sym inside ∙ none_in_empty p));
      given = λ p inside. absurd (true≢false (sym inside ∙ none_in_empty p));
      others = λ p outside. pinned_start regions page p pinned;
    }

-- A protect.

-- What is known where a protect is lawful.
pub record LiesInRegion (regions : List Region) (page len : ℕ) : Type 0 where
  pub region : Region
  pub at : region_at regions page ≡ Some region
  pub within : page + len ≤ end_of region

pub lies_from : (regions : List Region) (page len : ℕ) → range_in page len (region_at regions page) ≡ true → LiesInRegion regions page len
lies_from regions page len h = at_region (region_at regions page) refl h
  where
    at_region : (o : Option Region) → region_at regions page ≡ o → range_in page len o ≡ true → LiesInRegion regions page len
    at_region None at h = cc
    at_region (Some r) at h = record { region = r; at = at; within = leb-true _ _ h }

pub lies_in_space : (regions : List Region) (page len : ℕ) → IsTable regions → LiesInRegion regions page len → page + len ≤ space_pages
lies_in_space regions page len ordered lies =
    omega (arith, lies.within, (found_from 0 regions ordered.in_order page lies.region lies.at).in_space)

-- the pages of the range have these rights of their own, and all others what they had
abbrev pub GivesOwn : (first len : ℕ) (rights : Rights) (own given : ℕ → Option Rights) → Type 0
GivesOwn first len rights own given = (p : ℕ) → given p ≡ (if in_range first len p then Some rights else own p)

pub protect_owned : (regions : List Region) (page len : ℕ) (rights : Rights) (own given : ℕ → Option Rights) → IsTable regions
    → LiesInRegion regions page len
    → GivesOwn page len rights own given → OwnRightsIn regions own → OwnRightsIn regions given
protect_owned regions page len rights own given ordered lies gives owned p none =
    elim (cases_Bool (in_range page len p)) [
      | inl ins ↦
          absurd (none-some lies.region (sym none ∙ found_within 0 regions ordered.in_order page len lies.region lies.at lies.within p ins))
      | inr out ↦ gives p ∙ cond-false _ _ _ out ∙ owned p none
    ]

-- so they have these rights
pub protect_rights : (regions : List Region) (first len : ℕ) (rights : Rights) (own given : ℕ → Option Rights)
    → GivesOwn first len rights own given
    → (f : ℕ → Rights) → AreRights regions own f → AreRights regions given (λ p. if in_range first len p then rights else f p)
protect_rights regions first len rights own given gives f before p has =
    elim (cases_Bool (in_range first len p)) [
      | inl ins ↦ cond-true _ _ _ ins ∙ sym (ap (λ o. rights_by o (region_at regions p)) (gives p ∙ cond-true _ _ _ ins))
      | inr out ↦ cond-false _ _ _ out ∙ before p has ∙ sym (ap (λ o. rights_by o (region_at regions p)) (gives p ∙ cond-false _ _ _ out))
    ]

-- An unmap.

-- The region that has the page goes, and its pages lose the rights of their own.
pub record LosesRights (regions : List Region) (page : ℕ) (r : Region) (own given : ℕ → Option Rights) : Type 0 where
  pub ordered : IsTable regions
  pub at : region_at regions page ≡ Some r
  pub forgets : (p : ℕ) → given p ≡ (if in_range r.first r.length p then None else own p)

module _ (regions : List Region) (page : ℕ) (r : Region) (own given : ℕ → Option Rights)
    (loses : LosesRights regions page r own given) where
  at_rest : (p : ℕ) → region_at (without_region page regions) p ≡ (if has_page p r then None else region_at regions p)
  at_rest p = found_without 0 regions loses.ordered.in_order page r loses.at p

  pub unmap_owned : OwnRightsIn regions own → OwnRightsIn (without_region page regions) given
  unmap_owned owned p none =
      elim (cases_Bool (has_page p r)) [
        | inl has ↦ loses.forgets p ∙ cond-true _ _ _ has
        | inr hasnt ↦ loses.forgets p ∙ cond-false _ _ _ hasnt ∙ owned p (sym (at_rest p ∙ cond-false _ _ _ hasnt) ∙ none)
      ]

  -- the pages of the other regions have the rights that they had
  pub unmap_rights : (f : ℕ → Rights) → AreRights regions own f → AreRights (without_region page regions) given f
  unmap_rights f before p is =
      elim (cases_Bool (has_page p r)) [
        | inl has ↦ absurd (true≢false (sym is ∙ ap is_some (at_rest p ∙ cond-true _ _ _ has)))
        | inr hasnt ↦
            let same = at_rest p ∙ cond-false _ _ _ hasnt in
            before p (sym (ap is_some same) ∙ is) ∙ sym (rw (same, loses.forgets p ∙ cond-false _ _ _ hasnt) refl)
      ]
