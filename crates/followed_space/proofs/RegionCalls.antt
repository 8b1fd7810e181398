-- What is followed after a region is mapped, grows, is pinned, goes, or gets other rights, and after a range is discarded.
use Rattle.std.proofs.Common.{◌≡◌, ℕ, ◌⊎◌, Bool, true, false, ◌&&◌, if◌then◌else◌, List, Option, Some, None, option_map, refl, sym, ap, inl, inr, ◌∙◌, subst}
use Rattle.std.proofs.lemmas.Bool.{cases_Bool, cond-true, cond-false}
use Rattle.std.proofs.lemmas.Option.{none-some, same_Some}
use Rattle.pager_model.specs.declared.call.Call.TheVariants.{Map, Grow, Unmap, Protect, Discard, Wire, Unwire}
use Rattle.pager_model.specs.declared.entry.Entry.{Entry}
use Rattle.pager_model.specs.declared.region.Kind.{Kind}
use Rattle.pager_model.specs.declared.region.Region.{Region}
use Rattle.pager_model.specs.declared.region.Rights.{Rights}
use Rattle.pager_model.specs.declared.region.Rights.TheVariants.{NoAccess}
use Rattle.pager_model.specs.declared.reply.Reply.TheVariants.{Done, Unmapped}
use Rattle.pager_model.specs.declared.tile.Mapping.{Mapping}
use Rattle.pager_model.specs.Flat.{Flat, after_call, is_lawful}
use Rattle.pager_model.specs.Regions.{end_of, has_page, in_range, meets_range, region_at, with_region, without_region, grown_regions, pinned_regions, range_in}
use Rattle.pager_model.specs.SpaceStates.{SpaceState, IsCleared, IsClearedAt, base_after, space_after}
use Rattle.pager_model.specs.Tiles.{mapping_with, mappings}
use Rattle.region_table.specs.Table.{IsTable, region_of}
use Rattle.page_rights.specs.Rights.{RightsTree, rights_of}
use Rattle.pager_laws.proofs.RegionReplies.{Grows}
use Rattle.followed_space.specs.Follows.{Followed, Follows, IsNext, Keeps, Serves}
use Rattle.followed_space.proofs.Keeping.{absent_base, absent_mapping, frame_in}
use Rattle.region_table.proofs.RegionRights.{AreRights, Gains, GivesOwn, LiesInRegion, LosesRights, OwnRightsIn, gains_rights, grow_gains, lies_from, map_gains, none_in_empty, pin_gains, protect_rights, start_of, unmap_rights}
use Rattle.region_table.proofs.RegionSearch.{found_without}
use Rattle.followed_space.proofs.ServedCalls.{served}
use Rattle.std.specs.List.{list_any}
use Rattle.tiles.specs.Resident.{Protects, mapping_at, with_rights}

-- the regions changed, and with them the rights of pages that aren't resident
keeps_regions : (old : Followed) (changed : List Region) (given : RightsTree) (f g : Flat) (b d : ℕ → Option ℕ)
    → Keeps old f b → g.regions ≡ changed → AreRights changed (rights_of given) g.rights → ((p : ℕ) → d p ≡ b p)
    → ((p : ℕ) → (b p ≡ None) ⊎ (mapping_with (b p) (region_at g.regions p) (g.rights p) (g.dirty p) ≡ mappings f b p))
    → Keeps (record old { regions = changed; own = given }) g d
keeps_regions old changed given f g b d k regions_are rights base still =
    record {
      regions = regions_are;
      rights = rights;
      base = λ p. base p ∙ k.base p;
      pages = λ p. ap (λ o. mapping_with o (region_at g.regions p) (g.rights p) (g.dirty p)) (base p) ∙ elim (still p) [
        | inl none ↦ ap (λ o. mapping_with o (region_at g.regions p) (g.rights p) (g.dirty p)) none ∙ sym (absent_mapping old f b p k none)
        | inr same ↦ same ∙ k.pages p
      ];
    }

-- what is said of a page depends on the first page of its region alone
mapping_alike : (o : Option ℕ) (r q : Option Region) (x y : Rights) (d : Bool) → start_of r ≡ start_of q → x ≡ y
    → mapping_with o r x d ≡ mapping_with o q y d
mapping_alike None r q x y d same right = refl
mapping_alike (Some n) None None x y d same right = refl
mapping_alike (Some n) None (Some q) x y d same right = absurd (none-some (q.first, q.rights) same)
mapping_alike (Some n) (Some r) None x y d same right = absurd (none-some (r.first, r.rights) (sym same))
mapping_alike (Some n) (Some r) (Some q) x y d same right =
    let first : r.first ≡ q.first = ap (λ (s : ℕ × Rights). s.0) (same_Some _ _ same) in
    rw (first, right) refl

-- Maps and growths.

-- A flat memory gets these regions, and the pages of a range these rights, and no page another frame or flag.
record Gives (f g : Flat) (b d : ℕ → Option ℕ) (regions : List Region) (first len : ℕ) (rights : Rights) : Type 0 where
  regions_are : g.regions ≡ regions
  rights_then : (p : ℕ) → g.rights p ≡ (if in_range first len p then rights else f.rights p)
  dirty : (p : ℕ) → g.dirty p ≡ f.dirty p
  base : (p : ℕ) → d p ≡ b p

module _ (old : Followed) (changed : List Region) (first len : ℕ) (rights : Rights)
    (gains : Gains old.regions changed first len rights) where
  keeps_gained : OwnRightsIn old.regions (rights_of old.own) → (f g : Flat) (b d : ℕ → Option ℕ) → Keeps old f b
      → Gives f g b d changed first len rights
      → Keeps (record old { regions = changed }) g d
  keeps_gained owned f g b d k gives =
      keeps_regions old changed old.own f g b d k gives.regions_are
      (λ p has. gives.rights_then p
      ∙ gains_rights old.regions changed first len rights gains (rights_of old.own) owned f.rights k.rights p has) gives.base
      (λ p. elim (cases_Bool (in_range first len p)) [
        | inl new ↦ inl (absent_base old f b p k (gains.none p new))
        | inr out ↦
            let start =
            ap (λ rs. start_of (region_at rs p)) gives.regions_are ∙ gains.others p out
            ∙ sym (ap (λ rs. start_of (region_at rs p)) k.regions) in
            let right = gives.rights_then p ∙ cond-false _ _ _ out in
            inr (ap (mapping_with (b p) (region_at g.regions p) (g.rights p)) (gives.dirty p)
            ∙ mapping_alike (b p) (region_at g.regions p) (region_at f.regions p) (g.rights p) (f.rights p) (f.dirty p) start right)
      ])

-- a region was mapped
pub follows_mapped : (old : Followed) (page len : ℕ) (kind : Kind) (rights : Rights) → list_any (meets_range page len) old.regions ≡ false
    → OwnRightsIn old.regions (rights_of old.own) → (st : SpaceState) (e : Entry) (space : ℕ) → Serves e (Map space page len kind rights)
    → IsNext old st e
    → Follows (record old { regions = with_region (region_of page len kind rights) old.regions }) (space_after st e)
follows_mapped old page len kind rights free owned st e space by next =
    let s = served old st e (Map space page len kind rights) by next in
    let g = after_call st.flat (Map space page len kind rights) in
    let changed = with_region (region_of page len kind rights) old.regions in
    let after = base_after st.base e.frames e.what in
    subst (λ (x : Flat). Keeps (record old { regions = changed }) x after) (sym s.flat)
    (keeps_gained old changed page len rights
    (map_gains old.regions (region_of page len kind rights) free) owned st.flat g st.base after next.follows
    (record {
      regions_are = cond-true _ _ _ s.asked ∙ ap (with_region (region_of page len kind rights)) next.follows.regions;
      rights_then = λ p. ap (λ b. if b && in_range page len p then rights else st.flat.rights p) s.asked;
      dirty = λ p. refl;
      base = s.base;
    }))

-- a region grew
pub follows_grown : (old : Followed) (page by : ℕ) → IsTable old.regions → (grows : Grows old.regions page by)
    → OwnRightsIn old.regions (rights_of old.own)
    → (st : SpaceState) (e : Entry) (space : ℕ) → Serves e (Grow space page by) → IsNext old st e
    → Follows (record old { regions = grown_regions page by old.regions }) (space_after st e)
follows_grown old page by ordered grows owned st e space by_it next =
    let r = grows.region in
    let s = served old st e (Grow space page by) by_it next in
    let g = after_call st.flat (Grow space page by) in
    let changed = grown_regions page by old.regions in
    let found : region_at st.flat.regions page ≡ Some r = ap (λ rs. region_at rs page) next.follows.regions ∙ grows.at in
    let after = base_after st.base e.frames e.what in
    subst (λ (x : Flat). Keeps (record old { regions = changed }) x after) (sym s.flat)
    (keeps_gained old changed (end_of r) by r.rights
    (grow_gains old.regions page by r ordered grows.at grows.free) owned st.flat g st.base after next.follows
    (record {
      regions_are = cond-true _ _ _ s.asked ∙ ap (grown_regions page by) next.follows.regions;
      rights_then = λ p. rw (s.asked, found) refl;
      dirty = λ p. refl;
      base = s.base;
    }))

-- a region was pinned
pub follows_wired : (old : Followed) (page : ℕ) → OwnRightsIn old.regions (rights_of old.own)
    → (st : SpaceState) (e : Entry) (space : ℕ) → Serves e (Wire space page) → IsNext old st e
    → Follows (record old { regions = pinned_regions page true old.regions }) (space_after st e)
follows_wired old page owned st e space by next =
    let s = served old st e (Wire space page) by next in
    let g = after_call st.flat (Wire space page) in
    let changed = pinned_regions page true old.regions in
    let after = base_after st.base e.frames e.what in
    subst (λ (x : Flat). Keeps (record old { regions = changed }) x after) (sym s.flat)
    (keeps_gained old changed 0 0 NoAccess (pin_gains old.regions page true) owned st.flat g st.base after next.follows
    (record {
      regions_are = ap (pinned_regions page true) next.follows.regions;
      rights_then = λ p. sym (cond-false _ _ _ (none_in_empty p));
      dirty = λ p. refl;
      base = s.base;
    }))

-- a region is pinned no longer
pub follows_unwired : (old : Followed) (page : ℕ) → OwnRightsIn old.regions (rights_of old.own)
    → (st : SpaceState) (e : Entry) (space : ℕ) → Serves e (Unwire space page) → IsNext old st e
    → Follows (record old { regions = pinned_regions page false old.regions }) (space_after st e)
follows_unwired old page owned st e space by next =
    let s = served old st e (Unwire space page) by next in
    let g = after_call st.flat (Unwire space page) in
    let changed = pinned_regions page false old.regions in
    let after = base_after st.base e.frames e.what in
    subst (λ (x : Flat). Keeps (record old { regions = changed }) x after) (sym s.flat)
    (keeps_gained old changed 0 0 NoAccess (pin_gains old.regions page false) owned st.flat g st.base after next.follows
    (record {
      regions_are = cond-true _ _ _ s.asked ∙ ap (pinned_regions page false) next.follows.regions;
      rights_then = λ p. sym (cond-false _ _ _ (none_in_empty p));
      dirty = λ p. refl;
      base = s.base;
    }))

-- Unmaps and discards.

-- a region went
pub follows_unmapped : (old : Followed) (page : ℕ) (r : Region) (forgotten : RightsTree)
    → LosesRights old.regions page r (rights_of old.own) (rights_of forgotten)
    → (st : SpaceState) (e : Entry) (space : ℕ) → Serves e (Unmap space page) → IsNext old st e
    → Follows (record old { regions = without_region page old.regions; own = forgotten }) (space_after st e)
follows_unmapped old page r forgotten loses st e space by next =
    let s = served old st e (Unmap space page) by next in
    let k = next.follows in
    let f = st.flat in
    let g = after_call f (Unmap space page) in
    let fewer = without_region page old.regions in
    let found : region_at f.regions page ≡ Some r = ap (λ rs. region_at rs page) k.regions ∙ loses.at in
    let cleared : IsCleared st e.processor r = subst (IsClearedAt st e.processor) found s.pages in
    let regions_then : g.regions ≡ fewer = ap (without_region page) k.regions in
    subst (λ (x : Flat). Keeps (record old { regions = fewer; own = forgotten }) x (base_after st.base e.frames e.what)) (sym s.flat)
    (keeps_regions old fewer forgotten f g st.base (base_after st.base e.frames e.what) k regions_then
    (unmap_rights old.regions page r (rights_of old.own) (rights_of forgotten) loses f.rights k.rights) s.base
    (λ p. elim (cases_Bool (has_page p r)) [
      | inl gone ↦ inl (cleared.none p gone)
      | inr stays ↦
          let same : region_at g.regions p ≡ region_at f.regions p =
          ap (λ rs. region_at rs p) regions_then ∙ found_without 0 old.regions loses.ordered.in_order page r loses.at p
          ∙ cond-false _ _ _ stays
          ∙ sym (ap (λ rs. region_at rs p) k.regions) in
          let clean : g.dirty p ≡ f.dirty p = rw found (cond-false _ _ _ stays) in
          inr (rw (same, clean) refl)
    ]))

-- the pages of a range, which gave their frames up before, are new but for their rights
pub follows_discarded : (kept : Followed) (space page len : ℕ) → (st : SpaceState) (e : Entry) → Serves e (Discard space page len)
    → IsNext kept st e → Follows kept (space_after st e)
follows_discarded kept space page len st e by next =
    let s = served kept st e (Discard space page len) by next in
    let k = next.follows in
    let f = st.flat in
    let g = after_call f (Discard space page len) in
    subst (λ (x : Flat). Keeps kept x (base_after st.base e.frames e.what)) (sym s.flat)
    (keeps_regions kept kept.regions kept.own f g st.base (base_after st.base e.frames e.what) k k.regions k.rights s.base
    (λ p. elim (cases_Bool (in_range page len p)) [
      | inl gone ↦ inl (s.pages p gone)
      | inr stays ↦
          let clean : g.dirty p ≡ f.dirty p = rw (s.asked, stays) refl in
          inr (ap (mapping_with (st.base p) (region_at f.regions p) (f.rights p)) clean)
    ]))

-- Protects.

pub range_done : (b : Bool) → is_lawful (if b then Done else Unmapped) ≡ true → b ≡ true
range_done true h = refl
range_done false h = cc

right_frame : (rights : Rights) (m : Option Mapping) → frame_in m ≡ frame_in (option_map (with_rights rights) m)
right_frame rights None = refl
right_frame rights (Some m) = refl

righted : (rights : Rights) (o : Option ℕ) (q : Option Region) (x : Rights) (d : Bool)
    → mapping_with o q rights d ≡ option_map (with_rights rights) (mapping_with o q x d)
righted rights None q x d = refl
righted rights (Some n) None x d = refl
righted rights (Some n) (Some q) x d = refl

-- The pages of a range have other rights of their own, and it is said of the resident ones.
pub record GetsRights (old new : Followed) (page len : ℕ) (rights : Rights) : Type 0 where
  pub regions : new.regions ≡ old.regions
  pub gives : GivesOwn page len rights (rights_of old.own) (rights_of new.own)
  pub protects : Protects page len rights old.pages new.pages

pub follows_protected : (old new : Followed) (page len : ℕ) (rights : Rights) → GetsRights old new page len rights
    → (st : SpaceState) (e : Entry) (space : ℕ) → Serves e (Protect space page len rights) → IsNext old st e
    → Follows new (space_after st e)
follows_protected old new page len rights gets st e space by next =
    let s = served old st e (Protect space page len rights) by next in
    let k = next.follows in
    let f = st.flat in
    let g = after_call f (Protect space page len rights) in
    let protects = gets.protects in
    let right : (p : ℕ) → g.rights p ≡ (if in_range page len p then rights else f.rights p) =
    λ p. ap (λ b. if b && in_range page len p then rights else f.rights p) (range_done _ s.asked) in
    let rights_then : AreRights old.regions (rights_of new.own) g.rights =
    λ p has. right p ∙ protect_rights old.regions page len rights (rights_of old.own)
    (rights_of new.own) gets.gives f.rights k.rights p has in
    subst (λ (x : Flat). Keeps new x (base_after st.base e.frames e.what)) (sym s.flat)
    (record {
      regions = k.regions ∙ sym gets.regions;
      rights = subst (λ (rs : List Region). AreRights rs (rights_of new.own) g.rights) (sym gets.regions) rights_then;
      base = λ p. s.base p ∙ k.base p ∙ elim (cases_Bool (in_range page len p)) [
        | inl ins ↦ right_frame rights (mapping_at old.pages p) ∙ sym (ap frame_in (protects.at p ∙ cond-true _ _ _ ins))
        | inr out ↦ sym (ap frame_in (protects.at p ∙ cond-false _ _ _ out))
      ];
      pages =
          λ p. ap (λ o. mapping_with o (region_at f.regions p) (g.rights p) (f.dirty p)) (s.base p)
          ∙ elim (cases_Bool (in_range page len p)) [
            | inl ins ↦
                ap (λ x. mapping_with (st.base p) (region_at f.regions p) x (f.dirty p)) (right p ∙ cond-true _ _ _ ins)
                ∙ righted rights (st.base p) (region_at f.regions p) (f.rights p) (f.dirty p)
                ∙ ap (option_map (with_rights rights)) (k.pages p) ∙ sym (protects.at p ∙ cond-true _ _ _ ins)
            | inr out ↦
                ap (λ x. mapping_with (st.base p) (region_at f.regions p) x (f.dirty p)) (right p ∙ cond-false _ _ _ out) ∙ k.pages p
                ∙ sym (protects.at p ∙ cond-false _ _ _ out)
          ];
    })

-- a protect that comes next is of a range within a region
pub protect_next : (old : Followed) (space page len : ℕ) (rights : Rights) → (st : SpaceState) (e : Entry)
    → Serves e (Protect space page len rights)
    → IsNext old st e → LiesInRegion old.regions page len
protect_next old space page len rights st e by next =
    let s = served old st e (Protect space page len rights) by next in
    lies_from old.regions page len (ap (λ rs. range_in page len (region_at rs page)) (sym next.follows.regions) ∙ range_done _ s.asked)
