-- What is followed after a page got a frame, gave it up, or was paged out.
use Rattle.std.proofs.Common.{◌≡◌, ℕ, Bool, false, ◌==◌, if◌then◌else◌, List, Option, Some, None, is_some, option_map, refl, sym, ap, inl, inr, ◌∙◌, subst}
use Rattle.std.proofs.lemmas.Bool.{cases_Bool, ne_eqb, eq-eqb, cond-true, cond-false}
use Rattle.std.proofs.lemmas.Option.{none-some, same_Some}
use Rattle.pager_model.specs.declared.entry.Entry.{Entry}
use Rattle.pager_model.specs.declared.entry.Want.{Want}
use Rattle.pager_model.specs.declared.entry.What.{What}
use Rattle.pager_model.specs.declared.entry.What.TheVariants.{Out, Take, Give, UseHeld}
use Rattle.pager_model.specs.declared.region.Region.{Region}
use Rattle.pager_model.specs.declared.region.Rights.{Rights}
use Rattle.pager_model.specs.declared.tile.Mapping.{Mapping}
use Rattle.pager_model.specs.Flat.{Flat, out}
use Rattle.pager_model.specs.Laws.{KeepsCopies, WasCleared}
use Rattle.pager_model.specs.Regions.{region_at, wanted_at, rights_by}
use Rattle.pager_model.specs.SpaceStates.{SpaceState, Next, IsClearingAnswer, MayGoOn, WhatAllowed, base_after, flat_after, space_after}
use Rattle.pager_model.specs.SpaceStates.Next.{Anyone, Only, AfterClear, AfterPin}
use Rattle.pager_model.specs.Tiles.{mapping_with}
use Rattle.followed_space.specs.Follows.{Followed, Follows, FillsUnused, IsNext, IsUnused, Keeps, MapsOne, filled}
use Rattle.followed_space.proofs.Keeping.{keeps_one, keeps_flag}
use Rattle.page_rights.specs.Rights.{rights_of}
use Rattle.tiles.specs.Resident.{mapping_at, frames_in, with_flag}

-- What is known of a page that gets a frame, of a state and an entry.
pub record Fills (frames : ℕ) (st : SpaceState) (b : Bool) (what : What) (page frame : ℕ) : Type 0 where
  pub region : Region
  pub at : region_at st.flat.regions page ≡ Some region
  pub absent : st.base page ≡ None
  pub clean : st.flat.dirty page ≡ false
  pub unused : IsUnused frames st frame
  pub flat : flat_after st.flat what ≡ st.flat
  pub base : (p : ℕ) → base_after st.base b what p ≡ (if p == page then Some frame else st.base p)

-- no entry but the answer of an unmap or a discard comes where a page was just cleared
not_cleared : (n : Next) (c page : ℕ) (what : What) → ((first len : ℕ) → IsClearingAnswer first len what → ⊥) → MayGoOn n c what
    → WasCleared n page → ⊥
not_cleared Anyone c page what other go was = was
not_cleared (Only d) c page what other go was = was
not_cleared (AfterClear d first len) c page what other go was = other first len go.1
not_cleared (AfterPin d first len wired) c page what other go was = was

clean_absent : (st : SpaceState) (c page : ℕ) (what : What) → ((first len : ℕ) → IsClearingAnswer first len what → ⊥) → MayGoOn st.next c what
    → KeepsCopies st → st.base page ≡ None → st.flat.dirty page ≡ false
clean_absent st c page what other go copies absent =
    elim (cases_Bool (st.flat.dirty page)) [
      | inl is ↦ elim (copies.dirty page is) [
        | inl resident ↦ absurd (none-some resident.0 (sym absent ∙ resident.1))
        | inr was ↦ absurd (not_cleared st.next c page what other go was)
      ]
      | inr clean ↦ clean
    ]

has_region : (rs : List Region) (page : ℕ) (o : Option Region) (w : Want) → wanted_at rs page o ≡ Some w → (r : Region) × (o ≡ Some r)
has_region rs page None w h = absurd (none-some w h)
has_region rs page (Some r) w h = (r, refl)

fills_by : (frames : ℕ) (st : SpaceState) (c : ℕ) (b : Bool) (what : What) (page frame : ℕ) → filled what ≡ Some (page, frame)
    → MayGoOn st.next c what → WhatAllowed st b c what → KeepsCopies st → FillsUnused frames st (filled what)
    → Fills frames st b what page frame
fills_by frames st c b (Take p f want) page frame h go allowed copies unused =
    let e = same_Some _ _ h in
    subst (λ (x : ℕ × ℕ). Fills frames st b (Take p f want) x.0 x.1) e
    (let found = has_region st.flat.regions p (region_at st.flat.regions p) want allowed.0 in
    record {
      region = found.0;
      at = found.1;
      absent = allowed.1;
      clean = clean_absent st c p (Take p f want) (λ first len is. is) go copies allowed.1;
      unused = unused;
      flat = refl;
      base = λ q. refl;
    })
fills_by frames st c b (UseHeld p f want) page frame h go allowed copies unused =
    let e = same_Some _ _ h in
    subst (λ (x : ℕ × ℕ). Fills frames st b (UseHeld p f want) x.0 x.1) e
    (let found = has_region st.flat.regions p (region_at st.flat.regions p) want allowed.0 in
    record {
      region = found.0;
      at = found.1;
      absent = allowed.1;
      clean = clean_absent st c p (UseHeld p f want) (λ first len is. is) go copies allowed.1;
      unused = unused;
      flat = refl;
      base = λ q. refl;
    })
fills_by frames st c b what page frame h go allowed copies unused = cc

pub fills : (kept : Followed) (st : SpaceState) (e : Entry) (page frame : ℕ) → filled e.what ≡ Some (page, frame) → IsNext kept st e
    → Fills (frames_in kept.pages) st e.frames e.what page frame
fills kept st e page frame h next =
    fills_by (frames_in kept.pages) st e.processor e.frames e.what page frame h next.allowed.0 next.allowed.1 next.copies next.unused

mapped : (o : Option ℕ) (r : Option Region) (x y : Rights) (d : Bool) (frame : ℕ) (region : Region) → o ≡ Some frame → r ≡ Some region
    → x ≡ y → d ≡ false
    → mapping_with o r x d ≡ Some (record { frame = frame; region = region.first; rights = y; dirty = false })
mapped o r x y d frame region h i j k = rw (h, i, j, k) refl

-- the mapping of a page that gets a frame
abbrev pub filled_with : Followed → ℕ → ℕ → Region → Mapping
filled_with kept page frame region = record {
  frame = frame;
  region = region.first;
  rights = rights_by (rights_of kept.own page) (Some region);
  dirty = false;
}

pub follows_filled : (old new : Followed) (page frame : ℕ) (region : Region) → region_at old.regions page ≡ Some region
    → MapsOne page (Some (filled_with old page frame region)) old new
    → (st : SpaceState) (e : Entry) → filled e.what ≡ Some (page, frame) → IsNext old st e → Follows new (space_after st e)
follows_filled old new page frame region at moves st e h next =
    let f = fills old st e page frame h next in
    let k = next.follows in
    let base : (p : ℕ) → base_after st.base e.frames e.what p ≡ (if p == page then Some frame else st.base p) = f.base in
    let here = f.base page ∙ cond-true _ _ _ (eq-eqb page page refl) in
    let found : region_at st.flat.regions page ≡ Some region = ap (λ rs. region_at rs page) k.regions ∙ at in
    let right : st.flat.rights page ≡ rights_by (rights_of old.own page) (Some region) =
    k.rights page (ap is_some at) ∙ ap (rights_by (rights_of old.own page)) at in
    subst (λ (g : Flat). Keeps new g (base_after st.base e.frames e.what)) (sym f.flat)
    (keeps_one old new st (record st { base = base_after st.base e.frames e.what }) page
    (Some (filled_with old page frame region)) k moves refl
    (λ p. refl)
    (λ p n. f.base p ∙ cond-false _ _ _ (ne_eqb p page n)) (λ p n. refl) here
    (mapped _ _ _ _ _ frame region here found right f.clean))

-- a page gives its frame up
pub follows_given : (old new : Followed) (page : ℕ) → MapsOne page None old new
    → (st : SpaceState) (e : Entry) (frame : ℕ) → e.what ≡ Give page frame → IsNext old st e → Follows new (space_after st e)
follows_given old new page moves st e frame is next =
    rw is (keeps_one old new st (record st { base = λ p. if p == page then None else st.base p }) page None next.follows moves refl
    (λ p. refl)
    (λ p n. cond-false _ _ _ (ne_eqb p page n)) (λ p n. refl) (cond-true _ _ _ (eq-eqb page page refl))
    (ap (λ o. mapping_with o (region_at st.flat.regions page) (st.flat.rights page) (st.flat.dirty page))
    (cond-true _ _ _ (eq-eqb page page refl))))

-- a page is paged out
pub follows_out : (old new : Followed) (page : ℕ) → MapsOne page (option_map (with_flag false) (mapping_at old.pages page)) old new
    → (st : SpaceState) (e : Entry) (written : Bool) → e.what ≡ Out page written → IsNext old st e → Follows new (space_after st e)
follows_out old new page moves st e written is next =
    rw is (keeps_flag old new st (record st { flat = out st.flat page }) page false next.follows moves refl (λ p. refl) (λ p. refl)
    (λ p n. cond-false _ _ _ (ne_eqb p page n)) (cond-true _ _ _ (eq-eqb page page refl)))
