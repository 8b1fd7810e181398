-- What is followed after a change of one page, and where nothing that is followed changed.
use Rattle.std.proofs.Common.{◌≡◌, ◌≢◌, ℕ, Bool, Option, Some, None, is_some, option_map, refl, sym, ap, inl, inr, ◌∙◌}
use Rattle.std.proofs.lemmas.Bool.{cases_eq, ne_eqb, eq-eqb, cond-true, cond-false}
use Rattle.pager_model.specs.declared.region.Region.{Region}
use Rattle.pager_model.specs.declared.region.Rights.{Rights}
use Rattle.pager_model.specs.declared.tile.Mapping.{Mapping}
use Rattle.pager_model.specs.Flat.{Flat}
use Rattle.pager_model.specs.Regions.{region_at}
use Rattle.pager_model.specs.Tiles.{mappings, mapping_with}
use Rattle.pager_model.specs.SpaceStates.{SpaceState}
use Rattle.followed_space.specs.Follows.{Followed, Follows, Keeps, MapsOne}
use Rattle.tiles.specs.Resident.{mapping_at, with_flag}

abbrev pub frame_in : Option Mapping → Option ℕ
frame_in o = option_map (λ (m : Mapping). m.frame) o

mappings_same : (f g : Flat) (b d : ℕ → Option ℕ) (p : ℕ) → d p ≡ b p → g.regions ≡ f.regions → g.rights p ≡ f.rights p
    → g.dirty p ≡ f.dirty p
    → mappings g d p ≡ mappings f b p
mappings_same f g b d p base regions rights dirty = rw (base, regions, rights, dirty) refl

-- a page that no region has isn't resident
pub absent_base : (kept : Followed) (f : Flat) (b : ℕ → Option ℕ) (p : ℕ) → Keeps kept f b → region_at kept.regions p ≡ None → b p ≡ None
absent_base kept f b p k none =
    let region : region_at f.regions p ≡ None = ap (λ rs. region_at rs p) k.regions ∙ none in
    k.base p ∙ sym (ap frame_in (ap (λ o. mapping_with (b p) o (f.rights p) (f.dirty p)) (sym region) ∙ k.pages p))
    ∙ none_framed (b p) (f.rights p) (f.dirty p)
  where
    none_framed : (o : Option ℕ) (x : Rights) (d : Bool) → frame_in (mapping_with o None x d) ≡ None
    none_framed None x d = refl
    none_framed (Some n) x d = refl

-- a page without a frame has no mapping
pub absent_mapping : (kept : Followed) (f : Flat) (b : ℕ → Option ℕ) (p : ℕ) → Keeps kept f b → b p ≡ None → mapping_at kept.pages p ≡ None
absent_mapping kept f b p k none = sym (k.pages p) ∙ ap (λ o. mapping_with o (region_at f.regions p) (f.rights p) (f.dirty p)) none

-- of a state of which what is said of one page alone may have changed
pub keeps_one : (old new : Followed) (st after : SpaceState) (page : ℕ) (given : Option Mapping) → Follows old st
    → MapsOne page given old new
    → after.flat.regions ≡ st.flat.regions → ((p : ℕ) → after.flat.rights p ≡ st.flat.rights p)
    → ((p : ℕ) → p ≢ page → after.base p ≡ st.base p) → ((p : ℕ) → p ≢ page → after.flat.dirty p ≡ st.flat.dirty p)
    → after.base page ≡ frame_in given → mappings after.flat after.base page ≡ given → Follows new after
keeps_one old new st after page given k moves regions rights base dirty here_base here =
    let at : (p : ℕ) → p ≡ page → mapping_at new.pages p ≡ given = λ p e. moves.maps.at p ∙ cond-true _ _ _ (eq-eqb p page e) in
    let other : (p : ℕ) → p ≢ page → mapping_at new.pages p ≡ mapping_at old.pages p =
    λ p n. moves.maps.at p ∙ cond-false _ _ _ (ne_eqb p page n) in
    record {
      regions = regions ∙ k.regions ∙ sym moves.regions;
      rights = λ p has.
          rights p ∙ k.rights p (ap (λ rs. is_some (region_at rs p)) (sym moves.regions) ∙ has)
          ∙ sym (rw (moves.regions, moves.own) refl);
      base = λ p. elim (cases_eq p page) [
        | inl e ↦ ap after.base e ∙ here_base ∙ sym (ap frame_in (at p e))
        | inr n ↦ base p n ∙ k.base p ∙ sym (ap frame_in (other p n))
      ];
      pages = λ p. elim (cases_eq p page) [
        | inl e ↦ ap (mappings after.flat after.base) e ∙ here ∙ sym (at p e)
        | inr n ↦
            mappings_same st.flat after.flat st.base after.base p (base p n) regions (rights p) (dirty p n) ∙ k.pages p ∙ sym (other p n)
      ];
    }

-- with another dirty flag a page keeps its frame
flag_frame : (flag : Bool) (m : Option Mapping) → frame_in m ≡ frame_in (option_map (with_flag flag) m)
flag_frame flag None = refl
flag_frame flag (Some m) = refl

flagged : (o : Option ℕ) (r : Option Region) (x : Rights) (d flag : Bool)
    → mapping_with o r x flag ≡ option_map (with_flag flag) (mapping_with o r x d)
flagged None r x d flag = refl
flagged (Some n) None x d flag = refl
flagged (Some n) (Some r) x d flag = refl

-- a page has another dirty flag, where it is resident
pub keeps_flag : (old new : Followed) (st after : SpaceState) (page : ℕ) (flag : Bool)
    → Follows old st → MapsOne page (option_map (with_flag flag) (mapping_at old.pages page)) old new
    → after.flat.regions ≡ st.flat.regions → ((p : ℕ) → after.flat.rights p ≡ st.flat.rights p) → ((p : ℕ) → after.base p ≡ st.base p)
    → ((p : ℕ) → p ≢ page → after.flat.dirty p ≡ st.flat.dirty p) → after.flat.dirty page ≡ flag → Follows new after
keeps_flag old new st after page flag k moves regions rights base dirty is =
    let m = mapping_at old.pages page in
    let f = st.flat in
    let said : mappings after.flat after.base page ≡ mapping_with (st.base page) (region_at f.regions page) (f.rights page) flag =
    rw (base page, regions, rights page, is) refl in
    keeps_one old new st after page (option_map (with_flag flag) m) k moves regions rights (λ p n. base p) dirty
    (base page ∙ k.base page ∙ flag_frame flag m)
    (said ∙ flagged (st.base page) (region_at f.regions page) (f.rights page) (f.dirty page) flag
    ∙ ap (option_map (with_flag flag)) (k.pages page))

-- nothing that is followed changed
pub keeps_same : (kept : Followed) (f g : Flat) (b d : ℕ → Option ℕ) → Keeps kept f b
    → g.regions ≡ f.regions → ((p : ℕ) → g.rights p ≡ f.rights p) → ((p : ℕ) → g.dirty p ≡ f.dirty p) → ((p : ℕ) → d p ≡ b p)
    → Keeps kept g d
keeps_same kept f g b d k regions rights dirty base =
    record {
      regions = regions ∙ k.regions;
      rights = λ p has. rights p ∙ k.rights p has;
      base = λ p. base p ∙ k.base p;
      pages = λ p. mappings_same f g b d p (base p) regions (rights p) (dirty p) ∙ k.pages p;
    }
