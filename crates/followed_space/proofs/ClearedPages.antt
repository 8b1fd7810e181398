-- A range of pages is cleared, or changed in whole blocks.
use Rattle.std.proofs.Common.{◌≡◌, ℕ, ◌+◌, ◌/◌, ◌<◌, ◌≤◌, true, false, List, Option, Some, None, refl, sym, ap, inl, inr, ◌∙◌, arith, subst}
use Rattle.std.proofs.lemmas.Bool.{cases_Bool, cases_eq, cases_lt, ne_eqb, eq-eqb, cond-true, cond-false, true≢false}
use Rattle.pager_model.specs.declared.entry.Entry.{Entry}
use Rattle.pager_model.specs.declared.entry.What.TheVariants.{Clear}
use Rattle.pager_model.specs.declared.page_range.PageRange.{PageRange}
use Rattle.pager_model.specs.declared.region.Region.{Region}
use Rattle.pager_model.specs.declared.tile.Mapping.{Mapping}
use Rattle.pager_model.specs.Bounds.{space_pages}
use Rattle.pager_model.specs.Regions.{in_range, range_in, region_at}
use Rattle.pager_model.specs.SpaceStates.{SpaceState, space_after}
use Rattle.pager_model.specs.Tiles.{mapping_with, is_that_tile}
use Rattle.region_table.specs.Table.{IsTable}
use Rattle.followed_space.specs.declared.changed.Changed.TheVariants.{Range}
use Rattle.followed_space.specs.Changed.{IsChange}
use Rattle.followed_space.specs.Follows.{Followed, Follows, IsNext}
use Rattle.followed_space.proofs.Keeping.{frame_in}
use Rattle.pager_model.proofs.Ranges.{in_bounds, bounds_in}
use Rattle.region_table.proofs.RegionRights.{lies_from, lies_in_space}
use Rattle.tiles.specs.Cleared.{Clears}
use Rattle.tiles.specs.Resident.{Maps, Resident, IsNextResident, NoneResident, mapping_at}
use Rattle.tiles.specs.Touched.{is_touched}
use Rattle.tiles.proofs.SizedTiles.{local_by, tile_in_same}

-- Each page of a block of a page of the range is one of the blocks.
abbrev pub IsRound : ℕ → ℕ → PageRange → Type 0
IsRound first len blocks = (p q : ℕ) → in_range first len p ≡ true → q / 512 ≡ p / 512 → is_touched blocks q ≡ true

-- a change within the range is one of the blocks round it
pub changes_blocks : (first len : ℕ) (blocks : PageRange) (old new : Resident) → IsRound first len blocks
    → ((p : ℕ) → in_range first len p ≡ false → mapping_at new p ≡ mapping_at old p)
    → IsChange old new (Range blocks)
changes_blocks first len blocks old new round others = (
  λ p out. beside p out p refl,
  λ z t tile out.
      let q = t.extent.first in
      let same : (p : ℕ) → p / 512 ≡ q / 512 → mapping_at new p ≡ mapping_at old p = beside q out in
      ap (is_that_tile t) (tile_in_same z (mapping_at old) (mapping_at new) q (same q refl)
      (local_by z (mapping_at old) (mapping_at new) q same)) ∙ tile,
)
  where
    beside : (q : ℕ) → is_touched blocks q ≡ false → (p : ℕ) → p / 512 ≡ q / 512 → mapping_at new p ≡ mapping_at old p
    beside q out p e =
        elim (cases_Bool (in_range first len p)) [
          | inl ins ↦ absurd (true≢false (sym (round p q ins (sym e)) ∙ out))
          | inr not_in ↦ others p not_in
        ]

-- The pages of a range are cleared from the first one on.

-- so far the pages from the first one on and before another are cleared
pub record ClearsTo (first from : ℕ) (old new : ℕ → Option Mapping) : Type 0 where
  pub from_on : first ≤ from
  pub gone : (p : ℕ) → first ≤ p → p < from → new p ≡ None
  pub before : (p : ℕ) → p < first → new p ≡ old p
  pub behind : (p : ℕ) → from ≤ p → new p ≡ old p

pub clears_more : (first from end page : ℕ) (old : ℕ → Option Mapping) (r s : Resident) → ClearsTo first from old (mapping_at r)
    → IsNextResident (mapping_at r) from end page → Maps page None r s → ClearsTo first (page + 1) old (mapping_at s)
clears_more first from end page old r s so_far next maps =
    let at = maps.at in
    let low = so_far.from_on in
    let high = next.from_on in
    record {
      from_on = omega (arith, low, high);
      gone = λ p a b. at p ∙ elim (cases_eq p page) [
        | inl e ↦ cond-true _ _ _ (eq-eqb p page e)
        | inr n ↦ cond-false _ _ _ (ne_eqb p page n) ∙ elim (cases_lt p from) [
          | inl below ↦ so_far.gone p a below
          | inr past ↦ next.lowest p past (omega (arith, b, n))
        ]
      ];
      before = λ p b. at p ∙ cond-false _ _ _ (ne_eqb p page (λ e. omega (arith, b, e, low, high))) ∙ so_far.before p b;
      behind = λ p b. at p ∙ cond-false _ _ _ (ne_eqb p page (λ e. omega (arith, b, e))) ∙ so_far.behind p (omega (arith, b, high));
    }

pub clears_all : (first from len : ℕ) (old new : ℕ → Option Mapping) → ClearsTo first from old new → from ≤ first + len
    → NoneResident new from (first + len) → Clears first len old new
clears_all first from len old new so_far low none p =
    elim (cases_Bool (in_range first len p)) [
      | inl ins ↦
          let b = in_bounds first len p ins in
          elim (cases_lt p from) [
            | inl below ↦ so_far.gone p b.0 below
            | inr past ↦ none p past b.1
          ] ∙ sym (cond-true _ _ _ ins)
      | inr out ↦
          elim (cases_lt p first) [
            | inl below ↦ so_far.before p below
            | inr past ↦ elim (cases_lt p (first + len)) [
              | inl within ↦ absurd (true≢false (sym (bounds_in first len p past within) ∙ out))
              | inr behind ↦ so_far.behind p (omega (arith, low, behind))
            ]
          ] ∙ sym (cond-false _ _ _ out)
    ]

-- the pages of a range gave their frames up
pub follows_cleared : (old : Followed) (new : Resident) (first len : ℕ) → Clears first len (mapping_at old.pages) (mapping_at new)
    → (st : SpaceState) (e : Entry) → e.what ≡ Clear first len → IsNext old st e → Follows (record old { pages = new }) (space_after st e)
follows_cleared old new first len clears st e is next =
    let k = next.follows in
    rw is (record {
      regions = k.regions;
      rights = k.rights;
      base = λ p. elim (cases_Bool (in_range first len p)) [
        | inl ins ↦ cond-true _ _ _ ins ∙ sym (ap frame_in (clears p ∙ cond-true _ _ _ ins))
        | inr out ↦ cond-false _ _ _ out ∙ k.base p ∙ sym (ap frame_in (clears p ∙ cond-false _ _ _ out))
      ];
      pages = λ p. elim (cases_Bool (in_range first len p)) [
        | inl ins ↦
            ap (λ o. mapping_with o (region_at st.flat.regions p) (st.flat.rights p) (st.flat.dirty p)) (cond-true _ _ _ ins)
            ∙ sym (clears p ∙ cond-true _ _ _ ins)
        | inr out ↦
            ap (λ o. mapping_with o (region_at st.flat.regions p) (st.flat.rights p) (st.flat.dirty p)) (cond-false _ _ _ out) ∙ k.pages p
            ∙ sym (clears p ∙ cond-false _ _ _ out)
      ];
    })

-- a clearing that comes next is of a range of the space
pub clear_next : (old : Followed) (first len : ℕ) → IsTable old.regions
    → (st : SpaceState) (e : Entry) → e.what ≡ Clear first len → IsNext old st e → first + len ≤ space_pages
clear_next old first len ordered st e is next =
    let allowed = rw is at next.allowed.1 in
    lies_in_space old.regions first len ordered
    (lies_from old.regions first len (subst (λ rs. range_in first len (region_at rs first) ≡ true) next.follows.regions allowed))
