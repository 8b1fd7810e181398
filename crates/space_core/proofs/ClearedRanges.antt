-- What becomes of a space when the pages of a range give their frames up, and when a region of that range then goes, or the range is
-- discarded.
use Rattle.std.proofs.Common.{◌≡◌, ◌≢◌, ℕ, Bool, ◌+◌, ◌<◌, ◌≤◌, true, false, ◌&&◌, not, if◌then◌else◌, List, [], map, length, Option, Some, None, is_some, refl, sym, ap, inl, inr, ◌∙◌, arith, subst}
use Rattle.std.proofs.lemmas.Bool.{cases_Bool, cases_eq, cases_lt, and_from, eq-eqb, ne_eqb, cond-true, cond-false, true≢false}
use Rattle.std.proofs.lemmas.Option.{none-some, same_Some}
use Rattle.std.proofs.lemmas.List.{get_or-map, length-map}
use Rattle.std.specs.List.{count_by, range_with_len}
use Rattle.std.specs.Option.{ForSome}
use Rattle.pager_model.specs.Options.{is_that}
use Rattle.pager_model.specs.declared.call.Call.TheVariants.{Unmap, Discard}
use Rattle.pager_model.specs.declared.page_range.PageRange.{PageRange}
use Rattle.pager_model.specs.declared.region.Region.{Region}
use Rattle.pager_model.specs.declared.reply.Reply.TheVariants.{Done}
use Rattle.pager_model.specs.declared.tile.Mapping.{Mapping}
use Rattle.pager_model.specs.declared.tile.Tile.{Tile}
use Rattle.pager_model.specs.Flat.{goes, is_lawful}
use Rattle.pager_model.specs.Images.{still_tiles}
use Rattle.pager_model.specs.SizeSets.{SizeSet}
use Rattle.pager_model.specs.Regions.{has_page, in_range, region_at, without_region, unmap_reply_at, discard_reply, rights_by}
use Rattle.pager_model.specs.SpaceStates.{SpaceState, IsClearedAt, WhatAllowed, pages_of, space_after}
use Rattle.pager_model.specs.SpaceStates.Next.{AfterClear}
use Rattle.pager_model.specs.declared.entry.What.TheVariants.{Answer}
use Rattle.region_table.specs.Table.{IsTable}
use Rattle.pager_model.proofs.CountLemmas.{count-one_more}
use Rattle.pager_model.proofs.Lists.{get_or-alike}
use Rattle.pager_model.specs.Stores.{IsCopy}
use Rattle.space_core.specs.Beginning.{SameRegions, ClearsOne, ClearsNone, Unmapped as IsUnmapped, Discarded}
use Rattle.space_core.specs.Pages.{Maps, Forgets, IsFirstResident, NoneFrom}
use Rattle.space_core.specs.Standing.{Kept, IsResting, StandsBeside, StandsBut, StandsFor, IsCopied, range_of, frame_at, dirty_at, image_at, is_clearing, is_in, is_settled, rights_at, word_at, word_in_copy}
use Rattle.pager_model.specs.CallEntries.{answer_entry, clear_entry}
use Rattle.pager_model.specs.Stored.{copy_at, zero_words, DropsCopies}
use Rattle.space_core.specs.Tables.{Table, mapping_in, frame_in, word_in, own_in}
use Rattle.space_core.specs.Translating.{BeginsClear, counted_up}
use Rattle.pager_model.proofs.Ranges.{in_bounds, bounds_in}
use Rattle.region_table.proofs.RegionSearch.{found_without}
use Rattle.region_table.proofs.RegionRights.{AreRights, LosesRights, unmap_rights}
use Rattle.space_core.proofs.RegionChanges.{done}
use Rattle.space_core.proofs.SameView.{BesideAt, SameAt, SameWhole, beside_each, beside_from, same_at, same_regions}
use Rattle.space_core.proofs.ServedPages.{AreMapped}
use Rattle.space_core.proofs.TableLemmas.{dirty_in-absent, frame-same, dirty-same, frame-mapped, mapping-absent, maps_frame, maps_dirty}
use Rattle.space_core.proofs.Translations.{same_translates, stays, translates_cleared, pages_from, said_gone}
use Rattle.tiles.specs.Cleared.{Clears}
use Rattle.tiles.specs.Sized.{large_tiles_meeting_in}
use Rattle.tiles.proofs.Cleared.{promotions_cleared, demotions_cleared}

-- A range's clearing goes on, or begins, and none of its pages before this one is resident.
pub record ClearsFrom (old mid : Kept) (first len from : ℕ) : Type 0 where
  pub begins : BeginsClear old mid first len
  pub begun : first ≤ from
  pub before : (p : ℕ) → first ≤ p → p < from → frame_at old p ≡ None

module _ (old mid : Kept) (first len from : ℕ) (clears : ClearsFrom old mid first len from) where
  mid_table : mid.table ≡ old.table
  mid_table = ap (λ (k : Kept). k.table) clears.begins.same

  is_begun : is_clearing mid.clearing first len ≡ true
  is_begun =
      ap (λ (o : Option PageRange). is_clearing o first len) clears.begins.begun
      ∙ and_from _ _ (eq-eqb first first refl) (eq-eqb len len refl)

  none_before : (p : ℕ) → first ≤ p → p < from → frame_at mid p ≡ None
  none_before p low below = ap (λ (t : Table). frame_in t p) mid_table ∙ clears.before p low below

  -- the tiles that meet the range were counted before the first page gave its frame up
  counted : (st : SpaceState) → StandsBut first len old st → mid.broken ≡ large_tiles_meeting_in old.table.sizes first len (pages_of st)
  counted st s =
      elim (cases_Bool (is_clearing old.clearing first len)) [
        | inl on ↦ clears.begins.went_on on ∙ s.counted on
        | inr off ↦
            let whole : pages_of st ≡ mapping_in old.table = λ i p. s.not_begun off p i in
            clears.begins.counted off ∙ ap (large_tiles_meeting_in old.table.sizes first len) (sym whole)
      ]

  -- behind the lowest resident page from there on the clearing goes on
  pub scanned_from : (end page : ℕ) → IsFirstResident mid.table from end page → (r : PageRange) → mid.clearing ≡ Some r
      → (r.first ≤ page) × ((q : ℕ) → r.first ≤ q → q < page → frame_at mid q ≡ None)
  scanned_from end page found r at =
      let same : r.first ≡ first = ap (λ (x : PageRange). x.first) (same_Some _ _ (sym at ∙ clears.begins.begun)) in (
        omega (arith, same, clears.begun, found.from_on),
        λ q low below. elim (cases_lt q from) [
          | inl l ↦ none_before q (omega (arith, same, low)) l
          | inr past ↦ found.lowest q past below
        ],
      )

  -- The lowest resident page gives its frame up.
  module _ (new : Kept) (page : ℕ) (only : new ≡ record mid { table = new.table })
      (found : IsFirstResident mid.table from (first + len) page)
      (gives : Maps page None mid.table new.table) where
    takes : new ≡ record old { table = new.table; clearing = mid.clearing; broken = mid.broken }
    takes = only ∙ ap (λ (k : Kept). record k { table = new.table }) clears.begins.same

    moves : Maps page None old.table new.table
    moves = subst (λ (t : Table). Maps page None t new.table) mid_table gives

    within : in_range first len page ≡ true
    within = bounds_in first len page (omega (arith, clears.begun, found.from_on)) found.before_end

    frame_gone : frame_at new page ≡ None
    frame_gone = maps_frame page None old.table new.table moves page ∙ cond-true _ _ _ (eq-eqb page page refl)

    frame_others : (p : ℕ) → p ≢ page → frame_at new p ≡ frame_at old p
    frame_others p n = maps_frame page None old.table new.table moves p ∙ cond-false _ _ _ (ne_eqb p page n)

    same_taken : SameRegions old new
    same_taken =
        same_regions old new (ap (λ (k : Kept). k.number) takes) (ap (λ (k : Kept). k.frames) takes)
        (ap (λ (k : Kept). length k.images) takes)
        (ap (λ (k : Kept). k.regions) takes) moves.same.own

    taken_whole : SameWhole old new
    taken_whole =
        record {
          regions = same_taken.regions;
          rights = same_taken.rights;
          tells = ap (λ (k : Kept). k.store.tells) takes;
          faults = omega (arith, ap (λ (k : Kept). k.store.faults) takes);
        }

    outside : (p : ℕ) → in_range first len p ≡ false → p ≢ page
    outside p out e = true≢false (sym within ∙ ap (in_range first len) (sym e) ∙ out)

    others_at : (p : ℕ) → p ≢ page → SameAt old new p
    others_at p n =
        record {
          frame = frame_others p n;
          dirty = maps_dirty page None old.table new.table moves p ∙ cond-false _ _ _ (ne_eqb p page n);
          pending = ap (λ (k : Kept). is_that p k.pending) takes;
          paged = ap (λ (k : Kept). is_that p k.paged) takes;
          word = λ i _. moves.word p i n;
          copy = λ _. ap (λ (k : Kept). copy_at k.store p) takes;
        }

    unsettled : is_settled new page ≡ false
    unsettled = ap (λ o. is_some o && not (is_that page new.pending)) frame_gone

    gone_here : (st : SpaceState) → StandsBut first len old st → BesideAt (in_range first len page) new st page
    gone_here st s =
        record {
          dirty = λ out. absurd (true≢false (sym within ∙ out));
          words = λ told out. absurd (true≢false (sym within ∙ out));
          copies = λ told out. absurd (true≢false (sym within ∙ out));
          copied = λ told out. absurd (true≢false (sym within ∙ out));
          tied = λ i word said settled. absurd (true≢false (sym settled ∙ unsettled));
          untied = λ i pending. s.beside.untied page i (ap (λ (k : Kept). is_that page k.pending) (sym takes) ∙ pending);
        }

    pub clears_page : (frame : ℕ) → frame_at mid page ≡ Some frame → ClearsOne old new first len page frame
    clears_page frame had =
        record {
          within = within;
          lowest = λ p inside below. elim (cases_lt p from) [
            | inl l ↦ clears.before p (in_bounds first len p inside).0 l
            | inr past ↦ ap (λ (t : Table). frame_in t p) (sym mid_table) ∙ found.lowest p past below
          ];
          gave = record {
            had = ap (λ (t : Table). frame_in t page) (sym mid_table) ∙ had;
            same = same_taken;
            same_store = record {
              store = ap (λ (k : Kept). k.store) takes;
              unread = ap (λ (k : Kept). k.reads) takes;
              unwritten = ap (λ (k : Kept). k.writes) takes;
            };
            gone = frame_gone;
            same_others = frame_others;
          };
          same_pending = ap (λ (k : Kept). k.pending) takes;
          same_paged = ap (λ (k : Kept). k.paged) takes;
          stands = λ st s. record {
            beside = beside_from (in_range first len) old new st st taken_whole (record { regions = refl; rights = λ p. refl; told = refl })
                (omega (arith, s.beside.highest, taken_whole.faults)) s.beside (λ p. elim (cases_eq p page) [
                  | inl e ↦ rw e (gone_here st s)
                  | inr n ↦ same_at (in_range first len) old new st st s.beside refl p (others_at p n)
                      (record { dirty = refl; words = λ i. refl; copies = refl; tied = λ i. refl })
                ]);
            base = λ p out. s.base p out ∙ sym (frame_others p (outside p out));
            pages = λ p out. s.pages p out ∙ sym (moves.mapping p ∙ cond-false _ _ _ (ne_eqb p page (outside p out)));
            translates = same_translates old new st
                (record {
                  sizes = moves.same.sizes;
                  images = ap (λ (k : Kept). k.images) takes;
                  promotions = ap (λ (k : Kept). k.promotions) takes;
                  demotions = ap (λ (k : Kept). k.demotions) takes;
                }) s.translates;
            not_begun = λ none. absurd (true≢false (sym is_begun ∙ ap (λ (k : Kept). is_clearing k.clearing first len) (sym takes) ∙ none));
            counted = λ _. ap (λ (k : Kept). k.broken) takes ∙ counted st s
                ∙ ap (λ (z : SizeSet). large_tiles_meeting_in z first len (pages_of st)) (sym moves.same.sizes);
          };
        }

  -- The pages of the range are all cleared: the images keep what is a tile still, and the tiles that met the range are counted.
  module _ (new : Kept) (none : NoneFrom mid.table from (first + len))
      (only : new ≡ record mid {
        images = map (still_tiles mid.table.sizes (mapping_in mid.table)) mid.images;
        demotions = counted_up mid.demotions mid.broken;
      }) where
    abbrev still : List (List Tile)
    still = map (still_tiles old.table.sizes (mapping_in old.table)) old.images

    ends : new ≡ record old {
      clearing = mid.clearing;
      broken = mid.broken;
      images = still;
      demotions = counted_up old.demotions mid.broken;
    }
    ends =
        only ∙ ap (λ (k : Kept). record k {
          images = map (still_tiles k.table.sizes (mapping_in k.table)) k.images;
          demotions = counted_up k.demotions k.broken;
        }) clears.begins.same

    table_left : new.table ≡ old.table
    table_left = ap (λ (k : Kept). k.table) ends

    frame_left : (p : ℕ) → frame_at new p ≡ frame_at old p
    frame_left p = ap (λ (t : Table). frame_in t p) table_left

    none_inside : (p : ℕ) → in_range first len p ≡ true → frame_at new p ≡ None
    none_inside p inside =
        let bounds = in_bounds first len p inside in
        frame_left p ∙ elim (cases_lt p from) [
          | inl l ↦ clears.before p bounds.0 l
          | inr past ↦ ap (λ (t : Table). frame_in t p) (sym mid_table) ∙ none p past bounds.1
        ]

    frame_cleared : (b : Bool) (o : Option ℕ) (p : ℕ) → (b ≡ true → frame_at new p ≡ None) → (b ≡ false → o ≡ frame_at new p)
        → (if b then None else o) ≡ frame_at new p
    frame_cleared true o p gone left = sym (gone refl)
    frame_cleared false o p gone left = left refl

    said_cleared : (b : Bool) (o : Option Mapping) (p : ℕ) → (b ≡ true → mapping_in new.table p ≡ None)
        → (b ≡ false → o ≡ mapping_in new.table p)
        → (if b then None else o) ≡ mapping_in new.table p
    said_cleared true o p gone left = sym (gone refl)
    said_cleared false o p gone left = left refl

    left_at : (p : ℕ) → SameAt old new p
    left_at p =
        record {
          frame = frame_left p;
          dirty = ap (λ (k : Kept). dirty_at k p) ends;
          pending = ap (λ (k : Kept). is_that p k.pending) ends;
          paged = ap (λ (k : Kept). is_that p k.paged) ends;
          word = λ i _. ap (λ (k : Kept). word_in k.table p i) ends;
          copy = λ _. ap (λ (k : Kept). copy_at k.store p) ends;
        }

    same_left : SameRegions old new
    same_left =
        same_regions old new (ap (λ (k : Kept). k.number) ends) (ap (λ (k : Kept). k.frames) ends)
        (ap (λ (k : Kept). length k.images) ends ∙ length-map old.images (still_tiles old.table.sizes (mapping_in old.table)))
        (ap (λ (k : Kept). k.regions) ends) (λ p. ap (λ (k : Kept). own_in k.table p) ends)

    ends_clearing : new.clearing ≡ Some (range_of first len)
    ends_clearing = ap (λ (k : Kept). k.clearing) ends ∙ clears.begins.begun

    module _ (st : SpaceState) (c : ℕ) (s : StandsBut first len old st) where
      abbrev after : SpaceState
      after = space_after st (clear_entry c old.number first len)

      goes_from : Clears first len (pages_of st) (pages_of after)
      goes_from p = said_gone (in_range first len p) (st.flat.dirty p) (st.base p) (region_at st.flat.regions p) (st.flat.rights p)

      pages_left : (p : ℕ) → pages_of after p ≡ mapping_in new.table p
      pages_left p =
          goes_from p ∙ said_cleared (in_range first len p) (pages_of st p) p (λ inside. mapping-absent new.table p (none_inside p inside))
          (λ out. s.pages p out ∙ ap (λ (t : Table). mapping_in t p) (sym table_left))

      clear_stands : StandsFor new after
      clear_stands =
          record {
            beside = subst (λ (r : Option PageRange). StandsBeside (is_in r) new after) (sym ends_clearing)
                (beside_each (is_in (Some (range_of first len))) new after (s.beside.regions ∙ sym same_left.regions)
                (λ p has. s.beside.rights p (ap (λ rs. is_some (region_at rs p)) (sym same_left.regions) ∙ has) ∙ sym (same_left.rights p))
                (λ told. ap (λ (k : Kept). k.store.tells) ends ∙ (s.beside.told told).tells)
                (omega (arith, s.beside.highest, ap (λ (k : Kept). k.store.faults) ends))
                (λ p. same_at (in_range first len) old new st after s.beside refl p (left_at p)
                (record { dirty = refl; words = λ i. refl; copies = refl; tied = λ i. refl })));
            base = λ p. frame_cleared (in_range first len p) (st.base p) p (none_inside p) (λ out. s.base p out ∙ sym (frame_left p));
            pages = pages_left;
            translates = translates_cleared old new st after c mid.broken
                (record { sizes = refl; images = refl; promotions = refl; demotions = refl }) s.translates pages_left
                (ap (λ (t : Table). t.sizes) table_left) same_left.processors
                (λ i within. ap (λ (k : Kept). image_at k i) ends
                ∙ get_or-map (still_tiles old.table.sizes (mapping_in old.table)) old.images i [] [] within
                ∙ ap (λ (t : Table). still_tiles old.table.sizes (mapping_in t) (image_at old i)) (sym table_left))
                (promotions_cleared first len (pages_of st) (pages_of after) goes_from old.table.sizes)
                (demotions_cleared first len (pages_of st) (pages_of after) goes_from old.table.sizes ∙ sym (counted st s))
                (ap (λ (k : Kept). k.promotions) ends) (ap (λ (k : Kept). k.demotions) ends);
          }

    pub clears_range : ClearsNone old new first len
    clears_range =
        record {
          none = none_inside;
          clearing = ends_clearing;
          same_pending = ap (λ (k : Kept). k.pending) ends;
          same_paged = ap (λ (k : Kept). k.paged) ends;
          same = record { same = same_left; frame = frame_left };
          same_store = record {
            store = ap (λ (k : Kept). k.store) ends;
            unread = ap (λ (k : Kept). k.reads) ends;
            unwritten = ap (λ (k : Kept). k.writes) ends;
          };
          stands = clear_stands;
        }

-- in a space at rest nothing is open
pub StandsBut-rest : (kept : Kept) (st : SpaceState) (first len : ℕ) → IsResting kept → StandsFor kept st → StandsBut first len kept st
StandsBut-rest kept st first len resting stands =
    record {
      beside = record {
        regions = beside.regions;
        rights = beside.rights;
        dirty = λ page out. beside.dirty page (closed page);
        told = λ is. let tells = beside.told is in record {
          tells = tells.tells;
          words = λ page i out. tells.words page i (closed page);
          copies = λ page out rests. tells.copies page (closed page) rests;
          copied = λ page out even. tells.copied page (closed page) even;
        };
        tied = beside.tied;
        untied = beside.untied;
        highest = beside.highest;
      };
      base = λ page out. stands.base page;
      pages = λ page out. stands.pages page;
      translates = stands.translates;
      not_begun = λ out page. stands.pages page;
      counted = λ is. absurd (true≢false (sym is ∙ ap (λ o. is_clearing o first len) resting.none_clearing));
    }
  where
    beside : StandsBeside (is_in kept.clearing) kept st
    beside = stands.beside

    closed : (page : ℕ) → is_in kept.clearing page ≡ false
    closed page = ap (λ o. is_in o page) resting.none_clearing

-- where a page gives its frame up, fewer pages of the range are resident
pub fewer_resident : (old new : Kept) (first len page frame : ℕ) → ClearsOne old new first len page frame
    → count_by (λ p. is_some (frame_at new p)) (range_with_len first len)
    < count_by (λ p. is_some (frame_at old p)) (range_with_len first len)
fewer_resident old new first len page frame clears =
    let bounds = in_bounds first len page clears.within in
    let one_more = count-one_more (λ p. is_some (frame_at new p)) (λ p. is_some (frame_at old p)) page (ap is_some clears.gave.gone)
    (ap is_some clears.gave.had) (λ p other. ap is_some (clears.gave.same_others p other)) first len bounds.0 bounds.1 in
    omega (arith, one_more)

-- The region that has the page is to go: none of its pages is resident, and they lose the rights of their own.
pub record LosesRegion (old : Kept) (u : Table) (page : ℕ) (r : Region) : Type 0 where
  pub ordered : IsTable old.regions
  pub at : region_at old.regions page ≡ Some r
  pub none : (p : ℕ) → in_range r.first r.length p ≡ true → frame_at old p ≡ None
  pub forgets : Forgets r.first r.length old.table u

module _ (old : Kept) (u : Table) (page : ℕ) (r : Region) (loses : LosesRegion old u page r) where
  abbrev rest : List Region
  rest = without_region page old.regions

  at_rest : (p : ℕ) → region_at rest p ≡ (if has_page p r then None else region_at old.regions p)
  at_rest p = found_without 0 old.regions loses.ordered.in_order page r loses.at p

  pub loses_rights : LosesRights old.regions page r (own_in old.table) (own_in u)
  loses_rights = record { ordered = loses.ordered; at = loses.at; forgets = loses.forgets.own }

  -- a resident page is none of the region's
  pub unmap_mapped : AreMapped old.regions old.table → AreMapped rest u
  unmap_mapped said p m here =
      let was = sym (loses.forgets.mapping p) ∙ here in
      let is = said p m was in
      elim (cases_Bool (has_page p r)) [
        | inl has ↦ absurd (none-some m.frame (sym (loses.none p has) ∙ frame-mapped old.table p m was))
        | inr hasnt ↦ record {
          region = is.region;
          at = at_rest p ∙ cond-false _ _ _ hasnt ∙ is.at;
          first = is.first;
          rights = is.rights ∙ ap (λ o. rights_by o (Some is.region)) (sym (loses.forgets.own p ∙ cond-false _ _ _ hasnt));
        }
      ]

-- It goes after its range was cleared, and with it the copies of its pages.
pub record DropsRegion (old new : Kept) (page : ℕ) (r : Region) : Type 0 where
  pub loses : LosesRegion old new.table page r
  pub none_pending : old.pending ≡ None
  pub none_paged : old.paged ≡ None
  pub cleared : old.clearing ≡ Some (range_of r.first r.length)
  pub drops : DropsCopies r.first r.length old.store new.store
  pub unread : new.reads ≡ old.reads
  pub unwritten : new.writes ≡ old.writes
  pub same : new ≡ record old {
    regions = without_region page old.regions;
    table = new.table;
    clearing = None;
    store = new.store;
    reads = new.reads;
    writes = new.writes;
  }

-- The pages of a range go, of which none is resident, with their copies. No page outside of the range is being cleared.
pub record DropsPages (old new : Kept) (first len : ℕ) : Type 0 where
  pub none : (p : ℕ) → in_range first len p ≡ true → frame_at old p ≡ None
  pub none_pending : old.pending ≡ None
  pub none_paged : old.paged ≡ None
  pub out_of : (p : ℕ) → in_range first len p ≡ false → is_in old.clearing p ≡ false
  pub pending : new.pending ≡ old.pending
  pub paged : new.paged ≡ old.paged
  pub mapping : (p : ℕ) → mapping_in new.table p ≡ mapping_in old.table p
  pub word : (p i : ℕ) → word_in new.table p i ≡ word_in old.table p i
  pub drops : DropsCopies first len old.store new.store

-- They go so in the flat memory.
pub record HasDropped (st after : SpaceState) (first len : ℕ) : Type 0 where
  pub dirty : (p : ℕ) → after.flat.dirty p ≡ (if in_range first len p then false else st.flat.dirty p)
  pub words : (p i : ℕ) → after.flat.words p i ≡ (if in_range first len p then 0 else st.flat.words p i)
  pub copies : (p : ℕ) → after.flat.copies p ≡ (if in_range first len p then Some (λ i. 0) else st.flat.copies p)
  pub tied : (p i : ℕ) → after.tied p i ≡ st.tied p i
  pub told : after.told ≡ st.told

module _ (old new : Kept) (first len : ℕ) (gone : DropsPages old new first len) where
  frame_kept : (p : ℕ) → frame_at new p ≡ frame_at old p
  frame_kept p = frame-same old.table new.table p (gone.mapping p)

  dirty_kept : (p : ℕ) → dirty_at new p ≡ dirty_at old p
  dirty_kept p = dirty-same old.table new.table p (gone.mapping p)

  dirty_rest : (dirty : Bool) (p : ℕ) → (in_range first len p ≡ false → dirty ≡ dirty_at old p)
      → (if in_range first len p then false else dirty) ≡ dirty_at new p
  dirty_rest dirty p was =
      elim (cases_Bool (in_range first len p)) [
        | inl has ↦ cond-true _ _ _ has ∙ sym (dirty_kept p ∙ dirty_in-absent old.table p (gone.none p has))
        | inr hasnt ↦ cond-false _ _ _ hasnt ∙ was hasnt ∙ sym (dirty_kept p)
      ]

  pending_then : new.pending ≡ None
  pending_then = gone.pending ∙ gone.none_pending

  paged_then : new.paged ≡ None
  paged_then = gone.paged ∙ gone.none_paged

  settled_rest : (p : ℕ) → is_settled new p ≡ is_settled old p
  settled_rest p = rw (frame_kept p, pending_then, gone.none_pending) refl

  -- where the store tells its copies
  module _ (tells : old.store.tells ≡ true) where
    copy_gone : (p : ℕ) → in_range first len p ≡ true → copy_at new.store p ≡ Some zero_words
    copy_gone p has = gone.drops.copies tells p ∙ cond-true _ _ _ has

    copy_left : (p : ℕ) → in_range first len p ≡ false → copy_at new.store p ≡ copy_at old.store p
    copy_left p hasnt = gone.drops.copies tells p ∙ cond-false _ _ _ hasnt

    -- the words of these pages are those of their copies, which were dropped
    word_gone : (p i : ℕ) → in_range first len p ≡ true → word_at new p i ≡ 0
    word_gone p i has =
        let unsettled : is_settled new p ≡ false =
        ap (λ o. is_some o && not (is_that p new.pending)) (frame_kept p ∙ gone.none p has) in
        cond-false _ _ _ unsettled ∙ rw (copy_gone p has) (get_or-alike 1024 i 0)

    word_left : (p i : ℕ) → in_range first len p ≡ false → word_at new p i ≡ word_at old p i
    word_left p i hasnt =
        elim (cases_Bool (is_settled old p)) [
          | inl settled ↦ cond-true _ _ _ (settled_rest p ∙ settled) ∙ gone.word p i ∙ sym (cond-true _ _ _ settled)
          | inr unsettled ↦
              cond-false _ _ _ (settled_rest p ∙ unsettled) ∙ ap (λ copy. word_in_copy copy i) (copy_left p hasnt)
              ∙ sym (cond-false _ _ _ unsettled)
        ]

    word_rest : (w p i : ℕ) → (in_range first len p ≡ false → w ≡ word_at old p i)
        → (if in_range first len p then 0 else w) ≡ word_at new p i
    word_rest w p i was =
        elim (cases_Bool (in_range first len p)) [
          | inl has ↦ cond-true _ _ _ has ∙ sym (word_gone p i has)
          | inr hasnt ↦ cond-false _ _ _ hasnt ∙ was hasnt ∙ sym (word_left p i hasnt)
        ]

    copies_rest : (o : Option (ℕ → ℕ)) (p : ℕ) → (in_range first len p ≡ false → IsCopy o (copy_at old.store p))
        → IsCopy (if in_range first len p then Some (λ i. 0) else o) (copy_at new.store p)
    copies_rest o p was =
        elim (cases_Bool (in_range first len p)) [
          | inl has ↦ rw (has, copy_gone p has) (λ i. sym (get_or-alike 1024 i 0))
          | inr hasnt ↦ rw (hasnt, copy_left p hasnt) (was hasnt)
        ]

    copied_rest : (p : ℕ) → (in_range first len p ≡ false → IsCopied old p) → IsCopied new p
    copied_rest p was =
        elim (cases_Bool (in_range first len p)) [
          | inl has ↦ record { words = zero_words; known = copy_gone p has; equal = λ i. word_gone p i has ∙ sym (get_or-alike 1024 i 0) }
          | inr hasnt ↦
              let is = was hasnt in record {
                words = is.words;
                known = copy_left p hasnt ∙ is.known;
                equal = λ i. word_left p i hasnt ∙ is.equal i;
              }
        ]

  -- so each page is what the flat memory says
  module _ (st after : SpaceState) (s : StandsFor old st) (dropped : HasDropped st after first len) where
    dirty_then : (p : ℕ) → after.flat.dirty p ≡ dirty_at new p
    dirty_then p = dropped.dirty p ∙ dirty_rest (st.flat.dirty p) p (λ hasnt. s.beside.dirty p (gone.out_of p hasnt))

    dropped_at : (p : ℕ) → BesideAt false new after p
    dropped_at p =
        record {
          dirty = λ _. dirty_then p;
          words = λ told _ i.
              let w = s.beside.told (sym dropped.told ∙ told) in
              dropped.words p i ∙ word_rest w.tells (st.flat.words p i) p i (λ hasnt. w.words p i (gone.out_of p hasnt));
          copies = λ told _ _.
              let w = s.beside.told (sym dropped.told ∙ told) in
              rw (dropped.copies p) (copies_rest w.tells (st.flat.copies p) p
              (λ hasnt. w.copies p (gone.out_of p hasnt) (ap (is_that p) gone.none_paged)));
          copied = λ told _ behind.
              let w = s.beside.told (sym dropped.told ∙ told) in
              let level : (dirty_at old p && not (is_that p old.paged)) ≡ false =
              rw (sym (dirty_kept p), gone.none_paged) (rw paged_then at behind) in
              copied_rest w.tells p (λ hasnt. w.copied p (gone.out_of p hasnt) level);
          tied = λ i word said settled.
              gone.word p i ∙ s.beside.tied p i word (sym (dropped.tied p i) ∙ said) (sym (settled_rest p) ∙ settled);
          untied = λ i pending. absurd (true≢false (sym pending ∙ ap (is_that p) pending_then));
        }

-- A region goes.
module _ (old new : Kept) (page : ℕ) (r : Region) (goes_away : DropsRegion old new page r) where
  abbrev forgets : Forgets r.first r.length old.table new.table
  forgets = goes_away.loses.forgets

  pages_go : DropsPages old new r.first r.length
  pages_go =
      record {
        none = goes_away.loses.none;
        none_pending = goes_away.none_pending;
        none_paged = goes_away.none_paged;
        out_of = λ p hasnt. ap (λ (o : Option PageRange). is_in o p) goes_away.cleared ∙ hasnt;
        pending = ap (λ (k : Kept). k.pending) goes_away.same;
        paged = ap (λ (k : Kept). k.paged) goes_away.same;
        mapping = forgets.mapping;
        word = forgets.word;
        drops = goes_away.drops;
      }

  -- in each state that the space stood for
  module _ (mapped : AreMapped new.regions new.table) (st : SpaceState) (s : StandsFor old st) where
    found_then : region_at st.flat.regions page ≡ Some r
    found_then = ap (λ rs. region_at rs page) s.beside.regions ∙ goes_away.loses.at

    unmap_allowed : (c n : ℕ) (q : Region) → region_at old.regions page ≡ Some q → st.next ≡ AfterClear c q.first q.length
        → WhatAllowed st false c (Answer n (Unmap old.number page) done)
    unmap_allowed c n q found next =
        let e : region_at st.flat.regions page ≡ Some q = ap (λ rs. region_at rs page) s.beside.regions ∙ found in
        let same : r ≡ q = same_Some _ _ (sym goes_away.loses.at ∙ found) in
        let empty : (p : ℕ) → in_range q.first q.length p ≡ true → st.base p ≡ None =
        λ p has. s.base p ∙ goes_away.loses.none p (ap (has_page p) same ∙ has) in
        record {
          reply = (
            ap unmap_reply_at e,
            λ l. subst (λ (o : Option Region). IsClearedAt st c o) (sym e) (record {
              next = next;
              none = empty;
            }),
          );
          parts = refl;
          hit = refl;
          size = refl;
        }

    module _ (c n : ℕ) where
      abbrev unmapped : SpaceState
      unmapped = space_after st (answer_entry c n (Unmap old.number page) done)

      has_dropped : HasDropped st unmapped r.first r.length
      has_dropped =
          record {
            dirty = λ p. ap (λ o. if goes o p then false else st.flat.dirty p) found_then;
            words = λ p i. ap (λ o. if goes o p then 0 else st.flat.words p i) found_then;
            copies = λ p. ap (λ o. if goes o p then Some (λ i. 0) else st.flat.copies p) found_then;
            tied = λ p i. refl;
            told = refl;
          }

      unmap_stands : StandsFor new unmapped
      unmap_stands =
          let regions_are : new.regions ≡ without_region page old.regions = ap (λ (k : Kept). k.regions) goes_away.same in
          let regions_then : unmapped.flat.regions ≡ new.regions = ap (without_region page) s.beside.regions ∙ sym regions_are in
          let rights_then : AreRights new.regions (own_in new.table) st.flat.rights =
          subst (λ (rs : List Region). AreRights rs (own_in new.table) st.flat.rights) (sym regions_are)
          (unmap_rights old.regions page r (own_in old.table) (own_in new.table)
          (loses_rights old new.table page r goes_away.loses) st.flat.rights s.beside.rights) in
          let base : (p : ℕ) → unmapped.base p ≡ frame_at new p = λ p.
          s.base p ∙ sym (frame_kept old new r.first r.length pages_go p) in
          let pages : (p : ℕ) → pages_of unmapped p ≡ mapping_in new.table p = λ p.
          pages_from new unmapped p regions_then (rights_then p) (base p)
          (λ m is. dirty_then old new r.first r.length pages_go st unmapped s has_dropped p) (mapped p) in
          record {
            beside =
                subst (λ (o : Option PageRange). StandsBeside (is_in o) new unmapped) (sym (ap (λ (k : Kept). k.clearing) goes_away.same))
                (beside_each (is_in None) new unmapped regions_then rights_then (λ told. goes_away.drops.tells ∙ (s.beside.told told).tells)
                (omega (arith, s.beside.highest, goes_away.drops.faults))
                (dropped_at old new r.first r.length pages_go st unmapped s has_dropped));
            base = base;
            pages = pages;
            translates = stays old new st unmapped c
                (record {
                  stands = s;
                  follows = record { sizes = refl; images = refl; promotions = refl; demotions = refl };
                  pages = pages;
                })
                (record {
                  sizes = forgets.sizes;
                  images = ap (λ (k : Kept). k.images) goes_away.same;
                  promotions = ap (λ (k : Kept). k.promotions) goes_away.same;
                  demotions = ap (λ (k : Kept). k.demotions) goes_away.same;
                }) forgets.mapping;
          }

  pub unmaps : AreMapped new.regions new.table → IsUnmapped old new page done
  unmaps mapped =
      record {
        done = refl;
        same_number = ap (λ (k : Kept). k.number) goes_away.same;
        same_frames = ap (λ (k : Kept). k.frames) goes_away.same;
        same_processors = ap (λ (k : Kept). length k.images) goes_away.same;
        unread = goes_away.unread;
        unwritten = goes_away.unwritten;
        unfailed = goes_away.drops.faults;
        resting = record {
          none_pending = pending_then old new r.first r.length pages_go;
          none_clearing = ap (λ (k : Kept). k.clearing) goes_away.same;
          none_paged = paged_then old new r.first r.length pages_go;
        };
        allowed = λ st s c n q found next. unmap_allowed mapped st s c n q found next;
        stands = λ st s c n. unmap_stands mapped st s c n;
      }

-- no page outside of the range is being cleared, where that range alone may be
out_of_range : (clearing : Option PageRange) (first len : ℕ) → ForSome clearing (λ r. r ≡ range_of first len)
    → (p : ℕ) → in_range first len p ≡ false → is_in clearing p ≡ false
out_of_range None first len this p hasnt = refl
out_of_range (Some r) first len this p hasnt = ap (λ (x : PageRange). in_range x.first x.length p) (this r refl) ∙ hasnt

-- The pages of a range within a region that isn't wired go, and the region stays.
pub record DropsRange (old new : Kept) (page len : ℕ) : Type 0 where
  pub may : discard_reply old.regions page len ≡ Done
  pub none : (p : ℕ) → in_range page len p ≡ true → frame_at old p ≡ None
  pub none_pending : old.pending ≡ None
  pub none_paged : old.paged ≡ None
  pub no_other : ForSome old.clearing (λ r. r ≡ range_of page len)
  pub drops : DropsCopies page len old.store new.store
  pub unread : new.reads ≡ old.reads
  pub unwritten : new.writes ≡ old.writes
  pub same : new ≡ record old { clearing = None; store = new.store; reads = new.reads; writes = new.writes }

module _ (old new : Kept) (page len : ℕ) (goes_away : DropsRange old new page len) where
  range_goes : DropsPages old new page len
  range_goes =
      record {
        none = goes_away.none;
        none_pending = goes_away.none_pending;
        none_paged = goes_away.none_paged;
        out_of = out_of_range old.clearing page len goes_away.no_other;
        pending = ap (λ (k : Kept). k.pending) goes_away.same;
        paged = ap (λ (k : Kept). k.paged) goes_away.same;
        mapping = λ p. ap (λ (k : Kept). mapping_in k.table p) goes_away.same;
        word = λ p i. ap (λ (k : Kept). word_in k.table p i) goes_away.same;
        drops = goes_away.drops;
      }

  same_region : SameRegions old new
  same_region =
      same_regions old new (ap (λ (k : Kept). k.number) goes_away.same) (ap (λ (k : Kept). k.frames) goes_away.same)
      (ap (λ (k : Kept). length k.images) goes_away.same) (ap (λ (k : Kept). k.regions) goes_away.same)
      (λ p. ap (λ (k : Kept). own_in k.table p) goes_away.same)

  -- in each state that the space stood for
  module _ (mapped : AreMapped new.regions new.table) (st : SpaceState) (s : StandsFor old st) where
    discarded_then : discard_reply st.flat.regions page len ≡ Done
    discarded_then = ap (λ rs. discard_reply rs page len) s.beside.regions ∙ goes_away.may

    module _ (c n : ℕ) where
      abbrev discarded : SpaceState
      discarded = space_after st (answer_entry c n (Discard old.number page len) done)

      has_discarded : HasDropped st discarded page len
      has_discarded =
          record {
            dirty = λ p. ap (λ r. if is_lawful r && in_range page len p then false else st.flat.dirty p) discarded_then;
            words = λ p i. ap (λ r. if is_lawful r && in_range page len p then 0 else st.flat.words p i) discarded_then;
            copies = λ p. ap (λ r. if is_lawful r && in_range page len p then Some (λ i. 0) else st.flat.copies p) discarded_then;
            tied = λ p i. refl;
            told = refl;
          }

      discard_stands : StandsFor new discarded
      discard_stands =
          let regions_then : discarded.flat.regions ≡ new.regions = s.beside.regions ∙ sym same_region.regions in
          let rights_then : (p : ℕ) → is_some (region_at new.regions p) ≡ true → discarded.flat.rights p ≡ rights_at new p =
          λ p has. s.beside.rights p (ap (λ rs. is_some (region_at rs p)) (sym same_region.regions) ∙ has) ∙ sym (same_region.rights p) in
          let base : (p : ℕ) → discarded.base p ≡ frame_at new p = λ p. s.base p ∙ sym (frame_kept old new page len range_goes p) in
          let pages : (p : ℕ) → pages_of discarded p ≡ mapping_in new.table p = λ p.
          pages_from new discarded p regions_then (rights_then p) (base p)
          (λ m is. dirty_then old new page len range_goes st discarded s has_discarded p) (mapped p) in
          record {
            beside =
                subst (λ (o : Option PageRange). StandsBeside (is_in o) new discarded) (sym (ap (λ (k : Kept). k.clearing) goes_away.same))
                (beside_each (is_in None) new discarded regions_then rights_then (λ told. goes_away.drops.tells ∙ (s.beside.told told).tells)
                (omega (arith, s.beside.highest, goes_away.drops.faults))
                (dropped_at old new page len range_goes st discarded s has_discarded));
            base = base;
            pages = pages;
            translates = stays old new st discarded c
                (record {
                  stands = s;
                  follows = record { sizes = refl; images = refl; promotions = refl; demotions = refl };
                  pages = pages;
                })
                (record {
                  sizes = ap (λ (k : Kept). k.table.sizes) goes_away.same;
                  images = ap (λ (k : Kept). k.images) goes_away.same;
                  promotions = ap (λ (k : Kept). k.promotions) goes_away.same;
                  demotions = ap (λ (k : Kept). k.demotions) goes_away.same;
                }) range_goes.mapping;
          }

  pub discards : AreMapped new.regions new.table → Discarded old new page len done
  discards mapped =
      record {
        done = refl;
        same = record { same = same_region; frame = frame_kept old new page len range_goes };
        unread = goes_away.unread;
        unwritten = goes_away.unwritten;
        unfailed = goes_away.drops.faults;
        resting = record {
          none_pending = pending_then old new page len range_goes;
          none_clearing = ap (λ (k : Kept). k.clearing) goes_away.same;
          none_paged = paged_then old new page len range_goes;
        };
        allowed = λ st s c n. record {
          reply = (discarded_then mapped st s, λ l p has. s.base p ∙ goes_away.none p has);
          parts = refl;
          hit = refl;
          size = refl;
        };
        stands = λ st s c n. discard_stands mapped st s c n;
      }
