-- What becomes of a space when a region is mapped, grows, is pinned, or gets new rights, and what an unmap, a discard, a wire and an unwire
-- need first.
use Rattle.std.proofs.Common.{◌≡◌, ℕ, ◌+◌, ◌≤◌, Bool, true, false, ◌&&◌, if◌then◌else◌, List, Option, Some, None, is_some, option_map, nat_le, refl, sym, ap, inl, inr, ◌∙◌, arith, subst}
use Rattle.std.proofs.lemmas.Bool.{cases_Bool, cond-true, cond-false, le-leb, true≢false}
use Rattle.std.proofs.lemmas.Bool.Decides.{nat_tests}
use Rattle.std.proofs.lemmas.Option.{none-some, same_Some}
use Rattle.pager_model.specs.declared.call.Call.{Call}
use Rattle.pager_model.specs.declared.call.Call.TheVariants.{Map, Grow, Unmap, Protect, Discard, Wire, Unwire}
use Rattle.pager_model.specs.declared.entry.What.TheVariants.{Answer}
use Rattle.pager_model.specs.declared.region.Kind.{Kind}
use Rattle.pager_model.specs.declared.page_range.PageRange.{PageRange}
use Rattle.pager_model.specs.declared.region.Region.{Region}
use Rattle.pager_model.specs.declared.region.Rights.{Rights}
use Rattle.pager_model.specs.declared.region.Rights.TheVariants.{NoAccess}
use Rattle.pager_model.specs.declared.reply.Answered.{Answered}
use Rattle.pager_model.specs.declared.reply.Reply.TheVariants.{Done}
use Rattle.pager_model.specs.declared.tile.Mapping.{Mapping}
use Rattle.pager_model.specs.CallEntries.{answer_entry}
use Rattle.pager_model.specs.Bounds.{space_pages}
use Rattle.pager_model.specs.Flat.{is_lawful}
use Rattle.pager_model.specs.Options.{is_that}
use Rattle.pager_model.specs.Order.{is_answered_alone}
use Rattle.pager_model.specs.Regions.{end_of, in_range, region_at, with_region, grown_regions, pinned_regions, map_reply, grow_reply, wire_reply, unwire_reply, discard_reply, range_in, rights_by, is_wired_kind}
use Rattle.pager_model.specs.SpaceStates.{SpaceState, WhatAllowed, IsPinnedAt, IsRegionOf, MayPin, pages_of, space_after}
use Rattle.pager_model.specs.Stored.{copy_at}
use Rattle.region_table.specs.Table.{IsTable, pin_reply, region_of}
use Rattle.space_core.specs.Beginning.{BeginsAnswered, BeginsClearing, BeginsPinning, Pinned, pinning_call}
use Rattle.space_core.specs.Keeping.{IsMapped}
use Rattle.space_core.specs.Pages.{Protects}
use Rattle.space_core.specs.Standing.{Kept, StandsBeside, StandsFor, IsResting, frame_at, dirty_at, rights_at, is_in}
use Rattle.space_core.specs.Tables.{Table, mapping_in, word_in, own_in}
use Rattle.pager_model.proofs.Ranges.{bounds_in}
use Rattle.pager_laws.proofs.RegionReplies.{Grows, none_meets}
use Rattle.region_table.proofs.RegionRights.{AreRights, Gains, LiesInRegion, OwnRightsIn, gains_rights, grow_gains, map_gains, none_in_empty, pin_gains, protect_rights, rights_alike, start_of, started}
use Rattle.region_table.proofs.RegionSearch.{found_from, found_same}
use Rattle.space_core.specs.Translating.{ChangesPages, Retouches}
use Rattle.space_core.proofs.SameView.{SameAt, SameStateAt, beside_each, none_in, same_at, with_pages_of}
use Rattle.space_core.proofs.ServedPages.{AreMapped, IsKeptAt, mapped_again}
use Rattle.space_core.proofs.TableLemmas.{protects_frame, protects_dirty}
use Rattle.space_core.proofs.Translations.{Follows, IsChanged, pages_from, changed_processors, turns}
use Rattle.tiles.specs.Resident.{with_rights}

-- an unmap of a region that is there
pub begins_clearing : (old : Kept) (page : ℕ) (r : Region) → IsTable old.regions → region_at old.regions page ≡ Some r
    → BeginsClearing old old (Unmap old.number page) r.first r.length
begins_clearing old page r ordered h =
    let found = found_from 0 old.regions ordered.in_order page r h in
    let at_first : region_at old.regions r.first ≡ Some r = found_same 0 old.regions ordered.in_order page r h r.first
    (bounds_in r.first r.length r.first (omega arith) (omega (arith, found.some))) in
    record {
      same = refl;
      clears = record {
        in_space = found.in_space;
        within = ap (range_in r.first r.length) at_first ∙ le-leb (end_of r) (end_of r) (omega arith);
        is_for = subst (λ (o : Option Region). IsRegionOf o r.first r.length) (sym h) (refl, refl);
      };
    }

-- a discard that isn't refused
pub begins_discarding : (old : Kept) (page len : ℕ) (r : Region) → IsTable old.regions → region_at old.regions page ≡ Some r
    → page + len ≤ end_of r → discard_reply old.regions page len ≡ Done
    → BeginsClearing old old (Discard old.number page len) page len
begins_discarding old page len r ordered at fits may =
    record {
      same = refl;
      clears = record {
        in_space = omega (arith, fits, (found_from 0 old.regions ordered.in_order page r at).in_space);
        within = ap (range_in page len) at ∙ le-leb (page + len) (end_of r) fits;
        is_for = (refl, refl, may);
      };
    }

-- a wire, or an unwire of a region that isn't wired by its kind
module _ (old : Kept) (page : ℕ) (r : Region) (ordered : IsTable old.regions) (at : region_at old.regions page ≡ Some r) where
  pinned_here : (wired : Bool) → (wired ≡ false → is_wired_kind r.kind ≡ false)
      → (r.first + r.length ≤ space_pages) × MayPin (region_at old.regions r.first) r.first r.length wired
      × MayPin (region_at old.regions page) r.first r.length wired
  pinned_here wired may =
      let found = found_from 0 old.regions ordered.in_order page r at in
      let at_first : region_at old.regions r.first ≡ Some r = found_same 0 old.regions ordered.in_order page r at r.first
      (bounds_in r.first r.length r.first (omega arith) (omega (arith, found.some))) in (
        found.in_space,
        subst (λ (o : Option Region). MayPin o r.first r.length wired) (sym at_first) (refl, refl, may),
        subst (λ (o : Option Region). MayPin o r.first r.length wired) (sym at) (refl, refl, may),
      )

  pub begins_wiring : BeginsPinning old old (Wire old.number page) r.first r.length true
  begins_wiring =
      let here = pinned_here true (λ off. absurd (true≢false off)) in
      record { same = refl; pins = record { in_space = here.0; may = here.1; is_for = (refl, here.2) } }

  pub begins_unwiring : is_wired_kind r.kind ≡ false → BeginsPinning old old (Unwire old.number page) r.first r.length false
  begins_unwiring may =
      let here = pinned_here false (λ _. may) in
      record { same = refl; pins = record { in_space = here.0; may = here.1; is_for = (refl, here.2) } }

-- what is kept of regions that changed, where no page is pending and no range is being cleared
pub changed_kept : (old : Kept) (changed : List Region) (u : Table) (clearing : Option PageRange) (scan scan' : ℕ) → IsKeptAt old scan
    → IsTable changed
    → ((p : ℕ) → region_at changed p ≡ None → own_in u p ≡ None) → AreMapped changed u → old.pending ≡ None → clearing ≡ None
    → IsKeptAt (record old { regions = changed; table = u; clearing = clearing }) scan'
changed_kept old changed u clearing scan scan' k ordered own mapped rests none =
    record {
      ordered = ordered;
      own = own;
      mapped = mapped;
      pending_in = k.pending_in;
      pending_clean = λ p h. absurd (none-some p (sym rests ∙ h));
      pending_alone = λ p h. none;
      clearing_in = λ r h. absurd (none-some r (sym none ∙ h));
    }

-- A call gives the pages of a range these rights, and the regions are these then: each page keeps its frame, its words and its flag.
pub record GivesRights (old new : Kept) (first len : ℕ) (rights : Rights) : Type 0 where
  pub frame : (p : ℕ) → frame_at new p ≡ frame_at old p
  pub dirty : (p : ℕ) → dirty_at new p ≡ dirty_at old p
  pub word : (p i : ℕ) → word_in new.table p i ≡ word_in old.table p i
  pub mapped : AreMapped new.regions new.table
  pub rights_then : (f : ℕ → Rights) → AreRights old.regions (own_in old.table) f
      → AreRights new.regions (own_in new.table) (λ p. if in_range first len p then rights else f p)
  pub changed : IsChanged old new
  pub same : new ≡ record (with_pages_of new old) { regions = new.regions }

-- So does an entry of this processor in the flat memory, and it leaves all else as it was.
pub record GivesIn (st after : SpaceState) (c : ℕ) (regions : List Region) (first len : ℕ) (rights : Rights) : Type 0 where
  pub regions_are : after.flat.regions ≡ regions
  pub rights_then : (p : ℕ) → after.flat.rights p ≡ (if in_range first len p then rights else st.flat.rights p)
  pub told : after.told ≡ st.told
  pub same : (p : ℕ) → SameStateAt st after p
  pub base : (p : ℕ) → after.base p ≡ st.base p
  pub highest : after.highest ≡ st.highest
  pub follows : Follows st after c None

abbrev pub done : Answered
done = record { reply = Done; hit = false; size = None }

module _ (old new : Kept) (first len : ℕ) (rights : Rights) (resting : IsResting old) (gives : GivesRights old new first len rights) where
  given_at : (p : ℕ) → SameAt old new p
  given_at p =
      record {
        frame = gives.frame p;
        dirty = gives.dirty p;
        pending = ap (λ (k : Kept). is_that p k.pending) gives.same;
        paged = ap (λ (k : Kept). is_that p k.paged) gives.same;
        word = λ i _. gives.word p i;
        copy = λ _. ap (λ (k : Kept). copy_at k.store p) gives.same;
      }

  given_stands : (st after : SpaceState) (c : ℕ) → StandsFor old st → GivesIn st after c new.regions first len rights → StandsFor new after
  given_stands st after c s given =
      let right : (p : ℕ) → is_some (region_at new.regions p) ≡ true → after.flat.rights p ≡ rights_at new p =
      λ p has. given.rights_then p ∙ gives.rights_then st.flat.rights s.beside.rights p has in
      let base : (p : ℕ) → after.base p ≡ frame_at new p = λ p. given.base p ∙ s.base p ∙ sym (gives.frame p) in
      let pages : (p : ℕ) → pages_of after p ≡ mapping_in new.table p = λ p.
      pages_from new after p given.regions_are (right p) (base p)
      (λ m at. (given.same p).dirty ∙ s.beside.dirty p (none_in old resting p) ∙ sym (gives.dirty p)) (gives.mapped p) in
      record {
        beside = subst (λ (r : Option PageRange). StandsBeside (is_in r) new after) (sym (ap (λ (k : Kept). k.clearing) gives.same))
            (beside_each (is_in old.clearing) new after given.regions_are right
            (λ told. ap (λ (k : Kept). k.store.tells) gives.same ∙ (s.beside.told (sym given.told ∙ told)).tells)
            (omega (arith, given.highest, s.beside.highest, ap (λ (k : Kept). k.store.faults) gives.same))
            (λ p. same_at (is_in old.clearing) old new st after s.beside given.told p (given_at p) (given.same p)));
        base = base;
        pages = pages;
        translates = turns old new st after c (record { stands = s; follows = given.follows; pages = pages }) gives.changed;
      }

  -- so the call is answered done
  pub begins_done : (c : ℕ) (call : Call) → is_answered_alone call Done ≡ true
      → ((st : SpaceState) → StandsFor old st → (n : ℕ)
      → WhatAllowed st false c (Answer n call done) × GivesIn st
      (space_after st (answer_entry c n call done)) c new.regions first len rights)
      → BeginsAnswered old new c call done
  begins_done c call alone answers =
      record {
        alone = alone;
        same_number = ap (λ (k : Kept). k.number) gives.same;
        same_frames = ap (λ (k : Kept). k.frames) gives.same;
        same_processors = changed_processors old new gives.changed;
        unread = ap (λ (k : Kept). k.reads) gives.same;
        unfailed = ap (λ (k : Kept). k.store.faults) gives.same;
        resting = record {
          none_pending = ap (λ (k : Kept). k.pending) gives.same ∙ resting.none_pending;
          none_clearing = ap (λ (k : Kept). k.clearing) gives.same ∙ resting.none_clearing;
          none_paged = ap (λ (k : Kept). k.paged) gives.same ∙ resting.none_paged;
        };
        answers = record {
          allowed = λ st s n. (answers st s n).0;
          stands = λ st s n. given_stands st (space_after st (answer_entry c n call done)) c s (answers st s n).1;
        };
        memory = λ lacking. cc;
      }

there : (o : Option Region) → is_some o ≡ true → (r : Region) × (o ≡ Some r)
there None h = cc
there (Some r) h = (r, refl)

-- The regions of a space change, and the pages of a range gain one.
module _ (old : Kept) (changed : List Region) (first len : ℕ) (rights : Rights) (gains : Gains old.regions changed first len rights) where
  -- a resident page has its region still, which may be longer
  pub gains_mapped : AreMapped old.regions old.table → AreMapped changed old.table
  gains_mapped said p m here =
      let is = said p m here in
      elim (cases_Bool (in_range first len p)) [
        | inl new ↦ absurd (none-some is.region (sym (gains.none p new) ∙ is.at))
        | inr out ↦
            let same = gains.others p out in
            let found = there (region_at changed p) (started (region_at changed p) (region_at old.regions p) same ∙ ap is_some is.at) in
            let e : start_of (Some found.0) ≡ start_of (Some is.region) = sym (ap start_of found.1) ∙ same ∙ ap start_of is.at in
            record {
              region = found.0;
              at = found.1;
              first = is.first ∙ sym (ap (λ (x : ℕ × Rights). x.0) (same_Some _ _ e));
              rights = is.rights ∙ rights_alike (own_in old.table p) (Some is.region) (Some found.0) (sym e);
            }
      ]

  pub gains_given : OwnRightsIn old.regions (own_in old.table) → AreMapped old.regions old.table
      → GivesRights old (record old { regions = changed }) first len rights
  gains_given owned said =
      record {
        frame = λ p. refl;
        dirty = λ p. refl;
        word = λ p i. refl;
        mapped = gains_mapped said;
        rights_then = gains_rights old.regions changed first len rights gains (own_in old.table) owned;
        changed = inr (record { sizes = refl; images = refl; promotions = refl; demotions = refl }, λ p. refl);
        same = refl;
      }

-- a new region is mapped
pub maps : (old : Kept) (page len : ℕ) (kind : Kind) (rights : Rights) → IsResting old → map_reply old.regions page len ≡ Done
    → OwnRightsIn old.regions (own_in old.table) → AreMapped old.regions old.table
    → (c : ℕ)
    → BeginsAnswered old (record old { regions = with_region (region_of page len kind rights) old.regions }) c
    (Map old.number page len kind rights) done
maps old page len kind rights resting asked owned said c =
    let changed = with_region (region_of page len kind rights) old.regions in
    let gains = map_gains old.regions (region_of page len kind rights) (none_meets old.regions page len asked) in
    begins_done old (record old { regions = changed }) page len rights resting (gains_given old changed page len rights gains owned said)
    c (Map old.number page len kind rights) refl (λ st s n.
    let done_then : map_reply st.flat.regions page len ≡ Done = ap (λ rs. map_reply rs page len) s.beside.regions ∙ asked in (
      record { reply = (done_then, λ l. tt); parts = refl; hit = refl; size = refl },
      record {
        regions_are = rw (s.beside.regions, asked) refl;
        rights_then = λ p. rw done_then refl;
        told = refl;
        same = λ p. record { dirty = refl; words = λ i. refl; copies = refl; tied = λ i. refl };
        base = λ p. refl;
        highest = refl;
        follows = record { sizes = refl; images = refl; promotions = refl; demotions = refl };
      },
    ))

-- a region grows
pub grows_region : (old : Kept) (page by : ℕ) → IsResting old → IsTable old.regions → grow_reply old.regions page by ≡ Done
    → (grows : Grows old.regions page by)
    → OwnRightsIn old.regions (own_in old.table) → AreMapped old.regions old.table
    → (c : ℕ) → BeginsAnswered old (record old { regions = grown_regions page by old.regions }) c (Grow old.number page by) done
grows_region old page by resting ordered asked grows owned said c =
    let r = grows.region in
    let changed = grown_regions page by old.regions in
    let gains = grow_gains old.regions page by r ordered grows.at grows.free in
    begins_done old (record old { regions = changed }) (end_of r) by r.rights resting
    (gains_given old changed (end_of r) by r.rights gains owned said)
    c (Grow old.number page by) refl (λ st s n.
    let done_then : grow_reply st.flat.regions page by ≡ Done = ap (λ rs. grow_reply rs page by) s.beside.regions ∙ asked in (
      record { reply = (done_then, λ l. tt); parts = refl; hit = refl; size = refl },
      record {
        regions_are = rw (s.beside.regions, asked) refl;
        rights_then = λ p. rw (s.beside.regions, asked, grows.at) refl;
        told = refl;
        same = λ p. record { dirty = refl; words = λ i. refl; copies = refl; tied = λ i. refl };
        base = λ p. refl;
        highest = refl;
        follows = record { sizes = refl; images = refl; promotions = refl; demotions = refl };
      },
    ))

-- the region that has the page is pinned, or is no longer
module _ (old : Kept) (page : ℕ) (pinned : Bool) (resting : IsResting old) (may : pin_reply pinned old.regions page ≡ Done)
    (owned : OwnRightsIn old.regions (own_in old.table)) (said : AreMapped old.regions old.table) where
  abbrev pub repinned : Kept
  repinned = record old { regions = pinned_regions page pinned old.regions }

  repinned_given : GivesRights old repinned 0 0 NoAccess
  repinned_given = gains_given old repinned.regions 0 0 NoAccess (pin_gains old.regions page pinned) owned said

  pinned_in : (st : SpaceState) (c n : ℕ) (b : Bool) → b ≡ pinned → StandsFor old st
      → GivesIn st (space_after st (answer_entry c n (pinning_call b old.number page) done)) c repinned.regions 0 0 NoAccess
  pinned_in st c n true is s =
      record {
        regions_are = ap (pinned_regions page true) s.beside.regions ∙ ap (λ b. pinned_regions page b old.regions) is;
        rights_then = λ p. sym (cond-false _ _ _ (none_in_empty p));
        told = refl;
        same = λ p. record { dirty = refl; words = λ i. refl; copies = refl; tied = λ i. refl };
        base = λ p. refl;
        highest = refl;
        follows = record { sizes = refl; images = refl; promotions = refl; demotions = refl };
      }
  pinned_in st c n false is s =
      let lawful : is_lawful (unwire_reply st.flat.regions page) ≡ true =
      ap (λ rs. is_lawful (unwire_reply rs page)) s.beside.regions
      ∙ ap (λ b. is_lawful (pin_reply b old.regions page)) is ∙ ap is_lawful may in
      record {
        regions_are =
            cond-true _ _ _ lawful ∙ ap (pinned_regions page false) s.beside.regions
            ∙ ap (λ b. pinned_regions page b old.regions) is;
        rights_then = λ p. sym (cond-false _ _ _ (none_in_empty p));
        told = refl;
        same = λ p. record { dirty = refl; words = λ i. refl; copies = refl; tied = λ i. refl };
        base = λ p. refl;
        highest = refl;
        follows = record { sizes = refl; images = refl; promotions = refl; demotions = refl };
      }

  pinned_allowed : (st : SpaceState) → StandsFor old st → (c n : ℕ) (b : Bool) → b ≡ pinned → IsPinnedAt st c b (region_at old.regions page)
      → WhatAllowed st false c (Answer n (pinning_call b old.number page) done)
  pinned_allowed st s c n true is here =
      record {
        reply = (
          ap (λ rs. wire_reply rs page) s.beside.regions ∙ ap (λ b. pin_reply b old.regions page) is ∙ may,
          λ l. subst (λ (rs : List Region). IsPinnedAt st c true (region_at rs page)) (sym s.beside.regions) here,
        );
        parts = refl;
        hit = refl;
        size = refl;
      }
  pinned_allowed st s c n false is here =
      record {
        reply = (
          ap (λ rs. unwire_reply rs page) s.beside.regions ∙ ap (λ b. pin_reply b old.regions page) is ∙ may,
          λ l. subst (λ (rs : List Region). IsPinnedAt st c false (region_at rs page)) (sym s.beside.regions) here,
        );
        parts = refl;
        hit = refl;
        size = refl;
      }

  pub pins_region : Pinned old repinned page pinned done
  pins_region =
      record {
        done = refl;
        same_number = refl;
        same_frames = refl;
        same_processors = refl;
        frame = λ p. refl;
        unread = refl;
        unwritten = refl;
        unfailed = refl;
        resting = record { none_pending = resting.none_pending; none_clearing = resting.none_clearing; none_paged = resting.none_paged };
        allowed = λ st s c n here. pinned_allowed st s c n pinned refl here;
        stands = λ st s c n. given_stands old repinned 0 0 NoAccess resting repinned_given st
            (space_after st (answer_entry c n (pinning_call pinned old.number page) done)) c s (pinned_in st c n pinned refl s);
      }

-- the pages of a range within a region get rights
module _ (regions : List Region) (t u : Table) (page len : ℕ) (given : Rights) (protects : Protects page len given t u) where
  mapped_given : (p : ℕ) (m n : Mapping) → IsMapped regions t p n → own_in u p ≡ Some given → with_rights given n ≡ m
      → IsMapped regions u p m
  mapped_given p m n is own e =
      record {
        region = is.region;
        at = is.at;
        first = ap (λ (x : Mapping). x.region) (sym e) ∙ is.first;
        rights = ap (λ (x : Mapping). x.rights) (sym e) ∙ ap (λ o. rights_by o (Some is.region)) (sym own);
      }

  mapped_within : AreMapped regions t → (p : ℕ) (m : Mapping) → own_in u p ≡ Some given → (o : Option Mapping) → mapping_in t p ≡ o
      → option_map (with_rights given) o ≡ Some m → IsMapped regions u p m
  mapped_within said p m own None was h = absurd (none-some m h)
  mapped_within said p m own (Some n) was h = mapped_given p m n (said p n was) own (same_Some _ _ h)

  pub protect_mapped : AreMapped regions t → AreMapped regions u
  protect_mapped said p m is =
      elim (cases_Bool (in_range page len p)) [
        | inl ins ↦
            mapped_within said p m (protects.own p ∙ cond-true _ _ _ ins) (mapping_in t p) refl
            (sym (protects.mapping p ∙ cond-true _ _ _ ins) ∙ is)
        | inr out ↦
            mapped_again regions t u p m (protects.own p ∙ cond-false _ _ _ out)
            (said p m (sym (protects.mapping p ∙ cond-false _ _ _ out) ∙ is))
      ]

pub begins_protected : (old new : Kept) (page len : ℕ) (given : Rights) → IsResting old → LiesInRegion old.regions page len
    → Protects page len given old.table new.table
    → AreMapped old.regions old.table → ChangesPages old new → Retouches old new → (c : ℕ)
    → BeginsAnswered old new c (Protect old.number page len given) done
begins_protected old new page len given resting lies protects said changes retouched c =
    let regions : new.regions ≡ old.regions = ap (λ (k : Kept). k.regions) changes in
    let in_one : (rs : List Region) → rs ≡ old.regions → range_in page len (region_at rs page) ≡ true = λ rs e.
    ap (λ xs. range_in page len (region_at xs page)) e ∙ ap (range_in page len) lies.at ∙ fits in
    begins_done old new page len given resting
    (record {
      frame = protects_frame page len given old.table new.table protects;
      dirty = protects_dirty page len given old.table new.table protects;
      word = protects.word;
      mapped = subst (λ (rs : List Region). AreMapped rs new.table) (sym regions)
          (protect_mapped old.regions old.table new.table page len given protects said);
      rights_then =
          λ f before. subst (λ (rs : List Region). AreRights rs (own_in new.table) (λ p. if in_range page len p then given else f p))
          (sym regions)
          (protect_rights old.regions page len given (own_in old.table) (own_in new.table) protects.own f before);
      changed = inl retouched;
      same = subst (λ (rs : List Region). new ≡ record (with_pages_of new old) { regions = rs }) (sym regions) changes;
    })
    c (Protect old.number page len given) refl (λ st s n. (
      record { reply = (cond-true _ _ _ (in_one st.flat.regions s.beside.regions), λ l. tt); parts = refl; hit = refl; size = refl },
      record {
        regions_are = s.beside.regions ∙ sym regions;
        rights_then = λ p. ap (λ b. if b && in_range page len p then given else st.flat.rights p) (in_one st.flat.regions s.beside.regions);
        told = refl;
        same = λ p. record { dirty = refl; words = λ i. refl; copies = refl; tied = λ i. refl };
        base = λ p. refl;
        highest = refl;
        follows = record { sizes = refl; images = refl; promotions = refl; demotions = refl };
      },
    ))
  where
    fits : nat_le (page + len) (end_of lies.region) ≡ true
    fits = grind (arith, nat_tests, lies.within)
