-- What becomes of a space when a page gets a frame, and when a load or a store is served.
use Rattle.std.proofs.Common.{◌≡◌, ◌≢◌, ℕ, ◌+◌, ◌<◌, ◌≤◌, Bool, true, false, ◌&&◌, ◌==◌, not, if◌then◌else◌, List, [], Option, Some, None, is_some, option_map, length, replicate, slice_index_or, refl, sym, ap, inl, inr, ◌∙◌, ◌⊎◌, arith, subst}
use Rattle.std.proofs.lemmas.Bool.{cases_Bool, cases_eq, and_parts, and_right, cond-true, cond-false, true≢false, eq-eqb, ne_eqb}
use Rattle.std.proofs.lemmas.Bool.Decides.{nat_tests}
use Rattle.std.proofs.lemmas.Option.{none-some, same_Some}
use Rattle.pager_model.specs.Bounds.{space_pages}
use Rattle.pager_model.specs.declared.call.Call.{Call}
use Rattle.pager_model.specs.declared.call.Call.TheVariants.{Load, Store}
use Rattle.pager_model.specs.declared.entry.Want.{Want}
use Rattle.pager_model.specs.declared.page_range.PageRange.{PageRange}
use Rattle.pager_model.specs.declared.region.Region.{Region}
use Rattle.pager_model.specs.declared.reply.Answered.{Answered}
use Rattle.pager_model.specs.declared.reply.Reply.{Reply}
use Rattle.pager_model.specs.declared.reply.Reply.TheVariants.{Done, Value}
use Rattle.pager_model.specs.declared.tile.Mapping.{Mapping}
use Rattle.pager_model.specs.declared.tile.Tile.{Tile}
use Rattle.pager_model.specs.Options.{is_that}
use Rattle.pager_model.specs.Flat.{page_of, word_of, access_reply, reply_of, is_lawful, can_read, can_write}
use Rattle.pager_model.specs.Images.{is_in_image}
use Rattle.pager_model.specs.Regions.{region_at, rights_by}
use Rattle.pager_model.specs.SpaceStates.{SpaceState, AnswerAllowed, IsResident, IsValue, IsWord, empty_state, pages_of, space_after}
use Rattle.pager_model.specs.SizeSets.{SizeSet}
use Rattle.pager_model.specs.Stores.{IsCopy}
use Rattle.pager_model.specs.Tiles.{mapping_with, tile_in}
use Rattle.pager_model.proofs.Lists.{get_or-alike}
use Rattle.space_core.specs.Beginning.{Places, Finishes, SameRegions}
use Rattle.space_core.specs.Keeping.{IsKept, IsMapped}
use Rattle.space_core.specs.Pages.{SameOwn, Maps, Refills, Writes, Cleans}
use Rattle.space_core.specs.Standing.{Kept, StandsFor, IsResting, frame_at, dirty_at, image_at, is_in, word_at, word_in_copy, is_settled, is_behind, is_allowed}
use Rattle.pager_model.specs.CallEntries.{answer_entry, take_entry}
use Rattle.pager_model.specs.Stored.{copy_at, zero_words, TellsZero}
use Rattle.space_core.specs.Tables.{Table, mapping_in, frame_in, word_in, own_in, dirty_in, flag_in}
use Rattle.space_core.specs.Translating.{ChangesPages, Retouches, Touches}
use Rattle.space_core.proofs.SameView.{BesideAt, SameAt, changed_regions, changed_resting, changed_whole, none_in, one_stands, same_at, same_regions, settled_from, with_pages_of}
use Rattle.space_core.proofs.TableLemmas.{dirty_in-is, dirty_in-absent, frame-absent, maps_frame, maps_dirty, cleans_frame, cleans_dirty, writes_frame, writes_dirty}
use Rattle.space_core.proofs.Translations.{UsesTile, pages_from, retouches, said_flag, used_processors, uses_translates}
use Rattle.tiles.specs.Resident.{with_flag}

-- What is said of resident pages.

-- the same is said of a page
pub mapped_again : (regions : List Region) (t u : Table) (p : ℕ) (m : Mapping) → own_in u p ≡ own_in t p → IsMapped regions t p m
    → IsMapped regions u p m
mapped_again regions t u p m own is =
    record { region = is.region; at = is.at; first = is.first; rights = is.rights ∙ ap (λ o. rights_by o (Some is.region)) (sym own) }

abbrev pub AreMapped : List Region → Table → Type 0
AreMapped regions t = (p : ℕ) (m : Mapping) → mapping_in t p ≡ Some m → IsMapped regions t p m

mapped_flagged_at : (regions : List Region) (t u : Table) → SameOwn t u → (d : Bool) (p : ℕ) (m : Mapping) → AreMapped regions t
    → (here : Bool) (o : Option Mapping) → mapping_in t p ≡ o → (if here then option_map (with_flag d) o else o) ≡ Some m
    → IsMapped regions u p m
mapped_flagged_at regions t u same d p m mapped true None was h = absurd (none-some m h)
mapped_flagged_at regions t u same d p m mapped false None was h = absurd (none-some m h)
mapped_flagged_at regions t u same d p m mapped false (Some n) was h = mapped_again regions t u p m (same.own p) (mapped p m (was ∙ h))
mapped_flagged_at regions t u same d p m mapped true (Some n) was h =
    let is = mapped p n was in
    let e : with_flag d n ≡ m = same_Some _ _ h in
    record {
      region = is.region;
      at = is.at;
      first = ap (λ (x : Mapping). x.region) (sym e) ∙ is.first;
      rights = ap (λ (x : Mapping). x.rights) (sym e) ∙ is.rights ∙ ap (λ o. rights_by o (Some is.region)) (sym (same.own p));
    }

-- a flag leaves the region and the rights
pub mapped_flagged : (regions : List Region) (t u : Table) → SameOwn t u → (b : ℕ → Bool) (d : Bool)
    → ((p : ℕ) → mapping_in u p ≡ (if b p then option_map (with_flag d) (mapping_in t p) else mapping_in t p)) → AreMapped regions t
    → AreMapped regions u
mapped_flagged regions t u same b d mapping mapped p m at =
    mapped_flagged_at regions t u same d p m mapped (b p) (mapping_in t p) refl (sym (mapping p) ∙ at)

-- what is said of one page may be new, or nothing
pub mapped_but : (regions : List Region) (t u : Table) (page : ℕ) (given : Option Mapping) → Maps page given t u → AreMapped regions t
    → ((m : Mapping) → given ≡ Some m → IsMapped regions t page m) → AreMapped regions u
mapped_but regions t u page given maps mapped new p m at =
    elim (cases_eq p page) [
      | inl e ↦
          mapped_again regions t u p m (maps.same.own p)
          (subst (λ (q : ℕ). IsMapped regions t q m) (sym e) (new m (sym (maps.mapping p ∙ cond-true _ _ _ (eq-eqb p page e)) ∙ at)))
      | inr n ↦ mapped_again regions t u p m (maps.same.own p) (mapped p m (sym (maps.mapping p ∙ cond-false _ _ _ (ne_eqb p page n)) ∙ at))
    ]

-- A page that has no frame gets this mapping, in which it is clean, and is pending then; the images and the counts of moves follow.
pub record IsPlaced (old new : Kept) (page : ℕ) (m : Mapping) : Type 0 where
  pub absent : frame_at old page ≡ None
  pub clean : m.dirty ≡ false
  pub moves : Maps page (Some m) old.table new.table
  pub mapped : AreMapped new.regions new.table
  pub retouched : Retouches old new
  pub same : new ≡ record (with_pages_of new old) { pending = Some page }

module _ (old new : Kept) (page : ℕ) (m : Mapping) (resting : IsResting old) (placed : IsPlaced old new page m) where
  this : (page == page) ≡ true
  this = eq-eqb page page refl

  frame_placed : (p : ℕ) → frame_at new p ≡ (if p == page then Some m.frame else frame_at old p)
  frame_placed = maps_frame page (Some m) old.table new.table placed.moves

  frame_other : (p : ℕ) → p ≢ page → frame_at new p ≡ frame_at old p
  frame_other p n = frame_placed p ∙ cond-false _ _ _ (ne_eqb p page n)

  clean_before : dirty_at old page ≡ false
  clean_before = dirty_in-absent old.table page placed.absent

  dirty_placed : (p : ℕ) → dirty_at new p ≡ dirty_at old p
  dirty_placed p =
      maps_dirty page (Some m) old.table new.table placed.moves p ∙ elim (cases_eq p page) [
        | inl e ↦ rw e (cond-true _ _ _ this ∙ placed.clean ∙ sym clean_before)
        | inr n ↦ cond-false _ _ _ (ne_eqb p page n)
      ]

  placed_regions : SameRegions old new
  placed_regions =
      same_regions old new (ap (λ (k : Kept). k.number) placed.same) (ap (λ (k : Kept). k.frames) placed.same) placed.retouched.processors
      (ap (λ (k : Kept). k.regions) placed.same) placed.moves.same.own

  is_pending : is_that page new.pending ≡ true
  is_pending = ap (λ (k : Kept). is_that page k.pending) placed.same ∙ this

  -- a pending page isn't settled, as one without a frame isn't
  unsettled_before : is_settled old page ≡ false
  unsettled_before = ap (λ o. is_some o && not (is_that page old.pending)) placed.absent

  unsettled_then : is_settled new page ≡ false
  unsettled_then = and_right _ _ (ap not is_pending)

  word_placed : (i : ℕ) → word_at old page i ≡ word_at new page i
  word_placed i =
      cond-false _ _ _ unsettled_before ∙ ap (λ (k : Kept). word_in_copy (copy_at k.store page) i) (sym placed.same)
      ∙ sym (cond-false _ _ _ unsettled_then)

  placed_at : (p : ℕ) → p ≢ page → SameAt old new p
  placed_at p n =
      record {
        frame = frame_other p n;
        dirty = dirty_placed p;
        pending = ap (λ (k : Kept). is_that p k.pending) placed.same ∙ ne_eqb page p (λ e. n (sym e))
            ∙ sym (ap (is_that p) resting.none_pending);
        paged = ap (λ (k : Kept). is_that p k.paged) placed.same;
        word = λ i _. placed.moves.word p i n;
        copy = λ _. ap (λ (k : Kept). copy_at k.store p) placed.same;
      }

  module _ (st : SpaceState) (c : ℕ) (want : Want) (s : StandsFor old st) where
    abbrev taken : SpaceState
    taken = space_after st (take_entry c old.number page m.frame want)

    placed_here : BesideAt (is_in old.clearing page) new taken page
    placed_here =
        let b = s.beside in
        record {
          dirty = λ out. b.dirty page out ∙ sym (dirty_placed page);
          words = λ told out i. (b.told told).words page i out ∙ word_placed i;
          copies = λ told out _. subst (λ (k : Kept). IsCopy (st.flat.copies page) (copy_at k.store page)) (sym placed.same)
              ((b.told told).copies page out (ap (is_that page) resting.none_paged));
          copied = λ told out _.
              let was = (b.told told).copied page out (ap (λ d. d && not (is_that page old.paged)) clean_before) in
              record {
                words = was.words;
                known = ap (λ (k : Kept). copy_at k.store page) placed.same ∙ was.known;
                equal = λ i. sym (word_placed i) ∙ was.equal i;
              };
          tied = λ i word said settled. absurd (true≢false (sym settled ∙ unsettled_then));
          untied = λ i _. cond-true _ _ _ this;
        }

    pages_placed : (p : ℕ) → pages_of taken p ≡ mapping_in new.table p
    pages_placed p =
        pages_from new taken p (s.beside.regions ∙ sym placed_regions.regions)
        (λ has. s.beside.rights p (ap (λ rs. is_some (region_at rs p)) (sym placed_regions.regions) ∙ has) ∙ sym (placed_regions.rights p))
        (ap (λ o. if p == page then Some m.frame else o) (s.base p) ∙ sym (frame_placed p))
        (λ n at. s.beside.dirty p (none_in old resting p) ∙ sym (dirty_placed p))
        (placed.mapped p)

    placed_stands : StandsFor new taken
    placed_stands =
        one_stands old new st taken page
        (record {
          regions = placed_regions.regions;
          rights = placed_regions.rights;
          tells = ap (λ (k : Kept). k.store.tells) placed.same;
          faults = omega (arith, ap (λ (k : Kept). k.store.faults) placed.same);
        })
        (ap (λ (k : Kept). k.clearing) placed.same) (record { regions = refl; rights = λ p. refl; told = refl })
        (omega (arith, s.beside.highest, ap (λ (k : Kept). k.store.faults) placed.same)) placed_at
        (λ p n. record { dirty = refl; words = λ i. refl; copies = refl; tied = λ i. cond-false _ _ _ (ne_eqb p page n) })
        (λ p n. cond-false _ _ _ (ne_eqb p page n)) s placed_here
        (cond-true _ _ _ this ∙ sym (frame_placed page ∙ cond-true _ _ _ this)) pages_placed
        (retouches old new st taken c (record {
          stands = s;
          follows = record { sizes = refl; images = refl; promotions = refl; demotions = refl };
          pages = pages_placed;
        })
        placed.retouched)

  pub places : Places old new page m.frame
  places =
      record {
        pending = ap (λ (k : Kept). k.pending) placed.same;
        same_clearing = ap (λ (k : Kept). k.clearing) placed.same;
        same_paged = ap (λ (k : Kept). k.paged) placed.same;
        same = placed_regions;
        same_store = record {
          store = ap (λ (k : Kept). k.store) placed.same;
          unread = ap (λ (k : Kept). k.reads) placed.same;
          unwritten = ap (λ (k : Kept). k.writes) placed.same;
        };
        resident = frame_placed page ∙ cond-true _ _ _ this;
        same_others = frame_other;
        stands = λ st c want s. placed_stands st c want s;
      }

-- What a space keeps true, where none of the pages before the scan of the range that is being cleared is resident.
abbrev pub IsKeptAt : Kept → ℕ → Type 0
IsKeptAt kept scan = IsKept kept.regions kept.table kept.pending kept.clearing scan

-- where no range is being cleared, any page may get a frame
pub placed_kept : (old : Kept) (u : Table) (page scan : ℕ) (m : Mapping) → IsKeptAt old scan → Maps page (Some m) old.table u
    → page < space_pages
    → old.clearing ≡ None → m.dirty ≡ false → IsMapped old.regions old.table page m
    → IsKeptAt (record old { table = u; pending = Some page }) scan
placed_kept old u page scan m k moves in_space none unwritten is =
    record {
      ordered = k.ordered;
      own = λ q h. moves.same.own q ∙ k.own q h;
      mapped = mapped_but old.regions old.table u page (Some m) moves k.mapped
          (λ n e. subst (λ (x : Mapping). IsMapped old.regions old.table page x) (same_Some _ _ e) is);
      pending_in = λ q h. omega (arith, same_Some _ _ h);
      pending_clean = λ q h. clean q (same_Some _ _ h);
      pending_alone = λ q h. none;
      clearing_in = λ r h. absurd (none-some r (sym none ∙ h));
    }
  where
    clean : (q : ℕ) → page ≡ q → dirty_in u q ≡ false
    clean q e = maps_dirty page (Some m) old.table u moves q ∙ cond-true _ _ _ (eq-eqb q page (sym e)) ∙ unwritten

-- a page that is read in is said the same of
pub refilled_mapped : (regions : List Region) (t u : Table) (page : ℕ) → Refills page t u → AreMapped regions t → AreMapped regions u
refilled_mapped regions t u page refills mapped p m is =
    mapped_again regions t u p m (refills.same.own p) (mapped p m (sym (refills.mapping p) ∙ is))

-- what is kept stays so where each page keeps its frame, and no page is pending
pub same_kept : (old : Kept) (u : Table) (scan : ℕ) → IsKeptAt old scan → SameOwn old.table u → ((q : ℕ) → frame_in u q ≡ frame_at old q)
    → AreMapped old.regions u → IsKeptAt (record old { table = u; pending = None }) scan
same_kept old u scan k same frame mapped =
    record {
      ordered = k.ordered;
      own = λ q h. same.own q ∙ k.own q h;
      mapped = mapped;
      pending_in = λ q h. absurd (none-some q h);
      pending_clean = λ q h. absurd (none-some q h);
      pending_alone = λ q h. absurd (none-some q h);
      clearing_in = λ r h. let was = k.clearing_in r h in record { begun = was.begun; done = λ q a b. frame q ∙ was.done q a b };
    }

-- what is kept stays so where no page gets a frame, and none is dirty that wasn't
pub kept_again : (old : Kept) (u : Table) (scan : ℕ) → IsKeptAt old scan → SameOwn old.table u
    → ((q : ℕ) → frame_at old q ≡ None → frame_in u q ≡ None)
    → ((q : ℕ) → dirty_at old q ≡ false → dirty_in u q ≡ false) → AreMapped old.regions u → IsKeptAt (record old { table = u }) scan
kept_again old u scan k same frame clean mapped =
    record {
      ordered = k.ordered;
      own = λ q h. same.own q ∙ k.own q h;
      mapped = mapped;
      pending_in = k.pending_in;
      pending_clean = λ q h. clean q (k.pending_clean q h);
      pending_alone = k.pending_alone;
      clearing_in = λ r h. let was = k.clearing_in r h in record { begun = was.begun; done = λ q a b. frame q (was.done q a b) };
    }

left_or : {A : Type 0} (b : Bool) (x y : A) → (b ≡ false → y ≡ x) → (if b then x else y) ≡ x
left_or true x y h = refl
left_or false x y h = h refl

-- a page may be clean then
pub cleaned_kept : (old : Kept) (u : Table) (scan page : ℕ) → IsKeptAt old scan → Cleans page old.table u
    → IsKeptAt (record old { table = u }) scan
cleaned_kept old u scan page k cleans =
    kept_again old u scan k cleans.same (λ q none. cleans_frame page old.table u cleans q ∙ none)
    (λ q clean. cleans_dirty page old.table u cleans q ∙ left_or (q == page) false (dirty_at old q) (λ _. clean))
    (mapped_flagged old.regions old.table u cleans.same (λ q. q == page) false cleans.mapping k.mapped)

-- or is stored to
pub stored_kept : (old : Kept) (u : Table) (scan page index word : ℕ) → IsKeptAt old scan → Writes page index word old.table u
    → old.pending ≡ None
    → IsKeptAt (record old { table = u }) scan
stored_kept old u scan page index word k writes none =
    subst (λ (o : Option ℕ). IsKeptAt (record old { table = u; pending = o }) scan) (sym none)
    (same_kept old u scan k writes.same (writes_frame page index word old.table u writes)
    (mapped_flagged old.regions old.table u writes.same (λ q. q == page) true writes.mapping k.mapped))

-- and one may give its frame up
pub gone_kept : (old : Kept) (u : Table) (scan page : ℕ) → IsKeptAt old scan → Maps page None old.table u
    → IsKeptAt (record old { table = u }) scan
gone_kept old u scan page k maps =
    kept_again old u scan k maps.same
    (λ q none. maps_frame page None old.table u maps q ∙ left_or (q == page) None (frame_at old q) (λ _. none))
    (λ q clean. maps_dirty page None old.table u maps q ∙ left_or (q == page) false (dirty_at old q) (λ _. clean))
    (mapped_but old.regions old.table u page None maps k.mapped (λ m e. absurd (none-some m e)))

-- also the lowest of a range that is being cleared
pub scanned_kept : (old : Kept) (u : Table) (scan page : ℕ) → IsKeptAt old scan → Maps page None old.table u
    → ((r : PageRange) → old.clearing ≡ Some r → (r.first ≤ page) × ((q : ℕ) → r.first ≤ q → q < page → frame_at old q ≡ None))
    → IsKeptAt (record old { table = u }) (page + 1)
scanned_kept old u scan page k maps before =
    let gone = gone_kept old u scan page k maps in
    record {
      ordered = gone.ordered;
      own = gone.own;
      mapped = gone.mapped;
      pending_in = gone.pending_in;
      pending_clean = gone.pending_clean;
      pending_alone = gone.pending_alone;
      clearing_in = λ r h.
          let b = before r h in
          record {
            begun = omega (arith, b.0);
            done = λ q from below. maps_frame page None old.table u maps q ∙ elim (cases_eq q page) [
              | inl e ↦ cond-true _ _ _ (eq-eqb q page e)
              | inr n ↦ cond-false _ _ _ (ne_eqb q page n) ∙ b.1 q from (omega arith)
            ];
          };
    }

-- an access with a region and the right is served
pub access_served : (o : Option Region) (allowed : Bool) (reply : Reply) → is_some o ≡ true → allowed ≡ true
    → access_reply o allowed reply ≡ reply
access_served None allowed reply has may = cc
access_served (Some r) allowed reply has may = grind (arith, nat_tests)

pub resident_from : (base : ℕ → Option ℕ) (page : ℕ) (o : Option ℕ) → base page ≡ o → o ≢ None → IsResident base page
resident_from base page None e n = absurd (n refl)
resident_from base page (Some frame) e n = (frame, e)

-- a loaded word may be answered where it is the flat memory's, if that is told, and the tied one, if one is
word_asked : (told : Bool) (asked : Reply) (tied : Option ℕ) (word : ℕ) → (told ≡ true → asked ≡ Value word) → IsValue asked
    → ((w : ℕ) → tied ≡ Some w → word ≡ w) → IsWord told asked tied word
word_asked true asked tied word told value same = told refl
word_asked false asked None word told value same = (value, tt)
word_asked false asked (Some w) word told value same = (value, sym (same w refl))

-- what is tied after an answer that says a word is that word, or was tied before
record IsSaid (test : Bool) (p q i j word w : ℕ) : Type 0 where
  here : test ≡ true
  page : p ≡ q
  index : i ≡ j
  same : word ≡ w

tied_said : (p q i j word w : ℕ) (before : Option ℕ) → (if (p == q) && (i == j) then Some word else before) ≡ Some w
    → IsSaid ((p == q) && (i == j)) p q i j word w ⊎ ((((p == q) && (i == j)) ≡ false) × (before ≡ Some w))
tied_said p q i j word w before h =
    elim (cases_Bool ((p == q) && (i == j))) [
      | inl holds ↦
          let parts = and_parts _ _ holds in
          inl (record {
            here = holds;
            page = same_from p q parts.0;
            index = same_from i j parts.1;
            same = same_Some _ _ (sym (cond-true _ _ _ holds) ∙ h);
          })
      | inr fails ↦ inr (fails, sym (cond-false _ _ _ fails) ∙ h)
    ]
  where
    same_from : (a b : ℕ) → (a == b) ≡ true → a ≡ b
    same_from a b e = grind (arith, nat_tests)

-- A processor's load or store is allowed, and its page, which is resident, has this tile; the space rests.
pub record Accesses (kept : Kept) (c : ℕ) (call : Call) (page : ℕ) (tile : Tile) : Type 0 where
  pub resting : IsResting kept
  pub processor : c < length kept.images
  pub allowed : is_allowed kept call ≡ true
  pub resident : frame_at kept page ≢ None
  pub tile_is : tile_in kept.table.sizes (mapping_in kept.table) page ≡ Some tile

pub tile_alike : (z y : SizeSet) (pages others : ℕ → Option Mapping) (page : ℕ) → z ≡ y → ((p : ℕ) → pages p ≡ others p)
    → tile_in z pages page ≡ tile_in y others page
tile_alike z y pages others page sizes same =
    let whole : pages ≡ others = λ i p. same p i in
    ap (λ (x : SizeSet). tile_in x pages page) sizes ∙ ap (λ (ps : ℕ → Option Mapping). tile_in y ps page) whole

-- the hit and the size that are told of an access
hit_told : (kept : Kept) (c : ℕ) (call : Call) (page : ℕ) (tile : Tile) → Accesses kept c call page tile → (st : SpaceState)
    → StandsFor kept st
    → is_in_image (image_at kept c) (Some tile) ≡ is_in_image (st.images c) (tile_in st.sizes (pages_of st) page)
hit_told kept c call page tile a st s =
    ap (is_in_image (image_at kept c))
    (sym (tile_alike st.sizes kept.table.sizes (pages_of st) (mapping_in kept.table) page s.translates.sizes s.pages ∙ a.tile_is))
    ∙ ap (λ (ts : List Tile). is_in_image ts (tile_in st.sizes (pages_of st) page)) (sym (s.translates.images c a.processor))

size_told : (t : Table) (z : SizeSet) (pages : ℕ → Option Mapping) (page : ℕ) (tile : Tile) → z ≡ t.sizes
    → ((p : ℕ) → pages p ≡ mapping_in t p)
    → tile_in t.sizes (mapping_in t) page ≡ Some tile
    → Some tile.extent.size ≡ option_map (λ (x : Tile). x.extent.size) (tile_in z pages page)
size_told t z pages page tile sizes same is =
    ap (option_map (λ (x : Tile). x.extent.size)) (sym (tile_alike z t.sizes pages (mapping_in t) page sizes same ∙ is))

-- a resident page's word is read
module _ (old new : Kept) (c address : ℕ) (tile : Tile) (accesses : Accesses old c (Load old.number address) (page_of address) tile)
    (touches : Touches old new c (Some tile)) where
  abbrev read_page : ℕ
  read_page = page_of address

  settled_read : is_settled old read_page ≡ true
  settled_read = settled_from old read_page accesses.resident accesses.resting.none_pending

  touched_at : (p : ℕ) → SameAt old new p
  touched_at p =
      record {
        frame = ap (λ (k : Kept). frame_at k p) touches.same;
        dirty = ap (λ (k : Kept). dirty_at k p) touches.same;
        pending = ap (λ (k : Kept). is_that p k.pending) touches.same;
        paged = ap (λ (k : Kept). is_that p k.paged) touches.same;
        word = λ i _. ap (λ (k : Kept). word_in k.table p i) touches.same;
        copy = λ _. ap (λ (k : Kept). copy_at k.store p) touches.same;
      }

  touched : ChangesPages old new
  touched = subst (λ (k : Kept). ChangesPages old k) (sym touches.same) refl

  touched_own : (p : ℕ) → own_in new.table p ≡ own_in old.table p
  touched_own p = ap (λ (k : Kept). own_in k.table p) touches.same

  touched_resting : IsResting new
  touched_resting = changed_resting old new touched accesses.resting

  module _ (word : ℕ) (read : word ≡ word_in old.table read_page (word_of address)) where
    abbrev loaded : Answered
    loaded = record { reply = Value word; hit = is_in_image (image_at old c) (Some tile); size = Some tile.extent.size }

    module _ (st : SpaceState) (s : StandsFor old st) where
      load_asked : reply_of st.flat (Load old.number address) ≡ Value (st.flat.words read_page (word_of address))
      load_asked =
          let parts = and_parts _ _ accesses.allowed in
          access_served _ _ _ (ap (λ rs. is_some (region_at rs read_page)) s.beside.regions ∙ parts.0)
          (ap can_read (s.beside.rights read_page parts.0) ∙ parts.1)

      load_allowed : (n : ℕ) → AnswerAllowed st false c n (Load old.number address) loaded
      load_allowed n =
          record {
            reply = (
              word_asked st.told _ _ word
                  (λ tells. load_asked
                  ∙ ap Value ((s.beside.told tells).words read_page (word_of address) (none_in old accesses.resting read_page)
                  ∙ cond-true _ _ _ settled_read ∙ sym read))
                  (_, load_asked)
                  (λ w was. read ∙ s.beside.tied read_page (word_of address) w was settled_read),
              λ lawful. resident_from st.base read_page _ (s.base read_page) accesses.resident,
            );
            parts = refl;
            hit = hit_told old c (Load old.number address) read_page tile accesses st s;
            size = size_told old.table st.sizes (pages_of st) read_page tile s.translates.sizes s.pages accesses.tile_is;
          }

      load_stands : (n : ℕ) → StandsFor new (space_after st (answer_entry c n (Load old.number address) loaded))
      load_stands n =
          let after = space_after st (answer_entry c n (Load old.number address) loaded) in
          let seen = same_at (is_in old.clearing) old new st st s.beside refl read_page (touched_at read_page)
          (record { dirty = refl; words = λ i. refl; copies = refl; tied = λ i. refl }) in
          let pages : (p : ℕ) → pages_of after p ≡ mapping_in new.table p =
          λ p. s.pages p ∙ ap (λ (k : Kept). mapping_in k.table p) (sym touches.same) in
          one_stands old new st after read_page (changed_whole old new touched touched_own) (ap (λ (k : Kept). k.clearing) touches.same)
          (record { regions = refl; rights = λ p. refl; told = refl })
          (omega (arith, s.beside.highest, ap (λ (k : Kept). k.store.faults) touches.same)) (λ p _. touched_at p)
          (λ p n. record {
            dirty = refl;
            words = λ i. refl;
            copies = refl;
            tied = λ i. cond-false _ _ _ (ap (λ b. b && (i == word_of address)) (ne_eqb p read_page n));
          })
          (λ p n. refl) s
          (record {
            dirty = seen.dirty;
            words = seen.words;
            copies = seen.copies;
            copied = seen.copied;
            tied = λ i w said settled. elim (tied_said read_page read_page i (word_of address) word w (st.tied read_page i) said) [
              | inl new ↦
                  let is : word_in old.table read_page i ≡ w = rw new.index (sym read ∙ new.same) in
                  ap (λ (k : Kept). word_in k.table read_page i) touches.same ∙ is
              | inr old ↦ seen.tied i w old.1 settled
            ];
            untied = λ i is. absurd (true≢false (sym is ∙ ap (is_that read_page) touched_resting.none_pending));
          })
          (s.base read_page ∙ sym (touched_at read_page).frame) pages
          (uses_translates old new st after c read_page
          (record {
            mid = old;
            changed = inr (record { sizes = refl; images = refl; promotions = refl; demotions = refl }, λ p. refl);
            tile = tile;
            tile_is = accesses.tile_is;
            touches = touches;
          })
          (record { stands = s; follows = record { sizes = refl; images = refl; promotions = refl; demotions = refl }; pages = pages }))

    pub loads : Finishes old new c (Load old.number address) loaded
    loads =
        record {
          served = refl;
          resting = touched_resting;
          same = record { same = changed_regions old new touched touched_own touches.processors; frame = λ p. (touched_at p).frame };
          same_store = record {
            store = ap (λ (k : Kept). k.store) touches.same;
            unread = ap (λ (k : Kept). k.reads) touches.same;
            unwritten = ap (λ (k : Kept). k.writes) touches.same;
          };
          answers = record { allowed = load_allowed; stands = load_stands };
        }

-- A processor's store to a page of this tile is allowed: its word is written, the pages changed, and then the processor used the page's
-- tile.
pub record IsStored (old new : Kept) (c address word : ℕ) : Type 0 where
  pub was : Tile
  pub accesses : Accesses old c (Store old.number address word) (page_of address) was
  pub uses : UsesTile old new c (page_of address)
  pub same : ChangesPages old uses.mid
  pub writes : Writes (page_of address) (word_of address) word old.table uses.mid.table

-- a resident page's word is written
module _ (old new : Kept) (c address word : ℕ) (stored : IsStored old new c address word) where
  abbrev page : ℕ
  page = page_of address

  abbrev resting : IsResting old
  resting = stored.accesses.resting

  changes : ChangesPages old new
  changes =
      subst (λ (k : Kept). ChangesPages old k) (sym stored.uses.touches.same)
      (ap (λ (k : Kept). record k { images = new.images }) stored.same)

  table_is : new.table ≡ stored.uses.mid.table
  table_is = ap (λ (k : Kept). k.table) stored.uses.touches.same

  writes : Writes page (word_of address) word old.table new.table
  writes = subst (λ (t : Table). Writes page (word_of address) word old.table t) (sym table_is) stored.writes

  same_page : (page == page) ≡ true
  same_page = eq-eqb page page refl

  frame_stored : (p : ℕ) → frame_at new p ≡ frame_at old p
  frame_stored = writes_frame page (word_of address) word old.table new.table writes

  dirty_stored : (p : ℕ) → dirty_at new p ≡ (if p == page then true else dirty_at old p)
  dirty_stored = writes_dirty page (word_of address) word old.table new.table writes stored.accesses.resident

  stored_resting : IsResting new
  stored_resting = changed_resting old new changes resting

  settled_here : is_settled old page ≡ true
  settled_here = settled_from old page stored.accesses.resident resting.none_pending

  settled_then : is_settled new page ≡ true
  settled_then = settled_from new page (λ none. stored.accesses.resident (sym (frame_stored page) ∙ none)) stored_resting.none_pending

  abbrev is_here : ℕ → ℕ → Bool
  is_here p i = (p == page) && (i == word_of address)

  apart : (p i : ℕ) → p ≢ page → is_here p i ≡ false
  apart p i n = ap (λ b. b && (i == word_of address)) (ne_eqb p page n)

  stored_at : (p : ℕ) → p ≢ page → SameAt old new p
  stored_at p n =
      record {
        frame = frame_stored p;
        dirty = dirty_stored p ∙ cond-false _ _ _ (ne_eqb p page n);
        pending = ap (λ (k : Kept). is_that p k.pending) changes;
        paged = ap (λ (k : Kept). is_that p k.paged) changes;
        word = λ i _. writes.word p i ∙ cond-false _ _ _ (apart p i n);
        copy = λ _. ap (λ (k : Kept). copy_at k.store p) changes;
      }

  behind_then : is_behind new page ≡ true
  behind_then =
      let dirty : dirty_at new page ≡ true = dirty_stored page ∙ cond-true _ _ _ same_page in
      rw (dirty, stored_resting.none_paged) refl

  abbrev answered : Answered
  answered = record { reply = Done; hit = is_in_image (image_at old c) (Some stored.was); size = Some stored.uses.tile.extent.size }

  module _ (st : SpaceState) (s : StandsFor old st) where
    asked : reply_of st.flat (Store old.number address word) ≡ Done
    asked =
        let parts = and_parts _ _ stored.accesses.allowed in
        access_served _ _ _ (ap (λ rs. is_some (region_at rs page)) s.beside.regions ∙ parts.0)
        (ap can_write (s.beside.rights page parts.0) ∙ parts.1)

    dirty_then : (p : ℕ)
        → (if is_lawful (reply_of st.flat (Store old.number address word)) && (p == page) then true else st.flat.dirty p) ≡
        (if p == page then true else st.flat.dirty p)
    dirty_then p = ap (λ r. if is_lawful r && (p == page) then true else st.flat.dirty p) asked

    words_then : (p i : ℕ)
        → (if is_lawful (reply_of st.flat (Store old.number address word)) && is_here p i then word else st.flat.words p i) ≡
        (if is_here p i then word else st.flat.words p i)
    words_then p i = ap (λ r. if is_lawful r && is_here p i then word else st.flat.words p i) asked

    module _ (n : ℕ) where
      abbrev after : SpaceState
      after = space_after st (answer_entry c n (Store old.number address word) answered)

      pages_stored : (p : ℕ) → pages_of after p ≡ mapping_in new.table p
      pages_stored p =
          ap (mapping_with (st.base p) (region_at st.flat.regions p) (st.flat.rights p)) (dirty_then p)
          ∙ said_flag (p == page) true (st.flat.dirty p) (st.base p) (region_at st.flat.regions p) (st.flat.rights p)
          ∙ ap (λ (o : Option Mapping). if p == page then option_map (with_flag true) o else o) (s.pages p) ∙ sym (writes.mapping p)

      store_allowed : AnswerAllowed st false c n (Store old.number address word) answered
      store_allowed =
          record {
            reply = (asked, λ lawful. resident_from st.base page _ (s.base page) stored.accesses.resident);
            parts = refl;
            hit = hit_told old c (Store old.number address word) page stored.was stored.accesses st s;
            size =
                size_told new.table st.sizes (pages_of after) page stored.uses.tile
                (s.translates.sizes ∙ sym writes.same.sizes) pages_stored
                (ap (λ (t : Table). tile_in t.sizes (mapping_in t) page) table_is ∙ stored.uses.tile_is);
          }

      stored_here : BesideAt (is_in old.clearing page) new after page
      stored_here =
          let b = s.beside in
          record {
            dirty = λ out. dirty_then page ∙ cond-true _ _ _ same_page ∙ sym (dirty_stored page ∙ cond-true _ _ _ same_page);
            words =
                λ told out i. words_then page i
                ∙ ap (λ v. if is_here page i then word else v) ((b.told told).words page i out ∙ cond-true _ _ _ settled_here)
                ∙ sym (cond-true _ _ _ settled_then ∙ writes.word page i);
            copies = λ told out _. subst (λ (k : Kept). IsCopy (st.flat.copies page) (copy_at k.store page)) (sym changes)
                ((b.told told).copies page out (ap (is_that page) resting.none_paged));
            copied = λ told out behind. absurd (true≢false (sym behind_then ∙ behind));
            tied = λ i w said settled. elim (tied_said page page i (word_of address) word w (st.tied page i) said) [
              | inl new ↦ writes.word page i ∙ cond-true _ _ _ new.here ∙ new.same
              | inr old ↦ writes.word page i ∙ cond-false _ _ _ old.0 ∙ b.tied page i w old.1 settled_here
            ];
            untied = λ i is. absurd (true≢false (sym is ∙ ap (is_that page) stored_resting.none_pending));
          }

      store_stands : StandsFor new after
      store_stands =
          one_stands old new st after page (changed_whole old new changes writes.same.own) (ap (λ (k : Kept). k.clearing) changes) (record {
            regions = refl;
            rights = λ p. refl;
            told = refl;
          })
          (omega (arith, s.beside.highest, ap (λ (k : Kept). k.store.faults) changes)) stored_at
          (λ p m. record {
            dirty = dirty_then p ∙ cond-false _ _ _ (ne_eqb p page m);
            words = λ i. words_then p i ∙ cond-false _ _ _ (apart p i m);
            copies = refl;
            tied = λ i. cond-false _ _ _ (apart p i m);
          })
          (λ p m. refl) s stored_here (s.base page ∙ sym (frame_stored page)) pages_stored
          (uses_translates old new st after c page stored.uses
          (record {
            stands = s;
            follows = record { sizes = refl; images = refl; promotions = refl; demotions = refl };
            pages = pages_stored;
          }))

  pub stores : Finishes old new c (Store old.number address word) answered
  stores =
      record {
        served = refl;
        resting = stored_resting;
        same = record {
          same = changed_regions old new changes writes.same.own (used_processors old new c page stored.uses);
          frame = frame_stored;
        };
        same_store = record {
          store = ap (λ (k : Kept). k.store) changes;
          unread = ap (λ (k : Kept). k.reads) changes;
          unwritten = ap (λ (k : Kept). k.writes) changes;
        };
        answers = record { allowed = store_allowed; stands = store_stands };
      }

-- a dirty page that is stored to has the same said of it
pub same_stored : (t u : Table) (page index word : ℕ) → Writes page index word t u → dirty_in t page ≡ true → (p : ℕ)
    → mapping_in u p ≡ mapping_in t p
same_stored t u page index word writes dirty p =
    writes.mapping p ∙ elim (cases_eq p page) [
      | inl e ↦ rw e (cond-true _ _ _ (eq-eqb page page refl) ∙ flagged (mapping_in t page) (sym (dirty_in-is t page) ∙ dirty))
      | inr n ↦ cond-false _ _ _ (ne_eqb p page n)
    ]
  where
    flagged : (o : Option Mapping) → flag_in o ≡ true → option_map (with_flag true) o ≡ o
    flagged None h = absurd (true≢false (sym h))
    flagged (Some m) h = ap (λ d. Some (with_flag d m)) (sym h)

-- A space without regions and resident pages, of which no tile was used.
pub record IsNew (new : Kept) (z : SizeSet) : Type 0 where
  pub regions : new.regions ≡ []
  pub sizes : new.table.sizes ≡ z
  pub none_resident : (p : ℕ) → mapping_in new.table p ≡ None
  pub resting : IsResting new
  pub processors : ℕ
  pub images : new.images ≡ replicate processors []
  pub promotions : new.promotions ≡ 0
  pub demotions : new.demotions ≡ 0

module _ (new : Kept) (z : SizeSet) (is : IsNew new z) where
  frame_none : (p : ℕ) → frame_at new p ≡ None
  frame_none p = frame-absent new.table p (is.none_resident p)

  no_image : (c : ℕ) → image_at new c ≡ []
  no_image c = ap (λ (ts : List (List Tile)). slice_index_or ts c []) is.images ∙ get_or-alike {A = List Tile} is.processors c []

  unsettled : (p : ℕ) → is_settled new p ≡ false
  unsettled p = ap (λ o. is_some o && not (is_that p new.pending)) (frame_none p)

  zero_word : (i : ℕ) → 0 ≡ slice_index_or zero_words i 0
  zero_word i = sym (get_or-alike 1024 i 0)

  pub begins_empty : (told : Bool) → (told ≡ true → TellsZero new.store) → StandsFor new (empty_state z told new.store.faults)
  begins_empty told zero =
      record {
        beside = record {
          regions = sym is.regions;
          rights = λ p has. absurd (true≢false (sym has ∙ ap (λ rs. is_some (region_at rs p)) is.regions));
          dirty = λ p out. sym (dirty_in-absent new.table p (frame_none p));
          told = λ tells. let all = zero tells in record {
            tells = all.tells;
            words = λ p i out. sym (cond-false _ _ _ (unsettled p) ∙ rw (all.zero p) (sym (zero_word i)));
            copies = λ p out _. rw (all.zero p) zero_word;
            copied = λ p out level. record {
              words = zero_words;
              known = all.zero p;
              equal = λ i. cond-false _ _ _ (unsettled p) ∙ rw (all.zero p) refl;
            };
          };
          tied = λ p i word said settled. absurd (none-some word said);
          untied = λ p i _. refl;
          highest = omega arith;
        };
        base = λ p. sym (frame_none p);
        pages = λ p. sym (is.none_resident p);
        translates = record {
          sizes = sym is.sizes;
          images = λ c within. sym (no_image c);
          tiles = λ c within. refl;
          promotions = λ low. is.promotions;
          demotions = λ low. is.demotions;
        };
      }
