-- What becomes of a space when the copy of a page is written, or isn't, while the page keeps its frame.
use Rattle.std.proofs.Common.{◌≡◌, ◌≢◌, ℕ, ◌≤◌, ◌+◌, Bool, true, false, if◌then◌else◌, option_map, length, ◌&&◌, ◌==◌, not, List, Option, Some, None, slice_index_or, refl, sym, ap, inl, inr, ◌∙◌, arith, subst}
use Rattle.std.proofs.lemmas.Bool.{cases_Bool, ne_eqb, eq-eqb, true≢false, cond-true, cond-false}
use Rattle.pager_model.specs.Options.{is_that}
use Rattle.pager_model.specs.declared.tile.Mapping.{Mapping}
use Rattle.pager_model.specs.Flat.{Flat, out}
use Rattle.pager_model.specs.Images.{images_with}
use Rattle.pager_model.specs.Regions.{region_at}
use Rattle.pager_model.specs.SpaceStates.{SpaceState, Next, pages_of, space_after}
use Rattle.pager_model.specs.SpaceStates.Next.{Only}
use Rattle.pager_model.specs.Tiles.{mappings, promotions_in, demotions_in}
use Rattle.space_core.specs.Beginning.{SameFrames, FailsToWrite, LeavesUnwritten, WritesOut}
use Rattle.space_core.specs.Pages.{Cleans}
use Rattle.space_core.specs.Saving.{Saves, FailsToSave, LacksRoom, with_store}
use Rattle.space_core.specs.Standing.{Kept, StandsFor, IsResting, IsCopied, frame_at, rights_at, dirty_at, is_in, is_settled, is_behind, word_at, word_in_copy}
use Rattle.pager_model.specs.CallEntries.{failed_entry}
use Rattle.pager_model.specs.Stored.{Stored, copy_at}
use Rattle.space_core.specs.Tables.{Table, mapping_in, frame_in, word_in, dirty_in}
use Rattle.space_core.specs.Translating.{Retouches, CleansPage}
use Rattle.space_core.proofs.SameView.{BesideAt, SameWhole, SameAt, settled_from, same_regions, none_in, none_paged, none_pending, one_stands, same_stands, rises_told, within_faults}
use Rattle.space_core.proofs.ServedPages.{resident_from}
use Rattle.space_core.proofs.TableLemmas.{dirty_in-absent, dirty-same, cleans_frame, cleans_dirty, cleans_none}
use Rattle.space_core.proofs.Translations.{IsChanged, Still, same_translates, stays, said_flag, changed_processors, turns}
use Rattle.tiles.specs.Resident.{with_flag}

-- a dirty page is resident
pub dirty_resident : (t : Table) (page : ℕ) → dirty_in t page ≡ true → frame_in t page ≢ None
dirty_resident t page dirty none = true≢false (sym dirty ∙ dirty_in-absent t page none)

-- a clean page is clean as it is
pub clean_already : (kept : Kept) (page : ℕ) → dirty_at kept page ≡ false → CleansPage kept kept page
clean_already kept page clean = record {
  same = refl;
  table = cleans_none kept.table page clean;
  retouched = λ dirty. absurd (true≢false (sym dirty ∙ clean));
  as_it_was = λ _. refl;
}

-- and so is a page that wasn't written as it was saved
pub unwritten_clean : (old saved : Kept) (page : ℕ) → Saves old saved page false → CleansPage saved saved page
unwritten_clean old saved page saves = clean_already saved page (ap (λ (k : Kept). dirty_at k page) (saves.left refl) ∙ saves.was)

-- but a page that was written is dirty still
pub written_dirty : (old saved : Kept) (page : ℕ) → Saves old saved page true → dirty_at saved page ≡ true
written_dirty old saved page saves = ap (λ (k : Kept). dirty_at k page) saves.same ∙ saves.was

-- the state after an entry of a processor that leaves this flat memory, and each page its frame
abbrev pub with_flat : SpaceState → ℕ → Next → Flat → SpaceState
with_flat st c next f =
    record st {
      flat = f;
      next = next;
      images = images_with st.sizes (mappings f st.base) c None st.images;
      promotions = st.promotions + promotions_in st.sizes (pages_of st) (mappings f st.base);
      demotions = st.demotions + demotions_in st.sizes (pages_of st) (mappings f st.base);
    }

-- the state in which the page was paged out, with the next maker
abbrev pub outed : SpaceState → ℕ → ℕ → Next → SpaceState
outed st c page next = with_flat st c next (out st.flat page)

-- a state has the same of the page, but that its copy is unknown
record SameLost (old new : SpaceState) (p : ℕ) : Type 0 where
  dirty : new.flat.dirty p ≡ old.flat.dirty p
  words : (i : ℕ) → new.flat.words p i ≡ old.flat.words p i
  copies : new.flat.copies p ≡ None
  tied : (i : ℕ) → new.tied p i ≡ old.tied p i

-- the page's copy in the store is known, and is what the page has
abbrev pub HasCopy : Kept → Stored → ℕ → Type 0
HasCopy kept store page = (words : List ℕ) × (copy_at store page ≡ Some words) × ((i : ℕ) → word_at kept page i ≡ slice_index_or words i 0)

-- A space whose store alone changed is seen the same but for the copies.
module _ (old new : Kept) (only : new ≡ with_store old new) where
  pub store_resting : IsResting old → IsResting new
  store_resting r =
      record {
        none_pending = ap (λ (k : Kept). k.pending) only ∙ r.none_pending;
        none_clearing = ap (λ (k : Kept). k.clearing) only ∙ r.none_clearing;
        none_paged = ap (λ (k : Kept). k.paged) only ∙ r.none_paged;
      }

  pub store_frames : SameFrames old new
  store_frames =
      record {
        same = record {
          number = ap (λ (k : Kept). k.number) only;
          frames = ap (λ (k : Kept). k.frames) only;
          processors = ap (λ (k : Kept). length k.images) only;
          regions = ap (λ (k : Kept). k.regions) only;
          rights = λ p. ap (λ (k : Kept). rights_at k p) only;
        };
        frame = λ p. ap (λ (k : Kept). frame_at k p) only;
      }

  pub store_reads : new.reads ≡ old.reads
  store_reads = ap (λ (k : Kept). k.reads) only

  pub store_still : Still old new
  store_still = record {
    sizes = ap (λ (k : Kept). k.table.sizes) only;
    images = ap (λ (k : Kept). k.images) only;
    promotions = ap (λ (k : Kept). k.promotions) only;
    demotions = ap (λ (k : Kept). k.demotions) only;
  }

  pub store_mapping : (p : ℕ) → mapping_in new.table p ≡ mapping_in old.table p
  store_mapping p = ap (λ (k : Kept). mapping_in k.table p) only

  store_whole : new.store.tells ≡ old.store.tells → old.store.faults ≤ new.store.faults → SameWhole old new
  store_whole tells faults =
      record {
        regions = ap (λ (k : Kept). k.regions) only;
        rights = λ p. ap (λ (k : Kept). rights_at k p) only;
        tells = tells;
        faults = faults;
      }

  store_at : (p : ℕ) → (old.store.tells ≡ true → copy_at new.store p ≡ copy_at old.store p) → SameAt old new p
  store_at p copy =
      record {
        frame = ap (λ (k : Kept). frame_at k p) only;
        dirty = ap (λ (k : Kept). dirty_at k p) only;
        pending = ap (λ (k : Kept). is_that p k.pending) only;
        paged = ap (λ (k : Kept). is_that p k.paged) only;
        word = λ i _. ap (λ (k : Kept). word_in k.table p i) only;
        copy = copy;
      }

-- A page's copy was written, or was known before: it is equal to its page where the store tells it.
pub record IsSaved (old : Kept) (store : Stored) (page : ℕ) : Type 0 where
  pub tells : store.tells ≡ old.store.tells
  pub faults : old.store.faults ≤ store.faults
  pub others : old.store.tells ≡ true → (p : ℕ) → p ≢ page → copy_at store p ≡ copy_at old.store p
  pub copied : (st : SpaceState) → StandsFor old st → st.told ≡ true → HasCopy old store page

-- The page's copy is saved, each page keeps its frame and its words, and no page is pending and no range being cleared.
pub record SavesOnly (old new : Kept) (page : ℕ) : Type 0 where
  pub saved : IsSaved old new.store page
  pub same : SameFrames old new
  pub word : (p i : ℕ) → word_in new.table p i ≡ word_in old.table p i
  pub none_pending : new.pending ≡ None
  pub none_clearing : new.clearing ≡ None

module _ (old : Kept) (resting : IsResting old) where
  settled_if : (p : ℕ) → frame_at old p ≢ None → is_settled old p ≡ true
  settled_if p resident = settled_from old p resident resting.none_pending

  pub saved : (new : Kept) (page : ℕ) (written : Bool) → Saves old new page written → IsSaved old new.store page
  saved new page true saves =
      let wrote = saves.wrote refl in
      let sets = wrote.2 in
      record {
        tells = sets.tells;
        faults = omega (arith, saves.unfailed);
        others = λ tells p n. sets.copies tells p ∙ cond-false _ _ _ (ne_eqb p page n);
        copied = λ st s told. (
          wrote.0,
          sets.copies (s.beside.told told).tells page ∙ cond-true _ _ _ (eq-eqb page page refl),
          λ i. cond-true _ _ _ (settled_if page (dirty_resident old.table page saves.was)) ∙ wrote.1 i,
        );
      }
  saved new page false saves =
      let same : new.store ≡ old.store = ap (λ (k : Kept). k.store) (saves.left refl) in
      record {
        tells = ap (λ (s : Stored). s.tells) same;
        faults = omega (arith, saves.unfailed);
        others = λ tells p n. ap (λ s. copy_at s p) same;
        copied = λ st s told.
            let is = (s.beside.told told).copied page (none_in old resting page) (ap (λ d. d && not (is_that page old.paged)) saves.was) in
            (is.words, ap (λ s. copy_at s page) same ∙ is.known, is.equal);
      }

  module _ (new : Kept) (page : ℕ) (saves : SavesOnly old new page) where
    whole : SameWhole old new
    whole = record {
      regions = saves.same.same.regions;
      rights = saves.same.same.rights;
      tells = saves.saved.tells;
      faults = saves.saved.faults;
    }

    settled : (p : ℕ) → is_settled new p ≡ is_settled old p
    settled p = rw (saves.same.frame p, saves.none_pending, resting.none_pending) refl

    word_kept : (copy : HasCopy old new.store page) (i : ℕ) → word_at new page i ≡ word_at old page i
    word_kept copy i =
        elim (cases_Bool (is_settled old page)) [
          | inl is ↦ cond-true _ _ _ (settled page ∙ is) ∙ saves.word page i ∙ sym (cond-true _ _ _ is)
          | inr isnt ↦ cond-false _ _ _ (settled page ∙ isnt) ∙ ap (λ copy. word_in_copy copy i) copy.1 ∙ sym (copy.2 i)
        ]

    copied : (copy : HasCopy old new.store page) → IsCopied new page
    copied copy = record { words = copy.0; known = copy.1; equal = λ i. word_kept copy i ∙ copy.2 i }

    at_other : ((p : ℕ) → p ≢ page → dirty_at new p ≡ dirty_at old p) → ((p : ℕ) → p ≢ page → is_that p new.paged ≡ false) → (p : ℕ)
        → p ≢ page → SameAt old new p
    at_other dirty paged p n =
        record {
          frame = saves.same.frame p;
          dirty = dirty p n;
          pending = ap (is_that p) saves.none_pending ∙ sym (none_pending old resting p);
          paged = paged p n ∙ sym (none_paged old resting p);
          word = λ i _. saves.word p i;
          copy = λ tells. saves.saved.others tells p n;
        }

    -- the page is clean then, as one that was paged out
    pub copied_out : Cleans page old.table new.table → new.paged ≡ None → IsChanged old new → (st : SpaceState) (c : ℕ) (next : Next)
        → StandsFor old st → StandsFor new (outed st c page next)
    copied_out cleans unpaged changed st c next s =
        let b = s.beside in
        let after = outed st c page next in
        let is : (p : ℕ) → pages_of after p ≡ mapping_in new.table p = λ p.
        said_flag (p == page) false (st.flat.dirty p) (st.base p) (region_at st.flat.regions p) (st.flat.rights p)
        ∙ ap (λ (o : Option Mapping). if p == page then option_map (with_flag false) o else o) (s.pages p) ∙ sym (cleans.mapping p) in
        let this : (page == page) ≡ true = eq-eqb page page refl in
        one_stands old new st after page whole (saves.none_clearing ∙ sym resting.none_clearing) (record {
          regions = refl;
          rights = λ p. refl;
          told = refl;
        })
        (omega (arith, b.highest, saves.saved.faults))
        (at_other (λ p n. cleans_dirty page old.table new.table cleans p ∙ cond-false _ _ _ (ne_eqb p page n))
        (λ p n. ap (is_that p) unpaged))
        (λ p n. record {
          dirty = cond-false _ _ _ (ne_eqb p page n);
          words = λ i. refl;
          copies = cond-false _ _ _ (ne_eqb p page n);
          tied = λ i. refl;
        })
        (λ p n. refl) s
        (record {
          dirty = λ out. cond-true _ _ _ this ∙ sym (cleans_dirty page old.table new.table cleans page ∙ cond-true _ _ _ this);
          words = λ told out i. (b.told told).words page i out ∙ sym (word_kept (saves.saved.copied st s told) i);
          copies = λ told out _. let copy = saves.saved.copied st s told in
              rw (this, copy.1) (λ i. (b.told told).words page i out ∙ copy.2 i);
          copied = λ told out _. copied (saves.saved.copied st s told);
          tied = λ i w tied is. saves.word page i ∙ b.tied page i w tied (sym (settled page) ∙ is);
          untied = λ i is. absurd (true≢false (sym is ∙ ap (is_that page) saves.none_pending));
        })
        (s.base page ∙ sym (saves.same.frame page)) is
        (turns old new st after c
        (record { stands = s; follows = record { sizes = refl; images = refl; promotions = refl; demotions = refl }; pages = is }) changed)

    -- the page is being evicted then
    pub copied_aside : ((p : ℕ) → mapping_in new.table p ≡ mapping_in old.table p) → Still old new → new.paged ≡ Some page
        → (st : SpaceState) → StandsFor old st → StandsFor new st
    copied_aside mapping still paged st s =
        let dirty : (p : ℕ) → dirty_at new p ≡ dirty_at old p = λ p. dirty-same old.table new.table p (mapping p) in
        let b = s.beside in
        let this : is_that page new.paged ≡ true = ap (is_that page) paged ∙ eq-eqb page page refl in
        one_stands old new st st page whole (saves.none_clearing ∙ sym resting.none_clearing) (record {
          regions = refl;
          rights = λ p. refl;
          told = refl;
        })
        (omega (arith, b.highest, saves.saved.faults))
        (at_other (λ p n. dirty p) (λ p n. ap (is_that p) paged ∙ ne_eqb page p (λ e. n (sym e))))
        (λ p n. record { dirty = refl; words = λ i. refl; copies = refl; tied = λ i. refl })
        (λ p n. refl) s
        (record {
          dirty = λ out. b.dirty page out ∙ sym (dirty page);
          words = λ told out i. (b.told told).words page i out ∙ sym (word_kept (saves.saved.copied st s told) i);
          copies = λ told out staying. absurd (true≢false (sym this ∙ staying));
          copied = λ told out _. copied (saves.saved.copied st s told);
          tied = λ i w tied is. saves.word page i ∙ b.tied page i w tied (sym (settled page) ∙ is);
          untied = λ i is. absurd (true≢false (sym is ∙ ap (is_that page) saves.none_pending));
        })
        (s.base page ∙ sym (saves.same.frame page)) (λ p. s.pages p ∙ sym (mapping p)) (same_translates old new st still s.translates)

  -- The write failed, and the page's copy is unknown.
  module _ (new : Kept) (page count : ℕ) (fails : FailsToSave old new page count) where
    dirty_after : dirty_at new page ≡ true
    dirty_after = ap (λ (k : Kept). dirty_at k page) fails.same ∙ fails.dirty

    resident : frame_at old page ≢ None
    resident = dirty_resident old.table page fails.dirty

    settled_after : is_settled new page ≡ true
    settled_after = ap (λ (k : Kept). is_settled k page) fails.same ∙ settled_if page resident

    still_behind : is_behind new page ≡ true
    still_behind = ap (λ (k : Kept). is_behind k page) fails.same ∙ rw (fails.dirty, none_paged old resting page) refl

    word_same : (i : ℕ) → word_in new.table page i ≡ word_in old.table page i
    word_same i = ap (λ (k : Kept). word_in k.table page i) fails.same

    lost_here : (st after : SpaceState) → after.told ≡ st.told → SameLost st after page → StandsFor old st
        → BesideAt (is_in old.clearing page) new after page
    lost_here st after told_same at s =
        let b = s.beside in
        record {
          dirty = λ out. at.dirty ∙ b.dirty page out ∙ sym (ap (λ (k : Kept). dirty_at k page) fails.same);
          words = λ told out i. at.words i ∙ (b.told (sym told_same ∙ told)).words page i out ∙ cond-true _ _ _ (settled_if page resident)
              ∙ sym (word_same i) ∙ sym (cond-true _ _ _ settled_after);
          copies = λ told out _. rw (
            at.copies,
            fails.lost.copies (b.told (sym told_same ∙ told)).tells page
                ∙ cond-true _ _ _ (eq-eqb page page refl),
          ) tt;
          copied = λ told out behind. absurd (true≢false (sym still_behind ∙ behind));
          tied = λ i w tied is. word_same i ∙ b.tied page i w (sym (at.tied i) ∙ tied) (settled_if page resident);
          untied = λ i is. absurd (true≢false
              (sym is ∙ ap (λ (k : Kept). is_that page k.pending) fails.same ∙ none_pending old resting page));
        }

    pub fails_to_write : FailsToWrite old new page count
    fails_to_write =
        record {
          rose = fails.rose;
          count_is = fails.count_is;
          dirty = dirty_after;
          resting = store_resting old new fails.same resting;
          same = store_frames old new fails.same;
          unread = store_reads old new fails.same;
          allowed = λ st s c. (
            resident_from st.base page _ (s.base page) resident,
            s.beside.dirty page (none_in old resting page)
                ∙ fails.dirty,
            rises_told _ _ _ s.beside.highest fails.rose,
          );
          stands = λ st s c.
              one_stands old new st (space_after st (failed_entry c old.number page true count)) page
              (store_whole old new fails.same fails.lost.tells fails.never_falls)
              (ap (λ (k : Kept). k.clearing) fails.same) (record { regions = refl; rights = λ p. refl; told = refl })
              (within_faults st.highest count _ (omega (arith, s.beside.highest, fails.never_falls)) fails.count_is)
              (λ p n. store_at old new fails.same p (λ tells. fails.lost.copies tells p ∙ cond-false _ _ _ (ne_eqb p page n)))
              (λ p n. record { dirty = refl; words = λ i. refl; copies = cond-false _ _ _ (ne_eqb p page n); tied = λ i. refl })
              (λ p n. refl) s
              (lost_here st (space_after st (failed_entry c old.number page true count)) refl
              (record { dirty = refl; words = λ i. refl; copies = cond-true _ _ _ (eq-eqb page page refl); tied = λ i. refl }) s)
              (s.base page ∙ sym ((store_frames old new fails.same).frame page)) (λ p. s.pages p ∙ sym (store_mapping old new fails.same p))
              (stays old new st (space_after st (failed_entry c old.number page true count)) c
              (record {
                stands = s;
                follows = record { sizes = refl; images = refl; promotions = refl; demotions = refl };
                pages = λ p. s.pages p ∙ sym (store_mapping old new fails.same p);
              }) (store_still old new fails.same) (store_mapping old new fails.same));
        }

  -- there was no memory for the copy
  pub leaves_unwritten : (new : Kept) (page : ℕ) → LacksRoom old new page → LeavesUnwritten old new page
  leaves_unwritten new page lacks =
      record {
        lacks = record { dirty = lacks.dirty; unkept = lacks.unkept };
        dirty = ap (λ (k : Kept). dirty_at k page) lacks.same ∙ lacks.dirty;
        resting = store_resting old new lacks.same resting;
        same = store_frames old new lacks.same;
        unread = store_reads old new lacks.same;
        unfailed = lacks.unfailed;
        stands = λ st s. same_stands old new st (store_whole old new lacks.same lacks.copies.tells (omega (arith, lacks.unfailed)))
            (ap (λ (k : Kept). k.clearing) lacks.same) (λ p. store_at old new lacks.same p (λ tells. lacks.copies.copies tells p))
            (store_mapping old new lacks.same) (store_still old new lacks.same) s;
      }

-- the moves and the images are those of what became of the pages from the space before its store changed
retouches_from : (old mid new : Kept) → mid ≡ with_store old mid → Retouches mid new → Retouches old new
retouches_from old mid new only r =
    let is = subst (λ (k : Kept). Retouches k new) only r in
    record { sizes = is.sizes; processors = is.processors; images = is.images; promotions = is.promotions; demotions = is.demotions }

-- A page's copy is saved, and then the page is clean.
pub record CopiesOut (old new : Kept) (page : ℕ) (written : Bool) : Type 0 where
  pub mid : Kept
  pub saves : Saves old mid page written
  pub cleans : CleansPage mid new page

module _ (old new : Kept) (page : ℕ) (written : Bool) (resting : IsResting old) (copies : CopiesOut old new page written) where
  abbrev mid : Kept
  mid = copies.mid

  abbrev saves : Saves old mid page written
  saves = copies.saves

  abbrev cleans : CleansPage mid new page
  cleans = copies.cleans

  rested : IsResting mid
  rested = store_resting old mid saves.same resting

  cleaned_table : Cleans page old.table new.table
  cleaned_table = subst (λ (t : Table). Cleans page t new.table) (ap (λ (k : Kept). k.table) saves.same) cleans.table

  cleaned_frame : (p : ℕ) → frame_at new p ≡ frame_at old p
  cleaned_frame = cleans_frame page old.table new.table cleaned_table

  pub cleaned_resting : IsResting new
  cleaned_resting =
      record {
        none_pending = ap (λ (k : Kept). k.pending) cleans.same ∙ rested.none_pending;
        none_clearing = ap (λ (k : Kept). k.clearing) cleans.same ∙ rested.none_clearing;
        none_paged = ap (λ (k : Kept). k.paged) cleans.same ∙ rested.none_paged;
      }

  cleaned_changed : IsChanged old new
  cleaned_changed = elim (cases_Bool (dirty_at mid page)) [
    | inl dirty ↦ inl (retouches_from old mid new saves.same (cleans.retouched dirty))
    | inr clean ↦
        let same = cleans.as_it_was clean in
        let stored = store_still old mid saves.same in
        inr (
          record {
            sizes = ap (λ (k : Kept). k.table.sizes) same ∙ stored.sizes;
            images = ap (λ (k : Kept). k.images) same ∙ stored.images;
            promotions = ap (λ (k : Kept). k.promotions) same ∙ stored.promotions;
            demotions = ap (λ (k : Kept). k.demotions) same ∙ stored.demotions;
          },
          λ p. ap (λ (k : Kept). mapping_in k.table p) same ∙ store_mapping old mid saves.same p,
        )
  ]

  pub cleaned_same : SameFrames old new
  cleaned_same =
      let stored = store_frames old mid saves.same in
      record {
        same =
            same_regions old new (ap (λ (k : Kept). k.number) cleans.same ∙ stored.same.number)
            (ap (λ (k : Kept). k.frames) cleans.same ∙ stored.same.frames) (changed_processors old new cleaned_changed)
            (ap (λ (k : Kept). k.regions) cleans.same ∙ stored.same.regions) cleaned_table.same.own;
        frame = cleaned_frame;
      }

  pub cleaned_reads : new.reads ≡ old.reads
  cleaned_reads = ap (λ (k : Kept). k.reads) cleans.same ∙ store_reads old mid saves.same

  pub cleaned_faults : new.store.faults ≡ old.store.faults
  cleaned_faults = ap (λ (k : Kept). k.store.faults) cleans.same ∙ saves.unfailed

  pub cleaned_out : (st : SpaceState) (c : ℕ) (next : Next) → StandsFor old st → StandsFor new (outed st c page next)
  cleaned_out st c next s =
      copied_out old resting new page
      (record {
        saved = subst (λ (store : Stored). IsSaved old store page) (sym (ap (λ (k : Kept). k.store) cleans.same))
            (saved old resting mid page written saves);
        same = cleaned_same;
        word = cleaned_table.word;
        none_pending = cleaned_resting.none_pending;
        none_clearing = cleaned_resting.none_clearing;
      })
      cleaned_table cleaned_resting.none_paged cleaned_changed st c next s

  pub writes_out : frame_at old page ≢ None → WritesOut old new page written
  writes_out resident =
      record {
        was = saves.was;
        clean = cleans_dirty page old.table new.table cleaned_table page ∙ cond-true _ _ _ (eq-eqb page page refl);
        resting = cleaned_resting;
        same = cleaned_same;
        unread = cleaned_reads;
        unfailed = cleaned_faults;
        allowed = λ st s c. (
          resident_from st.base page _ (s.base page) resident,
          s.beside.dirty page (none_in old resting page)
              ∙ saves.was,
        );
        stands = λ st s c. cleaned_out st c (Only c) s;
      }
