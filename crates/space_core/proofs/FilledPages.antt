-- What becomes of a space when the copy of its pending page is read in, or when that fails.
use Rattle.std.proofs.Common.{◌≡◌, ◌≢◌, ℕ, ◌≤◌, true, false, ◌&&◌, not, List, length, Some, None, slice_index_or, refl, sym, ap, inl, inr, ◌∙◌, arith}
use Rattle.std.proofs.lemmas.Bool.{cases_eq, ne_eqb, eq-eqb, true≢false, and_right, cond-true}
use Rattle.std.proofs.lemmas.Option.{none-some}
use Rattle.pager_model.specs.Options.{is_that}
use Rattle.pager_model.specs.SpaceStates.{SpaceState, Rises, pages_of, space_after}
use Rattle.space_core.specs.Beginning.{SameRegions, ReadsIn, FailsToRead}
use Rattle.space_core.specs.Pages.{Refills, HasWords}
use Rattle.space_core.specs.Standing.{Kept, StandsFor, IsCopied, frame_at, dirty_at, is_in, is_settled, is_behind, word_at}
use Rattle.pager_model.specs.CallEntries.{failed_entry}
use Rattle.pager_model.specs.Stored.{copy_at, SameCopies}
use Rattle.space_core.specs.Tables.{mapping_in}
use Rattle.store_core.specs.MemoryState.{one_more}
use Rattle.space_core.proofs.SameView.{BesideAt, SameWhole, SameAt, same_regions, settled_from, one_stands, raised_stands, rises_told, within_faults}
use Rattle.space_core.proofs.ServedPages.{resident_from}
use Rattle.space_core.proofs.TableLemmas.{frame-same, dirty-same}
use Rattle.space_core.proofs.Translations.{Still, same_translates, stays}

-- The copy of the pending page is read: the page may have any words then, and all else is seen the same.
pub record ReadsCopy (old new : Kept) (page : ℕ) : Type 0 where
  pub pending : old.pending ≡ Some page
  pub resident : frame_at old page ≢ None
  pub clean : dirty_at old page ≡ false
  pub refills : Refills page old.table new.table
  pub copies : SameCopies old.store new.store
  pub faults : old.store.faults ≤ new.store.faults
  pub once : new.reads ≡ one_more old.reads
  pub same : new ≡ record old { table = new.table; pending = new.pending; store = new.store; reads = new.reads }

module _ (old new : Kept) (page : ℕ) (reads : ReadsCopy old new page) where
  abbrev refills : Refills page old.table new.table
  refills = reads.refills

  same : SameRegions old new
  same =
      same_regions old new (ap (λ (k : Kept). k.number) reads.same) (ap (λ (k : Kept). k.frames) reads.same)
      (ap (λ (k : Kept). length k.images) reads.same)
      (ap (λ (k : Kept). k.regions) reads.same) refills.same.own

  clearing : new.clearing ≡ old.clearing
  clearing = ap (λ (k : Kept). k.clearing) reads.same

  paged : new.paged ≡ old.paged
  paged = ap (λ (k : Kept). k.paged) reads.same

  still : Still old new
  still =
      record {
        sizes = refills.same.sizes;
        images = ap (λ (k : Kept). k.images) reads.same;
        promotions = ap (λ (k : Kept). k.promotions) reads.same;
        demotions = ap (λ (k : Kept). k.demotions) reads.same;
      }

  whole : SameWhole old new
  whole = record { regions = same.regions; rights = same.rights; tells = reads.copies.tells; faults = reads.faults }

  frame_filled : (p : ℕ) → frame_at new p ≡ frame_at old p
  frame_filled p = frame-same old.table new.table p (refills.mapping p)

  dirty_filled : (p : ℕ) → dirty_at new p ≡ dirty_at old p
  dirty_filled p = dirty-same old.table new.table p (refills.mapping p)

  clean_after : dirty_at new page ≡ false
  clean_after = dirty_filled page ∙ reads.clean

  is_pending : is_that page old.pending ≡ true
  is_pending = ap (is_that page) reads.pending ∙ eq-eqb page page refl

  other_pending : (p : ℕ) → p ≢ page → is_that p old.pending ≡ false
  other_pending p n = ap (is_that p) reads.pending ∙ ne_eqb page p (λ e. n (sym e))

  unsettled : is_settled old page ≡ false
  unsettled = and_right _ _ (ap not is_pending)

  unbehind : is_behind old page ≡ false
  unbehind = ap (λ d. d && not (is_that page old.paged)) reads.clean

  -- the page was read in
  module _ (done : new.pending ≡ None) (unfailed : new.store.faults ≡ old.store.faults)
      (read : (words : List ℕ) → old.store.tells ≡ true → copy_at old.store page ≡ Some words → HasWords new.table page words) where
    at_other : (p : ℕ) → p ≢ page → SameAt old new p
    at_other p n =
        record {
          frame = frame_filled p;
          dirty = dirty_filled p;
          pending = ap (is_that p) done ∙ sym (other_pending p n);
          paged = ap (is_that p) paged;
          word = λ i _. refills.word p i n;
          copy = λ tells. reads.copies.copies tells p;
        }

    settled : is_settled new page ≡ true
    settled = settled_from new page (λ none. reads.resident (sym (frame_filled page) ∙ none)) done

    here : (st : SpaceState) → StandsFor old st → BesideAt (is_in old.clearing page) new st page
    here st s =
        let b = s.beside in
        let is : (told : st.told ≡ true) → is_in old.clearing page ≡ false → IsCopied old page =
        λ told out. (b.told told).copied page out unbehind in
        let same_word : (told : st.told ≡ true) → (out : is_in old.clearing page ≡ false) → (i : ℕ)
        → word_at new page i ≡ slice_index_or ((is told out).words) i 0 = λ told out i.
        cond-true _ _ _ settled ∙ read (is told out).words (b.told told).tells (is told out).known i in
        record {
          dirty = λ out. b.dirty page out ∙ sym (dirty_filled page);
          words = λ told out i. (b.told told).words page i out ∙ (is told out).equal i ∙ sym (same_word told out i);
          copies = λ told out staying. rw (reads.copies.copies (b.told told).tells page)
              ((b.told told).copies page out (ap (is_that page) (sym paged) ∙ staying));
          copied = λ told out _. record {
            words = (is told out).words;
            known = reads.copies.copies (b.told told).tells page ∙ (is told out).known;
            equal = same_word told out;
          };
          tied = λ i word tied _. absurd (none-some word (sym (b.untied page i is_pending) ∙ tied));
          untied = λ i is. absurd (true≢false (sym is ∙ ap (is_that page) done));
        }

    pub reads_in : ReadsIn old new
    reads_in =
        record {
          done = done;
          same_clearing = clearing;
          same_paged = paged;
          same = record { same = same; frame = frame_filled };
          read_once = reads.once;
          unwritten = ap (λ (k : Kept). k.writes) reads.same;
          unfailed = unfailed;
          stands = λ st s. one_stands old new st st page whole clearing (record { regions = refl; rights = λ p. refl; told = refl })
              (omega (arith, s.beside.highest, reads.faults)) at_other (λ p n. record {
                dirty = refl;
                words = λ i. refl;
                copies = refl;
                tied = λ i. refl;
              }) (λ p n. refl)
              s (here st s) (s.base page ∙ sym (frame_filled page)) (λ p. s.pages p ∙ sym (refills.mapping p))
              (same_translates old new st still s.translates);
        }

  -- the read failed
  module _ (alone : old.clearing ≡ None) (count : ℕ) (waiting : new.pending ≡ old.pending) (rose : Rises old.store.faults new.store.faults)
      (count_is : count ≡ new.store.faults) where
    at : (p : ℕ) → SameAt old new p
    at p =
        record {
          frame = frame_filled p;
          dirty = dirty_filled p;
          pending = ap (is_that p) waiting;
          paged = ap (is_that p) paged;
          word = λ i is. elim (cases_eq p page) [ inl e ↦ absurd (true≢false (sym is ∙ rw e unsettled)) | inr n ↦ refills.word p i n ];
          copy = λ tells. reads.copies.copies tells p;
        }

    rose_to : Rises old.store.faults count
    rose_to = rw count_is rose

    pub fails_to_read : FailsToRead old new page count
    fails_to_read =
        record {
          rose = rose_to;
          count_is = count_is;
          clean = clean_after;
          same_pending = waiting;
          same_clearing = clearing;
          same_paged = paged;
          same = record { same = same; frame = frame_filled };
          read_once = reads.once;
          unwritten = ap (λ (k : Kept). k.writes) reads.same;
          allowed = λ st s c. (
            resident_from st.base page _ (s.base page) reads.resident,
            s.beside.dirty page (ap (λ r. is_in r page) alone)
                ∙ reads.clean,
            rises_told _ _ _ s.beside.highest rose_to,
          );
          stands = λ st s c.
              let after = space_after st (failed_entry c old.number page false count) in
              let is : (p : ℕ) → pages_of after p ≡ mapping_in new.table p = λ p. s.pages p ∙ sym (refills.mapping p) in
              raised_stands old new st after whole clearing (record { regions = refl; rights = λ p. refl; told = refl })
              (within_faults st.highest count _ (omega (arith, s.beside.highest, reads.faults)) count_is) at
              (λ p. record { dirty = refl; words = λ i. refl; copies = refl; tied = λ i. refl }) (λ p. refl) s is
              (stays old new st after c (record {
                stands = s;
                follows = record { sizes = refl; images = refl; promotions = refl; demotions = refl };
                pages = is;
              }) still refills.mapping);
        }
