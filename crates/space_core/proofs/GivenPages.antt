-- What becomes of a space when a clean page, or one that is being evicted, gives its frame up.
use Rattle.std.proofs.Common.{◌≡◌, ◌≢◌, ℕ, ◌+◌, Bool, true, false, ◌&&◌, ◌==◌, if◌then◌else◌, not, Option, Some, None, is_some, refl, sym, ap, ◌∙◌, arith, subst}
use Rattle.std.proofs.lemmas.Bool.{ne_eqb, eq-eqb, true≢false, and_right, cond-true, cond-false}
use Rattle.pager_model.specs.Options.{is_that}
use Rattle.pager_model.specs.declared.call.Call.TheVariants.{Evict}
use Rattle.pager_model.specs.declared.page_range.PageRange.{PageRange}
use Rattle.pager_model.specs.Flat.{Flat, reply_of, out}
use Rattle.pager_model.specs.declared.tile.Mapping.{Mapping}
use Rattle.pager_model.specs.Images.{images_with}
use Rattle.pager_model.specs.Regions.{region_at}
use Rattle.pager_model.specs.Tiles.{mappings, promotions_in, demotions_in}
use Rattle.pager_model.specs.SpaceStates.{SpaceState, pages_of, space_after}
use Rattle.pager_model.specs.SpaceStates.Next.{Anyone}
use Rattle.pager_model.specs.Stores.{IsCopy}
use Rattle.space_core.specs.Beginning.{SameRegions, SameStore, GaveUp, Removes, Evicts, IsEvicting, copied_reply}
use Rattle.space_core.specs.Pages.{Maps}
use Rattle.space_core.specs.Standing.{Kept, StandsFor, IsResting, IsCopied, frame_at, dirty_at, is_in, is_settled, is_behind, is_unwired, word_at, word_in_copy}
use Rattle.pager_model.specs.CallEntries.{give_entry}
use Rattle.pager_model.specs.Stored.{Stored, copy_at}
use Rattle.space_core.specs.Tables.{mapping_in}
use Rattle.space_core.specs.Translating.{Retouches}
use Rattle.space_core.proofs.SameView.{SameWhole, SameRest, SameAt, SameStateAt, one_stands}
use Rattle.space_core.proofs.TableLemmas.{maps_frame, maps_dirty}
use Rattle.space_core.proofs.Translations.{Follows, retouches, said_gone, said_out}
use Rattle.space_core.proofs.CopyCalls.{evict_asked, evict_outs, allowed_copied, copied_lawful}

-- Which page may be pending or on its way out: this one alone.
pub record IsOnly (kept : Kept) (page : ℕ) : Type 0 where
  pub none_clearing : kept.clearing ≡ None
  pub pending : (p : ℕ) → p ≢ page → is_that p kept.pending ≡ false
  pub paged : (p : ℕ) → p ≢ page → is_that p kept.paged ≡ false

-- a page may be removed that is pending, or where none is
pub clean_only : (kept : Kept) (page : ℕ) → kept.clearing ≡ None → kept.paged ≡ None → ((p : ℕ) → kept.pending ≡ Some p → p ≡ page)
    → IsOnly kept page
clean_only kept page none_clearing none_paged only =
    record { none_clearing = none_clearing; pending = none_other kept.pending only; paged = λ p n. ap (is_that p) none_paged }
  where
    none_other : (o : Option ℕ) → ((p : ℕ) → o ≡ Some p → p ≡ page) → (p : ℕ) → p ≢ page → is_that p o ≡ false
    none_other None only p n = refl
    none_other (Some q) only p n = ne_eqb q p (λ e. n (sym e ∙ only q refl))

pub evicting_only : (kept : Kept) (page : ℕ) → IsEvicting kept page → IsOnly kept page
evicting_only kept page is =
    record {
      none_clearing = is.none_clearing;
      pending = λ p n. ap (is_that p) is.none_pending;
      paged = λ p n. ap (is_that p) is.paged ∙ ne_eqb page p (λ e. n (sym e));
    }

pub evicting_unbehind : (kept : Kept) (page : ℕ) → IsEvicting kept page → is_behind kept page ≡ false
evicting_unbehind kept page is = and_right _ _ (ap not (ap (is_that page) is.paged ∙ eq-eqb page page refl))

-- an evict's page gives its frame up
abbrev evicted : ℕ → ℕ → SpaceState → Flat → SpaceState
evicted c page st f =
    record st {
      flat = f;
      base = λ p. if p == page then None else st.base p;
      next = Anyone;
      images = images_with st.sizes (mappings f (λ p. if p == page then None else st.base p)) c None st.images;
      promotions = st.promotions + promotions_in st.sizes (pages_of st) (mappings f (λ p. if p == page then None else st.base p));
      demotions = st.demotions + demotions_in st.sizes (pages_of st) (mappings f (λ p. if p == page then None else st.base p));
    }

-- A page that may be removed gives its frame up, and the images and the counts of moves follow.
pub record GivesFrame (old new : Kept) (page frame : ℕ) : Type 0 where
  pub only : IsOnly old page
  pub unbehind : is_behind old page ≡ false
  pub had : frame_at old page ≡ Some frame
  pub moves : Maps page None old.table new.table
  pub retouched : Retouches old new
  pub resting : IsResting new
  pub same : SameRegions old new
  pub same_store : SameStore old new

module _ (old new : Kept) (page frame : ℕ) (gives : GivesFrame old new page frame) where
  abbrev moves : Maps page None old.table new.table
  moves = gives.moves

  abbrev resting : IsResting new
  resting = gives.resting

  whole : SameWhole old new
  whole = record {
    regions = gives.same.regions;
    rights = gives.same.rights;
    tells = ap (λ (s : Stored). s.tells) gives.same_store.store;
    faults = omega (arith, ap (λ (s : Stored). s.faults) gives.same_store.store);
  }

  this : (page == page) ≡ true
  this = eq-eqb page page refl

  gone : frame_at new page ≡ None
  gone = maps_frame page None old.table new.table moves page ∙ cond-true _ _ _ this

  frame_other : (p : ℕ) → p ≢ page → frame_at new p ≡ frame_at old p
  frame_other p n = maps_frame page None old.table new.table moves p ∙ cond-false _ _ _ (ne_eqb p page n)

  clean_after : dirty_at new page ≡ false
  clean_after = maps_dirty page None old.table new.table moves page ∙ cond-true _ _ _ this

  pub gave_up : GaveUp old new page frame
  gave_up = record { had = gives.had; same = gives.same; same_store = gives.same_store; gone = gone; same_others = frame_other }

  at_other : (p : ℕ) → p ≢ page → SameAt old new p
  at_other p n =
      record {
        frame = frame_other p n;
        dirty = maps_dirty page None old.table new.table moves p ∙ cond-false _ _ _ (ne_eqb p page n);
        pending = ap (is_that p) resting.none_pending ∙ sym (gives.only.pending p n);
        paged = ap (is_that p) resting.none_paged ∙ sym (gives.only.paged p n);
        word = λ i _. moves.word p i n;
        copy = λ _. ap (λ s. copy_at s p) gives.same_store.store;
      }

  unsettled : is_settled new page ≡ false
  unsettled = ap (λ o. is_some o && not (is_that page new.pending)) gone

  out_of : is_in old.clearing page ≡ false
  out_of = ap (λ (r : Option PageRange). is_in r page) gives.only.none_clearing

  -- the page without a frame has its copy's words, as before
  copied_after : IsCopied old page → IsCopied new page
  copied_after is =
      let known = ap (λ s. copy_at s page) gives.same_store.store ∙ is.known in
      record { words = is.words; known = known; equal = λ i. cond-false _ _ _ unsettled ∙ ap (λ copy. word_in_copy copy i) known }

  -- what is said of the other pages is as before
  is_said : (st after : SpaceState) → ((p : ℕ) → pages_of after p ≡ (if p == page then None else pages_of st p)) → StandsFor old st
      → (p : ℕ) → pages_of after p ≡ mapping_in new.table p
  is_said st after said s p = said p ∙ ap (λ (o : Option Mapping). if p == page then None else o) (s.pages p) ∙ sym (moves.mapping p)

  -- in each state in which the page lost its frame and is clean
  pub gives_up : (st after : SpaceState) → SameRest st after → after.highest ≡ st.highest → ((p : ℕ) → p ≢ page → SameStateAt st after p)
      → ((p : ℕ) → p ≢ page → after.base p ≡ st.base p)
      → after.base page ≡ None → after.flat.dirty page ≡ false → ((i : ℕ) → after.flat.words page i ≡ st.flat.words page i)
      → (st.told ≡ true → IsCopied old page → ((i : ℕ) → st.flat.words page i ≡ word_at old page i)
      → IsCopy (after.flat.copies page) (copy_at old.store page))
      → (c : ℕ) → Follows st after c None → ((p : ℕ) → pages_of after p ≡ (if p == page then None else pages_of st p))
      → StandsFor old st → StandsFor new after
  unfolding copied_after
  gives_up st after rest highest others base none clean words copies c follows said s =
      let b = s.beside in
      one_stands old new st after page whole (resting.none_clearing ∙ sym gives.only.none_clearing) rest
      (omega (arith, highest, b.highest, whole.faults)) at_other others base s
      (record {
        dirty = λ _. clean ∙ sym clean_after;
        words = λ told out i.
            let was = b.told (sym rest.told ∙ told) in
            let is = was.copied page out gives.unbehind in
            words i ∙ was.words page i out ∙ is.equal i ∙ sym ((copied_after is).equal i);
        copies = λ told out _.
            let was = b.told (sym rest.told ∙ told) in
            subst (λ (t : Stored). IsCopy (after.flat.copies page) (copy_at t page)) (sym gives.same_store.store)
            (copies (sym rest.told ∙ told) (was.copied page out gives.unbehind) (λ i. was.words page i out));
        copied = λ told out _. copied_after ((b.told (sym rest.told ∙ told)).copied page out gives.unbehind);
        tied = λ i w tied is. absurd (true≢false (sym is ∙ unsettled));
        untied = λ i is. absurd (true≢false (sym is ∙ ap (is_that page) resting.none_pending));
      })
      (none ∙ sym gone) (is_said st after said s) (retouches old new st after c (record {
        stands = s;
        follows = follows;
        pages = is_said st after said s;
      }) gives.retouched)

  pub removes : dirty_at old page ≡ false → old.paged ≡ None → Removes old new page frame
  removes clean unpaged =
      record {
        gave = gave_up;
        resting = resting;
        allowed = λ st s c. (s.base page ∙ gives.had, s.beside.dirty page out_of ∙ clean);
        stands = λ st s c. gives_up st (space_after st (give_entry c old.number page frame))
            (record { regions = refl; rights = λ p. refl; told = refl }) refl
            (λ p n. record { dirty = refl; words = λ i. refl; copies = refl; tied = λ i. refl })
            (λ p n. cond-false _ _ _ (ne_eqb p page n)) (cond-true _ _ _ this) (s.beside.dirty page out_of ∙ clean) (λ i. refl)
            (λ told is words. (s.beside.told told).copies page out_of (ap (is_that page) unpaged))
            c (record { sizes = refl; images = refl; promotions = refl; demotions = refl })
            (λ p. said_gone (p == page) (st.flat.dirty p) (st.base p) (region_at st.flat.regions p) (st.flat.rights p)) s;
      }

  -- the page's copy was written before, and the answer tells whether
  pub evicts : (written : Bool) → dirty_at old page ≡ written → is_unwired (region_at old.regions page) ≡ true
      → Evicts old new page frame (record { reply = copied_reply written; hit = false; size = None })
  evicts written was unwired =
      let asked : (st : SpaceState) → StandsFor old st → reply_of st.flat (Evict old.number page) ≡ copied_reply written = λ st s.
      evict_asked _ _ (ap (λ rs. is_unwired (region_at rs page)) s.beside.regions ∙ unwired)
      ∙ ap copied_reply (s.beside.dirty page out_of ∙ was) in
      record {
        gave = gave_up;
        replied = ap copied_reply (sym was);
        resting = resting;
        allowed = λ st s c n. record {
          reply = allowed_copied st c (Evict old.number page) written (asked st s) tt;
          parts = sym (rw (copied_lawful written, s.base page, gives.had) refl);
          hit = refl;
          size = refl;
        };
        stands =
            λ st s c n. subst (λ (f : Flat). StandsFor new (evicted c page st f))
            (sym (evict_outs st.flat old.number page written (asked st s)))
            (gives_up st (evicted c page st (out st.flat page)) (record { regions = refl; rights = λ p. refl; told = refl }) refl
            (λ p n. record {
              dirty = cond-false _ _ _ (ne_eqb p page n);
              words = λ i. refl;
              copies = cond-false _ _ _ (ne_eqb p page n);
              tied = λ i. refl;
            })
            (λ p n. cond-false _ _ _ (ne_eqb p page n)) (cond-true _ _ _ this) (cond-true _ _ _ this) (λ i. refl)
            (λ told is words. rw (this, is.known) (λ i. words i ∙ is.equal i))
            c (record { sizes = refl; images = refl; promotions = refl; demotions = refl })
            (λ p. said_out (p == page) (st.flat.dirty p) (st.base p) (region_at st.flat.regions p) (st.flat.rights p)) s);
      }
