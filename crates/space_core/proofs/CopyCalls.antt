-- What a sync and an evict are answered, and what they do, where a region has their page.
use Rattle.std.proofs.Common.{◌≡◌, ◌≢◌, ℕ, Bool, true, false, ◌&&◌, ◌==◌, if◌then◌else◌, not, List, Option, Some, None, is_some, option_map, ◌<◌, refl, sym, ap, ◌∙◌, subst}
use Rattle.std.proofs.lemmas.Bool.{cond-true, not-true, false≢true}
use Rattle.std.proofs.lemmas.Option.{none-some, same_Some}
use Rattle.pager_model.specs.Bounds.{space_pages}
use Rattle.pager_model.specs.declared.call.Call.{Call}
use Rattle.pager_model.specs.declared.call.Call.TheVariants.{Sync, Evict}
use Rattle.pager_model.specs.declared.entry.What.TheVariants.{Answer}
use Rattle.pager_model.specs.declared.region.Region.{Region}
use Rattle.pager_model.specs.declared.reply.Reply.TheVariants.{Clean, Denied, NoMemory}
use Rattle.pager_model.specs.declared.tile.Tile.{Tile}
use Rattle.pager_model.specs.Images.{is_in_image}
use Rattle.pager_model.specs.Flat.{Flat, after_call, reply_of, is_lawful, out, sync_reply, evict_reply}
use Rattle.pager_model.specs.Order.{is_answered_alone}
use Rattle.pager_model.specs.Regions.{region_at, is_wired}
use Rattle.pager_model.specs.SpaceStates.{SpaceState, MayFail, ReplyAllowed, HasItsPages, answered_flat, space_after, frees_its_page, pages_of, pages_after, tile_at}
use Rattle.pager_model.specs.SpaceStates.Next.{Anyone}
use Rattle.pager_model.proofs.SpaceEntries.{served-unlawful}
use Rattle.space_core.specs.declared.space.Begun.{Begun}
use Rattle.space_core.specs.declared.space.Begun.TheVariants.{Answered as HasAnswered}
use Rattle.space_core.specs.declared.space.OutFault.{OutFault}
use Rattle.space_core.specs.declared.space.OutFault.TheVariants.{Failed as OutFailed, NoMemory as OutNoMemory}
use Rattle.space_core.specs.Beginning.{Begins, BeginsAnswered, BeginsEvicting, SameRegions, copied_reply}
use Rattle.space_core.specs.Saving.{Saves, FailsToSave, LacksRoom, HadMemory, unwritten_by}
use Rattle.space_core.specs.Standing.{Kept, StandsFor, IsResting, frame_at, dirty_at, copied_page, may_copy, is_unwired}
use Rattle.pager_model.specs.CallEntries.{answer_entry}
use Rattle.pager_model.specs.Stored.{Stored}
use Rattle.space_core.specs.Tables.{mapping_in, frame_in, word_in}
use Rattle.space_core.specs.Translating.{CleansPage}
use Rattle.space_core.proofs.TableLemmas.{dirty_in-absent, cleans_none}
use Rattle.space_core.proofs.Translations.{Still}
use Rattle.space_core.proofs.SameView.{next_stands, none_in}
use Rattle.space_core.proofs.SavedCopies.{with_flat, cleaned_resting, cleaned_same, cleaned_out, fails_to_write, leaves_unwritten, cleaned_reads, cleaned_faults, CopiesOut, IsSaved, saved, copied_aside, store_frames, store_reads, store_resting, store_still}

-- a page with a region is written where it is dirty
sync_asked : (o : Option Region) (dirty : Bool) → is_some o ≡ true → sync_reply o dirty ≡ copied_reply dirty
sync_asked None dirty h = cc
sync_asked (Some r) dirty h = refl

pub evict_asked : (o : Option Region) (dirty : Bool) → is_unwired o ≡ true → evict_reply o dirty ≡ copied_reply dirty
evict_asked None dirty h = cc
evict_asked (Some r) dirty h = rw (not-true _ h) refl

pub copied_lawful : (written : Bool) → is_lawful (copied_reply written) ≡ true
copied_lawful true = refl
copied_lawful false = refl

pub no_memory : (written : Bool) → copied_reply written ≢ NoMemory
no_memory true h = cc
no_memory false h = cc

alone_sync : (space page : ℕ) (written : Bool) → is_answered_alone (Sync space page) (copied_reply written) ≡ true
alone_sync space page true = refl
alone_sync space page false = refl

pub allowed_copied : (st : SpaceState) (c : ℕ) (call : Call) (written : Bool) → reply_of st.flat call ≡ copied_reply written
    → HasItsPages st c call → ReplyAllowed st c call (copied_reply written)
allowed_copied st c call true asked has = (asked, λ l. has)
allowed_copied st c call false asked has = (asked, λ l. has)

copied_after : (f : Flat) (call : Call) (written : Bool) → answered_flat f call (copied_reply written) ≡ after_call f call
copied_after f call true = refl
copied_after f call false = refl

-- a flat memory with the page written to its copy where the call was lawful
abbrev out_if : Flat → ℕ → Bool → Flat
out_if f page lawful =
    record f {
      copies = λ p. if lawful && (p == page) then Some (f.words p) else f.copies p;
      dirty = λ p. if lawful && (p == page) then false else f.dirty p;
    }

-- a lawful sync does what paging out does, and so does a lawful evict
pub sync_outs : (f : Flat) (space page : ℕ) (written : Bool) → reply_of f (Sync space page) ≡ copied_reply written
    → answered_flat f (Sync space page) (copied_reply written) ≡ out f page
sync_outs f space page written asked =
    copied_after f (Sync space page) written ∙ ap (out_if f page) (ap is_lawful asked ∙ copied_lawful written)

pub evict_outs : (f : Flat) (space page : ℕ) (written : Bool) → reply_of f (Evict space page) ≡ copied_reply written
    → answered_flat f (Evict space page) (copied_reply written) ≡ out f page
evict_outs f space page written asked =
    copied_after f (Evict space page) written ∙ ap (out_if f page) (ap is_lawful asked ∙ copied_lawful written)

-- the page's copy is saved, the page is clean then, and the sync is answered
pub syncs : (old new : Kept) (c page : ℕ) (written : Bool) → IsResting old → is_some (region_at old.regions page) ≡ true
    → CopiesOut old new page written
    → BeginsAnswered old new c (Sync old.number page) (record { reply = copied_reply written; hit = false; size = None })
syncs old new c page written resting has copies =
    let same = cleaned_same old new page written resting copies in
    let asked : (st : SpaceState) → StandsFor old st → reply_of st.flat (Sync old.number page) ≡ copied_reply written = λ st s.
    sync_asked _ _ (ap (λ rs. is_some (region_at rs page)) s.beside.regions ∙ has)
    ∙ ap copied_reply (s.beside.dirty page (none_in old resting page) ∙ copies.saves.was) in
    record {
      alone = alone_sync old.number page written;
      same_number = same.same.number;
      same_frames = same.same.frames;
      same_processors = same.same.processors;
      unread = cleaned_reads old new page written resting copies;
      unfailed = cleaned_faults old new page written resting copies;
      resting = cleaned_resting old new page written resting copies;
      answers = record {
        allowed = λ st s n. record {
          reply = allowed_copied st c (Sync old.number page) written (asked st s) tt;
          parts = refl;
          hit = refl;
          size = refl;
        };
        stands = λ st s n. subst (λ (f : Flat). StandsFor new (with_flat st c Anyone f))
            (sym (sync_outs st.flat old.number page written (asked st s))) (cleaned_out old new page written resting copies st c Anyone s);
      };
      memory = λ lacking. absurd (no_memory written lacking);
    }

-- a sync or an evict of a dirty page meets want of memory
may_fail : (call : Call) (page : ℕ) (st : SpaceState) → copied_page call ≡ Some page → may_copy call (region_at st.flat.regions page) ≡ true
    → st.flat.dirty page ≡ true → MayFail st call
may_fail (Sync space p) page st is may dirty = rw (same_Some _ _ is) (sync_asked _ _ may ∙ ap copied_reply dirty)
may_fail (Evict space p) page st is may dirty = rw (same_Some _ _ is) (evict_asked _ _ may ∙ ap copied_reply dirty)
may_fail call page st is may dirty = cc

lacking_alone : (call : Call) (page : ℕ) → copied_page call ≡ Some page → is_answered_alone call NoMemory ≡ true
lacking_alone (Sync space p) page is = refl
lacking_alone (Evict space p) page is = refl
lacking_alone call page is = cc

frees_none : (st : SpaceState) (call : Call) → false ≡ frees_its_page st call NoMemory
frees_none st (Evict space p) = refl
frees_none st call = refl

-- want of memory changes nothing
lacking_stands : (k : Kept) (st : SpaceState) (call : Call) (page : ℕ) → copied_page call ≡ Some page → StandsFor k st → (c n : ℕ)
    → StandsFor k (space_after st (answer_entry c n call (record { reply = NoMemory; hit = false; size = None })))
lacking_stands k st (Sync space p) page is s c n =
    next_stands k st (space_after st (answer_entry c n (Sync space p) (record {
      reply = NoMemory;
      hit = false;
      size = None;
    }))) c (record { regions = refl; rights = λ q. refl; told = refl })
    (λ q. record {
      dirty = refl;
      words = λ i. refl;
      copies = refl;
      tied = λ i. refl;
    }) (λ q. refl) refl (λ q. refl) (record { sizes = refl; images = refl; promotions = refl; demotions = refl }) s
lacking_stands k st (Evict space p) page is s c n =
    next_stands k st (space_after st (answer_entry c n (Evict space p) (record {
      reply = NoMemory;
      hit = false;
      size = None;
    }))) c (record { regions = refl; rights = λ q. refl; told = refl })
    (λ q. record {
      dirty = refl;
      words = λ i. refl;
      copies = refl;
      tied = λ i. refl;
    }) (λ q. refl) refl (λ q. refl) (record { sizes = refl; images = refl; promotions = refl; demotions = refl }) s
lacking_stands k st call page is s c n = cc

module _ (old new : Kept) (c page : ℕ) (resting : IsResting old) where
  lacking : (call : Call) → copied_page call ≡ Some page → may_copy call (region_at old.regions page) ≡ true → LacksRoom old new page
      → BeginsAnswered old new c call (record { reply = NoMemory; hit = false; size = None })
  lacking call is may lacks =
      let leaves = leaves_unwritten old resting new page lacks in
      let may_at : (st : SpaceState) → StandsFor old st → MayFail st call = λ st s.
      may_fail call page st is (ap (λ rs. may_copy call (region_at rs page)) s.beside.regions ∙ may)
      (s.beside.dirty page (none_in old resting page) ∙ lacks.dirty) in
      record {
        alone = lacking_alone call page is;
        same_number = leaves.same.same.number;
        same_frames = leaves.same.same.frames;
        same_processors = leaves.same.same.processors;
        unread = leaves.unread;
        unfailed = leaves.unfailed;
        resting = leaves.resting;
        answers = record {
          allowed = λ st s n. record {
            reply = may_at st s;
            parts = frees_none st call;
            hit = ap (λ o. is_in_image (st.images c) (tile_at st.sizes (pages_of st) o)) (sym (served-unlawful call NoMemory refl));
            size = ap (λ o. option_map (λ (t : Tile). t.extent.size) (tile_at st.sizes (pages_after st false (Answer n call (record {
              reply = NoMemory;
              hit = false;
              size = None;
            }))) o)) (sym (served-unlawful call NoMemory refl));
          };
          stands = λ st s n. lacking_stands new st call page is (leaves.stands st s) c n;
        };
        memory = λ _. (page, is, leaves.lacks);
      }

  -- a sync or an evict whose copy was not written
  pub begins_unwritten : (call : Call) (fault : OutFault) → copied_page call ≡ Some page → may_copy call (region_at old.regions page) ≡ true
      → ((count : ℕ) → fault ≡ OutFailed count → FailsToSave old new page count) → (fault ≡ OutNoMemory → LacksRoom old new page)
      → Begins old new c call (unwritten_by page fault)
  begins_unwritten call (OutFailed count) is may failed lacks =
      let fails = fails_to_write old resting new page count (failed count refl) in
      record {
        must = record { is = is; may = ap (λ rs. may_copy call (region_at rs page)) fails.same.same.regions ∙ may; dirty = fails.dirty };
        fails = fails;
      }
  begins_unwritten call OutNoMemory is may failed lacks = lacking call is may (lacks refl)

-- a region that isn't wired
pub unwired_at : (regions : List Region) (page : ℕ) (r : Region) → region_at regions page ≡ Some r → is_wired r ≡ false
    → is_unwired (region_at regions page) ≡ true
unwired_at regions page r at other = ap is_unwired at ∙ ap not other

-- a page of a wired region is not evicted
pub evict_denied : (regions : List Region) (page : ℕ) (r : Region) → region_at regions page ≡ Some r → is_wired r ≡ true → (dirty : Bool)
    → evict_reply (region_at regions page) dirty ≡ Denied
evict_denied regions page r at wired dirty = ap (λ o. evict_reply o dirty) at ∙ cond-true _ _ _ wired

-- nothing is done for a clean page, or for one that isn't resident
pub saves_clean : (old : Kept) (page : ℕ) → dirty_at old page ≡ false → Saves old old page false
saves_clean old page clean = record {
  was = clean;
  same = refl;
  wrote = λ e. absurd (false≢true e);
  left = λ _. refl;
  unfailed = refl;
}

cleans_clean : (old : Kept) (page : ℕ) → dirty_at old page ≡ false → CleansPage old old page
cleans_clean old page clean = record {
  same = refl;
  table = cleans_none old.table page clean;
  retouched = λ dirty. absurd (false≢true (sym clean ∙ dirty));
  as_it_was = λ _. refl;
}

-- a page without a frame is clean, and its evict gives nothing up
pub evicts_absent : (old : Kept) (c page : ℕ) → IsResting old → is_unwired (region_at old.regions page) ≡ true → frame_at old page ≡ None
    → BeginsAnswered old old c (Evict old.number page) (record { reply = Clean; hit = false; size = None })
evicts_absent old c page resting unwired absent =
    let clean : dirty_at old page ≡ false = dirty_in-absent old.table page absent in
    let asked : (st : SpaceState) → StandsFor old st → reply_of st.flat (Evict old.number page) ≡ Clean = λ st s.
    evict_asked _ _ (ap (λ rs. is_unwired (region_at rs page)) s.beside.regions ∙ unwired)
    ∙ ap copied_reply (s.beside.dirty page (none_in old resting page) ∙ clean) in
    record {
      alone = refl;
      same_number = refl;
      same_frames = refl;
      same_processors = refl;
      unread = refl;
      unfailed = refl;
      resting = resting;
      answers = record {
        allowed = λ st s n. record {
          reply = (asked st s, λ l. tt);
          parts = sym (ap is_some (s.base page ∙ absent));
          hit = refl;
          size = refl;
        };
        stands = λ st s n. subst (λ (f : Flat). StandsFor old (with_flat st c Anyone f))
            (sym (evict_outs st.flat old.number page false (asked st s))) (cleaned_out old old page false resting (record {
              mid = old;
              saves = saves_clean old page clean;
              cleans = cleans_clean old page clean;
            }) st c Anyone s);
      };
      memory = λ lacking. absurd (no_memory false lacking);
    }

-- the page is being evicted, and all else of the space is as before
pub record PagesOut (old new : Kept) (page : ℕ) : Type 0 where
  pub same : SameRegions old new
  pub table : new.table ≡ old.table
  pub pending : new.pending ≡ old.pending
  pub clearing : new.clearing ≡ old.clearing
  pub paged : new.paged ≡ Some page
  pub store : new.store ≡ old.store
  pub unread : new.reads ≡ old.reads
  pub still : Still old new

-- the page's copy is saved, and the page gives its frame up next
pub begins_evicting : (old mid new : Kept) (page : ℕ) (written : Bool) → IsResting old → page < space_pages
    → is_unwired (region_at old.regions page) ≡ true → frame_at old page ≢ None → Saves old mid page written → PagesOut mid new page
    → BeginsEvicting old new (Evict old.number page) page
begins_evicting old mid new page written resting in_space unwired resident saves outs =
    let stored = store_frames old mid saves.same in
    let rested = store_resting old mid saves.same resting in
    let table : new.table ≡ old.table = outs.table ∙ ap (λ (k : Kept). k.table) saves.same in
    let pending = outs.pending ∙ rested.none_pending in
    let clearing = outs.clearing ∙ rested.none_clearing in
    let same : SameRegions old new = record {
      number = outs.same.number ∙ stored.same.number;
      frames = outs.same.frames ∙ stored.same.frames;
      processors = outs.same.processors ∙ stored.same.processors;
      regions = outs.same.regions ∙ stored.same.regions;
      rights = λ p. outs.same.rights p ∙ stored.same.rights p;
    } in
    let frame : (p : ℕ) → frame_at new p ≡ frame_at old p = λ p. ap (λ t. frame_in t p) table in
    record {
      is_evict = (old.number, refl);
      evicting = record {
        in_space = in_space;
        paged = outs.paged;
        unwired = ap (λ rs. is_unwired (region_at rs page)) same.regions ∙ unwired;
        resident = λ none. resident (sym (frame page) ∙ none);
        none_pending = pending;
        none_clearing = clearing;
      };
      same = record { same = same; frame = frame };
      unread = outs.unread ∙ store_reads old mid saves.same;
      unfailed = ap (λ (s : Stored). s.faults) outs.store ∙ saves.unfailed;
      stands = copied_aside old resting new page
          (record {
            saved = subst (λ (store : Stored). IsSaved old store page) (sym outs.store) (saved old resting mid page written saves);
            same = record { same = same; frame = frame };
            word = λ p i. ap (λ t. word_in t p i) table;
            none_pending = pending;
            none_clearing = clearing;
          })
          (λ p. ap (λ t. mapping_in t p) table)
          (let still = store_still old mid saves.same in record {
            sizes = outs.still.sizes ∙ still.sizes;
            images = outs.still.images ∙ still.images;
            promotions = outs.still.promotions ∙ still.promotions;
            demotions = outs.still.demotions ∙ still.demotions;
          }) outs.paged;
    }

-- a call that copies no page has memory
pub had_memory : (old new : Kept) (c : ℕ) (call : Call) (begun : Begun) → copied_page call ≡ None → Begins old new c call begun → HadMemory begun
had_memory old new c call (HasAnswered a) none begins = λ lacking.
    let lacks = begins.memory lacking in
    none-some lacks.0 (sym none ∙ lacks.1)
had_memory old new c call begun none begins = tt

-- and one that does, where its page's copy was not written, but for want of it
pub had_memory-unwritten : (page : ℕ) (fault : OutFault) → (fault ≡ OutNoMemory → ⊥) → HadMemory (unwritten_by page fault)
had_memory-unwritten page (OutFailed count) has = tt
had_memory-unwritten page OutNoMemory has = absurd (has refl)
