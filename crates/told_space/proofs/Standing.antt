-- What is kept of a space tells of an entry what the state that its list of entries leads to does.
use Rattle.std.proofs.Common.{◌≡◌, ◌<◌, ℕ, Bool, true, false, length, is_some, Option, Some, None, refl, sym, ap, subst, ◌∙◌, inl, inr, arith, cond}
use Rattle.std.proofs.lemmas.Bool.{false≢true, false_from_ne_true}
use Rattle.std.proofs.lemmas.Option.{none-some}
use Rattle.pager_model.specs.declared.call.Call.{Call}
use Rattle.pager_model.specs.declared.call.Call.TheVariants.{Map, Grow, Unmap, Protect, Load, Store, Sync, Evict, Discard, Wire, Unwire}
use Rattle.pager_model.specs.declared.entry.Entry.{Entry}
use Rattle.pager_model.specs.declared.entry.Need.{Need}
use Rattle.pager_model.specs.declared.entry.What.{What}
use Rattle.pager_model.specs.declared.entry.What.TheVariants.{Answer, Out, Failed, Take, Give, Clear, Claim, UseHeld, DropHeld, Got, Unclaim, Refused, Pin, Kept as KeptBack, Rest}
use Rattle.pager_model.specs.declared.region.Region.{Region}
use Rattle.pager_model.specs.declared.region.Rights.{Rights}
use Rattle.pager_model.specs.declared.reply.Answered.{Answered}
use Rattle.pager_model.specs.declared.reply.Reply.{Reply}
use Rattle.pager_model.specs.declared.reply.Reply.TheVariants.{Done, Value}
use Rattle.pager_model.specs.Flat.{reply_of, access_reply, page_of, word_of, can_read, can_write, sync_reply, evict_reply}
use Rattle.pager_model.specs.Images.{is_in_image}
use Rattle.pager_model.specs.Laws.{WasCleared}
use Rattle.pager_model.specs.Regions.{region_at, range_in, map_reply, grow_reply, unmap_reply, discard_reply, wire_reply, unwire_reply, wanted}
use Rattle.pager_model.specs.SpaceStates as states
use Rattle.pager_model.specs.SpaceStates.{SpaceState, MayGoOn, IsNeeded, has_right, pages_of, is_hit, served_page, tile_at}
use Rattle.pager_model.specs.Tiles.{mapping_with, mappings}
use Rattle.followed_space.proofs.Keeping.{absent_base}
use Rattle.followed_space.specs.Follows.{rights_at}
use Rattle.tiles.specs.Resident.{frame_of_page, mapping_at}
use Rattle.told_space.proofs.Alike.{AreAlike, frees_alike, reply_alike, alike_back}
use Rattle.told_space.specs.Told.{AllowsBefore, AllowsReply, AllowsWhat, Kept, Stands, dirty_in, flat_in, state_in}

dirty_with : (f : ℕ) (r : Option Region) (x : Rights) (d : Bool) → is_some r ≡ true → dirty_in (mapping_with (Some f) r x d) ≡ d
dirty_with f None x d there = absurd (false≢true there)
dirty_with f (Some r) x d there = refl

-- the page that a call copies
abbrev copied : Call → Option ℕ
copied (Sync s page) = Some page
copied (Evict s page) = Some page
copied call = None

-- a copy of a page doesn't come where a range is being unmapped
no_copy : (next : states.Next) (c number : ℕ) (call : Call) (answered : Answered) (page : ℕ) → copied call ≡ Some page
    → MayGoOn next c (Answer number call answered) → WasCleared next page → ⊥
no_copy states.Next.Anyone c number call answered page is goes was = was
no_copy (states.Next.Only d) c number call answered page is goes was = was
no_copy (states.Next.AfterPin d first len wired) c number call answered page is goes was = was
no_copy (states.Next.AfterClear d first len) c number (Sync s p) answered page is goes was = goes.1
no_copy (states.Next.AfterClear d first len) c number (Evict s p) answered page is goes was = goes.1
no_copy (states.Next.AfterClear d first len) c number (Map a b e f g) answered page is goes was = none-some page is
no_copy (states.Next.AfterClear d first len) c number (Grow a b e) answered page is goes was = none-some page is
no_copy (states.Next.AfterClear d first len) c number (Unmap a b) answered page is goes was = none-some page is
no_copy (states.Next.AfterClear d first len) c number (Protect a b e f) answered page is goes was = none-some page is
no_copy (states.Next.AfterClear d first len) c number (Load a b) answered page is goes was = none-some page is
no_copy (states.Next.AfterClear d first len) c number (Store a b e) answered page is goes was = none-some page is
no_copy (states.Next.AfterClear d first len) c number (Discard a b e) answered page is goes was = none-some page is
no_copy (states.Next.AfterClear d first len) c number (Wire a b) answered page is goes was = none-some page is
no_copy (states.Next.AfterClear d first len) c number (Unwire a b) answered page is goes was = none-some page is

abbrev is_answer : What → Bool
is_answer (Answer number call answered) = true
is_answer what = false

-- where a range is being unmapped an answer alone may come
after_clear : (next : states.Next) (c : ℕ) (what : What) → MayGoOn next c what → (page : ℕ) → WasCleared next page → is_answer what ≡ true
after_clear states.Next.Anyone c what goes page was = absurd was
after_clear (states.Next.Only d) c what goes page was = absurd was
after_clear (states.Next.AfterPin d first len wired) c what goes page was = absurd was
after_clear (states.Next.AfterClear d first len) c (Answer number call answered) goes page was = refl
after_clear (states.Next.AfterClear d first len) c (Out p written) goes page was = absurd goes.1
after_clear (states.Next.AfterClear d first len) c (Failed p writing count) goes page was = absurd goes.1
after_clear (states.Next.AfterClear d first len) c (Take p frame want) goes page was = absurd goes.1
after_clear (states.Next.AfterClear d first len) c (Give p frame) goes page was = absurd goes.1
after_clear (states.Next.AfterClear d first len) c (Clear a b) goes page was = absurd goes.1
after_clear (states.Next.AfterClear d first len) c (Claim v p frame need) goes page was = absurd goes.1
after_clear (states.Next.AfterClear d first len) c (UseHeld p frame want) goes page was = absurd goes.1
after_clear (states.Next.AfterClear d first len) c (DropHeld frame) goes page was = absurd goes.1
after_clear (states.Next.AfterClear d first len) c (Got frame) goes page was = absurd goes.1
after_clear (states.Next.AfterClear d first len) c (Unclaim frame) goes page was = absurd goes.1
after_clear (states.Next.AfterClear d first len) c (Refused w k h) goes page was = absurd goes.1
after_clear (states.Next.AfterClear d first len) c (Pin a b wired) goes page was = absurd goes.1
after_clear (states.Next.AfterClear d first len) c (KeptBack a b p frame) goes page was = absurd goes.1
after_clear (states.Next.AfterClear d first len) c (Rest short) goes page was = absurd goes.1

module _ (kept : Kept) (st : SpaceState) (stands : Stands kept st) where
  -- a page with a frame has a region
  has_region : (page frame : ℕ) → st.base page ≡ Some frame → (o : Option Region) → region_at kept.space.regions page ≡ o
      → is_some (region_at kept.space.regions page) ≡ true
  has_region page frame is None none =
      absurd (none-some frame (sym (absent_base kept.space st.flat st.base page stands.follows none) ∙ is))
  has_region page frame is (Some r) some = ap is_some some

  same_region : (page : ℕ) → region_at st.flat.regions page ≡ region_at kept.space.regions page
  same_region page = ap (λ rs. region_at rs page) stands.follows.regions

  -- the dirty flag of a page, but for one that was cleared
  same_dirty : (page : ℕ) → (WasCleared kept.next page → ⊥) → st.flat.dirty page ≡ dirty_in (mapping_at kept.space.pages page)
  same_dirty page apart = at (st.base page) refl ∙ ap dirty_in (stands.follows.pages page)
    where
      at : (o : Option ℕ) → st.base page ≡ o → st.flat.dirty page ≡ dirty_in (mappings st.flat st.base page)
      at (Some frame) is =
          sym (ap (λ o. dirty_in (mapping_with o (region_at st.flat.regions page) (st.flat.rights page) (st.flat.dirty page))) is
          ∙ dirty_with frame (region_at st.flat.regions page) (st.flat.rights page) (st.flat.dirty page)
          (ap is_some (same_region page) ∙ has_region page frame is (region_at kept.space.regions page) refl))
      at None none =
          false_from_ne_true (st.flat.dirty page) (λ dirty. elim (stands.copies.dirty page dirty) [
            | inl there ↦ none-some there.0 (sym none ∙ there.1)
            | inr was ↦ apart (subst (λ n. WasCleared n page) stands.next was)
          ])
          ∙ sym (ap (λ o. dirty_in (mapping_with o (region_at st.flat.regions page) (st.flat.rights page) (st.flat.dirty page))) none)

  -- What the flat memory answers.

  access_same : (page : ℕ) (right : Rights → Bool) (one other : Reply) → one ≡ other → (o : Option Region) → region_at kept.space.regions page ≡ o
      → access_reply o (right (st.flat.rights page)) one ≡ access_reply o (right (rights_at kept.space page)) other
  access_same page right one other same None none = refl
  access_same page right one other same (Some r) some =
      let rights = stands.follows.rights page (ap is_some some) in
      rw (rights, same) refl

  access : (page : ℕ) (right : Rights → Bool) (one other : Reply) → one ≡ other
      → access_reply (region_at st.flat.regions page) (right (st.flat.rights page)) one
      ≡ access_reply (region_at kept.space.regions page) (right (rights_at kept.space page)) other
  access page right one other same =
      ap (λ o. access_reply o (right (st.flat.rights page)) one) (same_region page)
      ∙ access_same page right one other same (region_at kept.space.regions page) refl

  reply_same : (call : Call) → ((page : ℕ) → copied call ≡ Some page → WasCleared kept.next page → ⊥)
      → reply_of st.flat call ≡ reply_of (flat_in kept) call
  reply_same (Map s page len kind rights) apart = ap (λ rs. map_reply rs page len) stands.follows.regions
  reply_same (Grow s page by) apart = ap (λ rs. grow_reply rs page by) stands.follows.regions
  reply_same (Unmap s page) apart = ap (λ rs. unmap_reply rs page) stands.follows.regions
  reply_same (Protect s page len rights) apart =
      ap (λ o. cond (range_in page len o) Done Reply.Unmapped) (same_region page)
  reply_same (Load s address) apart =
      access (page_of address) can_read _ _ (ap Value (stands.words (page_of address) (word_of address) (omega arith)))
  reply_same (Store s address word) apart = access (page_of address) can_write Done Done refl
  reply_same (Sync s page) apart =
      ap (λ o. sync_reply o (st.flat.dirty page)) (same_region page)
      ∙ ap (sync_reply (region_at kept.space.regions page)) (same_dirty page (apart page refl))
  reply_same (Evict s page) apart =
      ap (λ o. evict_reply o (st.flat.dirty page)) (same_region page)
      ∙ ap (evict_reply (region_at kept.space.regions page)) (same_dirty page (apart page refl))
  reply_same (Discard s page len) apart = ap (λ rs. discard_reply rs page len) stands.follows.regions
  reply_same (Wire s page) apart = ap (λ rs. wire_reply rs page) stands.follows.regions
  reply_same (Unwire s page) apart = ap (λ rs. unwire_reply rs page) stands.follows.regions

  alike : (call : Call) → ((page : ℕ) → copied call ≡ Some page → WasCleared kept.next page → ⊥) → AreAlike st (state_in kept) call
  alike call apart = record {
    reply = reply_same call apart;
    regions = stands.follows.regions;
    base = stands.follows.base;
    next = stands.next;
    told = stands.told;
    told_too = refl;
  }

  -- Pages and their tiles.

  pages_there : (p : ℕ) (o : Option ℕ) → st.base p ≡ o → mappings (flat_in kept) (frame_of_page kept.space.pages) p ≡ mapping_at kept.space.pages p
  pages_there p None none =
      ap (λ o. mapping_with o (region_at kept.space.regions p) (rights_at kept.space p) (dirty_in (mapping_at kept.space.pages p)))
      (sym (stands.follows.base p) ∙ none)
      ∙ sym (sym (stands.follows.pages p) ∙ ap (λ o. mapping_with o (region_at st.flat.regions p) (st.flat.rights p) (st.flat.dirty p)) none)
  pages_there p (Some frame) some =
      let there = has_region p frame some (region_at kept.space.regions p) refl in
      let flag : dirty_in (mapping_at kept.space.pages p) ≡ st.flat.dirty p =
      ap dirty_in (sym (stands.follows.pages p)
      ∙ ap (λ o. mapping_with o (region_at st.flat.regions p) (st.flat.rights p) (st.flat.dirty p)) some)
      ∙ dirty_with frame (region_at st.flat.regions p) (st.flat.rights p) (st.flat.dirty p) (ap is_some (same_region p) ∙ there) in
      ap (λ d. mapping_with (frame_of_page kept.space.pages p) (region_at kept.space.regions p) (rights_at kept.space p) d) flag
      ∙ ap (λ x. mapping_with (frame_of_page kept.space.pages p) (region_at kept.space.regions p) x (st.flat.dirty p)) (sym (stands.follows.rights p there))
      ∙ ap (λ o. mapping_with (frame_of_page kept.space.pages p) o (st.flat.rights p) (st.flat.dirty p)) (sym (same_region p))
      ∙ ap (λ o. mapping_with o (region_at st.flat.regions p) (st.flat.rights p) (st.flat.dirty p)) (sym (stands.follows.base p))
      ∙ stands.follows.pages p

  pub same_pages : pages_of (state_in kept) ≡ mapping_at kept.space.pages
  same_pages = λ i p. pages_there p (st.base p) refl i

  was_pages : pages_of st ≡ mapping_at kept.space.pages
  was_pages = λ i p. stands.follows.pages p i

  same_hit : (c : ℕ) → c < length kept.images → (call : Call) (reply : Reply) → is_hit st c call reply ≡ is_hit (state_in kept) c call reply
  same_hit c known call reply =
      ap (λ image. is_in_image image (tile_at st.sizes (pages_of st) (served_page call reply))) (stands.images c known)
      ∙ ap (λ z. is_in_image ((state_in kept).images c) (tile_at z (pages_of st) (served_page call reply))) stands.sizes
      ∙ ap (λ pages. is_in_image ((state_in kept).images c) (tile_at kept.sizes pages (served_page call reply))) (was_pages ∙ sym same_pages)

  -- Answers.

  answer_kept : (frames : Bool) (c number : ℕ) (call : Call) (answered : Answered) → c < length kept.images
      → MayGoOn kept.next c (Answer number call answered) → AllowsReply st frames c call answered → AllowsReply (state_in kept) frames c call answered
  answer_kept frames c number call answered known goes is =
      let same = alike call (λ page copies. no_copy kept.next c number call answered page copies goes) in record {
        reply = reply_alike st (state_in kept) call same c answered.reply is.reply;
        parts = is.parts ∙ frees_alike st (state_in kept) stands.follows.base call answered.reply;
        hit = is.hit ∙ same_hit c known call answered.reply;
      }

  answer_told : (frames : Bool) (c number : ℕ) (call : Call) (answered : Answered) → c < length kept.images
      → MayGoOn kept.next c (Answer number call answered) → AllowsReply (state_in kept) frames c call answered → AllowsReply st frames c call answered
  answer_told frames c number call answered known goes is =
      let same = alike call (λ page copies. no_copy kept.next c number call answered page copies goes) in record {
        reply = reply_alike (state_in kept) st call (alike_back same) c answered.reply is.reply;
        parts = is.parts ∙ sym (frees_alike st (state_in kept) stands.follows.base call answered.reply);
        hit = is.hit ∙ sym (same_hit c known call answered.reply);
      }

  -- Other entries.

  base_kept : (page frame : ℕ) → st.base page ≡ Some frame → frame_of_page kept.space.pages page ≡ Some frame
  base_kept page frame is = sym (stands.follows.base page) ∙ is

  base_told : (page : ℕ) (o : Option ℕ) → frame_of_page kept.space.pages page ≡ o → st.base page ≡ o
  base_told page o is = stands.follows.base page ∙ is

  need_kept : (o : Option Need) → IsNeeded st o → IsNeeded (state_in kept) o
  need_kept None is = is
  need_kept (Some need) is =
      let there = ap is_some (sym (same_region need.page)) ∙ is.0 in
      (there, ap (has_right need.writing) (sym (stands.follows.rights need.page there)) ∙ is.1, sym (stands.follows.base need.page) ∙ is.2)

  need_told : (o : Option Need) → IsNeeded (state_in kept) o → IsNeeded st o
  need_told None is = is
  need_told (Some need) is =
      (ap is_some (same_region need.page) ∙ is.0, ap (has_right need.writing) (stands.follows.rights need.page is.0) ∙ is.1, base_told need.page None is.2)

  what_kept : (frames : Bool) (c : ℕ) (what : What) → c < length kept.images → MayGoOn kept.next c what → ((page : ℕ) → WasCleared kept.next page → is_answer what ≡ true)
      → AllowsWhat st frames c what → AllowsWhat (state_in kept) frames c what
  what_kept frames c (Answer number call answered) known goes apart is = answer_kept frames c number call answered known goes is
  what_kept frames c (Out page written) known goes apart is =
      ((is.0.0, base_kept page is.0.0 is.0.1), sym (same_dirty page (λ was. false≢true (apart page was))) ∙ is.1)
  what_kept frames c (Failed page writing count) known goes apart is = (
    (is.0.0, base_kept page is.0.0 is.0.1),
    sym (same_dirty page (λ was. false≢true (apart page was))) ∙ is.1,
    subst (λ n. states.Rises n count) stands.highest is.2,
  )
  what_kept frames c (Take page frame want) known goes apart is =
      (ap (λ rs. wanted rs page) (sym stands.follows.regions) ∙ is.0, sym (stands.follows.base page) ∙ is.1)
  what_kept frames c (Give page frame) known goes apart is =
      (base_kept page frame is.0, sym (same_dirty page (λ was. false≢true (apart page was))) ∙ is.1)
  what_kept frames c (Clear first len) known goes apart is = ap (range_in first len) (sym (same_region first)) ∙ is
  what_kept frames c (Pin first len wired) known goes apart is =
      subst (λ o. states.MayPin o first len wired) (same_region first) is
  what_kept frames c (KeptBack first len page frame) known goes apart is =
      subst (λ o. states.IsRegionOf o first len) (same_region first) is
  what_kept frames c (Claim victim page frame need) known goes apart is = need_kept need is
  what_kept frames c (UseHeld page frame want) known goes apart is =
      (ap (λ rs. wanted rs page) (sym stands.follows.regions) ∙ is.0, sym (stands.follows.base page) ∙ is.1)
  what_kept frames c (Unclaim frame) known goes apart is =
      (is.0, base_kept is.0 frame is.1, sym (same_dirty is.0 (λ was. false≢true (apart is.0 was))) ∙ is.2)
  what_kept frames c (DropHeld frame) known goes apart is = is
  what_kept frames c (Got frame) known goes apart is = is
  what_kept frames c (Refused wired claimed held) known goes apart is = is
  what_kept frames c (Rest short) known goes apart is = is

  what_told : (frames : Bool) (c : ℕ) (what : What) → c < length kept.images → MayGoOn kept.next c what → ((page : ℕ) → WasCleared kept.next page → is_answer what ≡ true)
      → AllowsWhat (state_in kept) frames c what → AllowsWhat st frames c what
  what_told frames c (Answer number call answered) known goes apart is = answer_told frames c number call answered known goes is
  what_told frames c (Out page written) known goes apart is =
      ((is.0.0, base_told page (Some is.0.0) is.0.1), same_dirty page (λ was. false≢true (apart page was)) ∙ is.1)
  what_told frames c (Failed page writing count) known goes apart is = (
    (is.0.0, base_told page (Some is.0.0) is.0.1),
    same_dirty page (λ was. false≢true (apart page was)) ∙ is.1,
    subst (λ n. states.Rises n count) (sym stands.highest) is.2,
  )
  what_told frames c (Take page frame want) known goes apart is =
      (ap (λ rs. wanted rs page) stands.follows.regions ∙ is.0, base_told page None is.1)
  what_told frames c (Give page frame) known goes apart is =
      (base_told page (Some frame) is.0, same_dirty page (λ was. false≢true (apart page was)) ∙ is.1)
  what_told frames c (Clear first len) known goes apart is = ap (range_in first len) (same_region first) ∙ is
  what_told frames c (Pin first len wired) known goes apart is =
      subst (λ o. states.MayPin o first len wired) (sym (same_region first)) is
  what_told frames c (KeptBack first len page frame) known goes apart is =
      subst (λ o. states.IsRegionOf o first len) (sym (same_region first)) is
  what_told frames c (Claim victim page frame need) known goes apart is = need_told need is
  what_told frames c (UseHeld page frame want) known goes apart is =
      (ap (λ rs. wanted rs page) stands.follows.regions ∙ is.0, base_told page None is.1)
  what_told frames c (Unclaim frame) known goes apart is =
      (is.0, base_told is.0 (Some frame) is.1, same_dirty is.0 (λ was. false≢true (apart is.0 was)) ∙ is.2)
  what_told frames c (DropHeld frame) known goes apart is = is
  what_told frames c (Got frame) known goes apart is = is
  what_told frames c (Refused wired claimed held) known goes apart is = is
  what_told frames c (Rest short) known goes apart is = is

  -- What is kept of a space allows an entry exactly where the space does.
  pub allows_kept : (e : Entry) → e.processor < length kept.images → AllowsBefore st e → AllowsBefore (state_in kept) e
  allows_kept e known is =
      let goes = subst (λ n. MayGoOn n e.processor e.what) stands.next is.0 in
      (goes, what_kept e.frames e.processor e.what known goes (after_clear kept.next e.processor e.what goes) is.1)

  pub allows_told : (e : Entry) → e.processor < length kept.images → AllowsBefore (state_in kept) e → AllowsBefore st e
  allows_told e known is = (
    subst (λ n. MayGoOn n e.processor e.what) (sym stands.next) is.0,
    what_told e.frames e.processor e.what known is.0 (after_clear kept.next e.processor e.what is.0) is.1,
  )
