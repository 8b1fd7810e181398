-- An answer that a page kept a wire from being done comes after an entry that found this page, which was its processor's last one.
use Rattle.std.proofs.Common.{◌≡◌, ℕ, true, eqb, ◌&&◌, List, Option, Some, None, IfSome, refl, sym, ap, subst, ◌∙◌}
use Rattle.std.proofs.lemmas.Bool.{and_parts, eqb-true, false≢true}
use Rattle.pager_model.specs.declared.call.Call.{Call}
use Rattle.pager_model.specs.declared.call.Call.TheVariants.{Unmap, Sync, Evict, Discard, Wire, Unwire}
use Rattle.pager_model.specs.declared.entry.Entry.{Entry}
use Rattle.pager_model.specs.declared.entry.What.TheVariants.{Kept}
use Rattle.pager_model.specs.declared.region.Region.{Region}
use Rattle.pager_model.specs.declared.reply.Reply.{Reply}
use Rattle.pager_model.specs.declared.reply.Reply.TheVariants.{Busy}
use Rattle.pager_model.specs.Entries.{space_part, IsOn}
use Rattle.pager_model.specs.FrameStates.{FramesAllow, frame_of, lowest_claimed}
use Rattle.pager_model.specs.Headline.{KeepsRightly}
use Rattle.pager_model.specs.Legal.{IsLegal, MayFollow, SpaceJudges, frames_at, progress_at, space_at}
use Rattle.pager_model.specs.Order.{Doing, Progress, is_answered_alone, is_pinning, may_answer, after_answer, progress_after}
use Rattle.pager_model.specs.Order.Doing.{Idle, Cleared, Pinned, Blocked, Uncopied, Filling, Late, Faulted, Lacking, Refusing}
use Rattle.pager_model.specs.Regions.{in_range, has_page, region_at}
use Rattle.pager_model.specs.Settings.{Given, mark_of}
use Rattle.pager_model.specs.SpaceStates.{IsRegionOf, WhatAllowed}
use Rattle.pager_laws.proofs.LastEntries.{Found, said_in, SaysLast-legal, leads_holds}
use Rattle.pager_laws.proofs.LegalHistories.{progress_before}
use Rattle.pager_laws.proofs.LegalPrefixes.{IsLegal-at}
use Rattle.pager_laws.proofs.RegionsApart.{AreApart, found_same}
use Rattle.pager_laws.proofs.WiredPlaces.{AreApart-legal}

-- The answer comes from such a place alone.

not_alone : (call : Call) (page : ℕ) → is_answered_alone call (Busy page) ≡ true → ⊥
not_alone (Unmap s p) page may = false≢true may
not_alone (Sync s p) page may = false≢true may
not_alone (Evict s p) page may = false≢true may
not_alone (Discard s p len) page may = false≢true may
not_alone (Wire s p) page may = false≢true may
not_alone (Unwire s p) page may = false≢true may
not_alone call page may = false≢true may

-- a wire of a page of the range
record IsWireIn (space first len : ℕ) (call : Call) : Type 0 where
  pub wired : ℕ
  pub is : call ≡ Wire space wired
  pub inside : in_range first len wired ≡ true

wire_in : (space first len : ℕ) (call : Call) → is_pinning space first len true call ≡ true → IsWireIn space first len call
wire_in space first len (Wire s p) may =
    let parts = and_parts _ _ may in
    record { wired = p; is = ap (λ n. Wire n p) (eqb-true s space parts.0); inside = parts.1 }
wire_in space first len (Unwire s p) may = absurd (false≢true may)
wire_in space first len call may = absurd (false≢true may)

-- the place that it comes from
record IsFoundIn (doing : Doing) (call : Call) (page : ℕ) : Type 0 where
  pub space : ℕ
  pub first : ℕ
  pub len : ℕ
  pub says : said_in doing ≡ Some (Found space first len page)
  pub wire : IsWireIn space first len call

found_in : (doing : Doing) (call : Call) (page : ℕ) → may_answer doing call (Busy page) ≡ true → IsFoundIn doing call page
found_in Idle call page may = absurd (not_alone call page may)
found_in (Cleared space first len) call page may = absurd (false≢true (and_parts _ _ may).1)
found_in (Pinned space first len wired) call page may = absurd (false≢true (and_parts _ _ may).1)
found_in (Blocked space first len p) call page may =
    let parts = and_parts _ _ may in
    record {
      space = space;
      first = first;
      len = len;
      says = ap (λ n. Some (Found space first len n)) (sym (eqb-true page p parts.1));
      wire = wire_in space first len call parts.0;
    }
found_in (Uncopied space p count) call page may = absurd (false≢true (and_parts _ _ may).1)
found_in (Filling a frame) call page may = absurd (false≢true (and_parts _ _ may).1)
found_in (Late a) call page may = absurd (false≢true (and_parts _ _ may).1)
found_in (Faulted a space count) call page may = absurd (false≢true (and_parts _ _ may).1)
found_in (Lacking a space) call page may = absurd (false≢true (and_parts _ _ may).1)
found_in (Refusing wired claimed held) call page may = absurd (false≢true (and_parts _ _ may).1)
found_in doing call page may = absurd (false≢true may)

answered_from : (p q : Progress) (number : ℕ) (call : Call) (reply : Reply) → after_answer p number call reply ≡ Some q
    → (page : ℕ) → reply ≡ Busy page → IsFoundIn p.doing call page
answered_from p q number call reply goes page same =
    let holds = leads_holds (eqb number p.made && may_answer p.doing call reply) _ Idle q goes in
    found_in p.doing call page (ap (may_answer p.doing call) (sym same) ∙ (and_parts _ _ holds).1)

-- The entry that found the page.

-- a range that is a region's is that of the region of each of its pages
region_of : (rs : List Region) (first len page : ℕ) → AreApart rs → IsRegionOf (region_at rs first) first len
    → in_range first len page ≡ true → IsRegionOf (region_at rs page) first len
region_of rs first len page apart range inside = at (region_at rs first) refl range
  where
    at : (o : Option Region) → region_at rs first ≡ o → IsRegionOf o first len → IsRegionOf (region_at rs page) first len
    at None none is = absurd is
    at (Some r) found is =
        let has : has_page page r ≡ true =
        ap (λ n. in_range n r.length page) is.0 ∙ ap (λ n. in_range first n page) is.1 ∙ inside in
        subst (λ o. IsRegionOf o first len) (sym (found_same rs first page r apart found has)) is

-- what the space and the frames allow there
record WasFound (g : Given) (h : List Entry) (space first len page frame : ℕ) : Type 0 where
  pub region : IsRegionOf (region_at (space_at g h space).flat.regions first) first len
  pub lowest : lowest_claimed (frames_at g h) space first len ≡ Some page
  pub place : frame_of (frames_at g h) space page ≡ Some frame

was_found : (g : Given) (h : List Entry) (e : Entry) (space first len page frame : ℕ) → MayFollow g h e → e.space ≡ Some space
    → e.what ≡ Kept first len page frame → WasFound g h space first len page frame
was_found g h e space first len page frame may on what =
    let st = frames_at g h in
    let judged = subst (λ o. IfSome o (λ s. SpaceJudges g s (space_part s h) e)) on may.by_space in
    let names = (subst (IsOn e.space e.frames) what may.parts).1 in
    let allowed = subst (λ o. FramesAllow st (mark_of g e.processor) e.processor o (Kept first len page frame)) on
    (subst (FramesAllow st (mark_of g e.processor) e.processor e.space) what (may.by_frames names)) in
    record {
      region = subst (λ w. WhatAllowed (space_at g h space) e.frames e.processor w) what judged.1;
      lowest = allowed.0;
      place = allowed.1;
    }

-- The law: each answer that a page kept a wire from being done comes after such an entry.
pub KeepsRightly-legal : (g : Given) (history : List Entry) → IsLegal g history → KeepsRightly g history
KeepsRightly-legal g history legal before after e number call answered page split what reply =
    let at = IsLegal-at g before after e (subst (IsLegal g) split legal) in
    let from = progress_before (progress_at g before e.processor) e at.1.ordered.0 at.1.ordered.1 in
    let goes = ap (progress_after from.0 e.space) (sym what) ∙ from.2 in
    let found = answered_from from.0 at.1.ordered.0 number call answered.reply goes page reply in
    let said = SaysLast-legal g before at.0 e.processor (Found found.space found.first found.len page) from.0 from.1 found.says in
    let was = was_found g said.earlier said.entry found.space found.first found.len page said.says.1.0 said.may said.says.0 said.says.1.1 in
    record {
      space = found.space;
      wired = found.wire.wired;
      is_wire = found.wire.is;
      earlier = said.earlier;
      entry = said.entry;
      since = said.since;
      split = said.split;
      own = said.own;
      on = said.says.0;
      first = found.first;
      len = found.len;
      frame = said.says.1.0;
      says = said.says.1.1;
      last = said.last;
      region = region_of (space_at g said.earlier found.space).flat.regions found.first found.len found.wire.wired (AreApart-legal g said.earlier said.legal found.space) was.region
          found.wire.inside;
      lowest = was.lowest;
      place = was.place;
    }
