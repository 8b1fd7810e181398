-- The regions of a space of a legal history end within it.
use Rattle.std.proofs.Common.{◌≡◌, ◌≤◌, ◌+◌, ℕ, ltb, Bool, true, false, cond, if◌then◌else◌, List, [], ◌∷◌, Option, Some, None, refl, sym, subst, inl, inr, ◌∙◌, arith, not}
use Rattle.std.specs.Option.{IfSome}
use Rattle.std.proofs.lemmas.Bool.{cases_Bool, cond-true, cond-false, eqb-true, false≢true, ltb-false}
use Rattle.std.proofs.lemmas.Option.{none-some, same_Some}
use Rattle.pager_model.specs.declared.call.Call.{Call}
use Rattle.pager_model.specs.declared.call.Call.TheVariants.{Map, Grow, Unmap, Protect, Load, Store, Sync, Evict, Discard, Wire, Unwire}
use Rattle.pager_model.specs.declared.entry.Entry.{Entry}
use Rattle.pager_model.specs.declared.entry.What.{What}
use Rattle.pager_model.specs.declared.entry.What.TheVariants.{Answer, Out, Failed, Take, Give, Clear, Claim, UseHeld, Unclaim, Pin, Kept}
use Rattle.pager_model.specs.declared.region.Region.{Region}
use Rattle.pager_model.specs.declared.reply.Answered.{Answered}
use Rattle.pager_model.specs.declared.reply.Reply.TheVariants.{Done, OutOfSpace, Overlap, RegionsFull, NotGrowing}
use Rattle.pager_model.specs.Bounds.{space_pages}
use Rattle.pager_model.specs.Entries.{names_space}
use Rattle.pager_model.specs.Flat.{Flat, is_lawful, regions_after, reply_of}
use Rattle.pager_model.specs.Legal.{IsLegal, space_at}
use Rattle.pager_model.specs.Options.{is_that}
use Rattle.pager_model.specs.Regions.{end_of, has_page, region_at, with_region, without_region, grown_regions, pinned_regions, grow_reply_at}
use Rattle.pager_model.specs.Settings.{Given}
use Rattle.pager_model.specs.SpaceStates.{SpaceState, SpaceAllows, WhatAllowed, AnswerAllowed, answered_flat, flat_after}
use Rattle.pager_model.proofs.Histories.{IsLegal-keeps, IsLegal-push, space_at-named, space_at-other}
use Rattle.pager_laws.proofs.CopyLaws.{answer_is, answered_same}
use Rattle.pager_laws.proofs.FlatRefusals.{after_refusal}
use Rattle.pager_laws.proofs.RegionsApart.{AreApart}
use Rattle.pager_laws.proofs.WiredPlaces.{AreApart-legal}

-- each region ends within the space
abbrev pub EndWithin : List Region → Type 0
EndWithin [] = Unit {0}
EndWithin (r ∷ rs) = (end_of r ≤ space_pages) × EndWithin rs

-- so does one that is found
pub found_within : (rs : List Region) (page : ℕ) (r : Region) → EndWithin rs → region_at rs page ≡ Some r → end_of r ≤ space_pages
found_within [] page r all at = absurd (none-some r at)
found_within (q ∷ rs) page r all at = elim (cases_Bool (has_page page q)) [
  | inl here ↦ subst (λ (t : Region). end_of t ≤ space_pages) (same_Some q r (sym (cond-true _ _ _ here) ∙ at)) all.0
  | inr there ↦ found_within rs page r all.1 (sym (cond-false _ _ _ there) ∙ at)
]

-- What calls do to them.

within-with : (new : Region) (rs : List Region) → end_of new ≤ space_pages → EndWithin rs → EndWithin (with_region new rs)
within-with new [] fits all = (fits, tt)
within-with new (r ∷ rs) fits all = by_order (within-with new rs fits all.1) (ltb new.first r.first)
  where
    by_order : EndWithin (with_region new rs) → (b : Bool) → EndWithin (cond b (new ∷ r ∷ rs) (r ∷ with_region new rs))
    by_order later true = (fits, all)
    by_order later false = (all.0, later)

within-without : (page : ℕ) (rs : List Region) → EndWithin rs → EndWithin (without_region page rs)
within-without page [] all = tt
within-without page (q ∷ rs) all = by_page (within-without page rs all.1) (not (has_page page q))
  where
    by_page : EndWithin (without_region page rs) → (b : Bool) → EndWithin (cond b (q ∷ without_region page rs) (without_region page rs))
    by_page later true = (all.0, later)
    by_page later false = later

within-pinned : (page : ℕ) (pinned : Bool) (rs : List Region) → EndWithin rs → EndWithin (pinned_regions page pinned rs)
within-pinned page pinned [] all = tt
within-pinned page pinned (q ∷ rs) all = (by_page (has_page page q), within-pinned page pinned rs all.1)
  where
    by_page : (b : Bool) → end_of (cond b (record q { pinned = pinned }) q) ≤ space_pages
    by_page true = all.0
    by_page false = all.0

abbrev longer : ℕ → Region → Region
longer by q = record q { length = q.length + by }

-- where no region has the page, none grows
within-none : (page by : ℕ) (rs : List Region) → region_at rs page ≡ None → EndWithin rs → EndWithin (grown_regions page by rs)
within-none page by [] none all = tt
within-none page by (q ∷ rs) none all = elim (cases_Bool (has_page page q)) [
  | inl has ↦ absurd (none-some q (sym none ∙ cond-true _ _ _ has))
  | inr hasnt ↦ (
    subst (λ (t : Region). end_of t ≤ space_pages) (sym (cond-false (has_page page q) (longer by q) q hasnt)) all.0,
    within-none page by rs (sym (cond-false _ _ _ hasnt) ∙ none) all.1,
  )
]

within-grown : (page by : ℕ) (rs : List Region) (r : Region) → AreApart rs → region_at rs page ≡ Some r → end_of r + by ≤ space_pages
    → EndWithin rs → EndWithin (grown_regions page by rs)
within-grown page by [] r apart at fits all = tt
within-grown page by (q ∷ rs) r apart at fits all = elim (cases_Bool (has_page page q)) [
  | inl has ↦
      let same : r ≡ q = same_Some r q (sym at ∙ cond-true _ _ _ has) in
      let room : end_of q + by ≤ space_pages = subst (λ (t : Region). end_of t + by ≤ space_pages) same fits in (
        subst (λ (t : Region). end_of t ≤ space_pages) (sym (cond-true (has_page page q) (longer by q) q has)) (omega (arith, room)),
        within-none page by rs (apart.0 page has) all.1,
      )
  | inr hasnt ↦ (
    subst (λ (t : Region). end_of t ≤ space_pages) (sym (cond-false (has_page page q) (longer by q) q hasnt)) all.0,
    within-grown page by rs r apart.1 (sym (cond-false _ _ _ hasnt) ∙ at) fits all.1,
  )
]

-- Replies that are lawful.

mapped_within : (a b c : Bool) → is_lawful (if a then OutOfSpace else (if b then Overlap else (if c then RegionsFull else Done))) ≡ true → a ≡ false
mapped_within true b c is = absurd (false≢true is)
mapped_within false b c is = refl

grown_within : (a b c : Bool) → is_lawful (if a then NotGrowing else (if b then OutOfSpace else (if c then Overlap else Done))) ≡ true → b ≡ false
grown_within true b c is = absurd (false≢true is)
grown_within false true c is = absurd (false≢true is)
grown_within false false c is = refl

-- the region that grows, and it has room in the space
room_within : (rs : List Region) (page by : ℕ) → is_lawful (grow_reply_at rs by (region_at rs page)) ≡ true
    → (r : Region) × (region_at rs page ≡ Some r) × (end_of r + by ≤ space_pages)
room_within rs page by is = by_region (region_at rs page) refl is
  where
    by_region : (o : Option Region) → region_at rs page ≡ o → is_lawful (grow_reply_at rs by o) ≡ true
        → (r : Region) × (region_at rs page ≡ Some r) × (end_of r + by ≤ space_pages)
    by_region None at is = absurd (false≢true is)
    by_region (Some r) at is = (r, at, ltb-false space_pages (end_of r + by) (grown_within _ _ _ is))

-- Entries.

module _ (st : SpaceState) (apart : AreApart st.flat.regions) (all : EndWithin st.flat.regions) where
  within-lawful : (call : Call) → is_lawful (reply_of st.flat call) ≡ true → EndWithin (regions_after st.flat call)
  within-lawful (Map space page len kind rights) lawful =
      let new : Region = record { first = page; length = len; kind = kind; rights = rights; pinned = false } in
      subst EndWithin (sym (cond-true _ _ st.flat.regions lawful))
      (within-with new st.flat.regions (ltb-false space_pages (page + len) (mapped_within _ _ _ lawful)) all)
  within-lawful (Grow space page by) lawful =
      let room = room_within st.flat.regions page by lawful in
      subst EndWithin (sym (cond-true _ _ st.flat.regions lawful))
      (within-grown page by st.flat.regions room.0 apart room.1 room.2 all)
  within-lawful (Unmap space page) lawful = within-without page st.flat.regions all
  within-lawful (Wire space page) lawful = within-pinned page true st.flat.regions all
  within-lawful (Unwire space page) lawful =
      subst EndWithin (sym (cond-true _ _ st.flat.regions lawful)) (within-pinned page false st.flat.regions all)
  within-lawful (Protect space page len rights) lawful = all
  within-lawful (Load space address) lawful = all
  within-lawful (Store space address word) lawful = all
  within-lawful (Sync space page) lawful = all
  within-lawful (Evict space page) lawful = all
  within-lawful (Discard space page len) lawful = all

  within-call : (call : Call) → EndWithin (regions_after st.flat call)
  within-call call = elim (cases_Bool (is_lawful (reply_of st.flat call))) [
    | inl lawful ↦ within-lawful call lawful
    | inr refused ↦ subst EndWithin (sym (after_refusal st.flat call refused).regions) all
  ]

  within-answer : (frames : Bool) (c number : ℕ) (call : Call) (answered : Answered) → AnswerAllowed st frames c number call answered
      → EndWithin (answered_flat st.flat call answered.reply).regions
  within-answer frames c number call answered allowed = elim (answer_is st c call answered.reply allowed.reply) [
    | inl without ↦ subst (λ (f : Flat). EndWithin f.regions) (sym (answered_same st.flat call answered.reply without)) all
    | inr served ↦ subst (λ (f : Flat). EndWithin f.regions) (sym served.does) (within-call call)
  ]

  within-after : (frames : Bool) (c : ℕ) (what : What) → WhatAllowed st frames c what → EndWithin (flat_after st.flat what).regions
  within-after frames c (Answer number call answered) allowed = within-answer frames c number call answered allowed
  within-after frames c (Out page written) allowed = all
  within-after frames c (Failed page true count) allowed = all
  within-after frames c (Failed page false count) allowed = all
  within-after frames c (Take page frame want) allowed = all
  within-after frames c (Give page frame) allowed = all
  within-after frames c (Clear first len) allowed = all
  within-after frames c (Claim victim page frame need) allowed = all
  within-after frames c (UseHeld page frame want) allowed = all
  within-after frames c (Unclaim frame) allowed = all
  within-after frames c (Pin first len wired) allowed = all
  within-after frames c (Kept first len page frame) allowed = all
  within-after frames c what allowed = absurd allowed

-- Histories.

-- what holds of the space that an entry names
of_named : (space : Option ℕ) (s : ℕ) (P : ℕ → Type 0) → is_that s space ≡ true → IfSome space P → P s
of_named None s P named holds = absurd (false≢true named)
of_named (Some t) s P named holds = subst P (eqb-true t s named) holds

pub EndWithin-legal : (g : Given) (history : List Entry) (s : ℕ) → IsLegal g history → EndWithin (space_at g history s).flat.regions
EndWithin-legal g history s legal =
    let P : List Entry → Type 0 = λ h. IsLegal g h × EndWithin (space_at g h s).flat.regions in
    (IsLegal-keeps g P (λ h e was may. (
      IsLegal-push g h e was.0 may,
      elim (cases_Bool (names_space s e)) [
        | inl named ↦
            let st = space_at g h s in
            let allowed = of_named e.space s (λ t. SpaceAllows (space_at g h t) e) named may.by_space in
            subst (λ (t : SpaceState). EndWithin t.flat.regions) (sym (space_at-named g h e s named))
            (within-after st (AreApart-legal g h was.0 s) was.1 e.frames e.processor e.what allowed.1)
        | inr other ↦ subst (λ (t : SpaceState). EndWithin t.flat.regions) (sym (space_at-other g h e s other)) was.1
      ],
    )) (tt, tt) history legal).1
