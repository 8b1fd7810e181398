-- What the entries that a space allows do to its regions: no two have a common page, each resident page has one, and whether a page's
-- used place is to be wired stays, but for a pin.
use Rattle.std.proofs.Common.{◌≡◌, ℕ, Bool, true, false, ◌&&◌, ◌||◌, ◌==◌, cond, if◌then◌else◌, List, option_map, Option, Some, None, refl, sym, ap, subst, inl, inr, ◌∙◌}
use Rattle.std.specs.List.{list_any}
use Rattle.std.proofs.lemmas.Bool.{cases_Bool, cond-true, cond-false, eqb-true, false≢true, true≢false}
use Rattle.std.proofs.lemmas.Option.{none-some, same_Some}
use Rattle.pager_model.specs.declared.call.Call.{Call}
use Rattle.pager_model.specs.declared.call.Call.TheVariants.{Map, Grow, Unmap, Protect, Load, Store, Sync, Evict, Discard, Wire, Unwire}
use Rattle.pager_model.specs.declared.entry.Entry.{Entry}
use Rattle.pager_model.specs.declared.entry.What.{What}
use Rattle.pager_model.specs.declared.entry.What.TheVariants.{Answer, Out, Failed, Take, Give, Clear, Claim, UseHeld, Unclaim, Pin, Kept}
use Rattle.pager_model.specs.declared.entry.Want.{Want}
use Rattle.pager_model.specs.declared.region.Region.{Region}
use Rattle.pager_model.specs.declared.reply.Answered.{Answered}
use Rattle.pager_model.specs.declared.reply.Reply.{Reply}
use Rattle.pager_model.specs.declared.reply.Reply.TheVariants.{Done, OutOfSpace, Overlap, RegionsFull, NotGrowing, Denied}
use Rattle.pager_model.specs.Flat.{Flat, is_lawful, regions_after}
use Rattle.pager_model.specs.Laws.{is_wired_in, is_wired_by}
use Rattle.pager_model.specs.Regions.{end_of, has_page, in_range, is_wired, is_wired_kind, meets_range, region_at, grow_reply_at, unwire_reply_at, pinned_region, want_in, wanted_at}
use Rattle.pager_model.specs.SpaceStates.{SpaceState, Next, Anyone, Only, AfterClear, AfterPin, IsPinningOf, IsPinningAnswer, MayGoOn, IsCleared, IsClearedAt, IsPinnedAt, AnswerAllowed, WhatAllowed, answered_flat, base_after_answer, next_after, space_after}
use Rattle.pager_laws.proofs.CopyLaws.{IsServed, answer_is, answered_same, unlawful}
use Rattle.pager_laws.proofs.FlatRefusals.{after_refusal}
use Rattle.pager_laws.proofs.RegionsApart.{AreApart, HasRoom, found_has, found_same, found_with, found_without, found_pinned, none_in, wired-grown, AreApart-with, AreApart-without, AreApart-pinned, AreApart-grown}

-- no page is in two regions, and each resident page is in one
pub record KeepsRegions (st : SpaceState) : Type 0 where
  pub apart : AreApart st.flat.regions
  pub covered : (p f : ℕ) → st.base p ≡ Some f → (r : Region) × (region_at st.flat.regions p ≡ Some r)

-- a page has a region then, which is wired where this says so
abbrev pub HasWired : List Region → ℕ → Bool → Type 0
HasWired regions p wired = (r : Region) × (region_at regions p ≡ Some r) × (is_wired r ≡ wired)

-- Replies that are lawful.

free_map : (a b c : Bool) → is_lawful (if a then OutOfSpace else (if b then Overlap else (if c then RegionsFull else Done))) ≡ true → b ≡ false
free_map true b c is = absurd (false≢true is)
free_map false true c is = absurd (false≢true is)
free_map false false c is = refl

free_grow : (a b c : Bool) → is_lawful (if a then NotGrowing else (if b then OutOfSpace else (if c then Overlap else Done))) ≡ true → c ≡ false
free_grow true b c is = absurd (false≢true is)
free_grow false true c is = absurd (false≢true is)
free_grow false false true is = absurd (false≢true is)
free_grow false false false is = refl

room_found : (rs : List Region) (page by : ℕ) → is_lawful (grow_reply_at rs by (region_at rs page)) ≡ true → (r : Region) × HasRoom rs page by r
room_found rs page by is = by_region (region_at rs page) refl is
  where
    by_region : (o : Option Region) → region_at rs page ≡ o → is_lawful (grow_reply_at rs by o) ≡ true → (r : Region) × HasRoom rs page by r
    by_region None at is = absurd (false≢true is)
    by_region (Some r) at is = (r, record { at = at; free = free_grow _ _ (list_any (meets_range (end_of r) by) rs) is })

-- the region of a pin that was done
record PinDone (st : SpaceState) (c page : ℕ) (wired : Bool) : Type 0 where
  pub region : Region
  pub at : region_at st.flat.regions page ≡ Some region
  pub next : st.next ≡ AfterPin c region.first region.length wired

pin_done : (st : SpaceState) (c page : ℕ) (wired : Bool) → IsPinnedAt st c wired (region_at st.flat.regions page) → PinDone st c page wired
pin_done st c page wired is = by_region (region_at st.flat.regions page) refl is
  where
    by_region : (o : Option Region) → region_at st.flat.regions page ≡ o → IsPinnedAt st c wired o → PinDone st c page wired
    by_region None at is = absurd is
    by_region (Some r) at is = record { region = r; at = at; next = is }

-- its kind isn't wired where the region is unwired
unwired_kind : (o : Option Region) (r : Region) → o ≡ Some r → is_lawful (unwire_reply_at o) ≡ true → is_wired_kind r.kind ≡ false
unwired_kind None r at is = absurd (none-some r at)
unwired_kind (Some q) r at is = ap (λ (t : Region). is_wired_kind t.kind) (sym (same_Some q r at)) ∙ by_kind (is_wired_kind q.kind) is
  where
    by_kind : (b : Bool) → is_lawful (if b then Denied else Done) ≡ true → b ≡ false
    by_kind true is = absurd (false≢true is)
    by_kind false is = refl

pinned_is : (kind pinned : Bool) → (pinned ≡ false → kind ≡ false) → (kind || pinned) ≡ pinned
pinned_is true true not_kind = refl
pinned_is true false not_kind = not_kind refl
pinned_is false pinned not_kind = refl

-- Who comes next.

pinning_lawful : (first len : ℕ) (wired : Bool) (call : Call) (reply : Reply) → IsPinningOf first len wired call reply → is_lawful reply ≡ true
pinning_lawful first len wired (Wire space page) Done is = refl
pinning_lawful first len wired (Unwire space page) Done is = refl
pinning_lawful first len wired call reply is = absurd is

-- where no pin comes to its end, a page is wired as its region is
unpinned : (next : Next) (c : ℕ) (what : What) (regions : List Region) (p : ℕ) → MayGoOn next c what
    → ((first len : ℕ) (wired : Bool) → IsPinningAnswer first len wired what → ⊥)
    → is_wired_by next regions p ≡ is_wired_in (region_at regions p)
unpinned Anyone c what regions p may other = refl
unpinned (Only d) c what regions p may other = refl
unpinned (AfterClear d first len) c what regions p may other = refl
unpinned (AfterPin d first len wired) c what regions p may other = absurd (other first len wired may.1)

-- Answers.

-- an answer gives no page a frame
base_still : (base : ℕ → Option ℕ) (frames : Bool) (call : Call) (p f : ℕ) → base_after_answer base frames call p ≡ Some f → base p ≡ Some f
base_still base frames (Evict space page) p f is = by_flag (frames && (p == page)) is
  where
    by_flag : (b : Bool) → cond b None (base p) ≡ Some f → base p ≡ Some f
    by_flag true is = absurd (none-some f is)
    by_flag false is = is
base_still base frames (Map space page len kind rights) p f is = is
base_still base frames (Grow space page by) p f is = is
base_still base frames (Unmap space page) p f is = is
base_still base frames (Protect space page len rights) p f is = is
base_still base frames (Load space address) p f is = is
base_still base frames (Store space address word) p f is = is
base_still base frames (Sync space page) p f is = is
base_still base frames (Discard space page len) p f is = is
base_still base frames (Wire space page) p f is = is
base_still base frames (Unwire space page) p f is = is

-- what an answer leaves of the regions: a resident page has one that is wired as the page's place was to be
pub record Answers (st : SpaceState) (regions : List Region) : Type 0 where
  pub apart : AreApart regions
  pub still : (p f : ℕ) → st.base p ≡ Some f → HasWired regions p (is_wired_by st.next st.flat.regions p)

module _ (st : SpaceState) (keeps : KeepsRegions st) (c number : ℕ) where
  -- the same regions, and no pin before
  Answers-same : (call : Call) (answered : Answered) → MayGoOn st.next c (Answer number call answered)
      → ((first len : ℕ) (wired : Bool) → IsPinningAnswer first len wired (Answer number call answered) → ⊥)
      → Answers st st.flat.regions
  Answers-same call answered may other = record {
    apart = keeps.apart;
    still = λ p f is.
        let has = keeps.covered p f is in (
          has.0,
          has.1,
          sym (unpinned st.next c (Answer number call answered) st.flat.regions p may other ∙ ap is_wired_in has.1),
        );
  }

  -- an answer that isn't lawful ends no pin
  no_pin : (call : Call) (answered : Answered) → is_lawful answered.reply ≡ false
      → (first len : ℕ) (wired : Bool) → IsPinningAnswer first len wired (Answer number call answered) → ⊥
  no_pin call answered un first len wired is = true≢false (sym (pinning_lawful first len wired call answered.reply is) ∙ un)

  -- a pin to its end
  Answers-pin : (page : ℕ) (wired : Bool) → PinDone st c page wired
      → ((r : Region) → region_at st.flat.regions page ≡ Some r → wired ≡ false → is_wired_kind r.kind ≡ false)
      → (p f : ℕ) → st.base p ≡ Some f
      → (r : Region) × (option_map (pinned_region page wired) (region_at st.flat.regions p) ≡ Some r)
      × (is_wired r ≡ is_wired_by st.next st.flat.regions p)
  Answers-pin page wired pin kind p f is =
      let has = keeps.covered p f is in
      let o = has.0 in
      let by_next : is_wired_by st.next st.flat.regions p ≡ cond (in_range pin.region.first pin.region.length p) wired (is_wired o) =
      ap (λ n. is_wired_by n st.flat.regions p) pin.next
      ∙ ap (λ q. cond (in_range pin.region.first pin.region.length p) wired (is_wired_in q)) has.1 in (
        pinned_region page wired o,
        ap (option_map (pinned_region page wired)) has.1,
        elim (cases_Bool (has_page page o)) [
          | inl here ↦
              let same : pin.region ≡ o = same_Some pin.region o (sym pin.at ∙ found_same st.flat.regions p page o keeps.apart has.1 here) in
              let inside : in_range pin.region.first pin.region.length p ≡ true =
              subst (λ (r : Region). in_range r.first r.length p ≡ true) (sym same) (found_has st.flat.regions p o has.1) in
              ap is_wired (cond-true (has_page page o) (record o { pinned = wired }) o here)
              ∙ pinned_is (is_wired_kind o.kind) wired (kind o (pin.at ∙ ap Some same))
              ∙ sym (by_next ∙ cond-true _ wired (is_wired o) inside)
          | inr other ↦
              let out : in_range pin.region.first pin.region.length p ≡ false =
              elim (cases_Bool (in_range pin.region.first pin.region.length p)) [
                | inl inside ↦
                    let same : o ≡ pin.region = same_Some o pin.region (sym has.1
                    ∙ found_same st.flat.regions page p pin.region keeps.apart pin.at inside) in
                    absurd (false≢true (sym other ∙ ap (has_page page) same ∙ found_has st.flat.regions page pin.region pin.at))
                | inr outside ↦ outside
              ] in
              ap is_wired (cond-false (has_page page o) (record o { pinned = wired }) o other)
              ∙ sym (by_next ∙ cond-false _ wired (is_wired o) out)
        ],
      )

  -- what a lawful call leaves
  Answers-lawful : (call : Call) (answered : Answered) → MayGoOn st.next c (Answer number call answered)
      → IsServed st c call answered.reply → is_lawful answered.reply ≡ true → Answers st (regions_after st.flat call)
  Answers-lawful (Map space page len kind rights) answered may served law =
      let lawful = sym served.lawful ∙ law in
      let new : Region = record { first = page; length = len; kind = kind; rights = rights; pinned = false } in
      let free = free_map _ (list_any (meets_range page len) st.flat.regions) _ lawful in
      let same = Answers-same (Map space page len kind rights) answered may (λ first n wired un. un) in
      subst (Answers st) (sym (cond-true _ _ st.flat.regions lawful)) (record {
        apart = AreApart-with new st.flat.regions keeps.apart free;
        still = λ p f is.
            let has = same.still p f is in
            let other : has_page p new ≡ false = elim (cases_Bool (has_page p new)) [
              | inl inside ↦ absurd (none-some has.0 (sym (none_in page len p st.flat.regions free inside) ∙ has.1))
              | inr outside ↦ outside
            ] in
            (has.0, found_with new st.flat.regions p other ∙ has.1, has.2);
      })
  Answers-lawful (Grow space page by) answered may served law =
      let lawful = sym served.lawful ∙ law in
      let room = room_found st.flat.regions page by lawful in
      let same = Answers-same (Grow space page by) answered may (λ first n wired un. un) in
      subst (Answers st) (sym (cond-true _ _ st.flat.regions lawful)) (record {
        apart = AreApart-grown st.flat.regions page by room.0 keeps.apart room.1;
        still = λ p f is.
            let has = same.still p f is in
            let grown = wired-grown st.flat.regions page by p room.0 has.0 keeps.apart room.1 has.1 in
            (grown.0, grown.1, grown.2 ∙ has.2);
      })
  Answers-lawful (Unmap space page) answered may served law =
      let same = Answers-same (Unmap space page) answered may (λ first n wired un. un) in
      record {
        apart = AreApart-without page st.flat.regions keeps.apart;
        still = λ p f is.
            let has = same.still p f is in
            let other : has_page page has.0 ≡ false = elim (cases_Bool (has_page page has.0)) [
              | inl here ↦
                  let at = found_same st.flat.regions p page has.0 keeps.apart has.1 here in
                  let cleared : IsCleared st c has.0 = subst (IsClearedAt st c) at (served.pages law) in
                  absurd (none-some f (sym (cleared.none p (found_has st.flat.regions p has.0 has.1)) ∙ is))
              | inr there ↦ there
            ] in
            (has.0, found_without page st.flat.regions p has.0 has.1 other, has.2);
      }
  Answers-lawful (Wire space page) answered may served law =
      let pin = pin_done st c page true (served.pages law) in
      record {
        apart = AreApart-pinned page true st.flat.regions keeps.apart;
        still = λ p f is.
            let has = Answers-pin page true pin (λ r at un. absurd (true≢false un)) p f is in
            (has.0, found_pinned page true st.flat.regions p ∙ has.1, has.2);
      }
  Answers-lawful (Unwire space page) answered may served law =
      let lawful = sym served.lawful ∙ law in
      let pin = pin_done st c page false (served.pages law) in
      subst (Answers st) (sym (cond-true _ _ st.flat.regions lawful)) (record {
        apart = AreApart-pinned page false st.flat.regions keeps.apart;
        still = λ p f is.
            let has = Answers-pin page false pin
            (λ r at un. unwired_kind (region_at st.flat.regions page) r at lawful) p f is in
            (has.0, found_pinned page false st.flat.regions p ∙ has.1, has.2);
      })
  Answers-lawful (Protect space page len rights) answered may served law =
      Answers-same (Protect space page len rights) answered may (λ first n wired un. un)
  Answers-lawful (Load space address) answered may served law = Answers-same (Load space address) answered may (λ first n wired un. un)
  Answers-lawful (Store space address word) answered may served law =
      Answers-same (Store space address word) answered may (λ first n wired un. un)
  Answers-lawful (Sync space page) answered may served law = Answers-same (Sync space page) answered may (λ first n wired un. un)
  Answers-lawful (Evict space page) answered may served law = Answers-same (Evict space page) answered may (λ first n wired un. un)
  Answers-lawful (Discard space page len) answered may served law =
      Answers-same (Discard space page len) answered may (λ first n wired un. un)

  -- and any answer
  pub Answers-any : (frames : Bool) (call : Call) (answered : Answered) → MayGoOn st.next c (Answer number call answered)
      → AnswerAllowed st frames c number call answered → Answers st (answered_flat st.flat call answered.reply).regions
  Answers-any frames call answered may allowed =
      elim (answer_is st c call answered.reply allowed.reply) [
        | inl without ↦
            subst (λ (f : Flat). Answers st f.regions) (sym (answered_same st.flat call answered.reply without))
            (Answers-same call answered may (no_pin call answered (unlawful answered.reply without)))
        | inr served ↦ subst (λ (f : Flat). Answers st f.regions) (sym served.does) (elim (cases_Bool (is_lawful answered.reply)) [
          | inl law ↦ Answers-lawful call answered may served law
          | inr un ↦
              subst (Answers st) (sym (after_refusal st.flat call (sym served.lawful ∙ un)).regions)
              (Answers-same call answered may (no_pin call answered un))
        ])
      ]

-- Any entry.

-- whether a page's place is to be wired after an entry
abbrev wired_after : SpaceState → Entry → ℕ → Bool
wired_after st e p = is_wired_by (space_after st e).next (space_after st e).flat.regions p

-- what gives a page's place its flag: a taking with a want, and a pin of a range
abbrev pub GivesFlag : What → ℕ → Bool → Type 0
GivesFlag (Take page frame want) p wired = (page ≡ p) × (wired ≡ want.wired)
GivesFlag (UseHeld page frame want) p wired = (page ≡ p) × (wired ≡ want.wired)
GivesFlag (Pin first len flag) p wired = (in_range first len p ≡ true) × (wired ≡ flag)
GivesFlag what p wired = ⊥

-- and what leaves it
abbrev pub LeavesFlag : What → ℕ → Type 0
LeavesFlag (Pin first len flag) p = in_range first len p ≡ false
LeavesFlag what p = Unit {0}

-- what an entry does: regions stay apart, resident pages have one, and a place is to be wired as it was, or as the entry says
pub record GoesOn (st : SpaceState) (e : Entry) (what : What) : Type 0 where
  pub keeps : KeepsRegions (space_after st (record e { what = what }))
  pub old : (p f : ℕ) → st.base p ≡ Some f → LeavesFlag what p
      → wired_after st (record e { what = what }) p ≡ is_wired_by st.next st.flat.regions p
  pub given : (p : ℕ) (wired : Bool) → GivesFlag what p wired → wired_after st (record e { what = what }) p ≡ wired

-- the want of a page tells whether its region is wired
wanted_is : (regions : List Region) (page : ℕ) (o : Option Region) (want : Want) → wanted_at regions page o ≡ Some want
    → (r : Region) × (o ≡ Some r) × (is_wired r ≡ want.wired)
wanted_is regions page None want is = absurd (none-some want is)
wanted_is regions page (Some r) want is = (r, refl, ap (λ (w : Want). w.wired) (same_Some (want_in regions page r) want is))

-- a page that may have got a frame is covered, and so is one that may have given it up
covered_filled : (regions : List Region) (p page : ℕ) (frame f : ℕ) (o : Option ℕ) → (r : Region) × (region_at regions page ≡ Some r)
    → (o ≡ Some f → (r : Region) × (region_at regions p ≡ Some r)) → (if p == page then Some frame else o) ≡ Some f
    → (r : Region) × (region_at regions p ≡ Some r)
covered_filled regions p page frame f o at was is = elim (cases_Bool (p == page)) [
  | inl here ↦ subst (λ q. (r : Region) × (region_at regions q ≡ Some r)) (sym (eqb-true p page here)) at
  | inr there ↦ was (sym (cond-false (p == page) (Some frame) o there) ∙ is)
]

covered_left : (b : Bool) (f : ℕ) (o : Option ℕ) → (if b then None else o) ≡ Some f → o ≡ Some f
covered_left true f o is = absurd (none-some f is)
covered_left false f o is = is

module _ (st : SpaceState) (e : Entry) (keeps : KeepsRegions st) where
  -- an entry that is no answer and no pin leaves the regions, and whether places are wired
  GoesOn-plain : (what : What) → MayGoOn st.next e.processor what
      → ((first len : ℕ) (wired : Bool) → IsPinningAnswer first len wired what → ⊥)
      → ((p : ℕ) → is_wired_by (next_after e.processor what) st.flat.regions p ≡ is_wired_in (region_at st.flat.regions p))
      → (p : ℕ) → is_wired_by (next_after e.processor what) st.flat.regions p ≡ is_wired_by st.next st.flat.regions p
  GoesOn-plain what may other after p = after p ∙ sym (unpinned st.next e.processor what st.flat.regions p may other)

  pub GoesOn-after : (what : What) → MayGoOn st.next e.processor what → WhatAllowed st e.frames e.processor what → GoesOn st e what
  GoesOn-after (Answer number call answered) may allowed =
      let does = Answers-any st keeps e.processor number e.frames call answered may allowed in
      record {
        keeps = record {
          apart = does.apart;
          covered = λ p f is. let has = does.still p f (base_still st.base e.frames call p f is) in (has.0, has.1);
        };
        old = λ p f is _. let has = does.still p f is in ap is_wired_in has.1 ∙ has.2;
        given = λ p wired gives. absurd gives;
      }
  GoesOn-after (Out page wrote) may allowed = record {
    keeps = record { apart = keeps.apart; covered = keeps.covered };
    old = λ p f is _. GoesOn-plain (Out page wrote) may (λ first len wired un. un) (λ q. refl) p;
    given = λ p wired gives. absurd gives;
  }
  GoesOn-after (Failed page true count) may allowed = record {
    keeps = record { apart = keeps.apart; covered = keeps.covered };
    old = λ p f is _. GoesOn-plain (Failed page true count) may (λ first len wired un. un) (λ q. refl) p;
    given = λ p wired gives. absurd gives;
  }
  GoesOn-after (Failed page false count) may allowed = record {
    keeps = record { apart = keeps.apart; covered = keeps.covered };
    old = λ p f is _. GoesOn-plain (Failed page false count) may (λ first len wired un. un) (λ q. refl) p;
    given = λ p wired gives. absurd gives;
  }
  GoesOn-after (Take page frame want) may allowed =
      let region = wanted_is st.flat.regions page (region_at st.flat.regions page) want allowed.0 in
      record {
        keeps = record {
          apart = keeps.apart;
          covered = λ p f is. covered_filled st.flat.regions p page frame f (st.base p) (region.0, region.1) (keeps.covered p f) is;
        };
        old = λ p f is _. GoesOn-plain (Take page frame want) may (λ first len wired un. un) (λ q. refl) p;
        given = λ p wired gives.
            ap (λ q. is_wired_in (region_at st.flat.regions q)) (sym gives.0) ∙ ap is_wired_in region.1 ∙ region.2 ∙ sym gives.1;
      }
  GoesOn-after (Give page frame) may allowed = record {
    keeps = record { apart = keeps.apart; covered = λ p f is. keeps.covered p f (covered_left (p == page) f (st.base p) is) };
    old = λ p f is _. GoesOn-plain (Give page frame) may (λ first len wired un. un) (λ q. refl) p;
    given = λ p wired gives. absurd gives;
  }
  GoesOn-after (Clear first len) may allowed = record {
    keeps = record {
      apart = keeps.apart;
      covered = λ p f is. keeps.covered p f (covered_left (in_range first len p) f (st.base p) is);
    };
    old = λ p f is _. GoesOn-plain (Clear first len) may (λ a n wired un. un) (λ q. refl) p;
    given = λ p wired gives. absurd gives;
  }
  GoesOn-after (Claim victim page frame need) may allowed = record {
    keeps = record { apart = keeps.apart; covered = keeps.covered };
    old = λ p f is _. GoesOn-plain (Claim victim page frame need) may (λ first len wired un. un) (λ q. refl) p;
    given = λ p wired gives. absurd gives;
  }
  GoesOn-after (UseHeld page frame want) may allowed =
      let region = wanted_is st.flat.regions page (region_at st.flat.regions page) want allowed.0 in
      record {
        keeps = record {
          apart = keeps.apart;
          covered = λ p f is. covered_filled st.flat.regions p page frame f (st.base p) (region.0, region.1) (keeps.covered p f) is;
        };
        old = λ p f is _. GoesOn-plain (UseHeld page frame want) may (λ first len wired un. un) (λ q. refl) p;
        given = λ p wired gives.
            ap (λ q. is_wired_in (region_at st.flat.regions q)) (sym gives.0) ∙ ap is_wired_in region.1 ∙ region.2 ∙ sym gives.1;
      }
  GoesOn-after (Unclaim frame) may allowed = record {
    keeps = record { apart = keeps.apart; covered = keeps.covered };
    old = λ p f is _. GoesOn-plain (Unclaim frame) may (λ first len wired un. un) (λ q. refl) p;
    given = λ p wired gives. absurd gives;
  }
  GoesOn-after (Pin first len flag) may allowed = record {
    keeps = record { apart = keeps.apart; covered = keeps.covered };
    old = λ p f is out.
        cond-false (in_range first len p) flag (is_wired_in (region_at st.flat.regions p)) out
        ∙ sym (unpinned st.next e.processor (Pin first len flag) st.flat.regions p may (λ a n wired un. un));
    given = λ p wired gives.
        cond-true (in_range first len p) flag (is_wired_in (region_at st.flat.regions p)) gives.0 ∙ sym gives.1;
  }
  GoesOn-after (Kept first len page frame) may allowed = record {
    keeps = record { apart = keeps.apart; covered = keeps.covered };
    old = λ p f is _. GoesOn-plain (Kept first len page frame) may (λ a n wired un. un) (λ q. refl) p;
    given = λ p wired gives. absurd gives;
  }
  GoesOn-after what may allowed = absurd allowed

-- a space begins without regions and without pages
pub KeepsRegions-start : (st : SpaceState) → AreApart st.flat.regions → ((p : ℕ) → st.base p ≡ None) → KeepsRegions st
KeepsRegions-start st apart none = record { apart = apart; covered = λ p f is. absurd (none-some f (sym (none p) ∙ is)) }
