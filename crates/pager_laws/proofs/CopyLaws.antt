-- What the entries that a space allows do to copies, dirty flags and frames.
use Rattle.std.proofs.Common.{◌≡◌, ◌≢◌, ℕ, ◌⊎◌, inl, inr, Bool, true, false, ◌&&◌, ◌==◌, if◌then◌else◌, is_some, List, Option, Some, None, refl, ap, sym, subst, ◌∙◌}
use Rattle.std.specs.Option.{IfSome}
use Rattle.std.proofs.lemmas.Bool.{cases_Bool, cond-true, cond-false, and_parts, and_from, eq-eqb, eqb-true, false≢true, true≢false}
use Rattle.pager_model.specs.Options.{is_that}
use Rattle.pager_model.specs.declared.call.Call.{Call}
use Rattle.pager_model.specs.declared.call.Call.TheVariants.{Map, Grow, Unmap, Protect, Load, Store, Sync, Evict, Discard, Wire, Unwire}
use Rattle.pager_model.specs.declared.entry.Entry.{Entry}
use Rattle.pager_model.specs.declared.entry.What.{What}
use Rattle.pager_model.specs.declared.entry.What.TheVariants.{Answer, Out, Failed, Take, Give, Clear, Claim, UseHeld, Unclaim, Pin, Kept}
use Rattle.pager_model.specs.declared.region.Region.{Region}
use Rattle.pager_model.specs.declared.reply.Answered.{Answered}
use Rattle.pager_model.specs.declared.reply.Reply.{Reply}
use Rattle.pager_model.specs.declared.reply.Reply.TheVariants.{Done, Value, NoFrames, StoreFault, NoMemory, Busy}
use Rattle.pager_model.specs.Entries.{names_space}
use Rattle.pager_model.specs.Flat.{Flat, reply_of, is_lawful, page_of, word_of, goes, is_discarded, after_call, out, lost}
use Rattle.pager_model.specs.Legal.{IsLegal, space_at}
use Rattle.pager_model.specs.Regions.{in_range, region_at}
use Rattle.pager_model.specs.Settings.{Given}
use Rattle.pager_model.specs.SpaceStates.{SpaceState, Next, Anyone, Only, AfterClear, AfterPin, IsResident, IsClearingOf, IsClearingAnswer, MayGoOn, IsWord, HasItsPages, IsClearedAt, ReplyAllowed, AnswerAllowed, WhatAllowed, SpaceAllows, answered_flat, flat_after, base_after_answer, base_after, frees_its_page, space_after}
use Rattle.pager_model.proofs.Histories.{space_at-named, space_at-other, IsLegal-keeps}
use Rattle.pager_model.proofs.SpaceEntries.{base-unnamed, frees-unlawful}
use Rattle.pager_model.specs.Laws.{EqualsItsCopy, WasCleared, KeepsCopies}
use Rattle.pager_laws.specs.Copies.{LosesItsCopy, IsWithoutService}

-- A page that isn't dirty.

-- the pages that aren't dirty equal their copies
abbrev AreCopied : Flat → Type 0
AreCopied f = (p : ℕ) → f.dirty p ≡ false → EqualsItsCopy f p

-- a page whose copy and words are the same equals its copy as before
equal_again : (f g : Flat) (p : ℕ) → g.copies p ≡ f.copies p → ((i : ℕ) → g.words p i ≡ f.words p i) → EqualsItsCopy f p → EqualsItsCopy g p
equal_again f g p copies words is = record { copy = is.copy; known = copies ∙ is.known; equal = λ i. is.equal i ∙ sym (words i) }

-- a page that may have been written to its copy
written : (f g : Flat) (p : ℕ) (here : Bool) → (f.dirty p ≡ false → EqualsItsCopy f p) → ((i : ℕ) → g.words p i ≡ f.words p i)
    → g.copies p ≡ (if here then Some (f.words p) else f.copies p) → g.dirty p ≡ (if here then false else f.dirty p) → g.dirty p ≡ false
    → EqualsItsCopy g p
written f g p true was words copies dirty clean = record { copy = f.words p; known = copies; equal = λ i. sym (words i) }
written f g p false was words copies dirty clean = equal_again f g p copies words (was (sym dirty ∙ clean))

-- a page that may have gone with its region, or was discarded
gone : (f g : Flat) (p : ℕ) (went : Bool) → (f.dirty p ≡ false → EqualsItsCopy f p)
    → ((i : ℕ) → g.words p i ≡ (if went then 0 else f.words p i)) → g.copies p ≡ (if went then Some (λ i. 0) else f.copies p)
    → g.dirty p ≡ (if went then false else f.dirty p) → g.dirty p ≡ false → EqualsItsCopy g p
gone f g p true was words copies dirty clean = record { copy = λ i. 0; known = copies; equal = λ i. sym (words i) }
gone f g p false was words copies dirty clean = equal_again f g p copies words (was (sym dirty ∙ clean))

-- a page that may have been stored to
stored : (f g : Flat) (p word : ℕ) (lawful here : Bool) (at : ℕ → Bool) → (f.dirty p ≡ false → EqualsItsCopy f p)
    → ((i : ℕ) → g.words p i ≡ (if lawful && (here && at i) then word else f.words p i)) → g.copies p ≡ f.copies p
    → g.dirty p ≡ (if lawful && here then true else f.dirty p) → g.dirty p ≡ false → EqualsItsCopy g p
stored f g p word true true at was words copies dirty clean = absurd (true≢false (sym dirty ∙ clean))
stored f g p word true false at was words copies dirty clean = equal_again f g p copies words (was (sym dirty ∙ clean))
stored f g p word false here at was words copies dirty clean = equal_again f g p copies words (was (sym dirty ∙ clean))

copied_after : (f : Flat) (call : Call) → AreCopied f → AreCopied (after_call f call)
copied_after f (Map space page len kind rights) are p clean = equal_again f _ p refl (λ i. refl) (are p clean)
copied_after f (Grow space page by) are p clean = equal_again f _ p refl (λ i. refl) (are p clean)
copied_after f (Unmap space page) are p clean = gone f (after_call f (Unmap space page)) p (goes (region_at f.regions page) p) (are p)
    (λ i. refl) refl refl clean
copied_after f (Protect space page len rights) are p clean = equal_again f _ p refl (λ i. refl) (are p clean)
copied_after f (Load space address) are p clean = are p clean
copied_after f (Store space address word) are p clean =
    stored f (after_call f (Store space address word)) p word (is_lawful (reply_of f (Store space address word))) (p == page_of address)
    (λ i. i == word_of address) (are p) (λ i. refl) refl refl clean
copied_after f (Sync space page) are p clean =
    written f (after_call f (Sync space page)) p (is_lawful (reply_of f (Sync space page)) && (p == page)) (are p)
    (λ i. refl) refl refl clean
copied_after f (Evict space page) are p clean =
    written f (after_call f (Evict space page)) p (is_lawful (reply_of f (Evict space page)) && (p == page)) (are p)
    (λ i. refl) refl refl clean
copied_after f (Discard space page len) are p clean = gone f (after_call f (Discard space page len)) p (is_discarded f page len p) (are p)
    (λ i. refl) refl refl clean
copied_after f (Wire space page) are p clean = equal_again f _ p refl (λ i. refl) (are p clean)
copied_after f (Unwire space page) are p clean = equal_again f _ p refl (λ i. refl) (are p clean)

-- whatever the call is answered
copied_answered : (f : Flat) (call : Call) (reply : Reply) → AreCopied f → AreCopied (answered_flat f call reply)
copied_answered f call (NoFrames wired claimed held) are = are
copied_answered f call (StoreFault space count) are = are
copied_answered f call NoMemory are = are
copied_answered f call (Busy page) are = are
copied_answered f call reply are = copied_after f call are

-- Who came before.

-- a page is resident where any entry but the unmap or discard of its range comes next
resident : (next : Next) (c p : ℕ) (what : What) (base : ℕ → Option ℕ) → MayGoOn next c what
    → ((first len : ℕ) → IsClearingAnswer first len what → ⊥) → IsResident base p ⊎ WasCleared next p → IsResident base p
resident next c p what base may other (inl is) = is
resident Anyone c p what base may other (inr was) = absurd was
resident (Only d) c p what base may other (inr was) = absurd was
resident (AfterClear d first len) c p what base may other (inr was) = absurd (other first len may.1)
resident (AfterPin d first len wired) c p what base may other (inr was) = absurd was

-- and so is each dirty page
was_there : (st : SpaceState) (c : ℕ) (what : What) → KeepsCopies st → MayGoOn st.next c what
    → ((first len : ℕ) → IsClearingAnswer first len what → ⊥) → (p : ℕ) → st.flat.dirty p ≡ true → IsResident st.base p
was_there st c what keeps may other p is = resident st.next c p what st.base may other (keeps.dirty p is)

-- the unmap or discard of a range is lawful
clearing_lawful : (first len : ℕ) (call : Call) (reply : Reply) → IsClearingOf first len call reply → is_lawful reply ≡ true
clearing_lawful first len (Unmap space page) Done is = refl
clearing_lawful first len (Discard space page n) Done is = refl
clearing_lawful first len call reply is = absurd is

-- after a clearing only a lawful answer comes
lawful_next : (next : Next) (c p number : ℕ) (call : Call) (answered : Answered) → MayGoOn next c (Answer number call answered)
    → WasCleared next p → is_lawful answered.reply ≡ true
lawful_next Anyone c p number call answered may was = absurd was
lawful_next (Only d) c p number call answered may was = absurd was
lawful_next (AfterClear d first len) c p number call answered may was = clearing_lawful first len call answered.reply may.1
lawful_next (AfterPin d first len wired) c p number call answered may was = absurd was

-- a discard is of the range that was cleared
discards_cleared : (first len page n p : ℕ) (space : ℕ) (reply : Reply) → IsClearingOf first len (Discard space page n) reply
    → in_range first len p ≡ true → in_range page n p ≡ true
discards_cleared first len page n p space Done is was =
    subst (λ k. in_range page k p ≡ true) (sym is.1) (subst (λ k. in_range k len p ≡ true) (sym is.0) was)
discards_cleared first len page n p space reply is was = absurd is

discard_next : (next : Next) (c p number space page n : ℕ) (answered : Answered)
    → MayGoOn next c (Answer number (Discard space page n) answered) → WasCleared next p → in_range page n p ≡ true
discard_next Anyone c p number space page n answered may was = absurd was
discard_next (Only d) c p number space page n answered may was = absurd was
discard_next (AfterClear d first len) c p number space page n answered may was =
    discards_cleared first len page n p space answered.reply may.1 was
discard_next (AfterPin d first len wired) c p number space page n answered may was = absurd was

-- and the pages of the range go with the region
goes_cleared : (st : SpaceState) (c p : ℕ) (region : Option Region) → IsClearedAt st c region → WasCleared st.next p → goes region p ≡ true
goes_cleared st c p None is was = absurd is
goes_cleared st c p (Some r) is was = subst (λ n. WasCleared n p) is.next was

-- Answers.

-- an answer without service is no lawful reply, and leaves the flat memory
pub unlawful : (reply : Reply) → IsWithoutService reply → is_lawful reply ≡ false
unlawful (NoFrames wired claimed held) is = refl
unlawful (StoreFault space count) is = refl
unlawful NoMemory is = refl
unlawful (Busy page) is = refl
unlawful reply is = absurd is

pub answered_same : (f : Flat) (call : Call) (reply : Reply) → IsWithoutService reply → answered_flat f call reply ≡ f
answered_same f call (NoFrames wired claimed held) is = refl
answered_same f call (StoreFault space count) is = refl
answered_same f call NoMemory is = refl
answered_same f call (Busy page) is = refl
answered_same f call reply is = absurd is

-- and every page its frame
pub same_base : (st : SpaceState) (frames : Bool) (call : Call) (reply : Reply) → is_lawful reply ≡ false
    → frames ≡ frees_its_page st call reply → (p : ℕ) → base_after_answer st.base frames call p ≡ st.base p
same_base st frames call reply none parts p = ap (λ b. base_after_answer st.base b call p)
    (parts ∙ sym (frees-unlawful st call reply none)) ∙ base-unnamed st.base call p

-- any other does what its call does, where the flat memory has its reply and its pages
pub record IsServed (st : SpaceState) (c : ℕ) (call : Call) (reply : Reply) : Type 0 where
  pub does : answered_flat st.flat call reply ≡ after_call st.flat call
  pub lawful : is_lawful reply ≡ is_lawful (reply_of st.flat call)
  pub pages : is_lawful reply ≡ true → HasItsPages st c call

word_lawful : (told : Bool) (asked : Reply) (tied : Option ℕ) (word : ℕ) → IsWord told asked tied word → true ≡ is_lawful asked
word_lawful true asked tied word is = sym (ap is_lawful is)
word_lawful false asked tied word is = sym (ap is_lawful is.0.1)

pub answer_is : (st : SpaceState) (c : ℕ) (call : Call) (reply : Reply) → ReplyAllowed st c call reply
    → IsWithoutService reply ⊎ IsServed st c call reply
answer_is st c call (NoFrames wired claimed held) allowed = inl tt
answer_is st c call (StoreFault space count) allowed = inl tt
answer_is st c call NoMemory allowed = inl tt
answer_is st c call (Busy page) allowed = inl tt
answer_is st c call (Value word) allowed = inr (record { does = refl; lawful = word_lawful _ _ _ word allowed.0; pages = allowed.1 })
answer_is st c call reply allowed = inr (record { does = refl; lawful = sym (ap is_lawful allowed.0); pages = allowed.1 })

-- a page that is dirty though it may have been written was so before, and wasn't written
still_dirty : (here dirty : Bool) → (if here then false else dirty) ≡ true → (dirty ≡ true) × (here ≡ false)
still_dirty true dirty is = absurd (false≢true is)
still_dirty false dirty is = (is, refl)

-- a page that is dirty after a store was so before, or the store was lawful and of this page
dirty_or_here : (lawful here dirty : Bool) → (if lawful && here then true else dirty) ≡ true
    → (dirty ≡ true) ⊎ ((lawful ≡ true) × (here ≡ true))
dirty_or_here true true dirty is = inr (refl, refl)
dirty_or_here true false dirty is = inl is
dirty_or_here false here dirty is = inl is

-- an evict that gives the frame up leaves its page clean
evicted : (frames lawful here dirty : Bool) (o : Option ℕ) → (frames ≡ true → lawful ≡ true)
    → (if lawful && here then false else dirty) ≡ true → (dirty ≡ true → (f : ℕ) × (o ≡ Some f))
    → (f : ℕ) × ((if frames && here then None else o) ≡ Some f)
evicted false lawful here dirty o gives is was = was (still_dirty (lawful && here) dirty is).0
evicted true true true dirty o gives is was = absurd (false≢true is)
evicted true true false dirty o gives is was = was is
evicted true false here dirty o gives is was = absurd (false≢true (gives refl))

module _ (st : SpaceState) (keeps : KeepsCopies st) (frames : Bool) (c number : ℕ) where
  -- the pages that are dirty after an answer that does what its call does
  dirty_served : (call : Call) (answered : Answered) → MayGoOn st.next c (Answer number call answered) → IsServed st c call answered.reply
      → frames ≡ frees_its_page st call answered.reply → (p : ℕ) → (after_call st.flat call).dirty p ≡ true
      → IsResident (base_after_answer st.base frames call) p
  dirty_served (Map space page len kind rights) answered may served parts p is = was_there st c _ keeps may (λ first len un. un) p is
  dirty_served (Grow space page by) answered may served parts p is = was_there st c _ keeps may (λ first len un. un) p is
  dirty_served (Unmap space page) answered may served parts p is =
      let before = still_dirty _ _ is in
      elim (keeps.dirty p before.0) [
        | inl there ↦ there
        | inr was ↦ absurd (true≢false (sym (goes_cleared st c p _ (served.pages (lawful_next st.next c p number _ answered may was)) was)
            ∙ before.1))
      ]
  dirty_served (Protect space page len rights) answered may served parts p is = was_there st c _ keeps may (λ first len un. un) p is
  dirty_served (Load space address) answered may served parts p is = was_there st c _ keeps may (λ first len un. un) p is
  dirty_served (Store space address word) answered may served parts p is =
      elim (dirty_or_here (is_lawful (reply_of st.flat (Store space address word))) (p == page_of address) (st.flat.dirty p) is) [
        | inl before ↦ was_there st c _ keeps may (λ first len un. un) p before
        | inr here ↦ subst (IsResident st.base) (sym (eqb-true p (page_of address) here.1)) (served.pages (served.lawful ∙ here.0))
      ]
  dirty_served (Sync space page) answered may served parts p is = was_there st c _ keeps may (λ first len un. un) p (still_dirty _ _ is).0
  dirty_served (Evict space page) answered may served parts p is =
      evicted frames (is_lawful (reply_of st.flat (Evict space page))) (p == page) (st.flat.dirty p) (st.base p)
      (λ frees. sym served.lawful ∙ (and_parts (is_lawful answered.reply) (is_some (st.base page)) (sym parts ∙ frees)).0) is
      (λ before. was_there st c _ keeps may (λ first len un. un) p before)
  dirty_served (Discard space page n) answered may served parts p is =
      let before = still_dirty _ _ is in
      elim (keeps.dirty p before.0) [
        | inl there ↦ there
        | inr was ↦ absurd (true≢false (sym (and_from _ _
            (sym served.lawful ∙ lawful_next st.next c p number _ answered may was)
            (discard_next st.next c p number space page n answered may was)) ∙ before.1))
      ]
  dirty_served (Wire space page) answered may served parts p is = was_there st c _ keeps may (λ first len un. un) p is
  dirty_served (Unwire space page) answered may served parts p is = was_there st c _ keeps may (λ first len un. un) p is

  -- after one without service
  dirty_unserved : (call : Call) (answered : Answered) → MayGoOn st.next c (Answer number call answered) → IsWithoutService answered.reply
      → (p : ℕ) → st.flat.dirty p ≡ true → IsResident st.base p
  dirty_unserved call answered may without p is =
      elim (keeps.dirty p is) [
        | inl there ↦ there
        | inr was ↦ absurd (true≢false (sym (lawful_next st.next c p number call answered may was) ∙ unlawful answered.reply without))
      ]

  -- and after any
  dirty_answered : (call : Call) (answered : Answered) → MayGoOn st.next c (Answer number call answered)
      → AnswerAllowed st frames c number call answered → (p : ℕ) → (answered_flat st.flat call answered.reply).dirty p ≡ true
      → IsResident (base_after_answer st.base frames call) p
  dirty_answered call answered may allowed p is =
      elim (answer_is st c call answered.reply allowed.reply) [
        | inl without ↦
            let there = dirty_unserved call answered may without p (ap (λ (f : Flat). f.dirty p)
            (sym (answered_same st.flat call answered.reply without)) ∙ is) in
            (there.0, same_base st frames call answered.reply (unlawful answered.reply without) allowed.parts p ∙ there.1)
        | inr served ↦ dirty_served call answered may served allowed.parts p (ap (λ (f : Flat). f.dirty p) (sym served.does) ∙ is)
      ]

-- Other entries.

-- a page that may have got a frame is resident still
filled : (here : Bool) (frame : ℕ) (o : Option ℕ) → (f : ℕ) × (o ≡ Some f) → (f : ℕ) × ((if here then Some frame else o) ≡ Some f)
filled true frame o is = (frame, refl)
filled false frame o is = is

-- one that didn't give its frame up is
left : (here : Bool) (o : Option ℕ) → here ≢ true → (f : ℕ) × (o ≡ Some f) → (f : ℕ) × ((if here then None else o) ≡ Some f)
left true o other is = absurd (other refl)
left false o other is = is

-- and one that wasn't of the range that was cleared
cleared : (within : Bool) (o : Option ℕ) → (f : ℕ) × (o ≡ Some f) → ((f : ℕ) × ((if within then None else o) ≡ Some f)) ⊎ (within ≡ true)
cleared true o is = inr refl
cleared false o is = inl is

-- a dirty page and a clean one are two
differ : (f : Flat) (p page : ℕ) (dirty : Bool) → f.dirty page ≡ dirty → f.dirty p ≢ dirty → (p == page) ≢ true
differ f p page dirty is other here = other (ap f.dirty (eqb-true p page here) ∙ is)

-- a failed write leaves the other pages' copies
other_copy : (f : Flat) (p page : ℕ) → (p == page) ≢ true → (lost f page).copies p ≡ f.copies p
other_copy f p page other =
    elim (cases_Bool (p == page)) [
      | inl here ↦ absurd (other here)
      | inr not_here ↦ cond-false _ _ _ not_here
    ]

-- each entry that a space allows keeps the copies
module _ (st : SpaceState) (e : Entry) (keeps : KeepsCopies st) where
  KeepsCopies-after : (what : What) → MayGoOn st.next e.processor what → WhatAllowed st e.frames e.processor what
      → KeepsCopies (space_after st (record e { what = what }))
  KeepsCopies-after (Answer number call answered) may allowed =
      record {
        clean = copied_answered st.flat call answered.reply keeps.clean;
        dirty = λ p is. inl (dirty_answered st keeps e.frames e.processor number call answered may allowed p is);
      }
  KeepsCopies-after (Out page wrote) may allowed =
      record {
        clean = λ p is. written st.flat (out st.flat page) p (p == page) (keeps.clean p) (λ i. refl) refl refl is;
        dirty = λ p is. inl (was_there st e.processor _ keeps may (λ first len un. un) p (still_dirty _ _ is).0);
      }
  KeepsCopies-after (Failed page true count) may allowed =
      record {
        clean = λ p is.
            let other = differ st.flat p page true allowed.1 (λ dirty. true≢false (sym dirty ∙ is)) in
            equal_again st.flat (lost st.flat page) p (other_copy st.flat p page other) (λ i. refl) (keeps.clean p is);
        dirty = λ p is. inl (was_there st e.processor _ keeps may (λ first len un. un) p is);
      }
  KeepsCopies-after (Failed page false count) may allowed =
      record { clean = keeps.clean; dirty = λ p is. inl (was_there st e.processor _ keeps may (λ first len un. un) p is) }
  KeepsCopies-after (Take page frame want) may allowed =
      record {
        clean = keeps.clean;
        dirty = λ p is. inl (filled (p == page) frame _
            (was_there st e.processor _ keeps may (λ first len un. un) p is));
      }
  KeepsCopies-after (Give page frame) may allowed =
      record {
        clean = keeps.clean;
        dirty = λ p is.
            let other = differ st.flat p page false allowed.1 (λ clean. true≢false (sym is ∙ clean)) in
            inl (left (p == page) _ other (was_there st e.processor _ keeps may (λ first len un. un) p is));
      }
  KeepsCopies-after (Clear first len) may allowed =
      record {
        clean = keeps.clean;
        dirty = λ p is. cleared (in_range first len p) _
            (was_there st e.processor _ keeps may (λ first len un. un) p is);
      }
  KeepsCopies-after (Claim victim page frame need) may allowed =
      record { clean = keeps.clean; dirty = λ p is. inl (was_there st e.processor _ keeps may (λ first len un. un) p is) }
  KeepsCopies-after (UseHeld page frame want) may allowed =
      record {
        clean = keeps.clean;
        dirty = λ p is. inl (filled (p == page) frame _
            (was_there st e.processor _ keeps may (λ first len un. un) p is));
      }
  KeepsCopies-after (Unclaim frame) may allowed =
      record { clean = keeps.clean; dirty = λ p is. inl (was_there st e.processor _ keeps may (λ first len un. un) p is) }
  KeepsCopies-after (Pin first len wired) may allowed =
      record { clean = keeps.clean; dirty = λ p is. inl (was_there st e.processor _ keeps may (λ first len un. un) p is) }
  KeepsCopies-after (Kept first len page frame) may allowed =
      record { clean = keeps.clean; dirty = λ p is. inl (was_there st e.processor _ keeps may (λ first len un. un) p is) }
  KeepsCopies-after what may allowed = absurd allowed

-- Legal histories.

-- what holds of the space that an entry names
of_named : (space : Option ℕ) (s : ℕ) (P : ℕ → Type 0) → is_that s space ≡ true → IfSome space P → P s
of_named None s P named holds = absurd (false≢true named)
of_named (Some t) s P named holds = subst P (eqb-true t s named) holds

pub KeepsCopies-legal : (g : Given) (history : List Entry) (s : ℕ) → IsLegal g history → KeepsCopies (space_at g history s)
KeepsCopies-legal g history s legal =
    IsLegal-keeps g (λ h. KeepsCopies (space_at g h s))
    (λ before e keeps may.
    elim (cases_Bool (names_space s e)) [
      | inl named ↦
          let st = space_at g before s in
          let allowed = of_named e.space s (λ t. SpaceAllows (space_at g before t) e) named may.by_space in
          subst KeepsCopies (sym (space_at-named g before e s named)) (KeepsCopies-after st e keeps e.what allowed.0 allowed.1)
      | inr other ↦ subst KeepsCopies (sym (space_at-other g before e s other)) keeps
    ])
    (record { clean = λ p is. record { copy = λ i. 0; known = refl; equal = λ i. refl }; dirty = λ p is. absurd (false≢true is) })
    history legal

-- Single entries.

module _ (st : SpaceState) (e : Entry) (allowed : SpaceAllows st e) where
  what_allowed : (what : What) → e.what ≡ what → WhatAllowed st e.frames e.processor what
  what_allowed what is = subst (WhatAllowed st e.frames e.processor) is allowed.1

  pub dirty-written : (page : ℕ) → e.what ≡ Out page true → st.flat.dirty page ≡ true
  dirty-written page is = (what_allowed (Out page true) is).1

  pub dirty-failed : (page count : ℕ) → e.what ≡ Failed page true count → st.flat.dirty page ≡ true
  dirty-failed page count is = (what_allowed (Failed page true count) is).1

  pub LosesItsCopy-failed : (page count : ℕ) → e.what ≡ Failed page true count → LosesItsCopy page st (space_after st e)
  LosesItsCopy-failed page count is =
      subst (λ what. LosesItsCopy page st (space_after st (record e { what = what }))) (sym is)
      (record {
        unknown = cond-true _ _ _ (eq-eqb page page refl);
        other_copies = λ p other. other_copy st.flat p page (λ here. other (eqb-true p page here));
        is_dirty = dirty-failed page count is;
        is_resident = (what_allowed (Failed page true count) is).0;
        same_words = refl;
        same_dirty = refl;
        same_regions = refl;
        same_rights = refl;
        same_frames = refl;
      })

  module _ (number : ℕ) (call : Call) (answered : Answered) (is : e.what ≡ Answer number call answered) (without : IsWithoutService answered.reply) where
    pub same_flat : (space_after st e).flat ≡ st.flat
    same_flat = ap (flat_after st.flat) is ∙ answered_same st.flat call answered.reply without

    pub same_frames : (space_after st e).base ≡ st.base
    same_frames =
        let parts = (what_allowed (Answer number call answered) is).parts in
        ap (base_after st.base e.frames) is ∙ (λ i p. same_base st e.frames call answered.reply (unlawful answered.reply without) parts p i)
