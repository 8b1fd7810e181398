-- The words that stores wrote, by their keys, and what an answer does to them.
use Rattle.std.proofs.Common.{◌≡◌, ◌≢◌, ◌≤◌, ◌<◌, ◌+◌, ◌*◌, ◌&&◌, ◌==◌, ℕ, Bool, true, false, cond, if◌then◌else◌, unwrap_or, List, Result, Ok, Err, Option, Some, None, inl, inr, refl, sym, ap, ◌∙◌, subst, arith}
use Rattle.std.specs.BTreeMap.{BTreeMap, get, is_at}
use Rattle.std.specs.Cmp.{unsigned_tied}
use Rattle.std.specs.Ordering.{nat_cmp}
use Rattle.std.specs.Result.{OnOk}
use Rattle.std.proofs.lemmas.Bool.{cases_Bool, cond-true, cond-false, true≢false}
use Rattle.std.proofs.lemmas.Bool.Decides.{nat_tests}
use Rattle.pager_model.specs.declared.call.Call.{Call}
use Rattle.pager_model.specs.declared.call.Call.TheVariants.{Unmap, Store, Discard}
use Rattle.pager_model.specs.declared.entry.What.{What}
use Rattle.pager_model.specs.declared.entry.What.TheVariants.{Answer, Out, Failed, Take, Give, Clear, Claim, UseHeld, DropHeld, Got, Unclaim, Refused, Pin, Kept, Rest}
use Rattle.pager_model.specs.declared.region.Region.{Region}
use Rattle.pager_model.specs.declared.reply.Answered.{Answered}
use Rattle.pager_model.specs.declared.reply.Reply.{Reply}
use Rattle.pager_model.specs.Flat.{Flat, goes, is_lawful, page_of, reply_of, word_of, words_after}
use Rattle.pager_model.specs.Regions.{discard_reply_at, in_range, range_in, region_at}
use Rattle.pager_model.specs.SpaceStates.{SpaceState, ReplyAllowed, answered_flat, flat_after}
use Rattle.pager_laws.proofs.CopyLaws.{answer_is, answered_same, unlawful}
use Rattle.pager_laws.proofs.FlatRefusals.{after_refusal}
use Rattle.told_space.specs.Told.{AllowsWhat, HasWords, key_of, word_in}

-- Keys.

-- a page's keys are those from one multiple of 1,024 to the next
pub key_within : (first len p i : ℕ) → i < 1024 → in_range first len p ≡ true → (first * 1024 ≤ key_of p i) × (key_of p i < (first + len) * 1024)
key_within first len p i low is = (grind (arith, nat_tests), grind (arith, nat_tests))

pub key_outside : (first len p i k : ℕ) → i < 1024 → in_range first len p ≡ false → first * 1024 ≤ k → k < (first + len) * 1024 → key_of p i ≢ k
key_outside first len p i k low is from below = λ same. grind (arith, nat_tests)

-- two words with one key are one
key_alike : (p i q j : ℕ) → i < 1024 → j < 1024 → (key_of q j == key_of p i) ≡ ((p == q) && (i == j))
key_alike p i q j low lower = grind (arith, nat_tests)

tied : (k q : ℕ) → is_at (nat_cmp k) q ≡ (k == q)
tied k q = unsigned_tied k q

word-some : (b : Bool) (word : ℕ) (o : Option ℕ) → unwrap_or (cond b (Some word) o) 0 ≡ (if b then word else unwrap_or o 0)
word-some true word o = refl
word-some false word o = refl

-- one word is written
pub word_written : (old new : BTreeMap ℕ ℕ) (q j word : ℕ) → j < 1024
    → ((k : ℕ) → get nat_cmp new k ≡ cond (is_at (nat_cmp (key_of q j)) k) (Some word) (get nat_cmp old k))
    → (p i : ℕ) → i < 1024 → word_in new p i ≡ (if (p == q) && (i == j) then word else word_in old p i)
word_written old new q j word lower writes p i low =
    ap (λ o. unwrap_or o 0) (writes (key_of p i))
    ∙ ap (λ b. unwrap_or (cond b (Some word) (get nat_cmp old (key_of p i))) 0) (tied (key_of q j) (key_of p i) ∙ key_alike p i q j low lower)
    ∙ word-some ((p == q) && (i == j)) word (get nat_cmp old (key_of p i))

-- a map without words of a range, and with the other words of another map
pub word_cleared : (old new : BTreeMap ℕ ℕ) (first len : ℕ)
    → ((k : ℕ) → first * 1024 ≤ k → k < (first + len) * 1024 → get nat_cmp new k ≡ None)
    → ((k : ℕ) → (first * 1024 ≤ k → k < (first + len) * 1024 → ⊥) → get nat_cmp new k ≡ get nat_cmp old k)
    → (p i : ℕ) → i < 1024 → word_in new p i ≡ (if in_range first len p then 0 else word_in old p i)
word_cleared old new first len none others p i low = elim (cases_Bool (in_range first len p)) [
  | inl inside ↦
      let key = key_within first len p i low inside in
      ap (λ o. unwrap_or o 0) (none (key_of p i) key.0 key.1) ∙ sym (cond-true _ _ _ inside)
  | inr outside ↦
      ap (λ o. unwrap_or o 0) (others (key_of p i) (λ from below. key_outside first len p i (key_of p i) low outside from below refl))
      ∙ sym (cond-false _ _ _ outside)
]

-- Answers.

-- a discard that is lawful is of a range in one region
discard_within : (page len : ℕ) (o : Option Region) → is_lawful (discard_reply_at page len o) ≡ true → range_in page len o ≡ true
discard_within page len None h = cc
discard_within page len (Some r) h = elim (cases_Bool (range_in page len (Some r))) [
  | inl within ↦ within
  | inr beyond ↦ absurd (true≢false (sym h ∙ ap is_lawful (cond-false _ _ _ beyond)))
]

pub words_stored : (f : Flat) (old new : BTreeMap ℕ ℕ) (space address word : ℕ) → is_lawful (reply_of f (Store space address word)) ≡ true
    → ((p i : ℕ) → i < 1024
    → word_in new p i ≡ (if (p == page_of address) && (i == word_of address) then word else word_in old p i))
    → HasWords old f.words → HasWords new (words_after f (Store space address word))
words_stored f old new space address word lawful writes has p i low =
    ap (λ b. if b && ((p == page_of address) && (i == word_of address)) then word else f.words p i) lawful
    ∙ ap (λ w. if (p == page_of address) && (i == word_of address) then word else w) (has p i low) ∙ sym (writes p i low)

pub words_unmapped : (f : Flat) (regions : List Region) (old new : BTreeMap ℕ ℕ) (space page : ℕ) → f.regions ≡ regions
    → ((p i : ℕ) → i < 1024 → word_in new p i ≡ (if goes (region_at regions page) p then 0 else word_in old p i))
    → HasWords old f.words → HasWords new (words_after f (Unmap space page))
words_unmapped f regions old new space page same clears has p i low =
    ap (λ rs. if goes (region_at rs page) p then 0 else f.words p i) same
    ∙ ap (λ w. if goes (region_at regions page) p then 0 else w) (has p i low) ∙ sym (clears p i low)

pub words_discarded : (f : Flat) (regions : List Region) (old new : BTreeMap ℕ ℕ) (space page len : ℕ) → f.regions ≡ regions
    → is_lawful (reply_of f (Discard space page len)) ≡ true
    → ((p i : ℕ) → i < 1024
    → word_in new p i ≡ (if range_in page len (region_at regions page) && in_range page len p then 0 else word_in old p i))
    → HasWords old f.words → HasWords new (words_after f (Discard space page len))
words_discarded f regions old new space page len same lawful clears has p i low =
    let within : range_in page len (region_at regions page) ≡ true =
    subst (λ rs. range_in page len (region_at rs page) ≡ true) same (discard_within page len (region_at f.regions page) lawful) in
    ap (λ b. if b && in_range page len p then 0 else f.words p i) (lawful ∙ sym within)
    ∙ ap (λ w. if range_in page len (region_at regions page) && in_range page len p then 0 else w) (has p i low)
    ∙ sym (clears p i low)

-- Entries.

-- an answer that is lawful does to the words what its call does
pub words_served : (st : SpaceState) (c : ℕ) (call : Call) (reply : Reply) → is_lawful reply ≡ true → ReplyAllowed st c call reply
    → (is_lawful (reply_of st.flat call) ≡ true) × ((answered_flat st.flat call reply).words ≡ words_after st.flat call)
words_served st c call reply lawful allowed = elim (answer_is st c call reply allowed) [
  | inl without ↦ absurd (true≢false (sym lawful ∙ unlawful reply without))
  | inr served ↦ (sym served.lawful ∙ lawful, ap (λ (f : Flat). f.words) served.does)
]

-- and any other leaves them
pub words_refused : (st : SpaceState) (c : ℕ) (call : Call) (reply : Reply) → is_lawful reply ≡ false → ReplyAllowed st c call reply
    → (p i : ℕ) → (answered_flat st.flat call reply).words p i ≡ st.flat.words p i
words_refused st c call reply not_lawful allowed p i = elim (answer_is st c call reply allowed) [
  | inl without ↦ ap (λ (f : Flat). f.words p i) (answered_same st.flat call reply without)
  | inr served ↦ ap (λ (f : Flat). f.words p i) served.does ∙ (after_refusal st.flat call (sym served.lawful ∙ not_lawful)).words p i
]

-- Whether an entry is a lawful answer: no other changes a word.
abbrev pub is_served : What → Bool
is_served (Answer number call answered) = is_lawful answered.reply
is_served what = false

pub words_same : (st : SpaceState) (frames : Bool) (c : ℕ) (what : What) → is_served what ≡ false → AllowsWhat st frames c what
    → (p i : ℕ) → (flat_after st.flat what).words p i ≡ st.flat.words p i
words_same st frames c (Answer number call answered) h allowed p i = words_refused st c call answered.reply h allowed.reply p i
words_same st frames c (Failed page true count) h allowed p i = refl
words_same st frames c (Failed page false count) h allowed p i = refl
words_same st frames c (Out page written) h allowed p i = refl
words_same st frames c (Take page frame want) h allowed p i = refl
words_same st frames c (Give page frame) h allowed p i = refl
words_same st frames c (Clear first len) h allowed p i = refl
words_same st frames c (Claim victim page frame need) h allowed p i = refl
words_same st frames c (UseHeld page frame want) h allowed p i = refl
words_same st frames c (DropHeld frame) h allowed p i = refl
words_same st frames c (Got frame) h allowed p i = refl
words_same st frames c (Unclaim frame) h allowed p i = refl
words_same st frames c (Refused wired claimed held) h allowed p i = refl
words_same st frames c (Pin first len wired) h allowed p i = refl
words_same st frames c (Kept first len page frame) h allowed p i = refl
words_same st frames c (Rest short) h allowed p i = refl

-- what holds on a value holds of what follows from it
pub on_ok : {T E P Q : Type 0} (r : Result T E) → (P → Q) → OnOk r P → OnOk r Q
on_ok (Ok x) leads is = leads is
on_ok (Err e) leads is = is

-- what is served does to the words what the entry does
pub words_followed : (old new : BTreeMap ℕ ℕ) (regions : List Region) (what : What) (number : ℕ) (call : Call) (answered : Answered)
    → what ≡ Answer number call answered → is_lawful answered.reply ≡ true
    → ((f : Flat) → f.regions ≡ regions → is_lawful (reply_of f call) ≡ true → HasWords old f.words → HasWords new (words_after f call))
    → (st : SpaceState) (frames : Bool) (c : ℕ) → st.flat.regions ≡ regions → AllowsWhat st frames c what → HasWords old st.flat.words
    → HasWords new (flat_after st.flat what).words
words_followed old new regions what number call answered is lawful serves st frames c same allowed has =
    let had = subst (AllowsWhat st frames c) is allowed in
    let served = words_served st c call answered.reply lawful had.reply in
    subst (λ w. HasWords new (flat_after st.flat w).words) (sym is)
    (subst (HasWords new) (sym served.1) (serves st.flat same served.0 has))
