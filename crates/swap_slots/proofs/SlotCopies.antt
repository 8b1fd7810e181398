-- The copies of a slot store as those of a backing store.
use Rattle.std.proofs.Common.{◌≡◌, ◌≢◌, ℕ, zero, suc, ◌+◌, ◌-◌, ◌^◌, ◌≤◌, Bool, true, false, cond, ◌&&◌, ◌==◌, nat_lt, nat_le, min, List, [], ◌∷◌, get_or, Option, Some, None, IfSome, inl, inr, refl, sym, ap, ◌∙◌, subst, arith, eq-eqb}
use Rattle.std.specs.List.{list_any, list_all, range_with_len}
use Rattle.std.proofs.lemmas.Bool.{cases_lt, ne_eqb, false≢true}
use Rattle.std.proofs.lemmas.Bool.Decides.{nat_tests}
use Rattle.std.proofs.lemmas.Option.{none-some}
use Rattle.pager_model.specs.Bounds.{space_pages}
use Rattle.pager_model.specs.Regions.{in_range}
use Rattle.pager_model.specs.SpaceStates.{Rises, last_count}
use Rattle.pager_model.specs.Stored.{copy_in, copy_at, keeps_at, zero_words, SameCopies, SetsCopy, DropsCopies, TellsZero}
use Rattle.swap_slots.specs.declared.table.PageCopy.{PageCopy}
use Rattle.swap_slots.specs.declared.table.PageCopy.TheVariants.{Zero, Lost, Slot}
use Rattle.swap_slots.specs.Devices.{Device, words_at, SameWords, SetsWords}
use Rattle.swap_slots.specs.SlotState.{SlotState, words_of, copies_from, is_zero, page_count, all_pages, stored_slots, WritesTo}
use Rattle.swap_slots.specs.Slots.{copy_of, slot_in, HaveOwnSlots, IsSlotFor, SetsPage}
use Rattle.swap_slots.proofs.SlotTables.{of_slot, page_cases, slot_apart}

-- ---- one page's copy

copy_in-from : (device : Device) (first : ℕ) (cs : List PageCopy) (i page : ℕ) → page ≡ first + i
    → copy_in (copies_from device first cs) page ≡ words_of device (get_or cs i Zero)
copy_in-from device first [] i page at = refl
copy_in-from device first (c ∷ cs) zero page at =
    ap (λ b. cond b (words_of device c) (copy_in (copies_from device (first + 1) cs) page)) (eq-eqb page first (omega (arith, at)))
copy_in-from device first (c ∷ cs) (suc i) page at =
    ap (λ b. cond b (words_of device c) (copy_in (copies_from device (first + 1) cs) page))
    (ne_eqb page first (λ same. omega (arith, at, same)))
    ∙ copy_in-from device (first + 1) cs i page (omega (arith, at))

-- the copy of a page is what its place says
pub copy_at-slots : (s : SlotState) (page : ℕ) → copy_at (stored_slots s) page ≡ words_of s.device (copy_of s.slots page)
unfolding copy_at
copy_at-slots s page = copy_in-from s.device 0 s.slots.pages page page (omega arith)

-- ---- the pages that it keeps

list_any-range : (n first page : ℕ) → list_any (λ p. page == p) (range_with_len first n) ≡ (nat_le first page && nat_lt page (first + n))
list_any-range zero first page = grind (arith, nat_tests)
list_any-range (suc n) first page = rw (list_any-range n (first + 1) page) (grind (arith, nat_tests))

among_space : (page : ℕ) → list_any (λ p. page == p) all_pages ≡ nat_lt page page_count
unfolding all_pages
among_space page = list_any-range page_count 0 page ∙ grind (arith, nat_tests)

counted : page_count ≡ space_pages
unfolding page_count
counted = refl

-- it keeps the pages of a space
pub keeps_at-slots : (s : SlotState) (page : ℕ) → keeps_at (stored_slots s) page ≡ nat_lt page space_pages
unfolding keeps_at
keeps_at-slots s page = among_space page ∙ ap (nat_lt page) counted

-- ---- what a read gives

-- the copy of a page without a slot is zero or unknown
pub reads_zero : (s : SlotState) (page : ℕ) → slot_in (copy_of s.slots page) ≡ None
    → IfSome (copy_at (stored_slots s) page) (λ copy. zero_words ≡ copy)
reads_zero s page none =
    let P : Option (List ℕ) → Type 0 = λ o. IfSome o (λ copy. zero_words ≡ copy) in
    subst P (sym (copy_at-slots s page)) (by_copy (copy_of s.slots page) none)
  where
    by_copy : (c : PageCopy) → slot_in c ≡ None → IfSome (words_of s.device c) (λ copy. zero_words ≡ copy)
    by_copy Zero none = refl
    by_copy Lost none = tt
    by_copy (Slot t) some = absurd (none-some t (sym some))

-- that of a page with a slot is the slot's words
pub reads_slot : (s : SlotState) (page slot : ℕ) (words : List ℕ) → slot_in (copy_of s.slots page) ≡ Some slot
    → IfSome (words_at s.device slot) (λ known. words ≡ known) → IfSome (copy_at (stored_slots s) page) (λ copy. words ≡ copy)
reads_slot s page slot words has known =
    let P : Option (List ℕ) → Type 0 = λ o. IfSome o (λ copy. words ≡ copy) in
    subst P (ap (words_of s.device) (sym (of_slot (copy_of s.slots page) slot has)) ∙ sym (copy_at-slots s page)) known

-- ---- what its calls do

pub unchanged : (s : SlotState) → SameCopies (stored_slots s) (stored_slots s)
unchanged s = record { tells = refl; copies = λ _ p. refl; keeps = λ p. refl }

pub same_copies : (old new : SlotState) → new.slots ≡ old.slots → SameWords old.device new.device
    → SameCopies (stored_slots old) (stored_slots new)
unfolding keeps_at
same_copies old new slots words = record {
  tells = words.tells;
  copies = λ told p.
      copy_at-slots new p
      ∙ (ap (λ all. words_of new.device (copy_of all p)) slots
      ∙ (same_words (copy_of old.slots p) told ∙ sym (copy_at-slots old p)));
  keeps = λ p. refl;
}
  where
    same_words : (c : PageCopy) → old.device.tells ≡ true → words_of new.device c ≡ words_of old.device c
    same_words Zero told = refl
    same_words Lost told = refl
    same_words (Slot s) told = words.words told s

-- the copy of one page is set, where those of the others are the same
pub sets_copy : (old new : SlotState) (page : ℕ) (copy : PageCopy) (words : Option (List ℕ)) → SetsPage page copy old.slots new.slots
    → new.device.tells ≡ old.device.tells → (old.device.tells ≡ true → words_of new.device copy ≡ words)
    → (old.device.tells ≡ true → (q : ℕ) → q ≢ page → words_of new.device (copy_of old.slots q) ≡ words_of old.device (copy_of old.slots q))
    → SetsCopy page words (stored_slots old) (stored_slots new)
unfolding keeps_at
sets_copy old new page copy words sets tells here there =
    record { tells = tells; copies = copies; keeps = λ p kept. kept; others = λ p other. refl }
  where
    copies : old.device.tells ≡ true → (p : ℕ) → copy_at (stored_slots new) p ≡ cond (p == page) words (copy_at (stored_slots old) p)
    copies told p = elim (page_cases page copy old.slots new.slots sets p) [
      | inl same ↦
          copy_at-slots new p
          ∙ (ap (words_of new.device) same.1
          ∙ (here told ∙ ap (λ b. cond b words (copy_at (stored_slots old) p)) (sym (eq-eqb p page same.0))))
      | inr other ↦
          copy_at-slots new p
          ∙ (ap (words_of new.device) other.1
          ∙ (there told p other.0
          ∙ (sym (copy_at-slots old p) ∙ ap (λ b. cond b words (copy_at (stored_slots old) p)) (sym (ne_eqb p page other.0)))))
    ]

-- what is written to a page's slot leaves the words of every other page
others_same : (old new : SlotState) (page s : ℕ) (words : Option (List ℕ)) → HaveOwnSlots old.slots → IsSlotFor old.slots page s
    → SetsWords s words old.device new.device
    → old.device.tells ≡ true → (q : ℕ) → q ≢ page → words_of new.device (copy_of old.slots q) ≡ words_of old.device (copy_of old.slots q)
others_same old new page s words own for wrote told q other = by_copy (copy_of old.slots q) refl
  where
    by_copy : (c : PageCopy) → copy_of old.slots q ≡ c → words_of new.device c ≡ words_of old.device c
    by_copy Zero at = refl
    by_copy Lost at = refl
    by_copy (Slot t) at =
        let apart : t ≢ s = λ same. slot_apart old.slots page s q own for other (ap slot_in at ∙ ap (λ n. Some n) same) in
        wrote.words told t ∙ ap (λ b. cond b words (words_at old.device t)) (ne_eqb t s apart)

pub sets_written : (old new : SlotState) (page s : ℕ) (words : List ℕ) → HaveOwnSlots old.slots
    → WritesTo page s (Slot s) (Some words) old new → SetsCopy page (Some words) (stored_slots old) (stored_slots new)
sets_written old new page s words own writes =
    sets_copy old new page (Slot s) (Some words) writes.set writes.wrote.tells
    (λ told. writes.wrote.words told s ∙ ap (λ b. cond b (Some words) (words_at old.device s)) (eq-eqb s s refl))
    (others_same old new page s (Some words) own writes.slot writes.wrote)

pub sets_failed : (old new : SlotState) (page s : ℕ) → HaveOwnSlots old.slots → WritesTo page s Lost None old new
    → SetsCopy page None (stored_slots old) (stored_slots new)
sets_failed old new page s own writes =
    sets_copy old new page Lost None writes.set writes.wrote.tells (λ told. refl)
    (others_same old new page s None own writes.slot writes.wrote)

-- a page without a slot is lost, and its device is as before
pub sets_lost : (old new : SlotState) (page : ℕ) → new.device ≡ old.device → SetsPage page Lost old.slots new.slots
    → SetsCopy page None (stored_slots old) (stored_slots new)
sets_lost old new page same sets =
    sets_copy old new page Lost None sets (ap (λ d. d.tells) same) (λ told. refl)
    (λ told q other. ap (λ d. words_of d (copy_of old.slots q)) same)

-- the pages of a range are zero
pub drops_copies : (old new : SlotState) (first len : ℕ) → new.device ≡ old.device → new.refused ≡ old.refused
    → ((p : ℕ) → copy_of new.slots p ≡ cond (in_range first len p) Zero (copy_of old.slots p))
    → DropsCopies first len (stored_slots old) (stored_slots new)
unfolding keeps_at
drops_copies old new first len same refused zeroed = record {
  tells = ap (λ d. d.tells) same;
  copies = λ told p.
      copy_at-slots new p
      ∙ (ap (λ d. words_of d (copy_of new.slots p)) same
      ∙ (ap (words_of old.device) (zeroed p)
      ∙ (chosen (in_range first len p) (copy_of old.slots p) ∙ ap (λ w. cond (in_range first len p) (Some zero_words) w)
      (sym (copy_at-slots old p)))));
  keeps = λ p out. refl;
  faults = ap (λ d. min (d.faults + new.refused) last_count) same ∙ ap (λ n. min (old.device.faults + n) last_count) refused;
}
  where
    chosen : (b : Bool) (c : PageCopy) → words_of old.device (cond b Zero c) ≡ cond b (Some zero_words) (words_of old.device c)
    chosen true c = refl
    chosen false c = refl

-- ---- that all are zero

all_zero : (cs : List PageCopy) (i : ℕ) → list_all is_zero cs ≡ true → get_or cs i Zero ≡ Zero
all_zero [] i all = refl
all_zero (Zero ∷ cs) zero all = refl
all_zero (Zero ∷ cs) (suc i) all = all_zero cs i all
all_zero (Lost ∷ cs) i all = absurd (false≢true all)
all_zero (Slot s ∷ cs) i all = absurd (false≢true all)

pub tells_zero : (s : SlotState) → (s.device.tells && list_all is_zero s.slots.pages) ≡ true → TellsZero (stored_slots s)
tells_zero s told = both s.device.tells (list_all is_zero s.slots.pages) refl refl told
  where
    both : (t z : Bool) → s.device.tells ≡ t → list_all is_zero s.slots.pages ≡ z → (t && z) ≡ true → TellsZero (stored_slots s)
    both true z at all h =
        record { tells = at; zero = λ p. copy_at-slots s p ∙ ap (words_of s.device) (all_zero s.slots.pages p (all ∙ h)) }
    both false z at all h = absurd (false≢true h)

-- ---- its faults

-- where the device's count rises, so does that of the store
pub never_falls : (device refused device_after refused_after : ℕ) → device ≤ device_after → refused ≤ refused_after
    → min (device + refused) last_count ≤ min (device_after + refused_after) last_count
never_falls device refused device_after refused_after device_more refused_more = omega arith

pub capped : (device refused : ℕ) → min (device + refused) last_count ≤ 2 ^ 64 - 1
capped device refused = omega arith

pub rises_device : (old new : SlotState) → new.refused ≡ old.refused → Rises old.device.faults new.device.faults
    → Rises (min (old.device.faults + old.refused) last_count) (min (new.device.faults + new.refused) last_count)
rises_device old new same (inl above) = elim (cases_lt (new.device.faults + new.refused) last_count) [
  | inl low ↦ inl (omega arith)
  | inr high ↦ inr (omega arith)
]
rises_device old new same (inr last) = inr (omega arith)

pub rises_refused : (old new : SlotState) → new.device ≡ old.device → new.refused ≡ min (old.refused + 1) last_count
    → Rises (min (old.device.faults + old.refused) last_count) (min (new.device.faults + new.refused) last_count)
rises_refused old new same more =
    let faults : new.device.faults ≡ old.device.faults = ap (λ d. d.faults) same in
    elim (cases_lt (old.device.faults + old.refused) last_count) [
      | inl low ↦ elim (cases_lt (new.device.faults + new.refused) last_count) [
        | inl below ↦ inl (omega arith)
        | inr past ↦
            inr (omega arith)
      ]
      | inr high ↦ inr (omega arith)
    ]
