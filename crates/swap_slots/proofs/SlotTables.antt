-- Which slots are free beside the copies of the pages, and after the copy of one page changes.
use Rattle.std.proofs.Common.{◌≡◌, ◌≢◌, ℕ, ◌+◌, ◌<◌, Bool, true, false, cond, ◌&&◌, not, ◌==◌, nat_lt, List, [], ◌∷◌, length, get_or, Option, Some, None, IfSome, MatchOption, ◌⊎◌, inl, inr, refl, sym, ap, subst, ◌∙◌, arith, get_or-set_other, get_or-set_same, eq-eqb}
use Rattle.std.proofs.Math.ListN.{set, length-set}
use Rattle.std.specs.List.{list_any, count_by, range_with_len}
use Rattle.std.proofs.lemmas.Bool.{cases_eq, cases_Bool, eqb-true, ne_eqb, false≢true}
use Rattle.std.proofs.lemmas.Bool.Decides.{nat_tests}
use Rattle.std.proofs.lemmas.List.Folds.{list_any_at}
use Rattle.std.proofs.lemmas.List.Sums.{sum_by-append}
use Rattle.pager_model.proofs.Ranges.{range_with_len-more}
use Rattle.bit_set.specs.Bits.{IsFirstFrom}
use Rattle.swap_slots.specs.declared.table.PageCopy.{PageCopy}
use Rattle.swap_slots.specs.declared.table.PageCopy.TheVariants.{Zero, Lost, Slot}
use Rattle.swap_slots.specs.FreeSlots.{with_slot, AreSlots}
use Rattle.swap_slots.specs.Slots.{Slots, copy_of, slot_in, is_in, is_free, HaveOwnSlots, IsLowestFree, IsSlotFor, SetsPage, LacksSlot}
use Rattle.swap_slots.proofs.SlotLists.{list_any-set_failing, list_any-none, grown, get_or-grown, list_any-grown, in_grown, in_list}

abbrev pub slots : ℕ → List PageCopy → Slots
slots count pages = record { count = count; pages = pages }

-- ---- the slot of one copy

in_slot : (s : ℕ) (copy : PageCopy) → is_in s copy ≡ true → copy ≡ Slot s
in_slot s Zero h = absurd (false≢true h)
in_slot s Lost h = absurd (false≢true h)
in_slot s (Slot t) h = ap (λ n. Slot n) (sym (eqb-true s t h))

is_in-own : (s : ℕ) (copy : PageCopy) → copy ≡ Slot s → is_in s copy ≡ true
is_in-own s copy at = ap (is_in s) at ∙ eq-eqb s s refl

pub of_slot : (copy : PageCopy) (s : ℕ) → slot_in copy ≡ Some s → copy ≡ Slot s
of_slot Zero s h = absurd cc
of_slot Lost s h = absurd cc
of_slot (Slot t) s h = cc

-- a fact of the slot of a copy
pub at_slot : (P : ℕ → Type 0) (copy : PageCopy) (s : ℕ) → IfSome (slot_in copy) P → copy ≡ Slot s → P s
at_slot P copy s h at = let Q : PageCopy → Type 0 = λ c. IfSome (slot_in c) P in subst Q at h

-- ---- the bits

pub length-with_slot : (bits : List Bool) (copy : PageCopy) (b : Bool) → length (with_slot bits copy b) ≡ length bits
length-with_slot bits Zero b = refl
length-with_slot bits Lost b = refl
length-with_slot bits (Slot s) b = length-set bits s b

get_or-with_slot : (bits : List Bool) (copy : PageCopy) (b : Bool) (s : ℕ) → IfSome (slot_in copy) (λ t. t < length bits)
    → get_or (with_slot bits copy b) s false ≡ cond (is_in s copy) b (get_or bits s false)
get_or-with_slot bits Zero b s inside = refl
get_or-with_slot bits Lost b s inside = refl
get_or-with_slot bits (Slot t) b s inside = elim (cases_eq s t) [
  | inl same ↦
      rw (same, eq-eqb t t refl) (get_or-set_same bits t b false inside)
  | inr other ↦ rw (ne_eqb s t other) (get_or-set_other bits t s b false other)
]

-- ---- the copy of one page changes

-- the slots with this copy of the page
abbrev pub with_copy : Slots → ℕ → PageCopy → Slots
with_copy old page copy = slots old.count (set (grown old.pages page) page copy)

pub sets_page : (old : Slots) (page : ℕ) (copy : PageCopy) → SetsPage page copy old (with_copy old page copy)
sets_page old page copy = record { count = refl; copies = copies }
  where
    copies : (p : ℕ) → copy_of (with_copy old page copy) p ≡ cond (p == page) copy (copy_of old p)
    copies p = elim (cases_eq p page) [
      | inl same ↦
          ap (λ q. get_or (set (grown old.pages page) page copy) q Zero) same
          ∙ (get_or-set_same (grown old.pages page) page copy Zero (in_grown old.pages page)
          ∙ ap (λ b. cond b copy (copy_of old p)) (sym (eq-eqb p page same)))
      | inr other ↦
          get_or-set_other (grown old.pages page) page p copy Zero other
          ∙ (get_or-grown old.pages page p ∙ ap (λ b. cond b copy (copy_of old p)) (sym (ne_eqb p page other)))
    ]

-- the copy that a page has now is its new one, or it is another page and has the copy that it had
pub page_cases : (page : ℕ) (copy : PageCopy) (old new : Slots) → SetsPage page copy old new → (p : ℕ)
    → ((p ≡ page) × (copy_of new p ≡ copy)) ⊎ ((p ≢ page) × (copy_of new p ≡ copy_of old p))
page_cases page copy old new sets p = elim (cases_eq p page) [
  | inl same ↦ inl (same, sets.copies p ∙ ap (λ b. cond b copy (copy_of old p)) (eq-eqb p page same))
  | inr other ↦ inr (other, sets.copies p ∙ ap (λ b. cond b copy (copy_of old p)) (ne_eqb p page other))
]

-- the page may get this copy: the slot of it is there, and no other page has it
pub record MayGet (old : Slots) (page : ℕ) (copy : PageCopy) : Type 0 where
  pub there : IfSome (slot_in copy) (λ s. s < old.count)
  pub apart : IfSome (slot_in copy) (λ s. (p : ℕ) → p ≢ page → slot_in (copy_of old p) ≢ Some s)

module _ (old : Slots) (page : ℕ) (copy : PageCopy) (bits : List Bool) (are : AreSlots old bits) (may : MayGet old page copy) where
  abbrev new : Slots
  new = with_copy old page copy

  abbrev before : PageCopy
  before = copy_of old page

  sets : SetsPage page copy old new
  sets = sets_page old page copy

  pub own_after : HaveOwnSlots new
  own_after = record { there = in_range; apart = distinct }
    where
      in_range : (p s : ℕ) → copy_of new p ≡ Slot s → s < old.count
      in_range p s at = elim (page_cases page copy old new sets p) [
        | inl same ↦ at_slot (λ t. t < old.count) copy s may.there (sym same.1 ∙ at)
        | inr other ↦ are.own.there p s (sym other.1 ∙ at)
      ]

      taken : (p s : ℕ) → p ≢ page → copy_of old p ≡ Slot s → copy ≡ Slot s → ⊥
      taken p s other had at = at_slot (λ t. (q : ℕ) → q ≢ page → slot_in (copy_of old q) ≢ Some t) copy s may.apart at p other
          (ap slot_in had)

      distinct : (p q s : ℕ) → copy_of new p ≡ Slot s → copy_of new q ≡ Slot s → p ≡ q
      distinct p q s one two = elim (page_cases page copy old new sets p) [
        | inl here ↦ elim (page_cases page copy old new sets q) [
          | inl also ↦ here.0 ∙ sym also.0
          | inr other ↦ absurd (taken q s other.0 (sym other.1 ∙ two) (sym here.1 ∙ one))
        ]
        | inr there ↦ elim (page_cases page copy old new sets q) [
          | inl also ↦ absurd (taken p s there.0 (sym there.1 ∙ one) (sym also.1 ∙ two))
          | inr other ↦ are.own.apart p q s (sym there.1 ∙ one) (sym other.1 ∙ two)
        ]
      ]

  -- a slot that the page gets is taken
  any_new : (s : ℕ) → is_in s copy ≡ true → list_any (is_in s) new.pages ≡ true
  any_new s at =
      list_any_at (is_in s) new.pages page Zero (rw (length-set (grown old.pages page) page copy) (in_grown old.pages page))
      (ap (is_in s) (get_or-set_same (grown old.pages page) page copy Zero (in_grown old.pages page)) ∙ at)

  -- a slot that the page had and has no longer is free
  any_old : (s : ℕ) → is_in s copy ≡ false → is_in s before ≡ true → list_any (is_in s) new.pages ≡ false
  any_old s lacks had = list_any-none (is_in s) new.pages Zero (λ p. elim (page_cases page copy old new sets p) [
    | inl same ↦ ap (is_in s) same.1 ∙ lacks
    | inr other ↦ elim (cases_Bool (is_in s (copy_of new p))) [
      | inl held ↦ absurd (other.0 (are.own.apart p page s (sym other.1 ∙ in_slot s (copy_of new p) held)
          (in_slot s before had)))
      | inr none ↦ none
    ]
  ])

  -- any other is as before
  any_other : (s : ℕ) → is_in s copy ≡ false → is_in s before ≡ false → list_any (is_in s) new.pages ≡ list_any (is_in s) old.pages
  any_other s lacks none =
      list_any-set_failing (is_in s) (grown old.pages page) page copy Zero lacks (ap (is_in s) (get_or-grown old.pages page page) ∙ none)
      ∙ list_any-grown old.pages page s

  had_bit : IfSome (slot_in before) (λ s. s < length bits)
  had_bit = inside before refl
    where
      inside : (c : PageCopy) → before ≡ c → IfSome (slot_in c) (λ s. s < length bits)
      inside Zero at = tt
      inside Lost at = tt
      inside (Slot s) at = let low = are.own.there page s at in omega (arith, low, are.wide)

  has_bit : IfSome (slot_in copy) (λ s. s < length (with_slot bits before true))
  has_bit = inside copy may.there
    where
      inside : (c : PageCopy) → IfSome (slot_in c) (λ s. s < old.count) → IfSome (slot_in c) (λ s. s < length (with_slot bits before true))
      inside Zero low = tt
      inside Lost low = tt
      inside (Slot s) low = omega (arith, low, are.wide, length-with_slot bits before true)

  abbrev after : List Bool
  after = with_slot (with_slot bits before true) copy false

  bit_after : (s : ℕ) → get_or after s false ≡ cond (is_in s copy) false (cond (is_in s before) true (get_or bits s false))
  bit_after s =
      get_or-with_slot (with_slot bits before true) copy false s has_bit
      ∙ ap (λ b. cond (is_in s copy) false b) (get_or-with_slot bits before true s had_bit)

  and_false : (b : Bool) → (b && not true) ≡ false
  and_false true = refl
  and_false false = refl

  free_after : (s : ℕ) → get_or after s false ≡ is_free new s
  free_after s = elim (cases_Bool (is_in s copy)) [
    | inl gets ↦
        bit_after s
        ∙ (ap (λ b. cond b false (cond (is_in s before) true (get_or bits s false))) gets
        ∙ sym (ap (λ b. nat_lt s old.count && not b) (any_new s gets) ∙ and_false (nat_lt s old.count)))
    | inr lacks ↦ elim (cases_Bool (is_in s before)) [
      | inl had ↦
          let low : s < old.count = are.own.there page s (in_slot s before had) in
          let test : nat_lt s old.count ≡ true = grind (arith, nat_tests) in
          bit_after s
          ∙ (ap (λ b. cond b false (cond (is_in s before) true (get_or bits s false))) lacks
          ∙ (ap (λ b. cond b true (get_or bits s false)) had
          ∙ sym (ap (λ b. nat_lt s old.count && not b) (any_old s lacks had) ∙ ap (λ b. b && true) test)))
      | inr none ↦
          bit_after s
          ∙ (ap (λ b. cond b false (cond (is_in s before) true (get_or bits s false))) lacks
          ∙ (ap (λ b. cond b true (get_or bits s false)) none
          ∙ (are.free s ∙ sym (ap (λ b. nat_lt s old.count && not b) (any_other s lacks none)))))
    ]
  ]

  pub slots_after : AreSlots new after
  slots_after = record {
    own = own_after;
    free = free_after;
    wide = omega (arith, are.wide, length-with_slot bits before true, length-with_slot (with_slot bits before true) copy false);
  }

-- ---- the slot for a page

not_true : (b : Bool) → not b ≡ true → b ≡ false
not_true true h = absurd (false≢true h)
not_true false h = refl

and_left : (b c : Bool) → (b && c) ≡ true → b ≡ true
and_left true c h = refl
and_left false c h = absurd (false≢true h)

and_right : (b c : Bool) → (b && c) ≡ true → c ≡ true
and_right true c h = h
and_right false c h = absurd (false≢true h)

-- a free slot is there, and no page has it
pub free_there : (all : Slots) (s : ℕ) → is_free all s ≡ true → s < all.count
free_there all s free = let test = and_left (nat_lt s all.count) (not (list_any (is_in s) all.pages)) free in grind (arith, nat_tests, test)

free_apart : (all : Slots) (s p : ℕ) → is_free all s ≡ true → copy_of all p ≡ Slot s → ⊥
free_apart all s p free at =
    false≢true
    (sym (not_true (list_any (is_in s) all.pages) (and_right (nat_lt s all.count) (not (list_any (is_in s) all.pages)) free))
    ∙ list_any_at (is_in s) all.pages p Zero (in_list all.pages p s at) (is_in-own s (copy_of all p) at))

-- no other page has the slot that a page's words go to
pub slot_apart : (all : Slots) (page s p : ℕ) → HaveOwnSlots all → IsSlotFor all page s → p ≢ page → slot_in (copy_of all p) ≢ Some s
slot_apart all page s p own for other has = by_copy (copy_of all page) refl for
  where
    at : copy_of all p ≡ Slot s
    at = of_slot (copy_of all p) s has

    by_copy : (c : PageCopy) → copy_of all page ≡ c → IsSlotFor (slots all.count all.pages) page s → ⊥
    by_copy c here goes = by_slot c here (let P : PageCopy → Type 0 = λ d. MatchOption (slot_in d) (IsLowestFree all s)
        (λ mine. s ≡ mine) in subst P here goes)
      where
        by_slot : (c : PageCopy) → copy_of all page ≡ c → MatchOption (slot_in c) (IsLowestFree all s) (λ mine. s ≡ mine) → ⊥
        by_slot Zero here lowest = free_apart all s p lowest.0 at
        by_slot Lost here lowest = free_apart all s p lowest.0 at
        by_slot (Slot t) here same = other (own.apart p page s at (here ∙ ap (λ n. Slot n) (sym same)))

-- ---- the lowest free slot by the bits

pub lowest_free : (all : Slots) (bits : List Bool) (s : ℕ) → AreSlots all bits → IsFirstFrom bits 0 (Some s) → IsLowestFree all s
lowest_free all bits s are first = (sym (are.free s) ∙ first.1, λ lower below. sym (are.free lower) ∙ first.2 lower (omega arith) below)

pub none_free : (all : Slots) (bits : List Bool) → AreSlots all bits → IsFirstFrom bits 0 None → (s : ℕ) → is_free all s ≡ false
none_free all bits are none s = sym (are.free s) ∙ none s (omega arith)

-- a page without a slot takes the lowest free one, else its own
pub for_unplaced : (all : Slots) (page s : ℕ) → slot_in (copy_of all page) ≡ None → IsLowestFree all s → IsSlotFor all page s
for_unplaced all page s none lowest = let P : Option ℕ → Type 0 = λ o. MatchOption o (IsLowestFree all s) (λ mine. s ≡ mine) in
    subst P (sym none) lowest

-- ---- how many slots are free

abbrev bit : Bool → ℕ
bit b = cond b 1 0

pub count_by-free : (p : ℕ → Bool) (n : ℕ) → p n ≡ true → count_by p (range_with_len 0 (n + 1)) ≡ count_by p (range_with_len 0 n) + 1
count_by-free p n free =
    let one = ap bit free in omega (
      arith,
      ap (count_by p) (range_with_len-more n),
      sum_by-append (λ x. bit (p x)) (range_with_len 0 n) (n ∷ []),
      one,
    )

pub count_by-taken : (p : ℕ → Bool) (n : ℕ) → p n ≡ false → count_by p (range_with_len 0 (n + 1)) ≡ count_by p (range_with_len 0 n)
count_by-taken p n taken =
    let none = ap bit taken in omega (
      arith,
      ap (count_by p) (range_with_len-more n),
      sum_by-append (λ x. bit (p x)) (range_with_len 0 n) (n ∷ []),
      none,
    )

-- a page with a slot to go to doesn't lack one
pub slot_lacked : (slots : Slots) (page s : ℕ) → IsSlotFor slots page s → LacksSlot slots page → ⊥
slot_lacked slots page s at lacks =
    let lowest : IsLowestFree slots s = subst (λ o. MatchOption o (IsLowestFree slots s) (λ own. s ≡ own)) lacks.unplaced at in
    false≢true (sym (lacks.full s) ∙ lowest.0)
