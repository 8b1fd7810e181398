-- The entry of a page by the four rows round it, of which one at most is there.
use Rattle.std.proofs.Common.{◌≡◌, ◌≢◌, ℕ, zero, suc, ◌≤◌, true, cond, eqb, Option, Some, None, is_some, inl, inr, refl, sym, ap, subst, ◌∙◌, arith}
use Rattle.std.specs.Option.{option_or}
use Rattle.std.proofs.lemmas.Bool.{cases_eq, false≢true, eq-eqb, ne_eqb}
use Rattle.std.proofs.lemmas.Option.{none-some, same_Some}
use Rattle.pager_model.specs.declared.tile.Mapping.{Mapping}
use Rattle.pager_model.specs.Extents.{extent_start}
use Rattle.pager_model.proofs.Options.{cases_Option}
use Rattle.tiles.specs.declared.entry.TableEntry.{TableEntry}
use Rattle.tiles.specs.TableEntries.{entry_in, first_entry, entry_of_rows}
use Rattle.tiles.specs.KeptEntries.{IsOne}

pub only_entry : (rows : ℕ → Option Mapping) (page size : ℕ) (v : Mapping) → size ≤ 3 → rows size ≡ Some v
    → ((other : ℕ) → other ≤ 3 → other ≢ size → rows other ≡ None) → entry_of_rows rows page ≡ entry_in size page (Some v)
only_entry rows page zero v low is none =
    ap (λ a. first_entry page a (rows 2) (rows 1) (rows 0)) (none 3 (omega arith) (λ e. omega arith))
    ∙ (ap (λ a. first_entry page None a (rows 1) (rows 0)) (none 2 (omega arith) (λ e. omega arith))
    ∙ (ap (λ a. first_entry page None None a (rows 0)) (none 1 (omega arith) (λ e. omega arith))
    ∙ ap (λ a. first_entry page None None None a) is))
only_entry rows page (suc zero) v low is none =
    ap (λ a. first_entry page a (rows 2) (rows 1) (rows 0)) (none 3 (omega arith) (λ e. omega arith))
    ∙ (ap (λ a. first_entry page None a (rows 1) (rows 0)) (none 2 (omega arith) (λ e. omega arith))
    ∙ ap (λ a. first_entry page None None a (rows 0)) is)
only_entry rows page (suc (suc zero)) v low is none =
    ap (λ a. first_entry page a (rows 2) (rows 1) (rows 0)) (none 3 (omega arith) (λ e. omega arith))
    ∙ ap (λ a. first_entry page None a (rows 1) (rows 0)) is
only_entry rows page (suc (suc (suc zero))) v low is none = ap (λ a. first_entry page a (rows 2) (rows 1) (rows 0)) is
only_entry rows page (suc (suc (suc (suc size)))) v low is none = absurd (omega arith)

pub only_one : (rows : ℕ → Option Mapping) (size : ℕ) → ((other : ℕ) → other ≤ 3 → other ≢ size → rows other ≡ None) → IsOne rows
only_one rows size none a b la lb apart has = elim (cases_eq a size) [
  | inl here ↦ none b lb (λ e. apart (e ∙ sym here))
  | inr off ↦ absurd (false≢true (sym (ap is_some (none a la off)) ∙ has))
]

-- and no row, no entry
pub no_entry : (rows : ℕ → Option Mapping) (page : ℕ) → ((other : ℕ) → other ≤ 3 → rows other ≡ None) → entry_of_rows rows page ≡ None
no_entry rows page none =
    ap (λ a. first_entry page a (rows 2) (rows 1) (rows 0)) (none 3 (omega arith))
    ∙ (ap (λ a. first_entry page None a (rows 1) (rows 0)) (none 2 (omega arith))
    ∙ (ap (λ a. first_entry page None None a (rows 0)) (none 1 (omega arith))
    ∙ ap (λ a. first_entry page None None None a) (none 0 (omega arith))))

-- the same rows, the same entry
pub same_entry : (rows others : ℕ → Option Mapping) (page : ℕ) → ((size : ℕ) → size ≤ 3 → others size ≡ rows size)
    → entry_of_rows others page ≡ entry_of_rows rows page
same_entry rows others page same =
    ap (λ a. first_entry page a (others 2) (others 1) (others 0)) (same 3 (omega arith))
    ∙ (ap (λ a. first_entry page (rows 3) a (others 1) (others 0)) (same 2 (omega arith))
    ∙ (ap (λ a. first_entry page (rows 3) (rows 2) a (others 0)) (same 1 (omega arith))
    ∙ ap (λ a. first_entry page (rows 3) (rows 2) (rows 1) a) (same 0 (omega arith))))

pub same_one : (rows others : ℕ → Option Mapping) → ((size : ℕ) → size ≤ 3 → others size ≡ rows size) → IsOne rows → IsOne others
same_one rows others same one a b la lb apart has = same b lb ∙ one a b la lb apart (sym (ap is_some (same a la)) ∙ has)

-- ---- a row makes an entry

or_first : (a b : Option TableEntry) → is_some a ≡ true → is_some (option_or a b) ≡ true
or_first None b is = absurd (false≢true is)
or_first (Some x) b is = refl

or_second : (a b : Option TableEntry) → is_some b ≡ true → is_some (option_or a b) ≡ true
or_second None b is = is
or_second (Some x) b is = refl

in_some : (size page : ℕ) (o : Option Mapping) → is_some o ≡ true → is_some (entry_in size page o) ≡ true
in_some size page None is = absurd (false≢true is)
in_some size page (Some v) is = refl

pub row_entry : (rows : ℕ → Option Mapping) (page size : ℕ) → size ≤ 3 → is_some (rows size) ≡ true
    → is_some (entry_of_rows rows page) ≡ true
row_entry rows page zero low is =
    or_second (entry_in 3 page (rows 3)) _ (or_second (entry_in 2 page (rows 2)) _
    (or_second (entry_in 1 page (rows 1)) _ (in_some 0 page (rows 0) is)))
row_entry rows page (suc zero) low is =
    or_second (entry_in 3 page (rows 3)) _ (or_second (entry_in 2 page (rows 2)) _
    (or_first (entry_in 1 page (rows 1)) _ (in_some 1 page (rows 1) is)))
row_entry rows page (suc (suc zero)) low is =
    or_second (entry_in 3 page (rows 3)) _ (or_first (entry_in 2 page (rows 2)) _ (in_some 2 page (rows 2) is))
row_entry rows page (suc (suc (suc zero))) low is = or_first (entry_in 3 page (rows 3)) _ (in_some 3 page (rows 3) is)
row_entry rows page (suc (suc (suc (suc size)))) low is = absurd (omega arith)

pub entry_none : (rows : ℕ → Option Mapping) (page : ℕ) → entry_of_rows rows page ≡ None → (size : ℕ) → size ≤ 3 → rows size ≡ None
entry_none rows page none size low = elim (cases_Option (rows size)) [
  | inl is ↦ is
  | inr some ↦ absurd (false≢true (sym (ap is_some none) ∙ row_entry rows page size low (ap is_some some.1)))
]

-- ---- an entry has a row

pub record HasRow (rows : ℕ → Option Mapping) (page : ℕ) (entry : TableEntry) : Type 0 where
  pub low : entry.extent.size ≤ 3
  pub is : rows entry.extent.size ≡ Some entry.mapping
  pub starts : entry.extent.first ≡ extent_start entry.extent.size page

from_row : (rows : ℕ → Option Mapping) (page size : ℕ) (v : Mapping) (entry : TableEntry) → size ≤ 3 → rows size ≡ Some v
    → entry_in size page (Some v) ≡ Some entry → HasRow rows page entry
from_row rows page size v entry low is at = subst (HasRow rows page) (same_Some _ entry at) (record { low = low; is = is; starts = refl })

pub entry_row : (rows : ℕ → Option Mapping) (page : ℕ) (entry : TableEntry) → entry_of_rows rows page ≡ Some entry → HasRow rows page entry
entry_row rows page entry at = elim (cases_Option (rows 3)) [
  | inr large ↦ from_row rows page 3 large.0 entry (omega arith) large.1
      (sym (ap (λ a. first_entry page a (rows 2) (rows 1) (rows 0)) large.1) ∙ at)
  | inl none3 ↦
      let at2 : first_entry page None (rows 2) (rows 1) (rows 0) ≡ Some entry =
      sym (ap (λ a. first_entry page a (rows 2) (rows 1) (rows 0)) none3) ∙ at in
      elim (cases_Option (rows 2)) [
        | inr middle ↦ from_row rows page 2 middle.0 entry (omega arith) middle.1
            (sym (ap (λ a. first_entry page None a (rows 1) (rows 0)) middle.1) ∙ at2)
        | inl none2 ↦
            let at1 : first_entry page None None (rows 1) (rows 0) ≡ Some entry =
            sym (ap (λ a. first_entry page None a (rows 1) (rows 0)) none2) ∙ at2 in
            elim (cases_Option (rows 1)) [
              | inr small ↦ from_row rows page 1 small.0 entry (omega arith) small.1
                  (sym (ap (λ a. first_entry page None None a (rows 0)) small.1) ∙ at1)
              | inl none1 ↦
                  let at0 : first_entry page None None None (rows 0) ≡ Some entry =
                  sym (ap (λ a. first_entry page None None a (rows 0)) none1) ∙ at1 in
                  elim (cases_Option (rows 0)) [
                    | inr base ↦ from_row rows page 0 base.0 entry (omega arith) base.1
                        (sym (ap (λ a. first_entry page None None None a) base.1) ∙ at0)
                    | inl none0 ↦ absurd (none-some entry (sym (ap (λ a. first_entry page None None None a) none0) ∙ at0))
                  ]
            ]
      ]
]

-- ---- tests

pub decided : (a b : ℕ) (x y z : Option TableEntry) → (a ≡ b → z ≡ x) → (a ≢ b → z ≡ y) → z ≡ cond (eqb a b) x y
decided a b x y z same apart = elim (cases_eq a b) [
  | inl e ↦ same e ∙ sym (ap (λ t. cond t x y) (eq-eqb a b e))
  | inr n ↦ apart n ∙ sym (ap (λ t. cond t x y) (ne_eqb a b n))
]
