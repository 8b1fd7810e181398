-- One entry more: what it does to the lists of a history.
use Rattle.std.proofs.Common.{◌≡◌, ℕ, suc, ◌+◌, Bool, true, false, eqb, List, [], ◌∷◌, ◌++◌, length, filter, refl, ap, ◌∙◌, arith}
use Rattle.pager_model.specs.declared.entry.Entry.{Entry}
use Rattle.pager_model.specs.Entries.{names_space, names_frames, is_of, entries_of}
use Rattle.pager_model.specs.Legal.{entries_in}
use Rattle.journal_core.specs.Parts.{part_list, names_part, is_numbered_of, own_list}
use Rattle.pager_model.specs.Legal.{numbered_from, numbered}
use Rattle.pager_model.proofs.Histories.{filter-push_in, filter-push_out}

part_list-push_by : (spaces part : ℕ) (b : Bool) (history : List Entry) (e : Entry) → (eqb part spaces ≡ b)
    → names_part spaces part e ≡ true → part_list spaces part (history ++ e ∷ []) ≡ part_list spaces part history ++ e ∷ []
part_list-push_by spaces part true history e is names = rw is (filter-push_in names_frames history e (rw is at names))
part_list-push_by spaces part false history e is names = rw is (filter-push_in (names_space part) history e (rw is at names))

-- the part's list grows by an entry that names it
pub part_list-push : (spaces part : ℕ) (history : List Entry) (e : Entry) → names_part spaces part e ≡ true
    → part_list spaces part (history ++ e ∷ []) ≡ part_list spaces part history ++ e ∷ []
part_list-push spaces part history e names = part_list-push_by spaces part (eqb part spaces) history e refl names

part_list-same_by : (spaces part : ℕ) (b : Bool) (history : List Entry) (e : Entry) → (eqb part spaces ≡ b)
    → names_part spaces part e ≡ false → part_list spaces part (history ++ e ∷ []) ≡ part_list spaces part history
part_list-same_by spaces part true history e is names = rw is (filter-push_out names_frames history e (rw is at names))
part_list-same_by spaces part false history e is names = rw is (filter-push_out (names_space part) history e (rw is at names))

pub part_list-same : (spaces part : ℕ) (history : List Entry) (e : Entry) → names_part spaces part e ≡ false
    → part_list spaces part (history ++ e ∷ []) ≡ part_list spaces part history
part_list-same spaces part history e names = part_list-same_by spaces part (eqb part spaces) history e refl names

part_list-nil_by : (spaces part : ℕ) (b : Bool) → eqb part spaces ≡ b → part_list spaces part [] ≡ []
part_list-nil_by spaces part true is = rw is
part_list-nil_by spaces part false is = rw is

pub part_list-nil : (spaces part : ℕ) → part_list spaces part [] ≡ []
part_list-nil spaces part = part_list-nil_by spaces part (eqb part spaces) refl

numbered_from-push : (place : ℕ) (history : List Entry) (e : Entry) (n : ℕ) → place + length history ≡ n
    → numbered_from place (history ++ e ∷ []) ≡ numbered_from place history ++ record { number = n; entry = e } ∷ []
numbered_from-push place [] e n is = let same : place ≡ n = omega arith in ap (λ (k : ℕ). record { number = k; entry = e } ∷ []) same
numbered_from-push place (x ∷ xs) e n is = ap (λ l. record { number = place; entry = x } ∷ l)
    (numbered_from-push (suc place) xs e n (omega arith))

pub numbered-push : (history : List Entry) (e : Entry) → numbered (history ++ e ∷ []) ≡ numbered history
    ++ record { number = length history; entry = e } ∷ []
numbered-push history e = numbered_from-push 0 history e (length history) (omega arith)

-- a processor's list grows by its entry, with the entry's place
pub own_list-push : (c : ℕ) (history : List Entry) (e : Entry) → is_of c e ≡ true
    → own_list c (history ++ e ∷ []) ≡ own_list c history ++ record { number = length history; entry = e } ∷ []
own_list-push c history e own = ap (filter (is_numbered_of c)) (numbered-push history e)
    ∙ filter-push_in (is_numbered_of c) (numbered history) (record { number = length history; entry = e }) own

pub own_list-same : (c : ℕ) (history : List Entry) (e : Entry) → is_of c e ≡ false → own_list c (history ++ e ∷ []) ≡ own_list c history
own_list-same c history e other = ap (filter (is_numbered_of c)) (numbered-push history e)
    ∙ filter-push_out (is_numbered_of c) (numbered history) (record { number = length history; entry = e }) other

pub entries_of-push : (c : ℕ) (history : List Entry) (e : Entry) → is_of c e ≡ true
    → entries_of c (history ++ e ∷ []) ≡ entries_of c history ++ e ∷ []
entries_of-push c history e own = filter-push_in (is_of c) history e own

pub entries_of-same : (c : ℕ) (history : List Entry) (e : Entry) → is_of c e ≡ false
    → entries_of c (history ++ e ∷ []) ≡ entries_of c history
entries_of-same c history e other = filter-push_out (is_of c) history e other

own_entries_by : (c place : ℕ) (x : Entry) (xs : List Entry) (b : Bool) → is_of c x ≡ b
    → entries_in (filter (is_numbered_of c) (numbered_from (suc place) xs)) ≡ entries_of c xs
    → entries_in (filter (is_numbered_of c) (numbered_from place (x ∷ xs))) ≡ entries_of c (x ∷ xs)
own_entries_by c place x xs true is rest = rw is (ap (λ l. x ∷ l) rest)
own_entries_by c place x xs false is rest = rw is rest

own_entries_from : (c place : ℕ) (history : List Entry) → entries_in (filter (is_numbered_of c) (numbered_from place history))
    ≡ entries_of c history
own_entries_from c place [] = refl
own_entries_from c place (x ∷ xs) = own_entries_by c place x xs (is_of c x) refl (own_entries_from c (suc place) xs)

-- without their places a processor's numbered entries are its entries
pub own_entries : (c : ℕ) (history : List Entry) → entries_in (own_list c history) ≡ entries_of c history
own_entries c history = own_entries_from c 0 history
