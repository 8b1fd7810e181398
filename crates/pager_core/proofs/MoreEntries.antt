-- A listed history, and one entry more.
use Rattle.std.proofs.Common.{◌≡◌, ℕ, ◌+◌, ◌-◌, ◌≤◌, List, [], ◌∷◌, ◌++◌, length, map, refl, ap, sym, ◌∙◌, arith}
use Rattle.std.specs.List.{range_with_len}
use Rattle.std.proofs.lemmas.List.{length_push}
use Rattle.std.proofs.Math.ListN.{length-map}
use Rattle.pager_model.specs.declared.entry.Entry.{Entry}
use Rattle.pager_model.specs.declared.entry.Numbered.{Numbered}
use Rattle.pager_model.specs.Legal.{entries_in}
use Rattle.pager_model.specs.Settings.{Given}
use Rattle.pager_core.specs.declared.listed.Listed.{Listed}
use Rattle.pager_core.specs.Listing.{IsListed}
use Rattle.pager_core.specs.Running.{IsNumbered}
use Rattle.pager_core.proofs.Advances.{IsWhole, MachineParts, entries-push, numbered-push}

-- what a list stands for
abbrev pub listed_for : Listed → Given → List Entry → Type 0
listed_for l g h = IsListed l.history.items l.history.room h

-- the room that is left
abbrev pub room_of : Listed → ℕ
room_of l = l.history.room - length l.history.items

-- an entry behind the others
abbrev behind : List Numbered → Entry → List Numbered
behind items e = items ++ record { number = length items; entry = e } ∷ []

-- the history of a machine, in the room that it has
pub IsListed-machine : (m : MachineParts) → IsWhole m → IsListed m.run.history m.capacity (entries_in m.run.history)
IsListed-machine m machine = record {
  entries = refl;
  numbered = machine.lawful.numbered;
  within = (let room = machine.room in omega (arith, room));
}

pub listed_more : (items : List Numbered) (room : ℕ) (h : List Entry) (e : Entry) → IsListed items room h → 1 ≤ room - length items
    → IsListed (behind items e) room (h ++ e ∷ [])
listed_more items room h e is some =
    record {
      entries = entries-push items (length items) e ∙ ap (λ l. l ++ e ∷ []) is.entries;
      numbered = numbered-push items e is.numbered;
      within = (let n : Numbered = record { number = length items; entry = e } in let long = length_push items n in omega (arith, long, some));
    }

-- Numbered entries are known by their entries.

same_one : (x y : Numbered) → x.number ≡ y.number → x.entry ≡ y.entry → x ≡ y
same_one x y number entry = ap (λ n. record { number = n; entry = x.entry }) number ∙ ap (λ e. record { number = y.number; entry = e }) entry

same_all : (xs ys : List Numbered) → map (λ (n : Numbered). n.number) xs ≡ map (λ (n : Numbered). n.number) ys → entries_in xs ≡ entries_in ys
    → xs ≡ ys
same_all [] [] numbers entries = refl
same_all [] (y ∷ ys) numbers entries = cc
same_all (x ∷ xs) [] numbers entries = cc
same_all (x ∷ xs) (y ∷ ys) numbers entries =
    let number : x.number ≡ y.number = cc in
    let more_numbers : map (λ (n : Numbered). n.number) xs ≡ map (λ (n : Numbered). n.number) ys = cc in
    let entry : x.entry ≡ y.entry = cc in
    let more_entries : entries_in xs ≡ entries_in ys = cc in
    ap (λ n. n ∷ xs) (same_one x y number entry) ∙ ap (λ l. y ∷ l) (same_all xs ys more_numbers more_entries)

same_listed : (xs ys : List Numbered) → IsNumbered xs → IsNumbered ys → entries_in xs ≡ entries_in ys → xs ≡ ys
same_listed xs ys numbered numbered' same =
    let count : length xs ≡ length ys =
    sym (length-map xs (λ (n : Numbered). n.entry)) ∙ ap length same ∙ length-map ys (λ (n : Numbered). n.entry) in
    same_all xs ys (numbered ∙ ap (range_with_len 0) count ∙ sym numbered') same

-- A log that stands for these entries with one behind them.
module _ (items : List Numbered) (new : Listed) (g : Given) (e : Entry) (numbered : IsNumbered items)
    (now : listed_for new g (entries_in items ++ e ∷ [])) where
  pub items_more : new.history.items ≡ behind items e
  items_more =
      same_listed new.history.items (behind items e) now.numbered (numbered-push items e numbered)
      (now.entries ∙ sym (entries-push items (length items) e))

  -- has as much room in all
  pub same_room : (room : ℕ) → room_of new + 1 ≡ room - length items → new.history.room ≡ room
  same_room room fewer =
      let long : length new.history.items ≡ length items + 1 =
      ap length items_more ∙ length_push items (record { number = length items; entry = e }) in
      let within = now.within in
      omega (arith, fewer, long, within)
