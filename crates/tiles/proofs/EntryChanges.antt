-- What each change keeps, and which entries the pages have after it.
use Rattle.std.proofs.Common.{◌≡◌, ◌≢◌, ℕ, zero, suc, ◌+◌, ◌-◌, ◌*◌, ◌/◌, ◌%◌, ◌^◌, ◌<◌, ◌≤◌, Bool, true, false, ◌||◌, ◌==◌, eqb, List, [], Option, Some, None, is_some, inl, inr, refl, sym, ap, subst, ◌∙◌, arith}
use Rattle.std.specs.List.{range_with_len, count_by, slice_get}
use Rattle.std.proofs.lemmas.Bool.{cases_eq, eq-eqb, eqb-true, ne_eqb, or_left, or_right}
use Rattle.pager_model.specs.Bounds.{space_pages}
use Rattle.pager_model.specs.declared.extent.Extent.{Extent}
use Rattle.pager_model.specs.declared.tile.Mapping.{Mapping}
use Rattle.pager_model.specs.Extents.{IsExtent, extent_start}
use Rattle.pager_model.specs.Tiles.{moved_by}
use Rattle.pager_model.proofs.CountLemmas.{count-one_more}
use Rattle.pager_model.proofs.ExtentLemmas.{first_of_extent}
use Rattle.extent_tree.specs.Counts.{splits_with}
use Rattle.extent_tree.specs.declared.spot.Spot.{Spot}
use Rattle.extent_tree.specs.Rows.{Arena, row, spot_of, SplitsAreRowsBelow, ChangesOnly, ChangesEight}
use Rattle.extent_tree.proofs.Rooms.{RowsIn, room_for}
use Rattle.extent_tree.proofs.Rows.{row_alike, row_known}
use Rattle.tiles.specs.declared.entry.TableEntry.{TableEntry}
use Rattle.tiles.specs.TableEntries.{entry_in, entry_at, frames_in, is_in, pages_in, part_of, AreEntries, AreParts, Maps}
use Rattle.tiles.specs.KeptEntries.{IsOne, IsKept}
use Rattle.tiles.proofs.Mappings.{is_extent}
use Rattle.tiles.proofs.PageCounts.{pages_over, more_pages, same_pages, no_pages}
use Rattle.tiles.proofs.Rows.{HasRow, only_entry, only_one, no_entry, same_entry, same_one, row_entry, entry_none, entry_row, decided}

-- ---- the rows of a page

-- a page whose rows are as before
page_same : (t u : Arena Mapping) (p : ℕ) → IsKept t → ((size : ℕ) → size ≤ 3 → row u size p ≡ row t size p)
    → IsOne (λ size. row u size p) × (entry_at u p ≡ entry_at t p)
unfolding entry_at
page_same t u p kept same = (
  same_one (λ size. row t size p) (λ size. row u size p) same (kept.one p),
  same_entry (λ size. row t size p) (λ size. row u size p) p same,
)

-- a page with this row alone
page_only : (u : Arena Mapping) (p size : ℕ) (v : Mapping) → size ≤ 3 → row u size p ≡ Some v
    → ((other : ℕ) → other ≤ 3 → other ≢ size → row u other p ≡ None)
    → IsOne (λ size. row u size p) × (entry_at u p ≡ entry_in size p (Some v))
unfolding entry_at
page_only u p size v low is none = (only_one (λ size. row u size p) size none, only_entry (λ size. row u size p) p size v low is none)

-- a page without a row
pub page_none : (u : Arena Mapping) (p : ℕ) → ((other : ℕ) → other ≤ 3 → row u other p ≡ None)
    → IsOne (λ size. row u size p) × (entry_at u p ≡ None)
unfolding entry_at
page_none u p none = (only_one (λ size. row u size p) 0 (λ other low _. none other low), no_entry (λ size. row u size p) p none)

pub has_row : (t : Arena Mapping) (p : ℕ) (entry : TableEntry) → entry_at t p ≡ Some entry → HasRow (λ size. row t size p) p entry
unfolding entry_at
has_row t p entry at = entry_row (λ size. row t size p) p entry at

rows_none : (t : Arena Mapping) (p : ℕ) → entry_at t p ≡ None → (size : ℕ) → size ≤ 3 → row t size p ≡ None
unfolding entry_at
rows_none t p none = entry_none (λ size. row t size p) p none

pub row_has : (t : Arena Mapping) (size p : ℕ) → size ≤ 3 → is_some (row t size p) ≡ true → is_some (entry_at t p) ≡ true
unfolding entry_at
row_has t size p low is = row_entry (λ size. row t size p) p size low is

-- what is at an extent has its row
pub spot_row : (t : Arena Mapping) (size page : ℕ) (spot : Spot Mapping) → spot ≡ spot_of t (3 - size) page → spot.value ≡ row t size page
unfolding row
spot_row t size page spot is = ap (λ s. s.value) is

-- a page with the row of a size has no other row
others_none : (t : Arena Mapping) (size p : ℕ) (v : Mapping) → IsKept t → size ≤ 3 → row t size p ≡ Some v → (other : ℕ) → other ≤ 3
    → other ≢ size → row t other p ≡ None
others_none t size p v kept low is other small apart = kept.one p size other low small apart (ap is_some is)

-- and its entry is that row
pub entry_is : (t : Arena Mapping) (size p : ℕ) (v : Mapping) → IsKept t → size ≤ 3 → row t size p ≡ Some v
    → entry_at t p ≡ entry_in size p (Some v)
entry_is t size p v kept low is = (page_only t p size v low is (others_none t size p v kept low is)).1

-- ---- entries map extents of the space

pub kept_entries : (t : Arena Mapping) → IsKept t → AreEntries t
kept_entries t kept = record {
  low = λ page entry at. (has_row t page entry at).low;
  round = λ page entry at. ap (λ n. record { size = entry.extent.size; first = n }) (sym (has_row t page entry at).starts);
  one = one;
  in_space = λ page entry at. omega (arith, row_known t entry.extent.size page (ap is_some (has_row t page entry at).is), kept.roots);
}
  where
    one : (page other : ℕ) (entry : TableEntry) → entry_at t page ≡ Some entry → is_in entry.extent other ≡ true → entry_at t other ≡ Some entry
    one page other entry at inside =
        let has = has_row t page entry at in
        let size = entry.extent.size in
        let same : other / 8 ^ size ≡ page / 8 ^ size = eqb-true _ _ inside
        ∙ (ap (λ n. n / 8 ^ size) has.starts ∙ first_of_extent size page) in
        entry_is t size other entry.mapping kept has.low (row_alike t size other page has.low same ∙ has.is)
        ∙ ap (λ n. Some (record { extent = record { size = size; first = n }; mapping = entry.mapping }))
        (ap (λ n. n * 8 ^ size) same ∙ sym has.starts)

-- the entry of each page of its extent
pub entry_of_all : (t : Arena Mapping) (entry : TableEntry) → IsKept t → entry_at t entry.extent.first ≡ Some entry → (page : ℕ)
    → page / 8 ^ entry.extent.size ≡ entry.extent.first / 8 ^ entry.extent.size → entry_at t page ≡ Some entry
entry_of_all t entry kept there page same = (kept_entries t kept).one entry.extent.first page entry there (eq-eqb _ _ same)

-- ---- room

rows_in : (t : Arena Mapping) (test : ℕ → Bool) → IsKept t → ((p : ℕ) → is_some (entry_at t p) ≡ true → test p ≡ true) → RowsIn t test
rows_in t test kept passes =
    record { splits = kept.splits; pages = λ size page low has. (page, refl, passes page (row_has t size page low has)) }

over_roots : (t : Arena Mapping) → IsKept t → pages_in t ≡ count_by (λ page. is_some (entry_at t page)) (range_with_len 0 (512 * t.roots))
over_roots t kept = pages_over t (512 * t.roots) (omega (arith, kept.roots))

-- for the row of an extent that has a mapped page
pub mapped_room : (t : Arena Mapping) (size page : ℕ) → IsKept t → is_some (entry_at t page) ≡ true → splits_with t size page ≤ t.room
mapped_room t size page kept has =
    omega (
      arith,
      room_for t (λ p. is_some (entry_at t p)) size page (rows_in t (λ p. is_some (entry_at t p)) kept (λ p h. h)) has,
      over_roots t kept,
      kept.room,
    )

with_page : Arena Mapping → ℕ → ℕ → Bool
with_page t page p = is_some (entry_at t p) || (p == page)

or_off : (b c : Bool) → c ≡ false → (b || c) ≡ b
or_off true c off = refl
or_off false c off = off

one_more : (t : Arena Mapping) (page : ℕ) → IsKept t → page < 512 * t.roots → entry_at t page ≡ None
    → count_by (with_page t page) (range_with_len 0 (512 * t.roots)) ≡ pages_in t + 1
unfolding with_page
one_more t page kept known none =
    count-one_more (λ p. is_some (entry_at t p)) (with_page t page) page (ap is_some none)
    (or_right (is_some (entry_at t page)) (eqb page page) (eq-eqb page page refl))
    (λ g apart. sym (or_off (is_some (entry_at t g)) (eqb g page) (ne_eqb g page apart))) 0 (512 * t.roots) (omega arith) (omega arith)
    ∙ ap (λ n. n + 1) (sym (over_roots t kept))

-- and of one that has none, while a page more may be mapped
pub put_room : (t : Arena Mapping) (size page : ℕ) → IsKept t → page < 512 * t.roots → entry_at t page ≡ None → pages_in t < frames_in t
    → splits_with t size page ≤ t.room
unfolding with_page
put_room t size page kept known none room =
    omega (
      arith,
      room_for t (with_page t page) size page (rows_in t (with_page t page) kept
          (λ p h. or_left (is_some (entry_at t p)) (eqb p page) h)) (or_right (is_some (entry_at t page)) (eqb page page)
          (eq-eqb page page refl)),
      one_more t page kept known none,
      room,
    )

-- ---- a change of an extent, page by page

-- how a page's rows are after a change: one at most, and the entry by them
record PageIs (t u : Arena Mapping) (extent : Extent) (given : ℕ → Option TableEntry) (p : ℕ) : Type 0 where
  pub one : IsOne (λ size. row u size p)
  pub inside : p / 8 ^ extent.size ≡ extent.first / 8 ^ extent.size → entry_at u p ≡ given p
  pub outside : p / 8 ^ extent.size ≢ extent.first / 8 ^ extent.size → entry_at u p ≡ entry_at t p

changed : (t u : Arena Mapping) (extent : Extent) (given : ℕ → Option TableEntry) → IsKept t → u.roots ≡ t.roots → u.room ≡ t.room
    → SplitsAreRowsBelow u → pages_in u ≤ frames_in t → ((p : ℕ) → PageIs t u extent given p) → IsKept u × Maps extent given t u
changed t u extent given kept roots room splits few pages = (
  now,
  record {
    frames = ap (λ n. n / 3) room;
    entries = kept_entries u now;
    at = λ p. decided (p / 8 ^ extent.size) (extent.first / 8 ^ extent.size) (given p) (entry_at t p) (entry_at u p) (pages p).inside
        (pages p).outside;
  },
)
  where
    now : IsKept u
    now = record {
      splits = splits;
      one = λ p. (pages p).one;
      roots = roots ∙ kept.roots;
      room = omega (arith, few, room);
    }

-- the same where as many pages are mapped as before
stays : (t u : Arena Mapping) (extent : Extent) (given : ℕ → TableEntry) → IsKept t
    → ((p : ℕ) → p / 8 ^ extent.size ≡ extent.first / 8 ^ extent.size → is_some (entry_at t p) ≡ true) → u.roots ≡ t.roots → u.room ≡ t.room
    → SplitsAreRowsBelow u → ((p : ℕ) → PageIs t u extent (λ page. Some (given page)) p)
    → IsKept u × Maps extent (λ page. Some (given page)) t u × (pages_in u ≡ pages_in t)
stays t u extent given kept there roots room splits pages =
    let as_many = same_pages u t alike in
    let after = changed t u extent (λ page. Some (given page)) kept roots room splits (omega (arith, kept.room, as_many)) pages in
    (after.0, after.1, as_many)
  where
    alike : (p : ℕ) → is_some (entry_at u p) ≡ is_some (entry_at t p)
    alike p = elim (cases_eq (p / 8 ^ extent.size) (extent.first / 8 ^ extent.size)) [
      | inl at ↦ ap is_some ((pages p).inside at) ∙ sym (there p at)
      | inr apart ↦ ap is_some ((pages p).outside apart)
    ]

-- the row of an extent changes: a page outside it
off_row : (t u : Arena Mapping) (extent : Extent) (value : Option Mapping) (p : ℕ) → IsKept t
    → ChangesOnly t u extent.size extent.first value → p / 8 ^ extent.size ≢ extent.first / 8 ^ extent.size
    → IsOne (λ size. row u size p) × (entry_at u p ≡ entry_at t p)
off_row t u extent value p kept changes apart =
    page_same t u p kept (λ k small. changes.others k p small (λ e at. apart
    (ap (λ s. p / 8 ^ s) (sym e) ∙ (at ∙ ap (λ s. extent.first / 8 ^ s) e))))

-- the rows of an extent and of its eight parts change: a page outside it
off_eight : (t u : Arena Mapping) (extent : Extent) (value : Option Mapping) (values : List Mapping) (p : ℕ) → IsKept t
    → ChangesEight t u extent.size extent.first value values → p / 8 ^ extent.size ≢ extent.first / 8 ^ extent.size
    → IsOne (λ size. row u size p) × (entry_at u p ≡ entry_at t p)
off_eight t u extent value values p kept changes apart = page_same t u p kept (λ k small. changes.others k p small (λ _ at. apart at))

-- where the extent round a page begins
pub start_of : (size first p : ℕ) → size ≤ 3 → first % 8 ^ size ≡ 0 → p / 8 ^ size ≡ first / 8 ^ size → first ≡ extent_start size p
start_of size first p low aligned same = extent_is size first low aligned ∙ ap (λ n. n * 8 ^ size) (sym same)
  where
    extent_is : (k n : ℕ) → k ≤ 3 → n % 8 ^ k ≡ 0 → n ≡ n / 8 ^ k * 8 ^ k
    extent_is zero n l a = omega arith
    extent_is (suc zero) n l a = omega arith
    extent_is (suc (suc zero)) n l a = omega arith
    extent_is (suc (suc (suc zero))) n l a = omega arith
    extent_is (suc (suc (suc (suc k)))) n l a = absurd (omega arith)

-- the entry of an extent, at a page of it
entry_round : (entry : TableEntry) (p : ℕ) → IsExtent entry.extent.size entry.extent.first
    → p / 8 ^ entry.extent.size ≡ entry.extent.first / 8 ^ entry.extent.size
    → entry_in entry.extent.size p (Some entry.mapping) ≡ Some entry
entry_round entry p is same =
    ap (λ n. Some (record { extent = record { size = entry.extent.size; first = n }; mapping = entry.mapping }))
    (sym (start_of entry.extent.size entry.extent.first p is.0 is.1 same))

-- ---- an extent gets a row, where its pages have no other

given_row : (t u : Arena Mapping) (entry : TableEntry) → IsKept t → IsExtent entry.extent.size entry.extent.first
    → ((p other : ℕ) → p / 8 ^ entry.extent.size ≡ entry.extent.first / 8 ^ entry.extent.size → other ≤ 3 → other ≢ entry.extent.size
    → row t other p ≡ None)
    → ChangesOnly t u entry.extent.size entry.extent.first (Some entry.mapping) → (p : ℕ) → PageIs t u entry.extent (λ _. Some entry) p
given_row t u entry kept extent alone changes p = elim (cases_eq (p / 8 ^ entry.extent.size) (entry.extent.first / 8 ^ entry.extent.size)) [
  | inl same ↦
      let only = page_only u p entry.extent.size entry.mapping extent.0 (changes.changed p same)
      (λ other small apart. changes.others other p small (λ e _. apart e) ∙ alone p other same small apart) in
      record { one = only.0; inside = λ _. only.1 ∙ entry_round entry p extent same; outside = λ n. absurd (n same) }
  | inr apart ↦
      let as_before = off_row t u entry.extent (Some entry.mapping) p kept changes apart in
      record { one = as_before.0; inside = λ e. absurd (apart e); outside = λ _. as_before.1 }
]

pub put_kept : (t u : Arena Mapping) (entry : TableEntry) → IsKept t → IsExtent entry.extent.size entry.extent.first
    → entry.extent.first < space_pages
    → ((p : ℕ) → p / 8 ^ entry.extent.size ≡ entry.extent.first / 8 ^ entry.extent.size → entry_at t p ≡ None)
    → pages_in t + 8 ^ entry.extent.size ≤ frames_in t → ChangesOnly t u entry.extent.size entry.extent.first (Some entry.mapping)
    → SplitsAreRowsBelow u → IsKept u × Maps entry.extent (λ _. Some entry) t u × (pages_in u ≡ pages_in t + 8 ^ entry.extent.size)
put_kept t u entry kept extent known none room changes splits =
    let after = changed t u entry.extent (λ _. Some entry) kept changes.roots changes.room splits (omega (arith, room, many)) pages in
    (after.0, after.1, many)
  where
    pages : (p : ℕ) → PageIs t u entry.extent (λ _. Some entry) p
    pages = given_row t u entry kept extent (λ p other same small _. rows_none t p (none p same) other small) changes

    many : pages_in u ≡ pages_in t + 8 ^ entry.extent.size
    many = more_pages t u entry.extent extent known (λ p same. (ap is_some (none p same), ap is_some ((pages p).inside same)))
        (λ p apart. (pages p).outside apart)

-- the pages of an extent have the entry that has it
pub same_extent : (t : Arena Mapping) (extent : Extent) (before : TableEntry) → IsKept t → entry_at t extent.first ≡ Some before
    → before.extent ≡ extent → (p : ℕ) → p / 8 ^ extent.size ≡ extent.first / 8 ^ extent.size → entry_at t p ≡ Some before
same_extent t extent before kept there e p same =
    (kept_entries t kept).one extent.first p before there (subst (λ (x : Extent). is_in x p ≡ true) (sym e) (eq-eqb _ _ same))

pub replace_kept : (t u : Arena Mapping) (entry before : TableEntry) → IsKept t → entry_at t entry.extent.first ≡ Some before
    → before.extent ≡ entry.extent → ChangesOnly t u entry.extent.size entry.extent.first (Some entry.mapping) → SplitsAreRowsBelow u
    → IsKept u × Maps entry.extent (λ _. Some entry) t u × (pages_in u ≡ pages_in t)
replace_kept t u entry before kept there e changes splits =
    stays t u entry.extent (λ _. entry) kept (λ p same. ap is_some (at p same)) changes.roots changes.room splits
    (given_row t u entry kept extent alone changes)
  where
    at : (p : ℕ) → p / 8 ^ entry.extent.size ≡ entry.extent.first / 8 ^ entry.extent.size → entry_at t p ≡ Some before
    at = same_extent t entry.extent before kept there e

    extent : IsExtent entry.extent.size entry.extent.first
    extent = subst (λ (x : Extent). IsExtent x.size x.first) e (is_extent t entry.extent.first before (kept_entries t kept) there)

    alone : (p other : ℕ) → p / 8 ^ entry.extent.size ≡ entry.extent.first / 8 ^ entry.extent.size → other ≤ 3 → other ≢ entry.extent.size
        → row t other p ≡ None
    alone p other same small apart =
        others_none t entry.extent.size p before.mapping kept extent.0
        (subst (λ (x : Extent). row t x.size p ≡ Some before.mapping) e (has_row t p before (at p same)).is) other small apart

-- ---- an extent loses its row

pub remove_kept : (t u : Arena Mapping) (entry : TableEntry) → IsKept t → entry_at t entry.extent.first ≡ Some entry
    → ChangesOnly t u entry.extent.size entry.extent.first None → SplitsAreRowsBelow u
    → IsKept u × Maps entry.extent (λ _. None) t u × (pages_in u + 8 ^ entry.extent.size ≡ pages_in t)
remove_kept t u entry kept there changes splits =
    let after = changed t u entry.extent (λ _. None) kept changes.roots changes.room splits (omega (arith, kept.room, fewer)) pages in
    (after.0, after.1, fewer)
  where
    at : (p : ℕ) → p / 8 ^ entry.extent.size ≡ entry.extent.first / 8 ^ entry.extent.size → entry_at t p ≡ Some entry
    at = entry_of_all t entry kept there

    extent : IsExtent entry.extent.size entry.extent.first
    extent = is_extent t entry.extent.first entry (kept_entries t kept) there

    pages : (p : ℕ) → PageIs t u entry.extent (λ _. None) p
    pages p = elim (cases_eq (p / 8 ^ entry.extent.size) (entry.extent.first / 8 ^ entry.extent.size)) [
      | inl same ↦
          let none = page_none u p (λ other small. elim (cases_eq other entry.extent.size) [
            | inl e ↦ ap (λ k. row u k p) e ∙ changes.changed p same
            | inr apart ↦ changes.others other p small (λ e _. apart e)
                ∙ others_none t entry.extent.size p entry.mapping kept extent.0 (has_row t p entry (at p same)).is other small apart
          ]) in
          record { one = none.0; inside = λ _. none.1; outside = λ n. absurd (n same) }
      | inr apart ↦
          let as_before = off_row t u entry.extent None p kept changes apart in
          record { one = as_before.0; inside = λ e. absurd (apart e); outside = λ _. as_before.1 }
    ]

    fewer : pages_in u + 8 ^ entry.extent.size ≡ pages_in t
    fewer =
        sym (more_pages u t entry.extent extent ((kept_entries t kept).in_space entry.extent.first entry there)
        (λ p same. (ap is_some ((pages p).inside same), ap is_some (at p same))) (λ p apart. sym ((pages p).outside apart)))

-- ---- an entry breaks into its eight parts

-- where the part round a page begins in its extent
part_offset : (size p : ℕ) → 0 < size → size ≤ 3 → p / 8 ^ (size - 1) % 8 * 8 ^ (size - 1) ≡ extent_start (size - 1) p - extent_start size p
part_offset zero p large low = absurd (omega arith)
part_offset (suc zero) p large low = omega arith
part_offset (suc (suc zero)) p large low = omega arith
part_offset (suc (suc (suc zero))) p large low = omega arith
part_offset (suc (suc (suc (suc size)))) p large low = absurd (omega arith)

-- what is kept of the part round a page, by its number
pub part_value : (whole : TableEntry) (p : ℕ) → 0 < whole.extent.size → IsExtent whole.extent.size whole.extent.first
    → p / 8 ^ whole.extent.size ≡ whole.extent.first / 8 ^ whole.extent.size
    → moved_by (p / 8 ^ (whole.extent.size - 1) % 8 * 8 ^ (whole.extent.size - 1)) whole.mapping ≡ (part_of whole p).mapping
part_value whole p large is same =
    ap (λ n. moved_by n whole.mapping) (part_offset whole.extent.size p large is.0
    ∙ ap (λ n. extent_start (whole.extent.size - 1) p - n) (sym (start_of whole.extent.size whole.extent.first p is.0 is.1 same)))

pub split_kept : (t u : Arena Mapping) (entry : TableEntry) (parts : List Mapping) → IsKept t → 0 < entry.extent.size
    → entry_at t entry.extent.first ≡ Some entry
    → ((part : ℕ) → part < 8 → slice_get parts part ≡ Some (moved_by (part * 8 ^ (entry.extent.size - 1)) entry.mapping))
    → ChangesEight t u entry.extent.size entry.extent.first None parts → SplitsAreRowsBelow u
    → IsKept u × Maps entry.extent (λ p. Some (part_of entry p)) t u × (pages_in u ≡ pages_in t)
split_kept t u entry parts kept large there values changes splits =
    stays t u entry.extent (part_of entry) kept (λ p same. ap is_some (at p same)) changes.roots changes.room splits pages
  where
    at : (p : ℕ) → p / 8 ^ entry.extent.size ≡ entry.extent.first / 8 ^ entry.extent.size → entry_at t p ≡ Some entry
    at = entry_of_all t entry kept there

    extent : IsExtent entry.extent.size entry.extent.first
    extent = is_extent t entry.extent.first entry (kept_entries t kept) there

    down : suc (entry.extent.size - 1) ≡ entry.extent.size
    down = omega arith

    pages : (p : ℕ) → PageIs t u entry.extent (λ p. Some (part_of entry p)) p
    pages p = elim (cases_eq (p / 8 ^ entry.extent.size) (entry.extent.first / 8 ^ entry.extent.size)) [
      | inl same ↦
          let before = others_none t entry.extent.size p entry.mapping kept extent.0 (has_row t p entry (at p same)).is in
          let is = changes.parts (entry.extent.size - 1) p down same ∙ (values (p / 8 ^ (entry.extent.size - 1) % 8) (omega arith)
          ∙ ap Some (part_value entry p large extent same)) in
          let only = page_only u p (entry.extent.size - 1) (part_of entry p).mapping (omega (arith, extent.0)) is
          (λ other small apart. elim (cases_eq other entry.extent.size) [
            | inl e ↦ ap (λ k. row u k p) e ∙ changes.whole p same
            | inr off ↦ changes.others other p small (λ e _. elim e [ inl one ↦ off one | inr next ↦ apart (omega (arith, next)) ])
                ∙ before other small off
          ]) in
          record { one = only.0; inside = λ _. only.1; outside = λ n. absurd (n same) }
      | inr apart ↦
          let as_before = off_eight t u entry.extent None parts p kept changes apart in
          record { one = as_before.0; inside = λ e. absurd (apart e); outside = λ _. as_before.1 }
    ]

-- ---- eight parts join

-- the row of a part
pub part_row : (t : Arena Mapping) (whole : TableEntry) (p : ℕ) → AreParts whole t
    → p / 8 ^ whole.extent.size ≡ whole.extent.first / 8 ^ whole.extent.size
    → row t (whole.extent.size - 1) p ≡ Some (part_of whole p).mapping
part_row t whole p parts same = (has_row t p (part_of whole p) (parts.at p (eq-eqb _ _ same))).is

pub join_kept : (t u : Arena Mapping) (whole : TableEntry) → IsKept t → 0 < whole.extent.size → IsExtent whole.extent.size whole.extent.first
    → AreParts whole t → ChangesEight t u whole.extent.size whole.extent.first (Some whole.mapping) [] → SplitsAreRowsBelow u
    → IsKept u × Maps whole.extent (λ _. Some whole) t u × (pages_in u ≡ pages_in t)
join_kept t u whole kept large extent parts changes splits =
    stays t u whole.extent (λ _. whole) kept (λ p same. ap is_some (parts.at p (eq-eqb _ _ same))) changes.roots changes.room splits pages
  where
    down : suc (whole.extent.size - 1) ≡ whole.extent.size
    down = omega arith

    pages : (p : ℕ) → PageIs t u whole.extent (λ _. Some whole) p
    pages p = elim (cases_eq (p / 8 ^ whole.extent.size) (whole.extent.first / 8 ^ whole.extent.size)) [
      | inl same ↦
          let before = others_none t (whole.extent.size - 1) p (part_of whole p).mapping kept (omega (arith, extent.0))
          (part_row t whole p parts same) in
          let only = page_only u p whole.extent.size whole.mapping extent.0 (changes.whole p same)
          (λ other small apart. elim (cases_eq other (whole.extent.size - 1)) [
            | inl e ↦ ap (λ k. row u k p) e ∙ changes.parts (whole.extent.size - 1) p down same
            | inr off ↦ changes.others other p small (λ e _. elim e [ inl one ↦ apart one | inr next ↦ off (omega (arith, next)) ])
                ∙ before other small off
          ]) in
          record { one = only.0; inside = λ _. only.1 ∙ entry_round whole p extent same; outside = λ n. absurd (n same) }
      | inr apart ↦
          let as_before = off_eight t u whole.extent (Some whole.mapping) [] p kept changes apart in
          record { one = as_before.0; inside = λ e. absurd (apart e); outside = λ _. as_before.1 }
    ]

-- ---- no entry

pub none_at : (t : Arena Mapping) → ((size p : ℕ) → row t size p ≡ None) → (p : ℕ) → entry_at t p ≡ None
none_at t none p = (page_none t p (λ other _. none other p)).1

pub none_kept : (t : Arena Mapping) (frames : ℕ) → ((size p : ℕ) → row t size p ≡ None) → SplitsAreRowsBelow t → t.roots ≡ 2048
    → t.room ≡ 3 * frames → IsKept t
none_kept t frames none splits roots room = record {
  splits = splits;
  one = λ p. only_one (λ size. row t size p) 0 (λ other low _. none other p);
  roots = roots;
  room = omega (arith, no_pages t (none_at t none));
}
