-- The entry of each page is its tile, and stays it with each change of the entries.
use Rattle.std.proofs.Common.{◌≡◌, ◌≢◌, ℕ, zero, suc, ◌+◌, ◌-◌, ◌/◌, ◌%◌, ◌^◌, ◌<◌, ◌≤◌, ◌==◌, if◌then◌else◌, Option, Some, None, false, option_map, inl, inr, refl, sym, ap, subst, ◌∙◌, arith}
use Rattle.std.proofs.Math.Nat.{mul-mod_left}
use Rattle.std.proofs.lemmas.Bool.{cases_Bool, cases_eq, cases_lt, cond-true, eq-eqb, ne_eqb, eqb-true, false≢true}
use Rattle.std.proofs.lemmas.Option.{none-some, same_Some}
use Rattle.tiles.specs.declared.entry.TableEntry.{TableEntry}
use Rattle.tiles.specs.TableEntries.{AreEntries, AreParts, Maps, entry_at, entry_size, entry_with, extent_round, mapping_of, pages_in, part_of, tile_of_entry, mapping_at as said_at}
use Rattle.tiles.proofs.Mappings.{first_is, join_mapping, maps_inside, maps_outside, split_mapping}
use Rattle.pager_model.specs.declared.extent.Extent.{Extent}
use Rattle.pager_model.specs.declared.tile.Mapping.{Mapping}
use Rattle.pager_model.specs.Extents.{IsExtent, extent_start}
use Rattle.pager_model.specs.Tiles.{moved_by, size_at, size_in, tile_of, tile_with}
use Rattle.pager_model.proofs.ExtentLemmas.{coarser, eight_pos, extent_of_frame, first_of_extent}
use Rattle.tiles.specs.Beside.{whole}
use Rattle.tiles.specs.Kept.{AreAligned, AreTiles, AreTilesBut, MapsAlike}
use Rattle.tiles.specs.Resident.{Resident, mapping_at}
use Rattle.tiles.proofs.Eligible.{HasExtent, has_whole, page_in, same_mapping, smaller, whole_alike, whole_has, whole_local}
use Rattle.tiles.proofs.Extents.{lies_in, starts_below}
use Rattle.tiles.proofs.Largest.{HasTile, resident_tile, size_is, tile_absent}

-- ---- what the entry of a page says of it

pub entry_says : (m : Resident) (p : ℕ) (entry : TableEntry) → entry_at m p ≡ Some entry → mapping_at m p ≡ Some (mapping_of entry p)
unfolding said_at
entry_says m p entry at = ap (option_map (λ (e : TableEntry). mapping_of e p)) at

pub none_says : (m : Resident) (p : ℕ) → entry_at m p ≡ None → mapping_at m p ≡ None
unfolding said_at
none_says m p at = ap (option_map (λ (e : TableEntry). mapping_of e p)) at

-- the entry of a page that is mapped
record SaysSo (m : Resident) (p : ℕ) (n : Mapping) : Type 0 where
  pub entry : TableEntry
  pub at : entry_at m p ≡ Some entry
  pub is : mapping_of entry p ≡ n

says_so : (m : Resident) (p : ℕ) (n : Mapping) (o : Option TableEntry) → entry_at m p ≡ o
    → option_map (λ (e : TableEntry). mapping_of e p) o ≡ Some n → SaysSo m p n
says_so m p n None at is = absurd (none-some n is)
says_so m p n (Some entry) at is = record { entry = entry; at = at; is = same_Some (mapping_of entry p) n is }

mapped_by : (m : Resident) (p : ℕ) (n : Mapping) → mapping_at m p ≡ Some n → SaysSo m p n
unfolding said_at
mapped_by m p n is = says_so m p n (entry_at m p) refl is

pub unmapped : (m : Resident) (p : ℕ) → mapping_at m p ≡ None → entry_at m p ≡ None
unmapped m p none = of (entry_at m p) refl
  where
    of : (o : Option TableEntry) → entry_at m p ≡ o → entry_at m p ≡ None
    of None at = at
    of (Some entry) at = absurd (none-some (mapping_of entry p) (sym none ∙ entry_says m p entry at))

-- ---- the entry of a page is its tile

not_moved : (n : Mapping) → moved_by 0 n ≡ n
not_moved n = ap (λ f. record { frame = f; region = n.region; rights = n.rights; dirty = n.dirty }) {x = n.frame + 0} {y = n.frame}
    (omega arith)

module _ (m : Resident) (entries : AreEntries m) where
  -- it is the entry of each page of its extent
  pub same_entry : (p q : ℕ) (entry : TableEntry) → entry_at m p ≡ Some entry → q / 8 ^ entry.extent.size ≡ p / 8 ^ entry.extent.size
      → entry_at m q ≡ Some entry
  same_entry p q entry at same =
      let begins : p / 8 ^ entry.extent.size ≡ entry.extent.first / 8 ^ entry.extent.size =
      sym (first_of_extent entry.extent.size p) ∙ ap (λ n. n / 8 ^ entry.extent.size) (first_is m p entry entries at) in
      entries.one p q entry at (eq-eqb _ _ (same ∙ begins))

  entry_uniform : (p : ℕ) (entry : TableEntry) (i : ℕ) → entry_at m p ≡ Some entry → i < 8 ^ entry.extent.size
      → mapping_at m (extent_start entry.extent.size p + i) ≡ Some (moved_by i entry.mapping)
  entry_uniform p entry i at within =
      let q = extent_start entry.extent.size p + i in
      let same : q / 8 ^ entry.extent.size ≡ p / 8 ^ entry.extent.size =
      extent_of_frame (p / 8 ^ entry.extent.size) (8 ^ entry.extent.size) q (omega arith) (omega arith) in
      let by : q - entry.extent.first ≡ i = omega (arith, first_is m p entry entries at) in
      entry_says m q entry (same_entry p q entry at same) ∙ ap (λ n. Some (moved_by n entry.mapping)) by

  pub first_there : (p : ℕ) (entry : TableEntry) → entry_at m p ≡ Some entry → entry_at m entry.extent.first ≡ Some entry
  first_there p entry at = entries.one p entry.extent.first entry at (eq-eqb _ _ refl)

  -- its first page says its mapping
  entry_begins : (p : ℕ) (entry : TableEntry) → entry_at m p ≡ Some entry → mapping_at m (extent_start entry.extent.size p) ≡ Some entry.mapping
  entry_begins p entry at =
      ap (mapping_at m) {x = extent_start entry.extent.size p} {y = extent_start entry.extent.size p + 0} (omega arith)
      ∙ (entry_uniform p entry 0 at (eight_pos entry.extent.size) ∙ ap Some (not_moved entry.mapping))

  -- its extent is eligible
  pub entry_has : AreAligned m → (p : ℕ) (entry : TableEntry) → entry_at m p ≡ Some entry → HasExtent (mapping_at m) entry.extent.size p
  entry_has aligned p entry at =
      record {
        head = entry.mapping;
        begins = entry_begins p entry at;
        is = record { aligned = aligned p entry at; uniform = λ i within. entry_uniform p entry i at within };
      }

pub tile_is : (m : Resident) → AreTiles m → (p : ℕ) → tile_of (mapping_at m) p ≡ option_map tile_of_entry (entry_at m p)
tile_is m tiles p = of (entry_at m p) refl
  where
    of : (o : Option TableEntry) → entry_at m p ≡ o → tile_of (mapping_at m) p ≡ option_map tile_of_entry (entry_at m p)
    of None at = tile_absent (mapping_at m) p (none_says m p at) ∙ ap (option_map tile_of_entry) (sym at)
    of (Some entry) at =
        let has = entry_has m tiles.entries tiles.aligned p entry at in
        let size = size_is (mapping_at m) p entry.extent.size (tiles.entries.low p entry at)
        (λ _. has_whole (mapping_at m) entry.extent.size p has) (λ k more small. tiles.largest p k entry at more small) in
        let tile = subst (λ (k : ℕ). HasTile (mapping_at m) p k) size
        (resident_tile (mapping_at m) p (mapping_of entry p) (entry_says m p entry at)) in
        let head : tile.has.head ≡ entry.mapping = same_Some tile.has.head entry.mapping
        (sym tile.has.begins ∙ entry_begins m tiles.entries p entry at) in
        tile.is
        ∙ ap (λ (n : Mapping). Some (tile_with entry.extent.size (extent_start entry.extent.size p) n)) head
        ∙ ap (λ n. Some (tile_with entry.extent.size n entry.mapping)) (first_is m p entry tiles.entries at)
        ∙ ap (option_map tile_of_entry) (sym at)

-- so they are of one size
pub size_of_tile : (m : Resident) → AreTiles m → (p : ℕ) → size_at (mapping_at m) p ≡ entry_size (entry_at m p)
size_of_tile m tiles p = ap size_in (tile_is m tiles p) ∙ of (entry_at m p)
  where
    of : (o : Option TableEntry) → size_in (option_map tile_of_entry o) ≡ entry_size o
    of None = refl
    of (Some entry) = refl

-- ---- other entries that say the same

pub alike_all : (m : Resident) → MapsAlike m m
alike_all m = record { frames = refl; count = refl; at = λ p. refl }

pub alike_on : (l m n : Resident) → MapsAlike l m → MapsAlike m n → MapsAlike l n
alike_on l m n first second =
    record { frames = second.frames ∙ first.frames; count = second.count ∙ first.count; at = λ p. second.at p ∙ first.at p }

-- ---- the entries that a change leaves are tiles

pub tiles_but : (m : Resident) (page from : ℕ) → AreTiles m → AreTilesBut m page from
tiles_but m page from tiles =
    record {
      entries = tiles.entries;
      aligned = tiles.aligned;
      largest = λ p size entry at more small _. tiles.largest p size entry at more small;
    }

-- those round the page that were left out aren't eligible
settled : (m : Resident) (page from : ℕ) → AreTilesBut m page from → ((size : ℕ) → from ≤ size → size ≤ 3
    → whole (mapping_at m) size page ≡ false) → AreTiles m
settled m page from tiles none = record { entries = tiles.entries; aligned = tiles.aligned; largest = largest }
  where
    largest : (p size : ℕ) (entry : TableEntry) → entry_at m p ≡ Some entry → entry.extent.size < size → size ≤ 3
        → whole (mapping_at m) size p ≡ false
    largest p size entry at more small = elim (cases_eq (p / 8 ^ size) (page / 8 ^ size)) [
      | inr apart ↦ tiles.largest p size entry at more small (λ same. absurd (apart same))
      | inl same ↦ elim (cases_lt size from) [
        | inl below ↦ tiles.largest p size entry at more small (λ _. below)
        | inr above ↦ whole_alike (mapping_at m) size page p same ∙ none size above small
      ]
    ]

-- a page that isn't mapped has no eligible extent round it
unmapped_whole : (pages : ℕ → Option Mapping) (page size : ℕ) → size ≤ 3 → pages page ≡ None → whole pages size page ≡ false
unmapped_whole pages page size small none = elim (cases_Bool (whole pages size page)) [
  | inr fails ↦ fails
  | inl passes ↦ absurd (none-some _ (sym none ∙ page_in pages size page page (whole_has pages size page passes) small refl))
]

-- An extent that has a page gets other entries.
module _ (m n : Resident) (extent : Extent) (given : ℕ → Option TableEntry) (maps : Maps extent given m n) where
  says_given : (p : ℕ) → p / 8 ^ extent.size ≡ extent.first / 8 ^ extent.size
      → mapping_at n p ≡ option_map (λ (e : TableEntry). mapping_of e p) (given p)
  unfolding said_at
  says_given p same = ap (option_map (λ (e : TableEntry). mapping_of e p)) (maps_inside m n extent given p maps same)

  says_same : (p : ℕ) → p / 8 ^ extent.size ≢ extent.first / 8 ^ extent.size → mapping_at n p ≡ mapping_at m p
  unfolding said_at
  says_same p apart = ap (option_map (λ (e : TableEntry). mapping_of e p)) (maps_outside m n extent given p maps apart)

  -- none of them lies in a larger eligible extent, but for those round the page
  changed : (page before from : ℕ) → extent.first / 8 ^ extent.size ≡ page / 8 ^ extent.size → extent.size ≤ 3 → extent.size ≤ from
      → from ≤ suc extent.size → AreTilesBut m page before
      → ((p : ℕ) (entry : TableEntry) → p / 8 ^ extent.size ≡ extent.first / 8 ^ extent.size → given p ≡ Some entry
      → (entry.mapping.frame % 8 ^ entry.extent.size ≡ 0) × (from ≤ suc entry.extent.size)) → AreTilesBut n page from
  changed page before from has low above most tiles each = record { entries = maps.entries; aligned = aligned; largest = largest }
    where
      aligned : AreAligned n
      aligned p entry at = elim (cases_eq (p / 8 ^ extent.size) (extent.first / 8 ^ extent.size)) [
        | inl here ↦ (each p entry here (sym (maps_inside m n extent given p maps here) ∙ at)).0
        | inr apart ↦ tiles.aligned p entry (sym (maps_outside m n extent given p maps apart) ∙ at)
      ]

      -- an extent that has none of the changed pages
      outside : (p size : ℕ) → size ≤ 3 → (p / 8 ^ extent.size ≢ extent.first / 8 ^ extent.size) → (p / 8 ^ size ≢ page / 8 ^ size)
          → (q : ℕ) → q / 8 ^ size ≡ p / 8 ^ size → mapping_at n q ≡ mapping_at m q
      outside p size small apart away q same = says_same q (λ here. elim (cases_lt size extent.size) [
        | inl less ↦ apart (sym (coarser size extent.size q p (omega arith) low same) ∙ here)
        | inr more ↦ away (sym same ∙ coarser extent.size size q page more small (here ∙ has))
      ])

      largest : (p size : ℕ) (entry : TableEntry) → entry_at n p ≡ Some entry → entry.extent.size < size → size ≤ 3
          → (p / 8 ^ size ≡ page / 8 ^ size → size < from) → whole (mapping_at n) size p ≡ false
      largest p size entry at more small but = elim (cases_eq (p / 8 ^ extent.size) (extent.first / 8 ^ extent.size)) [
        | inl here ↦
            let from_on = (each p entry here (sym (maps_inside m n extent given p maps here) ∙ at)).1 in
            let round = but (coarser extent.size size p page (omega arith) small (here ∙ has)) in
            absurd (omega arith)
        | inr apart ↦
            let away : p / 8 ^ size ≢ page / 8 ^ size = λ same.
            let below = but same in
            apart (coarser size extent.size p page (omega arith) low same ∙ sym has) in
            whole_local (mapping_at n) (mapping_at m) size p small (outside p size small apart away)
            ∙ tiles.largest p size entry (sym (maps_outside m n extent given p maps apart) ∙ at) more small (λ same. absurd (away same))
      ]

-- The extent round a page gets one entry.
one_entry : (m n : Resident) (entry : TableEntry) (page before : ℕ) → entry.extent.first / 8 ^ entry.extent.size ≡ page / 8 ^ entry.extent.size
    → entry.extent.size ≤ 3 → entry.mapping.frame % 8 ^ entry.extent.size ≡ 0
    → AreTilesBut m page before → Maps entry.extent (λ _. Some entry) m n → AreTilesBut n page (suc entry.extent.size)
one_entry m n entry page before has low aligned tiles maps =
    changed m n entry.extent (λ _. Some entry) maps page before (suc entry.extent.size) has low (omega arith) (omega arith) tiles
    (λ p e _ is. let same = same_Some entry e is in subst (λ (x : TableEntry). (x.mapping.frame % 8 ^ x.extent.size ≡ 0)
    × (suc entry.extent.size ≤ suc x.extent.size)) same (aligned, omega arith))

-- ---- an entry of one page goes

pub base_first : (m : Resident) (page : ℕ) (entry : TableEntry) → AreEntries m → entry_at m page ≡ Some entry → entry.extent.size ≡ 0
    → entry.extent.first ≡ page
base_first m page entry entries at base =
    let begins : extent_start 0 page ≡ page = omega arith in
    sym (first_is m page entry entries at) ∙ (ap (λ s. extent_start s page) base ∙ begins)

pub removed_tiles : (m n : Resident) (entry : TableEntry) (page before : ℕ) → entry_at m page ≡ Some entry → entry.extent.size ≡ 0
    → AreTilesBut m page before → Maps entry.extent (λ _. None) m n → AreTiles n
removed_tiles m n entry page before there base tiles maps =
    let first : entry.extent.first / 8 ^ entry.extent.size ≡ page / 8 ^ entry.extent.size =
    ap (λ p. p / 8 ^ entry.extent.size) (base_first m page entry tiles.entries there base) in
    settled n page 0
    (changed m n entry.extent (λ _. None) maps page before 0 first (omega arith) (omega arith) (omega arith) tiles
    (λ p e _ is. absurd (none-some e is)))
    (λ size _ small. unmapped_whole (mapping_at n) page size small (says_given m n entry.extent (λ _. None) maps page (sym first)))

-- ---- an entry breaks into its parts

-- a part's frames are an extent
part_aligned : (k p first frame : ℕ) → suc k ≤ 3 → extent_start (suc k) p ≡ first → frame % 8 ^ suc k ≡ 0
    → (frame + (extent_start k p - first)) % 8 ^ k ≡ 0
part_aligned k p first frame low starts aligned =
    subst (λ x. (frame + (extent_start k p - x)) % 8 ^ k ≡ 0) starts ((lies_in k p low).aligned frame aligned)

-- The entry of a page breaks into its parts.
pub record Breaks (m n : Resident) (entry : TableEntry) (page : ℕ) : Type 0 where
  pub entries : AreEntries m
  pub there : entry_at m page ≡ Some entry
  pub large : 0 < entry.extent.size
  pub maps : Maps entry.extent (λ p. Some (part_of entry p)) m n

module _ (m n : Resident) (entry : TableEntry) (page : ℕ) (breaks : Breaks m n entry page) where
  open breaks use {entries, there, large, maps}

  entry_here : (p : ℕ) → p / 8 ^ entry.extent.size ≡ entry.extent.first / 8 ^ entry.extent.size → entry_at m p ≡ Some entry
  entry_here p here = entries.one page p entry there (eq-eqb _ _ here)

  first_of_page : entry.extent.first / 8 ^ entry.extent.size ≡ page / 8 ^ entry.extent.size
  first_of_page = ap (λ q. q / 8 ^ entry.extent.size) (sym (first_is m page entry entries there)) ∙ first_of_extent entry.extent.size page

  part_here : AreAligned m → (p : ℕ) → p / 8 ^ entry.extent.size ≡ entry.extent.first / 8 ^ entry.extent.size
      → (part_of entry p).mapping.frame % 8 ^ (part_of entry p).extent.size ≡ 0
  part_here aligned p here =
      let k = entry.extent.size - 1 in
      let e : entry.extent.size ≡ suc k = omega (arith, large) in
      part_aligned k p entry.extent.first entry.mapping.frame (omega (arith, entries.low page entry there))
      (ap (λ s. extent_start s p) (sym e) ∙ first_is m p entry entries (entry_here p here))
      (ap (λ s. entry.mapping.frame % 8 ^ s) (sym e) ∙ aligned page entry there)

  pub split_there : entry_at n page ≡ Some (part_of entry page)
  split_there = maps_inside m n entry.extent (λ p. Some (part_of entry p)) page maps (sym first_of_page)

  pub split_tiles : AreTilesBut m page (suc entry.extent.size) → AreTilesBut n page (suc (entry.extent.size - 1))
  split_tiles tiles =
      changed m n entry.extent (λ p. Some (part_of entry p)) maps page (suc entry.extent.size) (suc (entry.extent.size - 1)) first_of_page
      (entries.low page entry there) (omega (arith, large)) (omega (arith, large)) tiles
      (λ p e here is.
      let same = same_Some (part_of entry p) e is in
      subst (λ (x : TableEntry). (x.mapping.frame % 8 ^ x.extent.size ≡ 0) × (suc (entry.extent.size - 1) ≤ suc x.extent.size)) same
      (part_here tiles.aligned p here, omega (arith, large)))

  -- a part's frames are among the entry's
  pub split_fits : (part_of entry page).mapping.frame + 8 ^ (entry.extent.size - 1) ≤ entry.mapping.frame + 8 ^ entry.extent.size
  split_fits =
      let k = entry.extent.size - 1 in
      let e : entry.extent.size ≡ suc k = omega (arith, large) in
      let begins : extent_start (suc k) page ≡ entry.extent.first = ap (λ s. extent_start s page) (sym e)
      ∙ first_is m page entry entries there in
      omega (arith, (lies_in k page (omega (arith, entries.low page entry there))).within, ap (λ s. 8 ^ s) e, begins)

  pub split_alike : pages_in n ≡ pages_in m → MapsAlike m n
  split_alike count = record {
    frames = maps.frames;
    count = count;
    at = split_mapping m n entry entries
        (entry_here entry.extent.first refl) maps;
  }

-- ---- eight parts join

pub round_is_extent : (extent : Extent) (size page : ℕ) → size ≤ 3 → extent ≡ extent_round size page → IsExtent extent.size extent.first
round_is_extent extent size page low is = subst (λ (x : Extent). IsExtent x.size x.first) (sym is)
    (low, mul-mod_left (page / 8 ^ size) (8 ^ size))

-- The parts of an entry round a page join into it.
pub record JoinsInto (m n : Resident) (w : TableEntry) (page : ℕ) : Type 0 where
  pub round : w.extent ≡ extent_round w.extent.size page
  pub low : w.extent.size ≤ 3
  pub parts : AreParts w m
  pub maps : Maps w.extent (λ _. Some w) m n

module _ (m n : Resident) (w : TableEntry) (page : ℕ) (joins : JoinsInto m n w page) where
  open joins use {round, low, parts, maps}

  whole_page : w.extent.first / 8 ^ w.extent.size ≡ page / 8 ^ w.extent.size
  whole_page = ap (λ (x : Extent). x.first / 8 ^ w.extent.size) round ∙ first_of_extent w.extent.size page

  pub join_there : entry_at n page ≡ Some w
  join_there = maps_inside m n w.extent (λ _. Some w) page maps (sym whole_page)

  pub join_tiles : AreTilesBut m page w.extent.size → AreTilesBut n page (suc w.extent.size)
  join_tiles tiles = one_entry m n w page w.extent.size whole_page low parts.aligned tiles maps

  pub join_alike : pages_in n ≡ pages_in m → MapsAlike m n
  join_alike count = record { frames = maps.frames; count = count; at = join_mapping m n w parts maps }

-- ---- or they don't, and then no larger extent round the page is eligible

module _ (m : Resident) (page : ℕ) (entry : TableEntry) (low : suc entry.extent.size ≤ 3) (there : entry_at m page ≡ Some entry)
    (tiles : AreTilesBut m page (suc entry.extent.size)) where
  abbrev k : ℕ
  k = entry.extent.size

  -- the entry of a page of an eligible extent of the next size has the size of the page's own
  size_in_it : HasExtent (mapping_at m) (suc k) page → (p : ℕ) → p / 8 ^ suc k ≡ page / 8 ^ suc k → (e : TableEntry) → entry_at m p ≡ Some e
      → e.extent.size ≡ k
  size_in_it has p here e at = elim (cases_lt e.extent.size k) [
    | inl less ↦
        let passes = has_whole (mapping_at m) k p (smaller (mapping_at m) k (suc k) p (omega arith) low
        (whole_has (mapping_at m) (suc k) p (whole_alike (mapping_at m) (suc k) page p here
        ∙ has_whole (mapping_at m) (suc k) page has))) in
        let fails = tiles.largest p k e at less (omega arith) (λ _. omega arith) in
        absurd (false≢true (sym fails ∙ passes))
    | inr more ↦ elim (cases_lt k e.extent.size) [
      | inr most ↦ omega arith
      | inl above ↦
          let also = same_entry m tiles.entries p page e at
          (sym (coarser (suc k) e.extent.size p page above (tiles.entries.low p e at) here)) in
          let same = same_Some e entry (sym also ∙ there) in
          absurd (omega (arith, ap (λ (x : TableEntry). x.extent.size) same))
    ]
  ]

  part_at : (has : HasExtent (mapping_at m) (suc k) page) (p : ℕ) → p / 8 ^ suc k ≡ page / 8 ^ suc k
      → entry_at m p ≡ Some (part_of (entry_with (suc k) page has.head) p)
  part_at has p here =
      let so = mapped_by m p _ (page_in (mapping_at m) (suc k) page p has low here) in
      let e = so.entry in
      let is : e.extent.size ≡ k = size_in_it has p here e so.at in
      let starts : extent_start k p / 8 ^ suc k ≡ page / 8 ^ suc k = coarser k (suc k) (extent_start k p) p (omega arith) low
      (first_of_extent k p) ∙ here in
      let begins : mapping_at m (extent_start k p) ≡ Some e.mapping =
      subst (λ s. mapping_at m (extent_start s p) ≡ Some e.mapping) is (entry_begins m tiles.entries p e so.at) in
      let head : e.mapping ≡ moved_by (extent_start k p - extent_start (suc k) page) has.head =
      same_Some e.mapping _ (sym begins ∙ page_in (mapping_at m) (suc k) page (extent_start k p) has low starts) in
      let extent : e.extent ≡ extent_round k p = sym (tiles.entries.round p e so.at) ∙ ap (λ s. extent_round s p) is in
      so.at
      ∙ ap (λ (x : Extent). Some (record { extent = x; mapping = e.mapping })) extent
      ∙ ap (λ (x : Mapping). Some (record { extent = extent_round k p; mapping = x })) head
      ∙ ap (λ s. Some (record {
        extent = extent_round s p;
        mapping = moved_by
            (extent_start s p - extent_start (suc k) page) has.head;
      })) {x = k} {y = suc k - 1} (omega arith)

  pub no_join : ((w : TableEntry) → w.extent ≡ extent_round (suc k) page → AreParts w m → ⊥) → AreTiles m
  no_join none = settled m page (suc k) tiles (λ size above small. elim (cases_Bool (whole (mapping_at m) size page)) [
    | inr fails ↦ fails
    | inl passes ↦
        let has = smaller (mapping_at m) (suc k) size page above small (whole_has (mapping_at m) size page passes) in
        absurd (none (entry_with (suc k) page has.head) refl
        (record { aligned = has.is.aligned; at = λ p here. part_at has p (eqb-true _ _ here ∙ first_of_extent (suc k) page) }))
  ])

-- ---- an entry's extent, or a part of it, says another mapping

-- an aligned page begins its extent
page_begins : (k page : ℕ) → k ≤ 3 → page % 8 ^ k ≡ 0 → extent_start k page ≡ page
page_begins k page low first = omega (arith, (starts_below k page low).first, first)

-- another page of the next larger extent round an aligned one
record HasBeside (k page : ℕ) : Type 0 where
  pub other : ℕ
  pub has : other / 8 ^ suc k ≡ page / 8 ^ suc k
  pub apart : other / 8 ^ k ≢ page / 8 ^ k

beside_page : (k page : ℕ) → suc k ≤ 3 → HasBeside k page
beside_page k page low = elim (cases_eq (page / 8 ^ k % 8) 0) [
  | inl begins ↦ record { other = page + 8 ^ k; has = (above k low begins).0; apart = (above k low begins).1 }
  | inr later ↦ record { other = page - 8 ^ k; has = (below k low later).0; apart = (below k low later).1 }
]
  where
    above : (k : ℕ) → suc k ≤ 3 → page / 8 ^ k % 8 ≡ 0 → ((page + 8 ^ k) / 8 ^ suc k ≡ page / 8 ^ suc k)
        × ((page + 8 ^ k) / 8 ^ k ≢ page / 8 ^ k)
    above zero l begins = (omega arith, omega arith)
    above (suc zero) l begins = (omega arith, omega arith)
    above (suc (suc zero)) l begins = (omega arith, omega arith)
    above (suc (suc (suc k))) l begins = absurd (omega arith)

    below : (k : ℕ) → suc k ≤ 3 → page / 8 ^ k % 8 ≢ 0 → ((page - 8 ^ k) / 8 ^ suc k ≡ page / 8 ^ suc k)
        × ((page - 8 ^ k) / 8 ^ k ≢ page / 8 ^ k)
    below zero l later = (omega arith, omega arith)
    below (suc zero) l later = (omega arith, omega arith)
    below (suc (suc zero)) l later = (omega arith, omega arith)
    below (suc (suc (suc k))) l later = absurd (omega arith)

-- the frame of an entry's aligned page is a multiple too
frame_aligned : (m : Resident) (page : ℕ) (entry : TableEntry) → AreEntries m → AreAligned m → entry_at m page ≡ Some entry
    → page % 8 ^ entry.extent.size ≡ 0 → (mapping_of entry page).frame % 8 ^ entry.extent.size ≡ 0
frame_aligned m page entry entries aligned there first =
    let begins : mapping_at m page ≡ Some entry.mapping = ap (mapping_at m)
    (sym (page_begins entry.extent.size page (entries.low page entry there) first)) ∙ entry_begins m entries page entry there in
    let same = same_Some entry.mapping (mapping_of entry page) (sym begins ∙ entry_says m page entry there) in
    ap (λ (x : Mapping). x.frame % 8 ^ entry.extent.size) (sym same) ∙ aligned page entry there

-- the entry of a size that begins at a page gets another mapping in its frames
pub set_tiles : (m n : Resident) (entry : TableEntry) (size page before : ℕ) (mapping : Mapping) → entry_at m page ≡ Some entry
    → entry.extent.size ≡ size → page % 8 ^ size ≡ 0 → mapping.frame ≡ (mapping_of entry page).frame → AreTilesBut m page before
    → Maps (extent_round size page) (λ _. Some (entry_with size page mapping)) m n → AreTilesBut n page (suc size)
set_tiles m n entry size page before mapping there is first frame tiles maps =
    let at_first : page % 8 ^ entry.extent.size ≡ 0 = ap (λ s. page % 8 ^ s) is ∙ first in
    let aligned : (mapping_of entry page).frame % 8 ^ size ≡ 0 = ap (λ s. (mapping_of entry page).frame % 8 ^ s) (sym is)
    ∙ frame_aligned m page entry tiles.entries tiles.aligned there at_first in
    one_entry m n (entry_with size page mapping) page before (first_of_extent size page)
    (omega (arith, is, tiles.entries.low page entry there)) (ap (λ f. f % 8 ^ size) frame ∙ aligned) tiles maps

-- The part of a size from a page on of a larger entry gets another mapping than it had.
pub record SetsPart (m n : Resident) (entry : TableEntry) (size page : ℕ) (mapping : Mapping) : Type 0 where
  pub entries : AreEntries m
  pub there : entry_at m page ≡ Some entry
  pub smaller_part : size < entry.extent.size
  pub frame : mapping.frame ≡ (mapping_of entry page).frame
  pub other : mapping ≢ mapping_of entry page
  pub says : (p : ℕ) → mapping_at n p ≡ (if p / 8 ^ size == page / 8 ^ size then Some (moved_by (p - page) mapping) else mapping_at m p)

module _ (m n : Resident) (entry : TableEntry) (size page : ℕ) (mapping : Mapping) (sets : SetsPart m n entry size page mapping) where
  open sets use {entries, there, smaller_part, frame, other, says}

  low : entry.extent.size ≤ 3
  low = entries.low page entry there

  not_whole : HasExtent (mapping_at n) (suc size) page → ⊥
  not_whole has =
      let beside = beside_page size page (omega (arith, low, smaller_part)) in
      let q = beside.other in
      let own : mapping_at n page ≡ Some mapping =
      says page ∙ ap (λ b. if b then Some (moved_by (page - page) mapping) else mapping_at m page)
      (eq-eqb (page / 8 ^ size) (page / 8 ^ size) refl)
      ∙ ap (λ i. Some (moved_by i mapping)) {x = page - page} {y = 0} (omega arith) ∙ ap Some (not_moved mapping) in
      let rest : mapping_at n q ≡ Some (mapping_of entry q) =
      says q ∙ ap (λ b. if b then Some (moved_by (q - page) mapping) else mapping_at m q)
      (ne_eqb (q / 8 ^ size) (page / 8 ^ size) beside.apart)
      ∙ entry_says m q entry (same_entry m entries page q entry there
      (coarser (suc size) entry.extent.size q page smaller_part low beside.has)) in
      let one = same_Some _ mapping (sym (page_in (mapping_at n) (suc size) page page has (omega (arith, low, smaller_part)) refl) ∙ own) in
      let two = same_Some _ (mapping_of entry q)
      (sym (page_in (mapping_at n) (suc size) page q has (omega (arith, low, smaller_part)) beside.has) ∙ rest) in
      other (same_mapping mapping (mapping_of entry page) frame
      (sym (ap (λ (x : Mapping). x.region) one) ∙ ap (λ (x : Mapping). x.region) two)
      (sym (ap (λ (x : Mapping). x.rights) one) ∙ ap (λ (x : Mapping). x.rights) two)
      (sym (ap (λ (x : Mapping). x.dirty) one) ∙ ap (λ (x : Mapping). x.dirty) two))

  -- so no larger extent round it is eligible
  pub set_apart : AreTilesBut n page (suc size) → AreTiles n
  set_apart tiles = settled n page (suc size) tiles (λ k above small. elim (cases_Bool (whole (mapping_at n) k page)) [
    | inr fails ↦ fails
    | inl passes ↦ absurd (not_whole (smaller (mapping_at n) (suc size) k page above small (whole_has (mapping_at n) k page passes)))
  ])

-- what each page says afterwards, where the entries were broken down before
pub set_says : (l m n : Resident) (size page : ℕ) (mapping : Mapping) → size ≤ 3 → page % 8 ^ size ≡ 0 → MapsAlike l m
    → Maps (extent_round size page) (λ _. Some (entry_with size page mapping)) m n
    → (p : ℕ) → mapping_at n p ≡ (if p / 8 ^ size == page / 8 ^ size then Some (moved_by (p - page) mapping) else mapping_at l p)
set_says l m n size page mapping low first before maps p =
    let begins = first_of_extent size page in
    elim (cases_eq (p / 8 ^ size) (page / 8 ^ size)) [
      | inl here ↦
          says_given m n (extent_round size page) (λ _. Some (entry_with size page mapping)) maps p (here ∙ sym begins)
          ∙ ap (λ f. Some (moved_by (p - f) mapping)) (page_begins size page low first)
          ∙ ap (λ b. if b then Some (moved_by (p - page) mapping) else mapping_at l p) (sym (eq-eqb _ _ here))
      | inr apart ↦
          says_same m n (extent_round size page) (λ _. Some (entry_with size page mapping)) maps p (λ same. apart (same ∙ begins))
          ∙ (before.at p ∙ ap (λ b. if b then Some (moved_by (p - page) mapping) else mapping_at l p) (sym (ne_eqb _ _ apart)))
    ]

-- what each page says after a change of one
pub one_says : (l m n : Resident) (extent : Extent) (page : ℕ) (given : Option TableEntry) (said : Option Mapping) → extent.size ≡ 0
    → extent.first ≡ page → option_map (λ (e : TableEntry). mapping_of e page) given ≡ said → MapsAlike l m → Maps extent (λ _. given) m n
    → (p : ℕ) → mapping_at n p ≡ (if p == page then said else mapping_at l p)
one_says l m n extent page given said size first is before maps p = elim (cases_eq p page) [
  | inl here ↦
      says_given m n extent (λ _. given) maps p (ap (λ q. q / 8 ^ extent.size) (here ∙ sym first))
      ∙ (ap (λ q. option_map (λ (e : TableEntry). mapping_of e q) given) here ∙ is)
      ∙ ap (λ b. if b then said else mapping_at l p) (sym (eq-eqb _ _ here))
  | inr apart ↦
      says_same m n extent (λ _. given) maps p (λ same. apart (one_page p extent.first extent.size size same ∙ first))
      ∙ (before.at p ∙ ap (λ b. if b then said else mapping_at l p) (sym (ne_eqb _ _ apart)))
]
  where
    one_page : (p q k : ℕ) → k ≡ 0 → p / 8 ^ k ≡ q / 8 ^ k → p ≡ q
    one_page p q k e same = let at : p / 8 ^ 0 ≡ q / 8 ^ 0 = subst (λ s. p / 8 ^ s ≡ q / 8 ^ s) e same in omega arith

-- an entry of one page comes
pub put_tiles : (m n : Resident) (size page : ℕ) (mapping : Mapping) → size ≡ 0 → AreTiles m
    → Maps (extent_round size page) (λ _. Some (entry_with size page mapping)) m n → AreTilesBut n page (suc size)
put_tiles m n size page mapping base tiles maps =
    let aligned : mapping.frame % 8 ^ 0 ≡ 0 = omega arith in
    one_entry m n (entry_with size page mapping) page 0 (first_of_extent size page) (omega arith)
    (ap (λ s. mapping.frame % 8 ^ s) base ∙ aligned) (tiles_but m page 0 tiles) maps

pub put_says : (m n : Resident) (size page : ℕ) (mapping : Mapping) → size ≡ 0
    → Maps (extent_round size page) (λ _. Some (entry_with size page mapping)) m n
    → (p : ℕ) → mapping_at n p ≡ (if p == page then Some mapping else mapping_at m p)
put_says m n size page mapping base maps =
    let whole_page : extent_start 0 page ≡ page = omega arith in
    let first : extent_start size page ≡ page = ap (λ s. extent_start s page) base ∙ whole_page in
    one_says m m n (extent_round size page) page (Some (entry_with size page mapping)) (Some mapping) base first
    (ap (λ i. Some (moved_by i mapping)) {x = page - extent_start size page} {y = 0} (omega arith) ∙ ap Some (not_moved mapping))
    (alike_all m) maps

-- an entry that is put, or put in the place of another, is the page's
pub put_there : (m n : Resident) (size page : ℕ) (mapping : Mapping)
    → Maps (extent_round size page) (λ (p : ℕ). Some (entry_with size page mapping)) m n
    → entry_at n page ≡ Some (entry_with size page mapping)
put_there m n size page mapping maps =
    maps.at page ∙ cond-true _ _ _ (eq-eqb (page / 8 ^ size) (extent_start size page / 8 ^ size) (sym (first_of_extent size page)))
