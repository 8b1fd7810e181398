-- How many looks a change of rights makes.
use Rattle.std.proofs.Common.{◌≡◌, ℕ, zero, suc, ◌+◌, ◌-◌, ◌*◌, ◌/◌, ◌<◌, ◌≤◌, Bool, true, false, if◌then◌else◌, ◌&&◌, nat_le, nat_lt, max, Option, Some, None, option_map, is_some, refl, sym, ap, ◌∙◌, arith}
use Rattle.std.proofs.lemmas.Bool.{lt-ltb}
use Rattle.tiles.specs.declared.entry.TableEntry.{TableEntry}
use Rattle.tiles.specs.TableEntries.{entry_at}
use Rattle.pager_model.specs.Bounds.{space_pages}
use Rattle.pager_model.specs.declared.region.Rights.{Rights}
use Rattle.pager_model.specs.declared.tile.Mapping.{Mapping}
use Rattle.pager_model.proofs.CountLemmas.{weight}
use Rattle.tiles.specs.Blocks.{ProtectsTo}
use Rattle.tiles.specs.Kept.{IsNextTile}
use Rattle.tiles.specs.Looks.{looks_in_block, looks_in_blocks, resident_in}
use Rattle.tiles.specs.Resident.{Resident, mapping_at, with_rights}
use Rattle.tiles.proofs.Blocks.{count_in_range}
use Rattle.tiles.proofs.Counting.{count, count-apart, count-same, count-suc}
use Rattle.tiles.proofs.EntryTiles.{entry_says}

-- ---- a change of one page

pub cost_found : (begun found : ℕ) → found ≤ begun + 4 → found ≤ begun + 62
cost_found begun found one = omega arith

pub cost_set : (begun found done : ℕ) → found ≤ begun + 4 → done ≤ found + 58 → done ≤ begun + 62
cost_set begun found done one more = omega arith

-- ---- resident pages

abbrev pub has_page : (ℕ → Option Mapping) → ℕ → Bool
has_page pages page = is_some (pages page)

pub resident_is : (pages : ℕ → Option Mapping) (first len : ℕ) → first + len ≤ space_pages
    → resident_in pages first len ≡ count (has_page pages) first len
resident_is pages first len known = count_in_range (has_page pages) first len known

-- a number that passes is counted
count-has : (f : ℕ → Bool) (from many n : ℕ) → from ≤ n → n < from + many → f n ≡ true → 1 ≤ count f from many
count-has f from many n low high passes =
    let rest = from + many - (n + 1) in
    omega (
      arith,
      ap (count f from) {x = many} {y = (n - from) + suc rest} (omega arith),
      count-apart f from (n - from) (suc rest) n (omega arith),
      count-suc f n rest,
      ap weight passes,
    )

-- and so it is beside those before it
pub count-further : (f : ℕ → Bool) (first from page end : ℕ) → first ≤ from → from ≤ page → page < end → f page ≡ true
    → count f first (from - first) + 1 ≤ count f first (end - first)
count-further f first from page end low on high passes =
    omega (
      arith,
      ap (count f first) {x = end - first} {y = (from - first) + (end - from)} (omega arith),
      count-apart f first (from - first) (end - from) from (omega arith),
      count-has f from (end - from) page on (omega arith) passes,
    )

pub count-part : (f : ℕ → Bool) (from many first len : ℕ) → from ≤ first → first + len ≤ from + many → count f first len ≤ count f from many
count-part f from many first len low high =
    let rest = from + many - (first + len) in
    omega (
      arith,
      ap (count f from) {x = many} {y = (first - from) + (len + rest)} (omega arith),
      count-apart f from (first - from) (len + rest) first (omega arith),
      count-apart f first len rest (first + len) refl,
    )

-- a part of a range has no more of them
pub resident_part : (pages : ℕ → Option Mapping) (from many first len : ℕ) → from ≤ first → first + len ≤ from + many → from + many ≤ space_pages
    → resident_in pages first len ≤ resident_in pages from many
resident_part pages from many first len low high known =
    omega (
      arith,
      resident_is pages first len (omega arith),
      resident_is pages from many known,
      count-part (has_page pages) from many first len low high,
    )

-- a page with other rights is resident still
pub still_resident : (first end : ℕ) (rights : Rights) (r s : Resident) → ProtectsTo first end rights r s
    → (p : ℕ) → has_page (mapping_at s) p ≡ has_page (mapping_at r) p
still_resident first end rights r s protects p = ap is_some (protects.at p) ∙ kept (nat_le first p && nat_lt p end) (mapping_at r p)
  where
    kept : (b : Bool) (m : Option Mapping) → is_some (if b then option_map (with_rights rights) m else m) ≡ is_some m
    kept true None = refl
    kept true (Some m) = refl
    kept false m = refl

-- the page of the next entry is resident
pub next_resident : (r : Resident) (from end : ℕ) (e : TableEntry) → IsNextTile r from end e → has_page (mapping_at r) (max from e.extent.first) ≡ true
next_resident r from end e next = ap is_some (next.fits.says (max from e.extent.first) next.fits.from next.fits.to)

-- a block that has an entry has a resident page
pub block_resident : (r : Resident) (block page : ℕ) → block < 2048 → page / 512 ≡ block → is_some (entry_at r page) ≡ true
    → 0 < resident_in (mapping_at r) (block * 512) 512
block_resident r block page known inside has =
    omega (
      arith,
      resident_is (mapping_at r) (block * 512) 512 (omega arith),
      count-has (has_page (mapping_at r)) (block * 512) 512 page (omega arith) (omega arith) (of (entry_at r page) refl has),
    )
  where
    of : (o : Option TableEntry) → entry_at r page ≡ o → is_some o ≡ true → has_page (mapping_at r) page ≡ true
    of (Some entry) at some = ap is_some (entry_says r page entry at)
    of None at some = absurd (cc)

-- ---- the looks in blocks

-- each block is a look
look_least : (pages : ℕ → Option Mapping) (block : ℕ) → 1 ≤ looks_in_block pages block
look_least pages block = of (nat_lt 0 (resident_in pages (block * 512) 512)) (resident_in pages (block * 512) 512)
  where
    of : (b : Bool) (n : ℕ) → 1 ≤ (if b then 4117 + 58 * n else 1)
    of true n = omega arith
    of false n = omega arith

-- and one with a resident page as many as these allow
pub looks_used : (pages : ℕ → Option Mapping) (block : ℕ) → 0 < resident_in pages (block * 512) 512
    → looks_in_block pages block ≡ 4117 + 58 * resident_in pages (block * 512) 512
looks_used pages block some =
    ap (λ b. if b then 4117 + 58 * resident_in pages (block * 512) 512 else 1) (lt-ltb 0 (resident_in pages (block * 512) 512) some)

-- they are of the pages of the block alone
pub block_alike : (old new : ℕ → Option Mapping) (block : ℕ) → block < 2048 → ((p : ℕ) → p / 512 ≡ block → new p ≡ old p)
    → looks_in_block new block ≡ looks_in_block old block
block_alike old new block known same =
    let alike = resident_is new (block * 512) 512 (omega arith)
    ∙ count-same (has_page new) (has_page old) (block * 512) 512 (λ p low high. ap is_some (same p (omega arith)))
    ∙ sym (resident_is old (block * 512) 512 (omega arith)) in
    ap (λ n. if nat_lt 0 n then 4117 + 58 * n else 1) alike

pub looks-none : (pages : ℕ → Option Mapping) (from : ℕ) → looks_in_blocks pages from (from - from) ≡ 0
unfolding looks_in_blocks
looks-none pages from = ap (looks_in_blocks pages from) {x = from - from} {y = 0} (omega arith)

looks-suc : (pages : ℕ → Option Mapping) (from more : ℕ)
    → looks_in_blocks pages from (suc more) ≡ looks_in_blocks pages from more + looks_in_block pages (from + more)
unfolding looks_in_blocks
looks-suc pages from more = refl

-- in one block more
pub looks-more : (pages : ℕ → Option Mapping) (from block : ℕ) → from ≤ block
    → looks_in_blocks pages from (block + 1 - from) ≡ looks_in_blocks pages from (block - from) + looks_in_block pages block
looks-more pages from block on =
    ap (looks_in_blocks pages from) {x = block + 1 - from} {y = suc (block - from)} (omega arith) ∙ looks-suc pages from (block - from)
    ∙ ap (λ b. looks_in_blocks pages from (block - from) + looks_in_block pages b) {x = from + (block - from)} {y = block} (omega arith)

-- in further blocks, a look in each at least
pub looks-on : (pages : ℕ → Option Mapping) (from block next : ℕ) → from ≤ block → block ≤ next
    → looks_in_blocks pages from (block - from) + (next - block) ≤ looks_in_blocks pages from (next - from)
looks-on pages from block next on up =
    omega (arith, further (next - block), ap (looks_in_blocks pages from) {x = (block - from) + (next - block)} {y = next - from} (omega arith))
  where
    further : (more : ℕ) → looks_in_blocks pages from (block - from) + more ≤ looks_in_blocks pages from ((block - from) + more)
    further zero = omega (arith, ap (looks_in_blocks pages from) {x = (block - from) + 0} {y = block - from} (omega arith))
    further (suc more) =
        omega (
          arith,
          further more,
          ap (looks_in_blocks pages from) {x = (block - from) + suc more} {y = suc ((block - from) + more)} (omega arith),
          looks-suc pages from ((block - from) + more),
          look_least pages (from + ((block - from) + more)),
        )
