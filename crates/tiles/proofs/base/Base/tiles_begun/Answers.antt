use Rattle.std.proofs.Common.{◌≡◌, ◌+◌, ◌-◌, ◌≤◌, ◌∙◌, Some, sym, ap, subst, arith}
use Rattle.tiles.specs.TableEntries.{tile_of_entry}
use Rattle.pager_model.specs.Tiles.{tile_of}
use Rattle.tiles.specs.Resident.{mapping_at, NoneResident}
use Rattle.tiles.specs.Sized.{begins_large_in}
use Rattle.tiles.proofs.Begun.{bare_begun, begun_on}
use Rattle.tiles.proofs.Blocks.{count_in_range}
use Rattle.tiles.proofs.Counting.{count, count-apart, count-most, count-zero}
use Rattle.tiles.proofs.base.Base.tiles_begun.Goals as goal

pub loop-entry-init : goal.loop-entry-init
loop-entry-init c =
    let f = begins_large_in c.args.sizes (mapping_at c.args.self.now) in
    record {
      from_on = omega arith;
      within = omega arith;
      counted = sym (ap (count f c.args.first) {x = c.args.first - c.args.first} {y = 0} (omega arith) ∙ count-zero f c.args.first);
    }

page_in : (c : goal.After-large_begun-count) → (c.max-page.result ≤ c.min-from.result) × (c.loop-entry.from ≤ c.max-page.result)
page_in c =
    let next = c.in-Some.ensures.some in (
      omega (arith, c.max-page.ensures, c.min-from.ensures, c.behind.ensures, next.fits.to, next.next.before_end),
      omega (arith, c.max-page.ensures),
    )

-- the tiles that begin in it, beside those before
one_more : (c : goal.After-large_begun-count)
    → count (begins_large_in c.args.sizes (mapping_at c.args.self.now)) c.args.first (c.min-from.result - c.args.first) ≡ count
    (begins_large_in c.args.sizes (mapping_at c.args.self.now)) c.args.first
    (c.loop-entry.from - c.args.first) + c.large_begun-count.result
one_more c =
    let pages = mapping_at c.args.self.now in
    let e = c.in-Some.entry in
    let next = c.in-Some.ensures.some in
    let there : tile_of pages c.max-page.result ≡ Some (tile_of_entry e) = ap (tile_of pages) c.max-page.ensures ∙ next.tile in
    let bare = subst (λ p. NoneResident pages c.loop-entry.from p) (sym c.max-page.ensures) next.lowest in
    begun_on c.args.sizes pages c.max-page.result c.min-from.result (tile_of_entry e) there (page_in c).0
    (omega (arith, c.min-from.ensures, c.behind.ensures))
    c.args.first c.loop-entry.from c.within.result c.large_begun-count.result c.loop-entry.invariant.from_on
    (page_in c).1 bare c.within.ensures c.large_begun-count.ensures.small c.large_begun-count.ensures.large next.fits.low

pub overflow_add-count : goal.overflow_add-count
overflow_add-count c =
    let f = begins_large_in c.args.sizes (mapping_at c.args.self.now) in
    omega (arith, one_more c, count-most f c.args.first (c.min-from.result - c.args.first), c.min-from.ensures)

pub loop-entry-preserved : goal.loop-entry-preserved
loop-entry-preserved c =
    let so_far = c.loop-entry.invariant in
    record {
      from_on = omega (arith, so_far.from_on, page_in c);
      within = omega (arith, c.min-from.ensures);
      counted = omega (arith, so_far.counted, one_more c);
    }

pub returns : goal.returns
returns c =
    let pages = mapping_at c.args.self.now in
    let f = begins_large_in c.args.sizes pages in
    let so_far = c.loop-entry.invariant in
    let end = c.args.first + c.args.length in
    let bare = bare_begun c.args.sizes pages c.loop-entry.from end c.in_default.ensures.none so_far.within in
    omega (
      arith,
      so_far.counted,
      bare,
      count-apart f c.args.first (c.loop-entry.from - c.args.first) (end - c.loop-entry.from) c.loop-entry.from
          (omega (arith, so_far.from_on)),
      ap (count f c.args.first) {x = c.loop-entry.from - c.args.first + (end - c.loop-entry.from)} {y = c.args.length}
          (omega (arith, so_far.from_on, so_far.within)),
      count_in_range f c.args.first c.args.length c.requires,
    )
