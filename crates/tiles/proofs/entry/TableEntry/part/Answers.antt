use Rattle.std.proofs.Common.{◌≡◌, ◌+◌, ◌-◌, ◌*◌, ◌/◌, ◌^◌, ◌<◌, ◌≤◌, ap, ◌∙◌, arith}
use Rattle.std.proofs.Math.Nat.{div-mul-le_self}
use Rattle.std.proofs.lemmas.Bool.{eqb-true}
use Rattle.pager_model.specs.Extents.{extent_start}
use Rattle.pager_model.proofs.ExtentLemmas.{eight_pos, of_extent}
use Rattle.tiles.proofs.EntryChanges.{start_of}
use Rattle.tiles.proofs.Mappings.{starts_within}
use Rattle.tiles.proofs.entry.TableEntry.part.Goals as goal
use Rattle.tiles.proofs.entry.TableEntry.part.Goals.{After-pages-pages}

pub nonzero_div-first : goal.nonzero_div-first
nonzero_div-first c = omega (arith, c.pages-pages.ensures, eight_pos c.smaller-size.result)

-- where the part begins
start : (c : After-pages-pages) → c.args.page / c.pages-pages.result * c.pages-pages.result ≡ extent_start
    (c.args.self.now.extent.size - 1) c.args.page
start c = ap (λ n. c.args.page / n * n) (c.pages-pages.ensures ∙ ap (λ k. 8 ^ k) c.smaller-size.ensures)

-- it begins in the entry
inside : (c : After-pages-pages)
    → (c.args.self.now.extent.first ≤ extent_start (c.args.self.now.extent.size - 1) c.args.page)
    × (extent_start (c.args.self.now.extent.size - 1) c.args.page < c.args.self.now.extent.first + 8 ^ c.args.self.now.extent.size)
inside c =
    let extent = c.args.self.now.extent in
    let is = c.requires.extent in
    let at : c.args.page / 8 ^ extent.size ≡ extent.first / 8 ^ extent.size = eqb-true _ _ c.requires.has in (
      omega (arith, start_of extent.size extent.first c.args.page is.0 is.1 at, starts_within extent.size c.args.page is.0),
      omega (arith, (of_extent extent.size extent.first c.args.page is.0 is.1 at).1, div-mul-le_self c.args.page (8 ^ (extent.size - 1))),
    )

pub overflow_sub-first : goal.overflow_sub-first
overflow_sub-first c = omega (
  arith,
  start (goal.at.overflow_sub-first c).After-pages-pages,
  inside (goal.at.overflow_sub-first c).After-pages-pages,
)

pub moved-requires : goal.moved-requires
moved-requires c = omega (
  arith,
  start (goal.at.moved-requires c).After-pages-pages,
  inside (goal.at.moved-requires c).After-pages-pages,
  c.requires.fits,
)
