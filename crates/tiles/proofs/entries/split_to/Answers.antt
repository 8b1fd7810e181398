use Rattle.std.proofs.Common.{◌≡◌, ℕ, suc, ◌/◌, ◌^◌, sym, ap, subst, ◌∙◌, arith}
use Rattle.std.proofs.lemmas.Bool.{eq-eqb}
use Rattle.pager_model.specs.declared.extent.Extent.{Extent}
use Rattle.pager_model.proofs.ExtentLemmas.{first_of_extent}
use Rattle.tiles.specs.Kept.{AreTilesBut}
use Rattle.tiles.proofs.EntryTiles.{Breaks, alike_on, first_there, round_is_extent, split_alike, split_fits, split_there, split_tiles}
use Rattle.tiles.proofs.entries.split_to.Goals as goal

pub split-requires-clause-there : goal.split-requires-clause-there
split-requires-clause-there g c =
    first_there c.loop-size.map c.loop-size.invariant.tiles.entries c.args.page c.loop-size.entry c.loop-size.invariant.there

pub part-entry-requires-clause-extent : goal.part-entry-requires-clause-extent
part-entry-requires-clause-extent g c =
    let entry = c.loop-size.entry in
    let so_far = c.loop-size.invariant in
    round_is_extent entry.extent entry.extent.size c.args.page (so_far.tiles.entries.low c.args.page entry so_far.there)
    (sym (so_far.tiles.entries.round c.args.page entry so_far.there))

pub part-entry-requires-clause-has : goal.part-entry-requires-clause-has
part-entry-requires-clause-has g c =
    let entry = c.loop-size.entry in
    let so_far = c.loop-size.invariant in
    let size = entry.extent.size in
    let round = so_far.tiles.entries.round c.args.page entry so_far.there in
    eq-eqb (c.args.page / 8 ^ size) (entry.extent.first / 8 ^ size)
    (sym (first_of_extent size c.args.page) ∙ ap (λ (x : Extent). x.first / 8 ^ size) round)

pub returns-clause-tiles : goal.returns-clause-tiles
returns-clause-tiles g c =
    let same : c.loop-size.entry.extent.size ≡ c.args.size = omega arith in
    subst (λ (k : ℕ). AreTilesBut c.loop-size.map c.args.page (suc k)) same c.loop-size.invariant.tiles

pub loop-size-preserved : goal.loop-size-preserved
loop-size-preserved g c =
    let m = c.loop-size.map in
    let n = c.split.new.self in
    let entry = c.loop-size.entry in
    let so_far = c.loop-size.invariant in
    let breaks : Breaks m n entry c.args.page = record {
      entries = so_far.tiles.entries;
      there = so_far.there;
      large = omega arith;
      maps = c.split.ensures.entries;
    } in
    rw c.part-entry.ensures (record {
      there = split_there m n entry c.args.page breaks;
      size = omega arith;
      fits = omega (arith, split_fits m n entry c.args.page breaks, so_far.fits);
      tiles = split_tiles m n entry c.args.page breaks so_far.tiles;
      pages = alike_on c.args.map.now m n so_far.pages (split_alike m n entry c.args.page breaks c.split.ensures.pages);
      cost = omega (arith, so_far.cost, c.split.ensures.cost);
    })
