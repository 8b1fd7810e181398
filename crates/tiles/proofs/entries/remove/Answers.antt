use Rattle.std.proofs.Common.{◌≡◌, None, refl, ◌∙◌}
use Rattle.tiles.proofs.EntryTiles.{base_first, first_there, one_says, removed_tiles}
use Rattle.tiles.proofs.entries.remove.Goals as goal

pub remove-requires : goal.remove-requires
remove-requires g c =
    let split = c.split_to-base.ensures in
    first_there c.split_to-base.new.map split.tiles.entries c.args.page c.split_to-base.result split.there

pub returns-clause-tiles : goal.returns-clause-tiles
returns-clause-tiles g c =
    let split = c.split_to-base.ensures in
    removed_tiles c.split_to-base.new.map c.remove.new.self c.split_to-base.result c.args.page _ split.there
    (split.size ∙ c.at_level.ensures) split.tiles c.remove.ensures.entries

pub returns-clause-pages : goal.returns-clause-pages
returns-clause-pages g c p =
    let split = c.split_to-base.ensures in
    let m = c.split_to-base.new.map in
    let base = c.split_to-base.result in
    let size : base.extent.size ≡ 0 = split.size ∙ c.at_level.ensures in
    one_says c.args.map.now m c.remove.new.self base.extent c.args.page None None size
    (base_first m c.args.page base split.tiles.entries split.there size) refl split.pages c.remove.ensures.entries p
