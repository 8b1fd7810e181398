use Rattle.tiles.specs.Resident.{mapping_at}
use Rattle.told_space.proofs.KeptImages.{KeepTiles-untouched}
use Rattle.told_space.proofs.translations.keep_tiles.Goals as goal

pub returns : goal.returns
returns c =
    let before = c.requires in
    KeepTiles-untouched c.args.sizes c.touched-range.result (mapping_at before.0) (mapping_at c.args.space.now.pages) c.args.images.now
    c.keep_untouched.new.images
    (c.touched-range.ensures before.0 c.args.space.now.pages before.1) before.2 c.keep_untouched.ensures
