use Rattle.pager_laws.proofs.TranslationLaws.{HaveTiles-legal}
use Rattle.pager_laws.proofs.laws.an_image_has_tiles_alone.Goals as goal

pub returns : goal.returns
returns c g history s processor legal = HaveTiles-legal g history s legal processor
