use Rattle.std.proofs.Common.{is_some, sym, ap, ◌∙◌}
use Rattle.pager_model.specs.Images.{is_in_image}
use Rattle.pager_model.specs.Tiles.{same_tile}
use Rattle.tlb_images.proofs.ImageLemmas.{is_some-position}
use Rattle.tlb_images.proofs.image.Image.has.Goals as goal

pub returns-in-Some : goal.returns-in-Some
returns-in-Some c =
    c.is_some.ensures ∙ ap is_some c.position_of.ensures.value ∙ is_some-position (same_tile c.in-Some.tile) c.args.self.now
    ∙ ap (is_in_image c.args.self.now) (sym c.in-Some.is)
