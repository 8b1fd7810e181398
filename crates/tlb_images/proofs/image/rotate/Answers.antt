use Rattle.tlb_images.proofs.ImageLemmas.{rotated}
use Rattle.tlb_images.proofs.image.rotate.Goals as goal

pub returns : goal.returns
returns c = λ d. rw c.rotate_right.ensures.after (rotated c.args.tiles.now c.args.place d c.requires)
