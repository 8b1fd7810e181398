use Rattle.std.proofs.Common.{◌≡◌, rules, true}
use Rattle.tlb_images.specs.Image.{begins_in}
use Rattle.tlb_images.proofs.images.fn.retain_each_in.sift.Goals as goal

pub returns-else-not-begins_in : goal.returns-else-not-begins_in
returns-else-not-begins_in g c = λ test told.
    let inside : begins_in c.captures.range c.args.tile.now ≡ true = search rules in
    rw inside (told c.args.tile.now c.is_tile.result (search rules))
