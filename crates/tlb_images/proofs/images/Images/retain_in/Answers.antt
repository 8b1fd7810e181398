use Rattle.std.proofs.Common.{◌||◌, not, filter, sym}
use Rattle.std.proofs.lemmas.List.Folds.{map_fixed, list_any_none}
use Rattle.tlb_images.specs.Image.{begins_in}
use Rattle.tlb_images.proofs.ImageLemmas.{kept-outside}
use Rattle.tlb_images.proofs.images.Images.retain_in.Goals as goal

pub returns-else-may_begin_in : goal.returns-else-may_begin_in
returns-else-may_begin_in g c = λ test told.
    let range = c.args.range in
    let none = c.may_begin_in.ensures c.if-may_begin_in.false in
    sym (map_fixed (filter (λ t. not (begins_in range t) || test t)) c.args.self.now
    (λ k d below. kept-outside range test _ (list_any_none (begins_in range) _ (none k d below))))
