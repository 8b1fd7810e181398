use Rattle.std.proofs.Common.{◌&&◌, nat_lt, not, Bool, rules, filter, ap, length, ◌∙◌}
use Rattle.std.proofs.lemmas.List.{length-map}
use Rattle.pager_model.specs.declared.tile.Tile.{Tile}
use Rattle.space_tests.proofs.tests.images.keep_clean_below.Goals as goal

pub returns : goal.returns
returns c =
    let test : Tile → Bool = λ t. not t.dirty && nat_lt t.extent.first c.args.page in
    ap length (c.retain.ensures test (λ t b called. search rules)) ∙ length-map c.args.images.now (filter test)
