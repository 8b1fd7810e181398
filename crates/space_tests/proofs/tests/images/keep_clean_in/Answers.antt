use Rattle.std.proofs.Common.{not, Bool, rules, ap, length, ◌∙◌}
use Rattle.std.proofs.lemmas.List.{length-map}
use Rattle.pager_model.specs.declared.tile.Tile.{Tile}
use Rattle.space_tests.proofs.tests.images.keep_clean_in.Goals as goal

pub returns : goal.returns
returns c =
    let test : Tile → Bool = λ t. not t.dirty in
    ap length (c.retain_in.ensures test (λ t b called. search rules)) ∙ length-map c.args.images.now _
