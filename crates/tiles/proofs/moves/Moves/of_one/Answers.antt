use Rattle.std.proofs.Common.{◌≡◌, max, ap, ◌∙◌, arith}
use Rattle.pager_model.proofs.ExtentLemmas.{eight_pos}
use Rattle.tiles.proofs.TouchedTiles.{range_is}
use Rattle.tiles.proofs.moves.Moves.of_one.Goals as goal

pub nonzero_rem-result : goal.nonzero_rem-result
nonzero_rem-result c = omega (arith, c.pages-pages.ensures, eight_pos c.at_level.result)

pub returns-clause-touched : goal.returns-clause-touched
returns-clause-touched c =
    let over : c.at_level.result ≡ max c.args.before c.args.after
    = c.at_level.ensures ∙ c.max.ensures ∙ ap (λ n. max n c.level-2.result) c.level.ensures.level
    ∙ ap (max c.args.before) c.level-2.ensures.level in
    range_is c.args.page c.at_level.result (max c.args.before c.args.after) c.pages-pages.result
    (omega (arith, c.at_level.ensures, c.max.ensures, c.level.ensures.small, c.level-2.ensures.small)) over c.pages-pages.ensures
