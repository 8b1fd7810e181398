use Rattle.std.proofs.Common.{ℕ, [], get_or, Option, Some, sym, ap, ◌∙◌}
use Rattle.pager_model.specs.declared.tile.Mapping.{Mapping}
use Rattle.pager_model.specs.Images.{is_in_image}
use Rattle.pager_model.specs.SpaceStates.{tile_at, pages_of}
use Rattle.told_space.specs.Told.{kept_of, state_in}
use Rattle.told_space.proofs.Standing.{same_pages}
use Rattle.told_space.proofs.space.ToldSpace.is_hit.Goals as goal

pub returns-in-Some : goal.returns-in-Some
returns-in-Some c =
    let kept = kept_of c.args.self.now in
    let s = c.requires.stands in
    let image = get_or kept.images c.args.processor [] in
    c.has.ensures ∙ ap (is_in_image image) c.tile_of.ensures
    ∙ ap (λ (pages : ℕ → Option Mapping). is_in_image image (tile_at kept.sizes pages (Some c.in-Some.page))) (sym (same_pages kept s.0 s.1))
    ∙ ap (λ (o : Option ℕ). is_in_image image (tile_at kept.sizes (pages_of (state_in kept)) o)) (sym c.in-Some.is ∙ c.served_page.ensures)
