use Rattle.std.proofs.Common.{◌≡◌, ◌∷◌, ◌++◌, is_some, length, take, drop, get_or, rules, refl, sym, ap, ◌∙◌}
use Rattle.std.specs.List.{remove}
use Rattle.std.proofs.lemmas.List.{with_items_is}
use Rattle.std.proofs.lemmas.List.Quantifiers.{position-Some}
use Rattle.pager_model.specs.declared.tile.Tile.{Tile}
use Rattle.pager_model.specs.Tiles.{same_tile}
use Rattle.tlb_images.proofs.ImageLemmas.{touched-found, is_some-position, IsImage-touched, count-rotated}
use Rattle.tlb_images.proofs.image.Image.bring_to_front.Goals as goal

pub returns-in_default-clause-stands : goal.returns-in_default-clause-stands
returns-in_default-clause-stands c =
    sym (ap is_some c.in_default.is) ∙ ap is_some c.position_of.ensures.value ∙ is_some-position (same_tile c.args.tile.now) c.args.self.now

pub returns-clause-stands : goal.returns-clause-stands
returns-clause-stands c =
    sym (ap is_some c.in-Some.is) ∙ ap is_some c.position_of.ensures.value ∙ is_some-position (same_tile c.args.tile.now) c.args.self.now

brought : (c : goal.After-self-1) (d : Tile)
    → take c.self.inside.tiles.len
    (c.rotate.new.tiles ++ drop
    (length c.rotate.new.tiles) c.self.inside.tiles.items) ≡ get_or c.args.self.now c.in-Some.place d ∷ remove c.args.self.now c.in-Some.place
brought c d =
    with_items_is c.self.inside.tiles c.rotate.new.tiles (search rules) ∙ c.rotate.ensures d
    ∙ ap (λ ts. get_or ts c.in-Some.place d ∷ remove ts c.in-Some.place) (c.deref_mut.ensures.value ∙ c.self.view_is)

pub returns-clause-touched : goal.returns-clause-touched
returns-clause-touched c = λ stands.
    let tile = c.args.tile.now in
    brought c tile ∙ touched-found tile c.args.self.now c.in-Some.place tile c.position_of.ensures.image
    (sym c.position_of.ensures.value ∙ c.in-Some.is)

pub returns-clause-same_ones : goal.returns-clause-same_ones
returns-clause-same_ones c = λ f.
    let tile = c.args.tile.now in
    let found = position-Some (same_tile tile) c.args.self.now c.in-Some.place tile (sym c.position_of.ensures.value ∙ c.in-Some.is) in
    rw (brought c tile) (count-rotated f c.args.self.now c.in-Some.place tile found.0)

pub invariant_of-self : goal.invariant_of-self
invariant_of-self c =
    (rw (returns-clause-touched c refl) (IsImage-touched c.args.tile.now c.args.self.now c.position_of.ensures.image), search rules)
