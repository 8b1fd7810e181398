use Rattle.std.proofs.Common.{◌≡◌, ℕ, Option, ap, subst, sym, ◌∙◌}
use Rattle.followed_space.specs.Changed.{IsChange}
use Rattle.pager_model.specs.declared.tile.Mapping.{Mapping}
use Rattle.pager_model.specs.Tiles.{is_tile_in}
use Rattle.tiles.specs.declared.moves.Moves.{Moves}
use Rattle.tiles.specs.Resident.{mapping_at}
use Rattle.tiles.specs.Sized.{KeepsOutsideIn}
use Rattle.told_space.proofs.translations.touched.Goals as goal

pub returns-in-Nothing : goal.returns-in-Nothing
returns-in-Nothing c = λ old new change t was outside.
    let same = subst (IsChange old new) c.in-Nothing.is change in
    let pages : mapping_at new ≡ mapping_at old = λ i p. same p i in
    ap (λ (f : ℕ → Option Mapping). is_tile_in c.args.sizes f t) pages ∙ was

pub returns-in-Page : goal.returns-in-Page
returns-in-Page c = λ old new change.
    let page = subst (IsChange old new) c.in-Page.is change in
    subst (λ (moves : Moves). KeepsOutsideIn c.args.sizes moves.touched (mapping_at old) (mapping_at new)) (sym c.moves.ensures) (page.1.moves_in c.args.sizes).outside

pub returns-in-Range : goal.returns-in-Range
returns-in-Range c = λ old new change. (subst (IsChange old new) c.in-Range.is change).1 c.args.sizes
