use Rattle.std.proofs.Common.{◌≡◌}
use Rattle.pager_model.specs.SpaceStates.{pages_of, pages_after}
use Rattle.pager_model.specs.Tiles.{is_tile_in}
use Rattle.lru_stack.specs.Stacks.{kept_after}
use Rattle.lru_stack.proofs.Standing.{stands-again}
use Rattle.lru_stack.proofs.stack.Stack.follow.Goals as goal

pub returns-clause-stands : goal.returns-clause-stands
returns-clause-stands g c = λ z st e followers told stands.
    let test = is_tile_in z (pages_after st e.frames e.what) in
    let same : c.step.new.self ≡ kept_after test c.args.used c.args.self.now =
    c.step.ensures.after (is_tile_in z (pages_of st)) test told.tiles stands.tiles in
    rw same (stands-again z st e followers c.args.self.now c.args.used c.step.ensures.long told.used_page stands)
