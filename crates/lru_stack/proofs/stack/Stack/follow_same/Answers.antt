use Rattle.std.proofs.Common.{◌≡◌}
use Rattle.std.specs.List.{All}
use Rattle.pager_model.specs.SpaceStates.{pages_of, pages_after}
use Rattle.pager_model.specs.Tiles.{is_tile_in}
use Rattle.lru_stack.specs.Stacks.{Passes, kept_after}
use Rattle.lru_stack.proofs.StackLemmas.{All-still, map-same}
use Rattle.lru_stack.proofs.Standing.{stands-again}
use Rattle.lru_stack.proofs.stack.Stack.follow_same.Goals as goal

pub returns-clause-stands : goal.returns-clause-stands
returns-clause-stands c = λ z st e followers told stands.
    let test = is_tile_in z (pages_after st e.frames e.what) in
    let all : All (Passes test) c.args.self.now.places = All-still (is_tile_in z
    (pages_of st)) test c.args.self.now.places told.tiles stands.tiles in
    let same : c.step_same.new.self ≡ kept_after test c.args.used c.args.self.now =
    c.step_same.ensures.after test (map-same test c.args.self.now.places all) in
    rw same (stands-again z st e followers c.args.self.now c.args.used c.step_same.ensures.long told.used_page stands)
