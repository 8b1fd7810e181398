use Rattle.std.proofs.Common.{◌≡◌, ◌++◌, take, drop, map, Bool, ◌≤◌}
use Rattle.std.specs.Fn.{FnReturnsAt}
use Rattle.std.specs.List.{All, count_by}
use Rattle.pager_model.specs.declared.tile.Tile.{Tile}
use Rattle.lru_stack.specs.Stacks.{is_at, kept_at, AnswersFor, Passes}
use Rattle.lru_stack.proofs.stack.retain.Given as goal

abbrev pub invariant-loop-place : goal.invariant-loop-place
invariant-loop-place g l =
    (drop l.place-index l.places ≡ drop l.place-index l.initial.places)
    × ((was test : Tile → Bool) → AnswersFor (FnReturnsAt g.F.Fn l.is_tile) was test → All (Passes was) l.initial.places
    → map (kept_at test) l.initial.places ≡ take l.place-index l.places ++ map (kept_at test) (drop l.place-index l.places))
    × ((t : Tile) → count_by (is_at t) l.places ≤ count_by (is_at t) l.initial.places)
