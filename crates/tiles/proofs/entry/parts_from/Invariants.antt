use Rattle.std.proofs.Common.{◌≡◌, ℕ, ◌*◌, ◌<◌, Some, length}
use Rattle.std.specs.List.{slice_get}
use Rattle.pager_model.specs.Tiles.{moved_by}
use Rattle.tiles.proofs.entry.parts_from.Given as goal

-- the parts so far
abbrev pub invariant-loop-part : goal.invariant-loop-part
invariant-loop-part l = record {
  eight : length l.parts ≡ 8;
  parts : (part : ℕ) → part < l.part → slice_get l.parts part ≡ Some (moved_by (part * l.pages) l.mapping);
}
