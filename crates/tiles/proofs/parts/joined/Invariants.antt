use Rattle.std.proofs.Common.{◌≡◌, ℕ, ◌*◌, ◌<◌, Some}
use Rattle.pager_model.specs.Tiles.{moved_by}
use Rattle.tiles.specs.KeptEntries.{value_of}
use Rattle.tiles.proofs.parts.joined.Given as goal

-- the parts so far follow
abbrev pub invariant-loop-part : goal.invariant-loop-part
invariant-loop-part l = (part : ℕ) → part < l.part → value_of l.parts part ≡ Some (moved_by (part * l.pages) l.head)
