use Rattle.std.proofs.Common.{◌≡◌, ◌+◌, ◌-◌, ◌≤◌}
use Rattle.followed_space.proofs.ClearedPages.{ClearsTo}
use Rattle.tiles.specs.Resident.{mapping_at, frames_in}
use Rattle.followed_space.proofs.space.remove_all.Given as goal

-- the pages before this one are cleared
abbrev pub invariant-loop-page : goal.invariant-loop-page
invariant-loop-page l = record {
  frames : frames_in l.pages ≡ frames_in l.fn.pages;
  cleared : ClearsTo l.first l.from (mapping_at l.fn.pages) (mapping_at l.pages);
  within : l.from ≤ l.first + l.length;
}

abbrev pub decreases-loop-page : goal.decreases-loop-page
decreases-loop-page l = l.first + l.length - l.from

abbrev pub ghosts-after_remove : goal.ghosts-after_remove
ghosts-after_remove a = record { name = a.blank.name; parts = a.blank.parts }
