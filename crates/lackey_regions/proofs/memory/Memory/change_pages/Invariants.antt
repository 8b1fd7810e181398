-- no access was added, and places were kept; the run is of pages of the space, and the page is in the range or at its end
use Rattle.std.proofs.Common.{◌-◌, ◌≤◌, []}
use Rattle.lackey_layout.specs.Places.{Keeps}
use Rattle.lackey_regions.specs.LineCalls.{Adds}
use Rattle.lackey_regions.proofs.memory.Memory.change_pages.Given as goal
use Rattle.pager_model.specs.Bounds.{space_pages}

abbrev pub invariant-loop-page : goal.invariant-loop-page
invariant-loop-page l = Adds l.fn.calls.items l.calls.items [] × Keeps l.fn.self.layout l.self.layout × (l.run_end ≤ space_pages) × (l.first ≤ l.page)

abbrev pub decreases-loop-page : goal.decreases-loop-page
decreases-loop-page l = l.end - l.page
