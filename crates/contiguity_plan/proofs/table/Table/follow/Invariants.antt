use Rattle.std.proofs.Common.{◌≡◌, [], length, take}
use Rattle.pager_model.specs.Legal.{IsLegal, frames_at, entries_in}
use Rattle.pager_model.specs.Settings.{Given}
use Rattle.contiguity_plan.specs.Tables.{IsRight}
use Rattle.contiguity_plan.proofs.table.Table.follow.Given as goal

abbrev pub invariant-loop-place : goal.invariant-loop-place
invariant-loop-place l = record {
  spaces : length l.self.places.items ≡ 16;
  right : (g : Given) → IsLegal g (entries_in l.history.items) → IsRight (frames_at g []) l.fn.self
      → IsRight (frames_at g (entries_in (take l.place l.history.items))) l.self;
}
