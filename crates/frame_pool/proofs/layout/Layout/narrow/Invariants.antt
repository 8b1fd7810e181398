use Rattle.std.proofs.Common.{◌≡◌, true, Some}
use Rattle.pager_model.specs.Agreement.{has_frame}
use Rattle.pager_model.specs.Layouts.{narrow_layout, record_at}
use Rattle.pager_model.specs.Records.{is_used}
use Rattle.pager_laws.specs.Laid.{IsLaid}
use Rattle.frame_pool.proofs.layout.Layout.narrow.Given as goal

abbrev pub invariant-loop-part : goal.invariant-loop-part
invariant-loop-part l =
    record {
      laid : IsLaid l.self;
      stands : record_at l.self l.part.frame ≡ Some l.part;
      has : has_frame l.frame (Some l.part) ≡ true;
      used : is_used l.self.used l.frame ≡ true;
      narrows : narrow_layout l.frame l.part l.self ≡ narrow_layout l.frame l.initial.part l.initial.self;
    }

abbrev pub decreases-loop-part : goal.decreases-loop-part
decreases-loop-part l = l.part.size
