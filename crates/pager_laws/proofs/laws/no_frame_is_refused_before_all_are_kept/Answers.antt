use Rattle.pager_laws.proofs.OrderedRefusals.{IsNeverShort-legal}
use Rattle.pager_laws.proofs.laws.no_frame_is_refused_before_all_are_kept.Goals as goal

pub returns : goal.returns
returns c = IsNeverShort-legal
