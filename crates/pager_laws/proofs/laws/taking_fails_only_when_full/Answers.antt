use Rattle.pager_laws.proofs.AllowedEntries.{full-take_frame, take_frame-full}
use Rattle.pager_laws.proofs.laws.taking_fails_only_when_full.Goals as goal

pub returns : goal.returns
returns c = record { full = full-take_frame; none = take_frame-full }
