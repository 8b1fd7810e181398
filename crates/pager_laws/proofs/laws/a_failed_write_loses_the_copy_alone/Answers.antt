use Rattle.pager_laws.proofs.CopyLaws.{LosesItsCopy-failed}
use Rattle.pager_laws.proofs.laws.a_failed_write_loses_the_copy_alone.Goals as goal

pub returns : goal.returns
returns c st e page count allowed = LosesItsCopy-failed st e allowed page count
