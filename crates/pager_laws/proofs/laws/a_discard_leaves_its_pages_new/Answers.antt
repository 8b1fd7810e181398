use Rattle.pager_laws.proofs.NewPages.{new_but_for_rights}
use Rattle.pager_laws.proofs.laws.a_discard_leaves_its_pages_new.Goals as goal

pub returns : goal.returns
returns c = new_but_for_rights
