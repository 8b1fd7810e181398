use Rattle.pager_laws.proofs.CopyLaws.{KeepsCopies-legal}
use Rattle.pager_laws.proofs.laws.a_dirty_page_is_resident.Goals as goal

pub returns : goal.returns
returns c g history s page legal = (KeepsCopies-legal g history s legal).dirty page
