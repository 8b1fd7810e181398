use Rattle.pager_laws.proofs.CopyLaws.{KeepsCopies-legal}
use Rattle.pager_laws.proofs.laws.a_clean_page_equals_its_copy.Goals as goal

pub returns : goal.returns
returns c g history s page legal = (KeepsCopies-legal g history s legal).clean page
