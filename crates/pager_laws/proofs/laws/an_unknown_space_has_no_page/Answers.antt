use Rattle.pager_laws.proofs.UnknownSpaces.{base-unknown}
use Rattle.pager_laws.proofs.laws.an_unknown_space_has_no_page.Goals as goal

pub returns : goal.returns
returns c g history s page legal unknown = base-unknown g history legal s page unknown
