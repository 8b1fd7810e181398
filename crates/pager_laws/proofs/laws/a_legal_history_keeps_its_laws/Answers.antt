use Rattle.pager_laws.proofs.KeptLaws.{KeepsLawsAllAlong-legal}
use Rattle.pager_laws.proofs.laws.a_legal_history_keeps_its_laws.Goals as goal

pub returns : goal.returns
returns c = KeepsLawsAllAlong-legal
