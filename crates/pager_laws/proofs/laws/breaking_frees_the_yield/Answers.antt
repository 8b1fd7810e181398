use Rattle.pager_laws.proofs.BreakYield.{Breaks-break}
use Rattle.pager_laws.proofs.laws.breaking_frees_the_yield.Goals as goal

pub returns : goal.returns
returns c = Breaks-break
