use Rattle.pager_laws.proofs.PartYields.{yield_in-within}
use Rattle.pager_laws.proofs.laws.a_yield_is_cut_to_the_sizes.Goals as goal

pub returns : goal.returns
returns c = yield_in-within
