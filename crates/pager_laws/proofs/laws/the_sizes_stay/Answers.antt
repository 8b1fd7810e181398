use Rattle.pager_laws.proofs.KeptSizes.{sizes-history, has_size-history}
use Rattle.pager_laws.proofs.laws.the_sizes_stay.Goals as goal

pub returns : goal.returns
returns c = record { stay = sizes-history; kept = has_size-history }
