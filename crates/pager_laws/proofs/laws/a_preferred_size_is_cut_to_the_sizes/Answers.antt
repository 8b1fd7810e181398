use Rattle.pager_laws.proofs.PreferredExtent.{preferred_among-within}
use Rattle.pager_laws.proofs.laws.a_preferred_size_is_cut_to_the_sizes.Goals as goal

pub returns : goal.returns
returns c = preferred_among-within
