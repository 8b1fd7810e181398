use Rattle.size_policy.proofs.Sizes.{Suits-preferred, preferred_largest}
use Rattle.size_policy.proofs.laws.preferred_is_the_largest.Goals as goal

pub returns : goal.returns
returns c = record { suits = Suits-preferred; largest = preferred_largest }
