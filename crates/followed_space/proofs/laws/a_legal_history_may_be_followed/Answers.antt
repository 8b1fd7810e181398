use Rattle.followed_space.proofs.LegalEntries.{IsNext-legal}
use Rattle.followed_space.proofs.laws.a_legal_history_may_be_followed.Goals as goal

pub returns : goal.returns
returns c = IsNext-legal
