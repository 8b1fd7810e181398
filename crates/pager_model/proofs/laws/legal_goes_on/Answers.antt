use Rattle.pager_model.proofs.Histories.{IsLegal-push}
use Rattle.pager_model.proofs.laws.legal_goes_on.Goals as goal

pub returns : goal.returns
returns c = IsLegal-push
