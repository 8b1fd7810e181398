use denote.Param.Send.{IsSync, whole-keyless}
use Rattle.pager_model.specs.contracts.chunks.block.Key.{the_row}
use Rattle.pager_model.proofs.chunks.block.Key.TheSendSync.Send.{send}

pub sync : IsSync the_row
sync = record { shared = λ d b o κ q. whole-keyless _ _ send.owned q d b o }
