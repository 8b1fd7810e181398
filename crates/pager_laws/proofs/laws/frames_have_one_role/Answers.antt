use Rattle.pager_laws.proofs.LegalHistories.{IsPartition-legal, Agrees-legal, OwnsBy-legal, NothingHeld-legal}
use Rattle.pager_laws.proofs.laws.frames_have_one_role.Goals as goal

pub returns : goal.returns
returns c = record { partition = IsPartition-legal; agrees = Agrees-legal; owns = OwnsBy-legal; held = NothingHeld-legal }
