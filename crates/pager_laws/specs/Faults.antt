-- Faults of the stores, as a history tells them.
use Rattle.std.proofs.Common.{ℕ, ◌<◌, ◌≤◌, List, length}
use Rattle.pager_model.specs.declared.entry.Entry.{Entry}
use Rattle.pager_model.specs.Legal.{space_at}
use Rattle.pager_model.specs.Settings.{Given, faults_at_entry}
use Rattle.pager_model.specs.SpaceStates.{Rises}

-- The space's store failed, and then had so many faults: they rose above those at entry, and the highest count isn't below them.
pub record HasFailed (g : Given) (history : List Entry) (s count : ℕ) : Type 0 where
  pub known : s < length g.told
  pub rose : Rises (faults_at_entry g s) count
  pub within : count ≤ (space_at g history s).highest
