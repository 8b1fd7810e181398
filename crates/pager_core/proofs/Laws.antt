-- What the history of a machine keeps.
use Rattle.std.proofs.Common.{◌≡◌, ℕ, List, subst}
use Rattle.pager_model.specs.FrameStates.{FrameState}
use Rattle.pager_model.specs.Headline.{IsNeverShort}
use Rattle.pager_model.specs.Laws.{KeepsLaws}
use Rattle.pager_model.specs.Legal.{entries_in}
use Rattle.space_core.specs.Standing.{Kept}
use Rattle.pager_core.specs.Machines.{IsMachine}
use Rattle.pager_core.specs.Running.{Running}
use Rattle.pager_laws.proofs.KeptLaws.{KeepsLaws-legal}
use Rattle.pager_laws.proofs.OrderedRefusals.{IsNeverShort-legal}

-- it keeps the laws, whatever the machine is called
pub KeepsLaws-machine : (run self : Running) (spaces : List Kept) (pool : FrameState) (capacity : ℕ) → IsMachine run spaces pool capacity
    → run ≡ self → KeepsLaws self.given (entries_in self.history)
KeepsLaws-machine run self spaces pool capacity machine same =
    subst (λ (r : Running). KeepsLaws r.given (entries_in r.history)) same
    (KeepsLaws-legal run.given (entries_in run.history) machine.lawful.legal)

-- and no processor was refused a frame while wired places and processors were at most the frames
pub IsNeverShort-machine : (run self : Running) (spaces : List Kept) (pool : FrameState) (capacity : ℕ) → IsMachine run spaces pool capacity
    → run ≡ self → IsNeverShort self.given (entries_in self.history)
IsNeverShort-machine run self spaces pool capacity machine same =
    subst (λ (r : Running). IsNeverShort r.given (entries_in r.history)) same
    (IsNeverShort-legal run.given (entries_in run.history) machine.lawful.legal)
