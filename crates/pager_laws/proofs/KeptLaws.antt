-- What every legal history keeps, at its end and at each place of it.
use Rattle.std.proofs.Common.{List, [], ◌∷◌, subst, ◌∙◌}
use Rattle.std.proofs.lemmas.List.{append-nil}
use Rattle.pager_model.specs.declared.entry.Entry.{Entry}
use Rattle.pager_model.specs.Laws.{KeepsLaws, KeepsLawsAllAlong}
use Rattle.pager_model.specs.Legal.{IsLegal}
use Rattle.pager_model.specs.Settings.{Given}
use Rattle.pager_laws.proofs.KeptFrames.{KeepsFrames-legal}
use Rattle.pager_laws.proofs.LegalHistories.{Agrees-legal, OwnsBy-legal, NothingHeld-legal}
use Rattle.pager_laws.proofs.LegalPrefixes.{IsLegal-at}
use Rattle.pager_laws.proofs.CopyLaws.{KeepsCopies-legal}
use Rattle.pager_laws.proofs.WiredPlaces.{KeepsWires-legal}

pub KeepsLaws-legal : (g : Given) (history : List Entry) → IsLegal g history → KeepsLaws g history
KeepsLaws-legal g history legal =
    record {
      copies = λ s. KeepsCopies-legal g history s legal;
      frames = KeepsFrames-legal g history legal;
      owns = OwnsBy-legal g history legal;
      agrees = Agrees-legal g history legal;
      wires = KeepsWires-legal g history legal;
      rest = NothingHeld-legal g history legal;
    }

pub KeepsLawsAllAlong-legal : (g : Given) (history : List Entry) → IsLegal g history → KeepsLawsAllAlong g history
KeepsLawsAllAlong-legal g history legal before [] split = KeepsLaws-legal g before (subst (IsLegal g) (split ∙ append-nil before) legal)
KeepsLawsAllAlong-legal g history legal before (e ∷ after) split = KeepsLaws-legal g before
    (IsLegal-at g before after e (subst (IsLegal g) split legal)).0
