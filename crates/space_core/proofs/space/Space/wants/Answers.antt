use Rattle.std.proofs.Common.{inl, inr}
use Rattle.std.proofs.lemmas.Option.{IfSome_then}
use Rattle.pager_model.specs.SpaceStates.{access_page}
use Rattle.space_core.proofs.MappedAccesses.{mapped_resident}
use Rattle.space_core.proofs.space.Space.wants.Goals as goal

pub returns-in-Refused : goal.returns-in-Refused
returns-in-Refused g c =
    record {
      some = tt;
      none = elim c.in-Refused.is [
        | inl refused ↦ (rw refused.1 at c.look.ensures).0
        | inr found ↦ λ _. IfSome_then (access_page c.args.call.now) (rw found.1 at c.look.ensures).1
            (λ page. mapped_resident c.args.self.now page found.0)
      ];
    }
