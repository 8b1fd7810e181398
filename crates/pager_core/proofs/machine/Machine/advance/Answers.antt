use Rattle.pager_core.proofs.Laws.{IsNeverShort-machine, KeepsLaws-machine}
use Rattle.pager_core.proofs.machine.Machine.advance.Goals as goal

pub returns-in_default-clause-laws : goal.returns-in_default-clause-laws
returns-in_default-clause-laws g c =
    KeepsLaws-machine _ c.args.self.now c.self.inside.spaces.items c.self.inside.pool _ c.self.invariant.0 c.self.view_is

pub returns-in_default-clause-never_short : goal.returns-in_default-clause-never_short
returns-in_default-clause-never_short g c =
    IsNeverShort-machine _ c.args.self.now c.self.inside.spaces.items c.self.inside.pool _ c.self.invariant.0 c.self.view_is

pub returns-then-must_wait-clause-laws : goal.returns-then-must_wait-clause-laws
returns-then-must_wait-clause-laws g c =
    KeepsLaws-machine _ c.args.self.now c.self.inside.spaces.items c.self.inside.pool _ c.self.invariant.0 c.self.view_is

pub returns-then-must_wait-clause-never_short : goal.returns-then-must_wait-clause-never_short
returns-then-must_wait-clause-never_short g c =
    IsNeverShort-machine _ c.args.self.now c.self.inside.spaces.items c.self.inside.pool _ c.self.invariant.0 c.self.view_is
