-- the pages that each call maps
use Rattle.std.proofs.Common.{◌*◌, ◌/◌, ◌<◌, ◌≤◌, IfErr, arith, subst, sym}
use Rattle.lackey_lines.specs.declared.system_call.SystemCall.{SystemCall}
use Rattle.lackey_regions.specs.Refusals.{HasByte, IsCause, MapsPage}
use Rattle.lackey_regions.proofs.Causes.{err_of_more}
use Rattle.lackey_regions.proofs.memory.Memory.system_call.Goals as goal

pub returns-in-Map-clause-refused : goal.returns-in-Map-clause-refused
returns-in-Map-clause-refused c =
    subst (λ (call : SystemCall). IfErr c.map.result (IsCause (MapsPage call) c.map.new.self.layout c.map.new.self.regions.regions.items))
    (sym c.in-Map.is)
    (err_of_more (λ page. (c.in-Map.first / 8192 ≤ page) × (page * 8192 < c.saturating_add.result)) (HasByte c.in-Map.first c.in-Map.length) _ _
    c.map.result (λ page has. (has.0, omega (arith, has, c.saturating_add.ensures))) c.map.ensures.refused)

pub returns-in-Break-clause-refused : goal.returns-in-Break-clause-refused
returns-in-Break-clause-refused c =
    subst (λ (call : SystemCall). IfErr c.set_top.result (IsCause (MapsPage call) c.set_top.new.self.layout c.set_top.new.self.regions.regions.items))
    (sym c.in-Break.is) c.set_top.ensures.refused

pub returns-in-Move-clause-refused : goal.returns-in-Move-clause-refused
returns-in-Move-clause-refused c =
    subst (λ (call : SystemCall). IfErr c.remap.result (IsCause (MapsPage call) c.remap.new.self.layout c.remap.new.self.regions.regions.items))
    (sym c.in-Move.is) c.remap.ensures.refused
