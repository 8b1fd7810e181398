-- why an access or a system call is refused
use Rattle.std.proofs.Common.{sym, ◌∙◌}
use Rattle.lackey_regions.specs.Refusals.{IsPageOf, MapsPage}
use Rattle.from_lackey.proofs.Refused.{refused_access, refused_call, refused_full}
use Rattle.from_lackey.proofs.lines.add_line.Goals as goal

pub returns-in_err-access-clause-refused : goal.returns-in_err-access-clause-refused
returns-in_err-access-clause-refused c =
    refused_access c.in-Some.access _ c.access.new.self.regions.regions.items _ c.in_err-access.field-0.0 _
    (sym c.access_of.ensures ∙ c.in-Some.is) c.from_residual.ensures.1 c.in_err-access.ensures.refused

pub returns-in_err-system_call-clause-refused : goal.returns-in_err-system_call-clause-refused
returns-in_err-system_call-clause-refused c =
    refused_call (MapsPage c.in-Some-system_call_of.call) _ c.system_call.new.self.regions.regions.items _ c.in_err-system_call.field-0.0 _
    (sym c.access_of.ensures ∙ c.in_default.is) c.from_residual-in_err-system_call.ensures.1 c.in_err-system_call.ensures.refused

pub returns-in_err-access-clause-full : goal.returns-in_err-access-clause-full
returns-in_err-access-clause-full c =
    refused_full (IsPageOf c.in-Some.access) c.access.new.self.layout c.access.new.self.regions.regions.items _ c.in_err-access.field-0.0
    c.from_residual.ensures.1 c.in_err-access.ensures.refused

pub returns-in_err-system_call-clause-full : goal.returns-in_err-system_call-clause-full
returns-in_err-system_call-clause-full c =
    refused_full (MapsPage c.in-Some-system_call_of.call) c.system_call.new.self.layout c.system_call.new.self.regions.regions.items _
    c.in_err-system_call.field-0.0 c.from_residual-in_err-system_call.ensures.1 c.in_err-system_call.ensures.refused
