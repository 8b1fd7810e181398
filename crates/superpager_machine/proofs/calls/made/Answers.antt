use Rattle.std.proofs.Common.{Some, ap, sym, ◌∙◌}
use Rattle.superpager_machine.proofs.Made.{IsMade-told}
use Rattle.superpager_machine.proofs.calls.made.Goals as goal

pub returns-in-Ok : goal.returns-in-Ok
returns-in-Ok c = IsMade-told c.args.machine.now.kept.state c.put_in.new.self.kept.state c.args.processor c.args.call c.deref_mut.result.now
    c.ask-told.new.pager c.in-Ok.told c.of.result (c.in-Some.ensures.out ∙ ap Some (sym c.deref_mut.ensures.value)) c.put_in.ensures c.of.ensures
    c.in-Ok.ensures.refused c.in-Ok.ensures.told
