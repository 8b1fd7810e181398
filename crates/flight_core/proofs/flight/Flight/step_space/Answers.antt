use Rattle.std.proofs.Common.{ap}
use Rattle.flight_core.specs.Lacking.{may_write}
use Rattle.flight_core.proofs.WantOfMemory.{NeverLacks-made, NeverLacks-passed}
use Rattle.flight_core.proofs.flight.Flight.step_space.Goals as goal

pub returns-in-Short-clause-entry : goal.returns-in-Short-clause-entry
returns-in-Short-clause-entry g c = c.refuse.ensures.entry c.args.space.now

pub returns-in-Fault-clause-entry : goal.returns-in-Fault-clause-entry
returns-in-Fault-clause-entry g c = c.refuse-in-Fault.ensures.entry c.args.space.now

pub returns-in-Lack-clause-entry : goal.returns-in-Lack-clause-entry
returns-in-Lack-clause-entry g c = c.refuse-in-Lack.ensures.entry c.args.space.now

pub returns-in-Busy-clause-entry : goal.returns-in-Busy-clause-entry
returns-in-Busy-clause-entry g c = c.refuse-in-Busy.ensures.entry c.args.space.now

pub returns-in-Gone-clause-lasting : goal.returns-in-Gone-clause-lasting
returns-in-Gone-clause-lasting g c = λ _. NeverLacks-made c.args.self.now.purpose c.args.self.now.phase c.conclude.result.what c.conclude.new.self.phase (ap may_write c.in-Gone.is) c.conclude.ensures.row

pub returns-in-Fill-clause-lasting : goal.returns-in-Fill-clause-lasting
returns-in-Fill-clause-lasting g c = λ _. NeverLacks-made c.args.self.now.purpose c.args.self.now.phase c.fill.result.what c.fill.new.self.phase (ap may_write c.in-Fill.is) c.fill.ensures.row

pub returns-in-Late-clause-lasting : goal.returns-in-Late-clause-lasting
returns-in-Late-clause-lasting g c = λ _. NeverLacks-made c.args.self.now.purpose c.args.self.now.phase c.answer_late.result.what c.answer_late.new.self.phase (ap may_write c.in-Late.is) c.answer_late.ensures.row

pub returns-in-Short-clause-lasting : goal.returns-in-Short-clause-lasting
returns-in-Short-clause-lasting g c = λ _. NeverLacks-made c.args.self.now.purpose c.args.self.now.phase c.refuse.result.what c.refuse.new.self.phase (ap may_write c.in-Short.is) c.refuse.ensures.row

pub returns-in-Fault-clause-lasting : goal.returns-in-Fault-clause-lasting
returns-in-Fault-clause-lasting g c = λ _. NeverLacks-made c.args.self.now.purpose c.args.self.now.phase c.refuse-in-Fault.result.what c.refuse-in-Fault.new.self.phase (ap may_write c.in-Fault.is) c.refuse-in-Fault.ensures.row

pub returns-in-Lack-clause-lasting : goal.returns-in-Lack-clause-lasting
returns-in-Lack-clause-lasting g c = λ _. NeverLacks-made c.args.self.now.purpose c.args.self.now.phase c.refuse-in-Lack.result.what c.refuse-in-Lack.new.self.phase (ap may_write c.in-Lack.is) c.refuse-in-Lack.ensures.row

pub returns-in-Busy-clause-lasting : goal.returns-in-Busy-clause-lasting
returns-in-Busy-clause-lasting g c = λ _. NeverLacks-made c.args.self.now.purpose c.args.self.now.phase c.refuse-in-Busy.result.what c.refuse-in-Busy.new.self.phase (ap may_write c.in-Busy.is) c.refuse-in-Busy.ensures.row

pub returns-in-Back-clause-lasting : goal.returns-in-Back-clause-lasting
returns-in-Back-clause-lasting g c = λ _. NeverLacks-passed c.args.self.now.phase c.look_again.new.self.phase (ap may_write c.in-Back.is) c.look_again.ensures.row
