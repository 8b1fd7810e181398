use Rattle.buddy_extents.proofs.NodeNumbers.{order_by_zeros}
use Rattle.buddy_extents.proofs.nodes.order_of.Goals as goal

pub overflow_sub-result-2 : goal.overflow_sub-result-2
overflow_sub-result-2 c = (order_by_zeros c.args.node c.requires).0

pub returns-clause-order : goal.returns-clause-order
returns-clause-order c = (order_by_zeros c.args.node c.requires).1

pub returns-clause-from : goal.returns-clause-from
returns-clause-from c = (order_by_zeros c.args.node c.requires).2

pub returns-clause-to : goal.returns-clause-to
returns-clause-to c = (order_by_zeros c.args.node c.requires).3
