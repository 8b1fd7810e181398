use Rattle.buddy_extents.proofs.NodeNumbers.{node_below}
use Rattle.buddy_extents.proofs.nodes.node.Goals as goal

pub returns-clause-below : goal.returns-clause-below
returns-clause-below c = rw c.first_node.ensures (node_below c.args.order c.args.frame c.requires.order c.requires.frame)
