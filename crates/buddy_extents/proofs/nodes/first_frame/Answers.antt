use Rattle.std.proofs.Common.{◌<◌, ◌-◌, ◌*◌, ◌^◌, arith}
use Rattle.buddy_extents.specs.Blocks.{first_node}
use Rattle.buddy_extents.proofs.NodeNumbers.{first_frame_known}
use Rattle.buddy_extents.proofs.nodes.first_frame.Goals as goal
use Rattle.pager_model.specs.Bounds.{most_frames}

pub returns-clause-known : goal.returns-clause-known
returns-clause-known c =
    let known : (c.args.node - first_node c.args.order) * 2 ^ c.args.order < most_frames =
    first_frame_known c.args.order c.args.node c.requires.order c.requires.from c.requires.to in
    rw c.first_node.ensures (omega arith)
