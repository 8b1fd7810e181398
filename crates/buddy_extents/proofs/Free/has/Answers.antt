use Rattle.std.proofs.Common.{◌*◌, ap, ◌∙◌, arith}
use Rattle.std.specs.Option.{is_some}
use Rattle.pager_model.specs.FreeBlocks.{choice}
use Rattle.bit_set.specs.Bits.{IsFirstFrom}
use Rattle.buddy_extents.specs.Blocks.{first_node}
use Rattle.buddy_extents.proofs.Extents.{choice_is_some}
use Rattle.buddy_extents.proofs.Free.has.Goals as goal

pub returns-clause-has : goal.returns-clause-has
returns-clause-has g c =
    let nodes = c.self.inside.nodes in
    let found : IsFirstFrom nodes (first_node (3 * c.args.size)) c.first_from.result =
    rw (c.first_node.ensures, c.order_of_size-order.ensures.order) at c.first_from.ensures.first in
    c.is_some.ensures
    ∙ (choice_is_some nodes c.self.inside.frames c.args.size c.first_from.result c.self.invariant.most c.self.invariant.blocks
    (omega arith) found
    ∙ ap (λ free. is_some (choice free c.args.size)) c.self.view_is)
