use Rattle.std.proofs.Common.{◌-◌, ◌*◌, ◌^◌, false, Some, None, length, refl, ap, sym, ◌∙◌, arith}
use Rattle.std.proofs.lemmas.List.{length-set}
use Rattle.pager_model.specs.FreeBlocks.{choice, with_range}
use Rattle.bit_set.specs.Bits.{IsFirstFrom}
use Rattle.buddy_extents.specs.Blocks.{first_node, free_in}
use Rattle.buddy_extents.proofs.Extents.{IsTaken, order_from, no_choice_left, enough_free, take_by_nodes}
use Rattle.buddy_extents.proofs.Free.take.Given.{Over}
use Rattle.buddy_extents.proofs.Free.take.Goals as goal

pub returns-in_err-node-clause-chosen : goal.returns-in_err-node-clause-chosen
returns-in_err-node-clause-chosen g c =
    let none : IsFirstFrom c.self.inside.nodes (first_node (3 * c.args.size)) None =
    rw (c.first_node.ensures, c.order_of_size-order.ensures.order) at c.in_err-node.ensures.first in
    c.from_residual.ensures
    ∙ (sym (no_choice_left c.self.inside.nodes c.self.inside.frames c.args.size c.self.invariant.most c.self.invariant.blocks
    (omega arith) none)
    ∙ ap (λ free. choice free c.args.size) c.self.view_is)

pub returns-in_err-node-clause-taken : goal.returns-in_err-node-clause-taken
returns-in_err-node-clause-taken g c = rw c.from_residual.ensures refl

pub returns-in_err-node-clause-cost : goal.returns-in_err-node-clause-cost
returns-in_err-node-clause-cost g c = omega (arith, c.in_err-node.ensures.cost)

pub first_frame-first-requires-clause-order : goal.first_frame-first-requires-clause-order
first_frame-first-requires-clause-order g c = c.order_of-whole.ensures.order

pub first_frame-first-requires-clause-from : goal.first_frame-first-requires-clause-from
first_frame-first-requires-clause-from g c = c.order_of-whole.ensures.from

pub first_frame-first-requires-clause-to : goal.first_frame-first-requires-clause-to
first_frame-first-requires-clause-to g c = c.order_of-whole.ensures.to

pub cut-requires-clause-frame : goal.cut-requires-clause-frame
cut-requires-clause-frame g c = c.first_frame-first.ensures.known

pub cut-requires-clause-order : goal.cut-requires-clause-order
cut-requires-clause-order g c =
    let order = c.order_of_size-order.result in
    order_from order c.order_of-whole.result c.in_ok-node.node (omega arith) c.order_of-whole.ensures.order
    (omega (arith, c.first_node.ensures, c.in_ok-node.ensures.first.0)) c.order_of-whole.ensures.to

pub cut-requires-clause-most : goal.cut-requires-clause-most
cut-requires-clause-most g c = c.order_of-whole.ensures.order

pub cut-requires-clause-nodes : goal.cut-requires-clause-nodes
cut-requires-clause-nodes g c =
    ap length c.remove.ensures.set ∙ (length-set c.self.inside.nodes c.in_ok-node.node false ∙ c.self.invariant.blocks.size)

pub overflow_sub-self : goal.overflow_sub-self
overflow_sub-self g c =
    let found : IsFirstFrom c.self.inside.nodes (first_node (3 * c.args.size)) (Some c.in_ok-node.node) =
    rw (c.first_node.ensures, c.order_of_size-order.ensures.order) at c.in_ok-node.ensures.first in
    let enough = enough_free c.self.inside.nodes c.self.inside.frames c.self.inside.count c.args.size c.order_of-whole.result c.in_ok-node.node c.self.invariant (omega arith) c.order_of-whole.ensures.order found c.order_of-whole.ensures.from c.order_of-whole.ensures.to in
    omega (arith, enough, c.pages.ensures)

-- the extent is taken, in terms of the nodes
done : (g : Over) (c : goal.After-self-1 g)
    → IsTaken c.self.inside.nodes c.cut.new.nodes c.self.inside.frames c.self.inside.count c.args.size
    ((c.in_ok-node.node - first_node c.order_of-whole.result) * 2 ^ c.order_of-whole.result)
done g c =
    let found : IsFirstFrom c.self.inside.nodes (first_node (3 * c.args.size)) (Some c.in_ok-node.node) =
    rw (c.first_node.ensures, c.order_of_size-order.ensures.order) at c.in_ok-node.ensures.first in
    take_by_nodes c.self.inside.nodes c.cut.new.nodes c.self.inside.frames c.self.inside.count c.args.size c.order_of-whole.result c.in_ok-node.node c.self.invariant (omega arith) c.order_of-whole.ensures.order found c.order_of-whole.ensures.from c.order_of-whole.ensures.to
    (rw (c.remove.ensures.set, c.first_frame-first.ensures.first, c.order_of_size-order.ensures.order) at c.cut.ensures.in_hand)

pub invariant_of-self : goal.invariant_of-self
invariant_of-self g c = rw c.pages.ensures (done g c).is_free

pub returns-clause-chosen : goal.returns-clause-chosen
returns-clause-chosen g c =
    ap Some c.first_frame-first.ensures.first ∙ (sym (done g c).chosen ∙ ap (λ free. choice free c.args.size) c.self.view_is)

pub returns-clause-taken : goal.returns-clause-taken
returns-clause-taken g c =
    (done g c).free
    ∙ (ap (λ first. with_range (free_in c.self.inside.nodes c.self.inside.frames) first (8 ^ c.args.size) false)
    (sym c.first_frame-first.ensures.first)
    ∙ ap (λ free. with_range free c.first_frame-first.result (8 ^ c.args.size) false) c.self.view_is)

pub returns-clause-cost : goal.returns-clause-cost
returns-clause-cost g c =
    omega (arith, c.in_ok-node.ensures.cost, c.remove.ensures.cost, c.cut.ensures.cost, c.order_of-whole.ensures.order)
