use Rattle.std.proofs.Common.{◌≡◌, false, length, get_or, ap, sym, subst, ◌∙◌, arith}
use Rattle.std.proofs.Math.ListN.{length-set}
use Rattle.buddy_extents.specs.Blocks.{InHand}
use Rattle.buddy_extents.proofs.BlockMoves.{join, put_beside, put_largest}
use Rattle.buddy_extents.proofs.hand.put_in.Goals as goal

pub returns-then-not-has-clause-put : goal.returns-then-not-has-clause-put
returns-then-not-has-clause-put g c frames free most hand =
    let nodes = c.loop-order.nodes in
    rw (c.insert.ensures.set, c.node.ensures.node)
    (put_beside nodes frames c.loop-order.order c.args.frame c.buddy.result free most
    (c.loop-order.invariant.in_hand frames free most hand) c.buddy.ensures
    (ap (λ x. get_or nodes x false) (sym c.node-beside.ensures.node) ∙ (sym c.has.ensures.has ∙ c.if-not-has.true)))

pub loop-order-preserved : goal.loop-order-preserved
loop-order-preserved g c =
    let nodes = c.loop-order.nodes in
    record {
      nodes = ap length c.remove.ensures.set ∙ (length-set nodes c.node-beside.result false ∙ c.loop-order.invariant.nodes);
      cost = omega arith;
      in_hand = λ frames free most hand. rw (c.remove.ensures.set, c.node-beside.ensures.node)
          (join nodes frames c.loop-order.order c.args.frame c.buddy.result free most
          (c.loop-order.invariant.in_hand frames free most hand) c.loop-order-test.true c.buddy.ensures
          (ap (λ x. get_or nodes x false) (sym c.node-beside.ensures.node) ∙ (sym c.has.ensures.has ∙ c.if-not-has.false)));
    }

pub returns-clause-put : goal.returns-clause-put
returns-clause-put g c frames free most hand =
    let nodes = c.loop-order.nodes in
    let last : c.loop-order.order ≡ 9 = omega arith in
    rw (c.insert-2.ensures.set, c.node-2.ensures.node)
    (put_largest nodes frames c.args.frame free most (subst (λ k. InHand nodes frames k c.args.frame free) last
    (c.loop-order.invariant.in_hand frames free most hand)))
