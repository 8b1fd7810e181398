use Rattle.std.proofs.Common.{◌≡◌, ◌∙◌, sym, ap, arith}
use Rattle.pager_model.specs.Layouts.{narrows_to, narrow_layout, split_on, record_at}
use Rattle.pager_model.proofs.Options.{IfSome-from}
use Rattle.frame_pool.proofs.LayoutInOrder.{narrow_step, same_reservation}
use Rattle.pager_laws.proofs.LayoutBreak.{Settles-split}
use Rattle.frame_pool.proofs.layout.Layout.narrow.Goals as goal

pub loop-part-smaller : goal.loop-part-smaller
loop-part-smaller c =
    let was = c.loop-part.invariant in
    let r = c.loop-part.part in
    let found = rw (c.unwrap-part-in-loop-part.ensures, c.split_down.ensures.split) at c.reservation_of-in-loop-part.ensures.found in
    (narrow_step c.loop-part.self c.args.frame r c.unwrap-part-in-loop-part.result was.laid was.stands was.has was.used
    (omega (arith, c.loop-part-test.true, c.level.ensures.level)) found.0 found.1).0

pub loop-part-preserved : goal.loop-part-preserved
loop-part-preserved c =
    let was = c.loop-part.invariant in
    let r = c.loop-part.part in
    let found = rw (c.unwrap-part-in-loop-part.ensures, c.split_down.ensures.split) at c.reservation_of-in-loop-part.ensures.found in
    let step = narrow_step c.loop-part.self c.args.frame r c.unwrap-part-in-loop-part.result was.laid was.stands was.has was.used
    (omega (arith, c.loop-part-test.true, c.level.ensures.level)) found.0 found.1 in
    rw c.split_down.ensures.split (record {
      laid = (Settles-split c.loop-part.self r.frame r was.laid was.stands).laid;
      stands = found.0;
      has = found.1;
      used = was.used;
      narrows = step.1 ∙ was.narrows;
    })

pub returns-clause-narrowed : goal.returns-clause-narrowed
returns-clause-narrowed c =
    let was = c.loop-part.invariant in
    let l = c.args.self.now in
    let frame = c.args.frame in
    let first = c.unwrap-part.result in
    let part = c.loop-part.part in
    let found = rw c.unwrap-part.ensures at c.reservation_of.ensures.found in
    let one : part.size ≡ 0 = omega (arith, c.loop-part-test.false, c.level.ensures.level) in
    let stops : narrow_layout frame part c.loop-part.self ≡ c.loop-part.self =
    ap (λ k. split_on (narrows_to c.loop-part.self.sizes frame) k part c.loop-part.self) one in
    λ id. IfSome-from (record_at l id) _ (λ r is has.
    sym stops ∙ was.narrows ∙ ap (λ q. narrow_layout frame q l)
    (same_reservation l first.frame first c.reservation_of.ensures.laid found.0 frame id r found.1 is has))
