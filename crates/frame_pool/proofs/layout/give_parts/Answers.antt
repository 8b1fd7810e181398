use Rattle.std.proofs.Common.{◌≡◌, ◌∙◌, ◌-◌, length, ap, sym, arith}
use Rattle.pager_model.specs.Records.{part_of}
use Rattle.pager_model.proofs.ExtentLemmas.{aligned_part, part_of_eight}
use Rattle.pager_model.proofs.RecordFrames.{has_frame_from}
use Rattle.frame_pool.proofs.LayoutInOrder.{free_up_to-later}
use Rattle.frame_pool.proofs.PartRecords.{told_at}
use Rattle.pager_laws.proofs.SplitFrames.{free_up_to, length-free_up_to}
use Rattle.pager_laws.proofs.EightParts.{eight_count, parted_free-eight}
use Rattle.frame_pool.proofs.layout.give_parts.Goals as goal

pub give-requires-clause-aligned : goal.give-requires-clause-aligned
give-requires-clause-aligned c =
    let r = c.args.whole.now in
    let i = c.loop-part.part-index in
    let told = told_at c.requires.parts.0 r c.args.parts.now i c.part-item.result c.requires.parts.1 c.loop-part-test.true in
    let aligned = c.requires.placed.aligned in
    rw (c.part-item.is ∙ told.1) (omega (arith, aligned.0), aligned_part (r.size - 1) r.size r.frame i (omega arith) aligned.1)

pub give-requires-clause-within : goal.give-requires-clause-within
give-requires-clause-within c =
    let r = c.args.whole.now in
    let i = c.loop-part.part-index in
    let used = c.requires.parts.0 in
    let told = told_at used r c.args.parts.now i c.part-item.result c.requires.parts.1 c.loop-part-test.true in
    let long = ap length (c.loop-part.invariant used c.requires.parts.1)
    ∙ length-free_up_to (r.size - 1) used r c.args.free.now (omega arith) c.requires.placed.within i
    (omega (arith, told.0, eight_count r c.requires.splits)) in
    rw (c.part-item.is ∙ told.1) (omega (arith, long, part_of_eight i r.size c.requires.splits told.0, c.requires.placed.within))

pub give-requires-clause-taken : goal.give-requires-clause-taken
give-requires-clause-taken c =
    let r = c.args.whole.now in
    let i = c.loop-part.part-index in
    let used = c.requires.parts.0 in
    let told = told_at used r c.args.parts.now i c.part-item.result c.requires.parts.1 c.loop-part-test.true in
    rw (c.part-item.is ∙ told.1, c.loop-part.invariant used c.requires.parts.1)
    (λ f low high. free_up_to-later (r.size - 1) used r c.args.free.now i f (omega arith) c.requires.placed
    (omega (arith, told.0, eight_count r c.requires.splits)) c.requires.taken (has_frame_from f (part_of r i) low high))

pub returns : goal.returns
returns c = λ used told.
    let done : c.loop-part.part-index ≡ 8 = omega (arith, c.loop-part-test.false, ap length told) in
    c.loop-part.invariant used told ∙ ap (λ n. free_up_to n (c.args.whole.now.size - 1) used c.args.whole.now c.args.free.now) done
    ∙ sym (parted_free-eight used c.args.whole.now c.args.free.now c.requires.splits)
