use Rattle.std.proofs.Common.{arith}
use Rattle.std.proofs.lemmas.List.{take_all}
use Rattle.history_text.proofs.DealtCalls.{dealt_more, row_known}
use Rattle.history_text.proofs.calls.calls_by_processor.Goals as goal

pub loop-line-init : goal.loop-line-init
loop-line-init c = c.in_ok-own.ensures

pub index_mut-requires : goal.index_mut-requires
index_mut-requires c =
    row_known c.args.lines.now c.loop-line.line-index _ c.loop-line-test.true _ c.args.processors c.loop-line.own.items c.loop-line.invariant
    c.requires _ c.loop-line.own.ok.0

pub loop-line-preserved : goal.loop-line-preserved
loop-line-preserved c =
    dealt_more c.args.lines.now c.loop-line.line-index _ c.loop-line-test.true _ c.args.processors c.loop-line.own.items c.loop-line.invariant
    (c.requires c.loop-line.line-index _ c.loop-line-test.true)
    c.index_mut.result.now c.push.new.self c.index_mut.ensures.value c.in_ok-push.ensures.items

pub returns : goal.returns
returns c =
    let all = take_all c.loop-line.line-index c.args.lines.now (omega (arith, c.loop-line-test.false)) in
    rw (← all) c.loop-line.invariant
