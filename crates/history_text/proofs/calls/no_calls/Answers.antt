use Rattle.std.proofs.Common.{◌≡◌, arith}
use Rattle.history_text.proofs.DealtCalls.{none_dealt, one_row_more}
use Rattle.history_text.proofs.calls.no_calls.Goals as goal

pub rows-init : goal.rows-init
rows-init c = none_dealt _ c.new-own.result.items c.new-own.ensures.items

pub rows-preserved : goal.rows-preserved
rows-preserved c =
    rw c.in_ok-push.ensures.items
    (one_row_more _ c.rows.counter c.rows.own.items c.new-calls.result c.rows.invariant c.new-calls.ensures.items)

pub returns : goal.returns
returns c = let all : c.rows.counter ≡ c.args.processors = omega arith in rw (← all) c.rows.invariant
