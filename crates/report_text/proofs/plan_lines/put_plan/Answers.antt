use Rattle.std.proofs.Common.{[], ◌∷◌, codes}
use Rattle.pager_model.specs.TraceText.{line_of_words}
use Rattle.report_text.specs.PlanText.{planned_lines}
use Rattle.report_text.specs.Writing.{outgoing}
use Rattle.report_text.proofs.SentBytes.{puts_failed, puts_then}
use Rattle.report_text.proofs.plan_lines.put_plan.Goals as goal

pub returns-in_err-put_planned-clause-puts : goal.returns-in_err-put_planned-clause-puts
returns-in_err-put_planned-clause-puts g c =
    puts_failed c.from_residual.result (planned_lines c.args.plan.now) (line_of_words (codes "end" ∷ []) ∷ []) c.from_residual.ensures.0
    c.in_err-put_planned.ensures

pub returns-clause-puts : goal.returns-clause-puts
returns-clause-puts g c =
    let from = outgoing (g.K.Sink.taken c.args.sink.now) (g.K.Sink.writes c.args.sink.now) (g.K.Sink.faults c.args.sink.now) c.args.room.now.bytes.items in
    let one = outgoing (g.K.Sink.taken c.put_planned.new.sink) (g.K.Sink.writes c.put_planned.new.sink)
    (g.K.Sink.faults c.put_planned.new.sink) c.put_planned.new.room.bytes.items in
    let last = outgoing (g.K.Sink.taken c.finish.new.sink) (g.K.Sink.writes c.finish.new.sink) (g.K.Sink.faults c.finish.new.sink) c.finish.new.self.bytes.items in
    puts_then c.finish.result from one last (planned_lines c.args.plan.now)
    (line_of_words (codes "end" ∷ [])) c.in_ok-put_planned.ensures c.finish.ensures.puts
