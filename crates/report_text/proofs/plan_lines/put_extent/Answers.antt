use Rattle.std.proofs.Common.{List, [], ◌∷◌, flat_map, subst}
use Rattle.contiguity_plan.specs.declared.plan.PageOf.{PageOf}
use Rattle.report_text.specs.PlanText.{extent_line, page_line}
use Rattle.report_text.specs.Writing.{Puts, outgoing}
use Rattle.report_text.proofs.SentBytes.{puts_failed, puts_then}
use Rattle.report_text.proofs.plan_lines.put_extent.Goals as goal

pub returns-in_err-put_first : goal.returns-in_err-put_first
returns-in_err-put_first g c =
    let plan = c.args.plan.now in
    puts_failed c.from_residual.result (extent_line plan) (flat_map page_line plan.pages.items ∷ []) c.from_residual.ensures.0
    c.in_err-put_first.ensures

pub returns : goal.returns
returns g c =
    let plan = c.args.plan.now in
    let from = outgoing (g.K.Sink.taken c.args.sink.now) (g.K.Sink.writes c.args.sink.now) (g.K.Sink.faults c.args.sink.now) c.args.room.now.bytes.items in
    let one = outgoing (g.K.Sink.taken c.put_first.new.sink) (g.K.Sink.writes c.put_first.new.sink) (g.K.Sink.faults c.put_first.new.sink) c.put_first.new.room.bytes.items in
    let last = outgoing (g.K.Sink.taken c.put_pages.new.sink) (g.K.Sink.writes c.put_pages.new.sink) (g.K.Sink.faults c.put_pages.new.sink) c.put_pages.new.room.bytes.items in
    puts_then c.put_pages.result from one last (extent_line plan) (flat_map page_line plan.pages.items)
    c.in_ok-put_first.ensures
    (subst (λ (pages : List PageOf). Puts c.put_pages.result one last
    (flat_map page_line pages)) c.as_slice.ensures.value c.put_pages.ensures)
