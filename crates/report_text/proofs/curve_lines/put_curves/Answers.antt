use Rattle.std.proofs.Common.{[], ◌∷◌, codes, flat_map, length}
use Rattle.std.specs.List.{range_with_len}
use Rattle.pager_model.specs.TraceText.{line_of_words}
use Rattle.report_text.specs.CurveText.{curve_line}
use Rattle.report_text.specs.Writing.{outgoing}
use Rattle.report_text.proofs.SentBytes.{puts_failed, puts_then}
use Rattle.report_text.proofs.curve_lines.put_curves.Goals as goal

pub returns-in_err-put_capacities-clause-puts : goal.returns-in_err-put_capacities-clause-puts
returns-in_err-put_capacities-clause-puts g c =
    let lines = flat_map (curve_line c.args.tiles.now c.args.pages.now) (range_with_len 0 (length c.args.tiles.now)) in
    puts_failed c.from_residual.result lines
    (line_of_words (codes "end" ∷ []) ∷ []) c.from_residual.ensures.0 c.in_err-put_capacities.ensures

pub returns-clause-puts : goal.returns-clause-puts
returns-clause-puts g c =
    let lines = flat_map (curve_line c.args.tiles.now c.args.pages.now) (range_with_len 0 (length c.args.tiles.now)) in
    let first = outgoing (g.K.Sink.taken c.args.sink.now) (g.K.Sink.writes c.args.sink.now) (g.K.Sink.faults c.args.sink.now) c.args.room.now.bytes.items in
    let two = outgoing (g.K.Sink.taken c.put_capacities.new.sink) (g.K.Sink.writes c.put_capacities.new.sink)
    (g.K.Sink.faults c.put_capacities.new.sink) c.put_capacities.new.room.bytes.items in
    let last = outgoing (g.K.Sink.taken c.finish.new.sink) (g.K.Sink.writes c.finish.new.sink) (g.K.Sink.faults c.finish.new.sink) c.finish.new.self.bytes.items in
    puts_then c.finish.result first two last lines (line_of_words (codes "end" ∷ [])) c.in_ok-put_capacities.ensures c.finish.ensures.puts
