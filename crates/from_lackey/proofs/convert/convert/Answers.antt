-- the first line, the lines of the log, and the last line
use Rattle.std.proofs.Common.{ℕ, Bool, List, [], subst, flat_map}
use Rattle.pager_model.specs.declared.call.Line.{Line}
use Rattle.pager_model.specs.TraceText.{call_line, first_line, text_of}
use Rattle.report_text.specs.Writing.{Sent, SentPart, outgoing}
use Rattle.from_lackey.specs.declared.stop.Stop.{Stop}
use Rattle.from_lackey.specs.declared.stop.Stop.TheVariants.{NoMemory, WriteFault}
use Rattle.from_lackey.specs.Converted.{Converted, Stopped, ports, text_so_far, trace_of}
use Rattle.from_lackey.proofs.TakenLines.{err_is}
use Rattle.from_lackey.proofs.WholeTexts.{converted_whole, stopped_behind, stopped_early, stopped_first, stopped_last}
use Rattle.from_lackey.proofs.convert.convert.Goals as goal

pub returns-in_err-put_first-clause-stopped : goal.returns-in_err-put_first-clause-stopped
returns-in_err-put_first-clause-stopped g c =
    err_is (λ (stop : Stop). (waiting : List ℕ) × Stopped (text_so_far c.args.options.frames c.args.options.sizes) (λ (calls : List Line). text_of (trace_of c.args.options.frames c.args.options.sizes calls))
    c.args.options.instructions (ports (g.T.Source.left c.args.source.now) (g.T.Source.faults c.args.source.now) (outgoing (g.K.Sink.taken c.args.sink.now) (g.K.Sink.writes c.args.sink.now) (g.K.Sink.faults c.args.sink.now) []))
    (ports (g.T.Source.left c.args.source.now) (g.T.Source.faults c.args.source.now) (outgoing (g.K.Sink.taken c.put_first.new.sink) (g.K.Sink.writes c.put_first.new.sink) (g.K.Sink.faults c.put_first.new.sink) waiting)) stop)
    c.from_residual.result WriteFault c.from_residual.ensures.1 (
      c.put_first.new.room.bytes.items,
      stopped_first c.args.options.frames c.args.options.sizes c.args.options.instructions (g.T.Source.left c.args.source.now) (g.T.Source.faults c.args.source.now) (outgoing (g.K.Sink.taken c.args.sink.now) (g.K.Sink.writes c.args.sink.now) (g.K.Sink.faults c.args.sink.now) [])
          (outgoing (g.K.Sink.taken c.put_first.new.sink) (g.K.Sink.writes c.put_first.new.sink) (g.K.Sink.faults c.put_first.new.sink) c.put_first.new.room.bytes.items)
          (subst (λ (bytes : List ℕ). SentPart (outgoing (g.K.Sink.taken c.args.sink.now) (g.K.Sink.writes c.args.sink.now) (g.K.Sink.faults c.args.sink.now) bytes)
          (outgoing (g.K.Sink.taken c.put_first.new.sink) (g.K.Sink.writes c.put_first.new.sink) (g.K.Sink.faults c.put_first.new.sink) c.put_first.new.room.bytes.items) (first_line (trace_of c.args.options.frames c.args.options.sizes []))) c.new-room.ensures c.in_err-put_first.ensures),
    )

pub returns-in_err-converter-clause-stopped : goal.returns-in_err-converter-clause-stopped
returns-in_err-converter-clause-stopped g c =
    err_is (λ (stop : Stop). (waiting : List ℕ) × Stopped (text_so_far c.args.options.frames c.args.options.sizes) (λ (calls : List Line). text_of (trace_of c.args.options.frames c.args.options.sizes calls))
    c.args.options.instructions (ports (g.T.Source.left c.args.source.now) (g.T.Source.faults c.args.source.now) (outgoing (g.K.Sink.taken c.args.sink.now) (g.K.Sink.writes c.args.sink.now) (g.K.Sink.faults c.args.sink.now) []))
    (ports (g.T.Source.left c.args.source.now) (g.T.Source.faults c.args.source.now) (outgoing (g.K.Sink.taken c.put_first.new.sink) (g.K.Sink.writes c.put_first.new.sink) (g.K.Sink.faults c.put_first.new.sink) waiting)) stop)
    c.from_residual-in_err-converter.result NoMemory c.from_residual-in_err-converter.ensures.1 (
      c.put_first.new.room.bytes.items,
      stopped_early c.args.options.frames c.args.options.sizes c.args.options.instructions (g.T.Source.left c.args.source.now) (g.T.Source.faults c.args.source.now) (outgoing (g.K.Sink.taken c.args.sink.now) (g.K.Sink.writes c.args.sink.now) (g.K.Sink.faults c.args.sink.now) [])
          (outgoing (g.K.Sink.taken c.put_first.new.sink) (g.K.Sink.writes c.put_first.new.sink) (g.K.Sink.faults c.put_first.new.sink) c.put_first.new.room.bytes.items)
          (subst (λ (bytes : List ℕ). Sent (outgoing (g.K.Sink.taken c.args.sink.now) (g.K.Sink.writes c.args.sink.now) (g.K.Sink.faults c.args.sink.now) bytes)
          (outgoing (g.K.Sink.taken c.put_first.new.sink) (g.K.Sink.writes c.put_first.new.sink) (g.K.Sink.faults c.put_first.new.sink) c.put_first.new.room.bytes.items) (first_line (trace_of c.args.options.frames c.args.options.sizes []))) c.new-room.ensures c.in_ok-put_first.ensures),
    )

pub returns-in_err-put_lines-clause-stopped : goal.returns-in_err-put_lines-clause-stopped
returns-in_err-put_lines-clause-stopped g c =
    let lines = subst (λ (i : Bool). Stopped (flat_map call_line) (flat_map call_line) i (ports (g.T.Source.left c.args.source.now) (g.T.Source.faults c.args.source.now) (outgoing (g.K.Sink.taken c.put_first.new.sink) (g.K.Sink.writes c.put_first.new.sink) (g.K.Sink.faults c.put_first.new.sink) c.put_first.new.room.bytes.items))
    (ports (g.T.Source.left c.put_lines.new.source) (g.T.Source.faults c.put_lines.new.source) (outgoing (g.K.Sink.taken c.put_lines.new.sink) (g.K.Sink.writes c.put_lines.new.sink) (g.K.Sink.faults c.put_lines.new.sink) c.put_lines.new.room.bytes.items)) c.in_err-put_lines.field-0.0) c.in_ok-converter.ensures.instructions c.in_err-put_lines.ensures.stopped in
    err_is (λ (stop : Stop). (waiting : List ℕ) × Stopped (text_so_far c.args.options.frames c.args.options.sizes) (λ (calls : List Line). text_of (trace_of c.args.options.frames c.args.options.sizes calls))
    c.args.options.instructions (ports (g.T.Source.left c.args.source.now) (g.T.Source.faults c.args.source.now) (outgoing (g.K.Sink.taken c.args.sink.now) (g.K.Sink.writes c.args.sink.now) (g.K.Sink.faults c.args.sink.now) []))
    (ports (g.T.Source.left c.put_lines.new.source) (g.T.Source.faults c.put_lines.new.source) (outgoing (g.K.Sink.taken c.put_lines.new.sink) (g.K.Sink.writes c.put_lines.new.sink) (g.K.Sink.faults c.put_lines.new.sink) waiting)) stop)
    c.from_residual-in_err-put_lines.result c.in_err-put_lines.field-0.0 c.from_residual-in_err-put_lines.ensures.1 (
      c.put_lines.new.room.bytes.items,
      stopped_behind c.args.options.frames c.args.options.sizes c.args.options.instructions (g.T.Source.left c.args.source.now) (g.T.Source.left c.put_lines.new.source) (g.T.Source.faults c.args.source.now) (g.T.Source.faults c.put_lines.new.source)
          (outgoing (g.K.Sink.taken c.args.sink.now) (g.K.Sink.writes c.args.sink.now) (g.K.Sink.faults c.args.sink.now) [])
          (outgoing (g.K.Sink.taken c.put_first.new.sink) (g.K.Sink.writes c.put_first.new.sink) (g.K.Sink.faults c.put_first.new.sink) c.put_first.new.room.bytes.items)
          (outgoing (g.K.Sink.taken c.put_lines.new.sink) (g.K.Sink.writes c.put_lines.new.sink) (g.K.Sink.faults c.put_lines.new.sink) c.put_lines.new.room.bytes.items) c.in_err-put_lines.field-0.0
          (subst (λ (bytes : List ℕ). Sent (outgoing (g.K.Sink.taken c.args.sink.now) (g.K.Sink.writes c.args.sink.now) (g.K.Sink.faults c.args.sink.now) bytes)
          (outgoing (g.K.Sink.taken c.put_first.new.sink) (g.K.Sink.writes c.put_first.new.sink) (g.K.Sink.faults c.put_first.new.sink) c.put_first.new.room.bytes.items) (first_line (trace_of c.args.options.frames c.args.options.sizes []))) c.new-room.ensures c.in_ok-put_first.ensures) lines,
    )

pub returns-in_err-finish-clause-stopped : goal.returns-in_err-finish-clause-stopped
returns-in_err-finish-clause-stopped g c =
    err_is (λ (stop : Stop). (waiting : List ℕ) × Stopped (text_so_far c.args.options.frames c.args.options.sizes) (λ (calls : List Line). text_of (trace_of c.args.options.frames c.args.options.sizes calls))
    c.args.options.instructions (ports (g.T.Source.left c.args.source.now) (g.T.Source.faults c.args.source.now) (outgoing (g.K.Sink.taken c.args.sink.now) (g.K.Sink.writes c.args.sink.now) (g.K.Sink.faults c.args.sink.now) []))
    (ports (g.T.Source.left c.put_lines.new.source) (g.T.Source.faults c.put_lines.new.source) (outgoing (g.K.Sink.taken c.finish.new.sink) (g.K.Sink.writes c.finish.new.sink) (g.K.Sink.faults c.finish.new.sink) waiting)) stop)
    c.from_residual-in_err-finish.result WriteFault c.from_residual-in_err-finish.ensures.1 (
      c.finish.new.self.bytes.items,
      stopped_last c.args.options.frames c.args.options.sizes c.args.options.instructions (g.T.Source.left c.args.source.now) (g.T.Source.left c.put_lines.new.source) (g.T.Source.faults c.args.source.now) (g.T.Source.faults c.put_lines.new.source) c.put_lines.new.self.counts.lines
          (outgoing (g.K.Sink.taken c.args.sink.now) (g.K.Sink.writes c.args.sink.now) (g.K.Sink.faults c.args.sink.now) [])
          (outgoing (g.K.Sink.taken c.put_first.new.sink) (g.K.Sink.writes c.put_first.new.sink) (g.K.Sink.faults c.put_first.new.sink) c.put_first.new.room.bytes.items)
          (outgoing (g.K.Sink.taken c.put_lines.new.sink) (g.K.Sink.writes c.put_lines.new.sink) (g.K.Sink.faults c.put_lines.new.sink) c.put_lines.new.room.bytes.items)
          (outgoing (g.K.Sink.taken c.finish.new.sink) (g.K.Sink.writes c.finish.new.sink) (g.K.Sink.faults c.finish.new.sink) c.finish.new.self.bytes.items)
          (subst (λ (bytes : List ℕ). Sent (outgoing (g.K.Sink.taken c.args.sink.now) (g.K.Sink.writes c.args.sink.now) (g.K.Sink.faults c.args.sink.now) bytes)
          (outgoing (g.K.Sink.taken c.put_first.new.sink) (g.K.Sink.writes c.put_first.new.sink) (g.K.Sink.faults c.put_first.new.sink) c.put_first.new.room.bytes.items) (first_line (trace_of c.args.options.frames c.args.options.sizes []))) c.new-room.ensures c.in_ok-put_first.ensures)
          (subst (λ (i : Bool). Converted (flat_map call_line) i (ports (g.T.Source.left c.args.source.now) (g.T.Source.faults c.args.source.now) (outgoing (g.K.Sink.taken c.put_first.new.sink) (g.K.Sink.writes c.put_first.new.sink) (g.K.Sink.faults c.put_first.new.sink) c.put_first.new.room.bytes.items))
          (ports (g.T.Source.left c.put_lines.new.source) (g.T.Source.faults c.put_lines.new.source) (outgoing (g.K.Sink.taken c.put_lines.new.sink) (g.K.Sink.writes c.put_lines.new.sink) (g.K.Sink.faults c.put_lines.new.sink) c.put_lines.new.room.bytes.items)) c.put_lines.new.self.counts.lines) c.in_ok-converter.ensures.instructions c.in_ok-put_lines.ensures.whole) c.in_err-finish.ensures.puts,
    )

pub returns-clause-whole : goal.returns-clause-whole
returns-clause-whole g c =
    subst (λ (bytes : List ℕ). Converted (λ (calls : List Line). text_of (trace_of c.args.options.frames c.args.options.sizes calls)) c.args.options.instructions
    (ports (g.T.Source.left c.args.source.now) (g.T.Source.faults c.args.source.now) (outgoing (g.K.Sink.taken c.args.sink.now) (g.K.Sink.writes c.args.sink.now) (g.K.Sink.faults c.args.sink.now) []))
    (ports (g.T.Source.left c.put_lines.new.source) (g.T.Source.faults c.put_lines.new.source) (outgoing (g.K.Sink.taken c.finish.new.sink) (g.K.Sink.writes c.finish.new.sink) (g.K.Sink.faults c.finish.new.sink) bytes))
    c.put_lines.new.self.counts.lines) c.in_ok-finish.ensures.empty
    (converted_whole c.args.options.frames c.args.options.sizes c.args.options.instructions (g.T.Source.left c.args.source.now) (g.T.Source.left c.put_lines.new.source) (g.T.Source.faults c.args.source.now) (g.T.Source.faults c.put_lines.new.source) c.put_lines.new.self.counts.lines
    (outgoing (g.K.Sink.taken c.args.sink.now) (g.K.Sink.writes c.args.sink.now) (g.K.Sink.faults c.args.sink.now) [])
    (outgoing (g.K.Sink.taken c.put_first.new.sink) (g.K.Sink.writes c.put_first.new.sink) (g.K.Sink.faults c.put_first.new.sink) c.put_first.new.room.bytes.items)
    (outgoing (g.K.Sink.taken c.put_lines.new.sink) (g.K.Sink.writes c.put_lines.new.sink) (g.K.Sink.faults c.put_lines.new.sink) c.put_lines.new.room.bytes.items)
    (outgoing (g.K.Sink.taken c.finish.new.sink) (g.K.Sink.writes c.finish.new.sink) (g.K.Sink.faults c.finish.new.sink) c.finish.new.self.bytes.items)
    (subst (λ (bytes : List ℕ). Sent (outgoing (g.K.Sink.taken c.args.sink.now) (g.K.Sink.writes c.args.sink.now) (g.K.Sink.faults c.args.sink.now) bytes)
    (outgoing (g.K.Sink.taken c.put_first.new.sink) (g.K.Sink.writes c.put_first.new.sink) (g.K.Sink.faults c.put_first.new.sink) c.put_first.new.room.bytes.items) (first_line (trace_of c.args.options.frames c.args.options.sizes []))) c.new-room.ensures c.in_ok-put_first.ensures)
    (subst (λ (i : Bool). Converted (flat_map call_line) i (ports (g.T.Source.left c.args.source.now) (g.T.Source.faults c.args.source.now) (outgoing (g.K.Sink.taken c.put_first.new.sink) (g.K.Sink.writes c.put_first.new.sink) (g.K.Sink.faults c.put_first.new.sink) c.put_first.new.room.bytes.items))
    (ports (g.T.Source.left c.put_lines.new.source) (g.T.Source.faults c.put_lines.new.source) (outgoing (g.K.Sink.taken c.put_lines.new.sink) (g.K.Sink.writes c.put_lines.new.sink) (g.K.Sink.faults c.put_lines.new.sink) c.put_lines.new.room.bytes.items)) c.put_lines.new.self.counts.lines) c.in_ok-converter.ensures.instructions c.in_ok-put_lines.ensures.whole) c.in_ok-finish.ensures.puts)
