use Rattle.std.proofs.Common.{◌∷◌, [], ◌++◌, List, ℕ, Option, subst, codes, flat_map}
use Rattle.pager_model.specs.declared.trace.Daemon.{Daemon}
use Rattle.pager_model.specs.TraceText.{call_line, daemon_line, first_line, line_of_words}
use Rattle.report_text.specs.Writing.{Sent, SentPart, outgoing}
use Rattle.report_text.proofs.SentBytes.{puts_failed, puts_then, sent_sent, sent_part}
use Rattle.trace_make.proofs.written.put_trace.Goals as goal

pub returns-in_err-put_line-clause-puts : goal.returns-in_err-put_line-clause-puts
returns-in_err-put_line-clause-puts g c =
    let trace = c.args.trace.now in
    let from = outgoing (g.K.Sink.taken c.args.sink.now) (g.K.Sink.writes c.args.sink.now) (g.K.Sink.faults c.args.sink.now) c.args.room.now.bytes.items in
    let to = outgoing (g.K.Sink.taken c.put_line.new.sink) (g.K.Sink.writes c.put_line.new.sink) (g.K.Sink.faults c.put_line.new.sink) c.put_line.new.self.bytes.items in
    puts_failed c.from_residual.result (first_line trace) (daemon_line trace.daemon ∷ flat_map call_line trace.calls ∷ line_of_words
    (codes "end" ∷ []) ∷ []) c.from_residual.ensures.0
    (subst (λ (l : List ℕ). SentPart from to l) c.line_of_first.ensures c.in_err-put_line.ensures)

pub returns-in_err-put_daemon-clause-puts : goal.returns-in_err-put_daemon-clause-puts
returns-in_err-put_daemon-clause-puts g c =
    let trace = c.args.trace.now in
    let from = outgoing (g.K.Sink.taken c.args.sink.now) (g.K.Sink.writes c.args.sink.now) (g.K.Sink.faults c.args.sink.now) c.args.room.now.bytes.items in
    let one = outgoing (g.K.Sink.taken c.put_line.new.sink) (g.K.Sink.writes c.put_line.new.sink) (g.K.Sink.faults c.put_line.new.sink) c.put_line.new.self.bytes.items in
    let to = outgoing (g.K.Sink.taken c.put_daemon.new.sink) (g.K.Sink.writes c.put_daemon.new.sink) (g.K.Sink.faults c.put_daemon.new.sink) c.put_daemon.new.room.bytes.items in
    puts_failed c.from_residual-in_err-put_daemon.result (first_line trace ++ daemon_line trace.daemon)
    (flat_map call_line trace.calls ∷ line_of_words (codes "end" ∷ []) ∷ []) c.from_residual-in_err-put_daemon.ensures.0
    (sent_part (first_line trace) (daemon_line trace.daemon)
    (subst (λ (l : List ℕ). Sent from one l) c.line_of_first.ensures c.in_ok-put_line.ensures)
    (subst (λ (d : Option Daemon). SentPart one to (daemon_line d)) c.daemon.ensures.daemon c.in_err-put_daemon.ensures))

pub returns-in_err-put_calls-clause-puts : goal.returns-in_err-put_calls-clause-puts
returns-in_err-put_calls-clause-puts g c =
    let trace = c.args.trace.now in
    let from = outgoing (g.K.Sink.taken c.args.sink.now) (g.K.Sink.writes c.args.sink.now) (g.K.Sink.faults c.args.sink.now) c.args.room.now.bytes.items in
    let one = outgoing (g.K.Sink.taken c.put_line.new.sink) (g.K.Sink.writes c.put_line.new.sink) (g.K.Sink.faults c.put_line.new.sink) c.put_line.new.self.bytes.items in
    let two = outgoing (g.K.Sink.taken c.put_daemon.new.sink) (g.K.Sink.writes c.put_daemon.new.sink) (g.K.Sink.faults c.put_daemon.new.sink) c.put_daemon.new.room.bytes.items in
    let to = outgoing (g.K.Sink.taken c.put_calls.new.sink) (g.K.Sink.writes c.put_calls.new.sink) (g.K.Sink.faults c.put_calls.new.sink) c.put_calls.new.room.bytes.items in
    puts_failed c.from_residual-in_err-put_calls.result ((first_line trace ++ daemon_line trace.daemon) ++ flat_map call_line trace.calls)
    (line_of_words (codes "end" ∷ []) ∷ []) c.from_residual-in_err-put_calls.ensures.0
    (sent_part (first_line trace ++ daemon_line trace.daemon) (flat_map call_line trace.calls)
    (sent_sent (first_line trace) (daemon_line trace.daemon)
    (subst (λ (l : List ℕ). Sent from one l) c.line_of_first.ensures c.in_ok-put_line.ensures)
    (subst (λ (d : Option Daemon). Sent one two (daemon_line d)) c.daemon.ensures.daemon c.in_ok-put_daemon.ensures))
    (subst (λ (l : List _). SentPart two to (flat_map call_line l)) c.calls.ensures.calls c.in_err-put_calls.ensures))

pub returns-clause-puts : goal.returns-clause-puts
returns-clause-puts g c =
    let trace = c.args.trace.now in
    let daemon = daemon_line trace.daemon in
    let calls = flat_map call_line trace.calls in
    let from = outgoing (g.K.Sink.taken c.args.sink.now) (g.K.Sink.writes c.args.sink.now) (g.K.Sink.faults c.args.sink.now) c.args.room.now.bytes.items in
    let one = outgoing (g.K.Sink.taken c.put_line.new.sink) (g.K.Sink.writes c.put_line.new.sink) (g.K.Sink.faults c.put_line.new.sink) c.put_line.new.self.bytes.items in
    let two = outgoing (g.K.Sink.taken c.put_daemon.new.sink) (g.K.Sink.writes c.put_daemon.new.sink) (g.K.Sink.faults c.put_daemon.new.sink) c.put_daemon.new.room.bytes.items in
    let three = outgoing (g.K.Sink.taken c.put_calls.new.sink) (g.K.Sink.writes c.put_calls.new.sink) (g.K.Sink.faults c.put_calls.new.sink) c.put_calls.new.room.bytes.items in
    let last = outgoing (g.K.Sink.taken c.finish.new.sink) (g.K.Sink.writes c.finish.new.sink) (g.K.Sink.faults c.finish.new.sink) c.finish.new.self.bytes.items in
    puts_then c.finish.result from three last ((first_line trace ++ daemon) ++ calls) (line_of_words (codes "end" ∷ []))
    (sent_sent (first_line trace ++ daemon) calls
    (sent_sent (first_line trace) daemon
    (subst (λ (l : List ℕ). Sent from one l) c.line_of_first.ensures c.in_ok-put_line.ensures)
    (subst (λ (d : Option Daemon). Sent one two (daemon_line d)) c.daemon.ensures.daemon c.in_ok-put_daemon.ensures))
    (subst (λ (l : List _). Sent two three (flat_map call_line l)) c.calls.ensures.calls c.in_ok-put_calls.ensures))
    c.finish.ensures.puts
