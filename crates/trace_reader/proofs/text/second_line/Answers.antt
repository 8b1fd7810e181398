use Rattle.std.proofs.Common.{◌∙◌}
use Rattle.std.proofs.lemmas.Result.{err_from_is_err_and}
use Rattle.pager_model.specs.TraceText.{daemon_words}
use Rattle.trace_reader.proofs.Refusals.{behind_daemon, faulty_daemon, line_is}
use Rattle.trace_reader.proofs.text.second_line.Goals as goal

pub returns-in_err-daemon-clause-refused : goal.returns-in_err-daemon-clause-refused
returns-in_err-daemon-clause-refused c =
    let p = err_from_is_err_and c.from_residual.result c.from_residual.ensures.1 in
    rw (p.1, p.2) (λ forms. faulty_daemon forms c.args.text.now c.in-Some.line.now c.in-Some.rest.now c.in-Some-daemon_numbers.low.now c.in-Some-daemon_numbers.turns.now c.in_err-daemon.field-0.0 c.in-Some.ensures.first c.in-Some-daemon_numbers.ensures.some c.in_err-daemon.ensures.err)

pub returns-clause-text : goal.returns-clause-text
returns-clause-text c =
    line_is c.args.text.now c.in-Some.line.now c.in-Some.rest.now (daemon_words c.in_ok-daemon.daemon) c.in-Some.ensures.parts
    (c.in-Some-daemon_numbers.ensures.some ∙ c.in_ok-daemon.ensures.text)

pub returns-clause-rest : goal.returns-clause-rest
returns-clause-rest c =
    λ forms. behind_daemon forms c.args.text.now c.in-Some.line.now c.in-Some.rest.now c.in_ok-daemon.daemon c.in-Some.ensures.first
    (c.in-Some-daemon_numbers.ensures.some ∙ c.in_ok-daemon.ensures.text) c.in_ok-daemon.ensures.range
