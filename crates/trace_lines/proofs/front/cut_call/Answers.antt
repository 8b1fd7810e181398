use Rattle.trace_lines.proofs.front.cut_call.Goals as goal

pub returns-in-10-clause-range : goal.returns-in-10-clause-range
returns-in-10-clause-range c = c.in_ok-call.ensures.range c.args.head.now.version
