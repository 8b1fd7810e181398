use Rattle.trace_stream.proofs.WholeStreams.{next_is_not_refused, opening_is_not_refused}
use Rattle.trace_stream.proofs.laws.a_streams_text_is_not_refused.Goals as goal

pub returns-clause-opening : goal.returns-clause-opening
returns-clause-opening c = opening_is_not_refused

pub returns-clause-next : goal.returns-clause-next
returns-clause-next c = next_is_not_refused
