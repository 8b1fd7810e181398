use Rattle.trace_reader.proofs.Fillings.{some_trace}
use Rattle.trace_reader.proofs.laws.what_is_not_refused_is_a_traces.Goals as goal

pub returns : goal.returns
returns c = some_trace
