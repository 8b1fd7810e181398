use Rattle.history_text.proofs.TraceEnds.{trace_ends}
use Rattle.history_text.proofs.laws.a_traces_text_is_cut_at_its_end.Goals as goal

pub returns : goal.returns
returns c = trace_ends
