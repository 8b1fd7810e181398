use Rattle.trace_reader.proofs.CutTexts.{not_refused}
use Rattle.trace_reader.proofs.laws.a_traces_text_is_not_refused.Goals as goal

pub returns : goal.returns
returns c = not_refused
