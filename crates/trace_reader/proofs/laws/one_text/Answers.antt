use Rattle.trace_reader.proofs.UniqueTexts.{one_script}
use Rattle.trace_reader.proofs.laws.one_text.Goals as goal

pub returns : goal.returns
returns c = one_script
