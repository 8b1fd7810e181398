use Rattle.history_text.proofs.ReadLines.{few_entries}
use Rattle.history_text.proofs.text.read_history.Goals as goal

pub returns-clause-few : goal.returns-clause-few
returns-clause-few c = few_entries _ c.args.bytes.now c.read_lines.new.history.items c.in_ok-read_lines.ensures.ok
