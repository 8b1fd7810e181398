use Rattle.std.proofs.Common.{◌≡◌, length, ap, arith}
use Rattle.std.proofs.lemmas.Grind.{common_steps}
use Rattle.history_text.proofs.ReadLines.{behind_end}
use Rattle.history_text.proofs.text.nothing_behind.Goals as goal

pub returns-else-is_empty-clause-refused : goal.returns-else-is_empty-clause-refused
returns-else-is_empty-clause-refused c =
    behind_end c.args.number c.args.text.now (λ e. let none : length c.args.text.now ≡ 0 = ap length e in grind (arith, common_steps))
