-- there is room for one number fewer
use Rattle.std.proofs.Common.{◌-◌, length}
use Rattle.lackey_lines.proofs.system_call.numbers_of.Given as goal

abbrev pub decreases-loop-rest : goal.decreases-loop-rest
decreases-loop-rest l = 6 - length l.numbers.items
