use Rattle.history_text.proofs.Names.{unnamed_says}
use Rattle.history_text.proofs.what.what.Goals as goal

pub returns-in_err-name-clause-none : goal.returns-in_err-name-clause-none
returns-in_err-name-clause-none c = rw c.from_residual.ensures (λ what fits is. unnamed_says _ _ c.in_err-name.ensures.none what is)
