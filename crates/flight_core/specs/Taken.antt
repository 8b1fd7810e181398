-- What a log is told of an entry beside that it may follow.
use Rattle.pager_model.specs.declared.entry.What.{What}
use Rattle.pager_model.specs.declared.entry.What.TheVariants.{Answer}
use Rattle.space_core.specs.Standing.{CanBegin}

-- an answer is of a call that a line of a trace may hold
abbrev pub AnswersCall : What → Type 0
AnswersCall (Answer number call answered) = CanBegin call
AnswersCall what = Unit {0}
