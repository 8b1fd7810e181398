-- The answers among the entries of a history.
use Rattle.std.specs.Prelude.{ℕ, ◌==◌, if◌then◌else◌, Option, Some, None}
use Rattle.pager_model.specs.declared.entry.Entry.{Entry}
use Rattle.pager_model.specs.declared.entry.Numbered.{Numbered}
use Rattle.pager_model.specs.declared.entry.What.{What}
use Rattle.pager_model.specs.declared.entry.What.TheVariants.{Answer}
use Rattle.pager_model.specs.declared.reply.Answered.{Answered}

-- the number of the call that was answered, and its answer
abbrev pub answer_in : What → Option (ℕ × Answered)
answer_in (Answer number call answered) = Some (number, answered)
answer_in what = None

-- the same, where the processor made the entry
abbrev pub answer_of : ℕ → Entry → Option (ℕ × Answered)
answer_of c e = if e.processor == c then answer_in e.what else None

abbrev pub answer_by : ℕ → Numbered → Option (ℕ × Answered)
answer_by c n = answer_of c n.entry
