-- Which parts of a run are printed before its counts.
use Rattle.std.specs.Prelude.{Bool, true, false}
use Rattle.report_text.specs.declared.report.Parts.{Parts}
use Rattle.report_text.specs.declared.report.Parts.TheVariants.{Answers, AnswersAndHistory}

-- the history is printed
abbrev pub has_history : Parts → Bool
has_history Answers = false
has_history AnswersAndHistory = true
