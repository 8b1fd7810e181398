use Rattle.std.proofs.Common.{◌↔◌, drop}
use Rattle.pager_model.specs.Legal.{entries_in}
use Rattle.history_check.specs.Shown.{AnswersShown, IsWithin, RestShown}
use Rattle.history_check.proofs.shows.shows_calls.Given as goal

-- the history shows the calls exactly where what is left of it shows those that are awaited
abbrev pub invariant-loop-numbered : goal.invariant-loop-numbered
invariant-loop-numbered l = record {
  within : IsWithin l.lines l.awaited;
  rest : AnswersShown l.processor l.lines (entries_in l.history)
      ↔ RestShown l.processor l.lines l.awaited (entries_in (drop l.numbered-index l.history));
}
