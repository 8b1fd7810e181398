use Rattle.std.proofs.Common.{◌≡◌, ◌≤◌, length, drop, [], is_some, not, sym, ap, subst, ◌∙◌, inl, inr, arith}
use Rattle.std.proofs.Math.ListN.{drop_of_length-le}
use Rattle.std.proofs.lemmas.Bool.{false≢true}
use Rattle.pager_model.proofs.Options.{cases_Option, in_some}
use Rattle.pager_model.specs.Legal.{entries_in}
use Rattle.history_check.specs.Shown.{IsNextLine, RestShown}
use Rattle.history_check.proofs.ShownCalls.{rest-left}
use Rattle.history_check.proofs.shows.shows_calls.Goals as goal

pub returns-clause-other : goal.returns-clause-other
returns-clause-other c = λ isnt shown.
    let awaited = c.loop-numbered.awaited in
    let past : length c.args.history.now ≤ c.loop-numbered.numbered-index = omega arith in
    let none : entries_in (drop c.loop-numbered.numbered-index c.args.history.now) ≡ [] =
    ap entries_in (drop_of_length-le c.args.history.now past) in
    let left = subst (RestShown c.args.processor c.args.lines.now awaited) none (c.loop-numbered.invariant.rest.0 shown) in
    elim (cases_Option c.next_call.result) [
      | inl no_line ↦ false≢true (sym (ap is_some no_line) ∙ c.is_none.ensures ∙ ap not isnt)
      | inr line ↦ rest-left c.args.processor c.args.lines.now awaited line.0
          (in_some (IsNextLine c.args.processor c.args.lines.now awaited.place) c.next_call.result line.0 line.1 c.next_call.ensures.some) left
    ]
