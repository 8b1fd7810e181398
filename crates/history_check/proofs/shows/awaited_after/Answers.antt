use Rattle.std.proofs.Common.{rules, ◌≡◌, Some}
use Rattle.pager_model.specs.declared.call.Line.{Line}
use Rattle.history_check.proofs.ShownCalls.{answer_by, rest-other}
use Rattle.history_check.proofs.shows.awaited_after.Goals as goal
use Rattle.history_check.proofs.shows.awaited_after.Goals.{then-number-awaited-via-then-number-awaited, then-number-awaited-via-else-number-awaited+then-not-is_call_of}

pub returns-then-number-awaited-clause-breaks : goal.returns-then-number-awaited-clause-breaks
returns-then-number-awaited-clause-breaks c =
    let is : answer_by c.args.processor c.args.entry.now ≡ Some (c.in-Some.number, c.in-Some.call) = search rules in
    let other = rest-other c.args.processor c.args.lines.now c.args.awaited c.args.entry.now c.in-Some.number c.in-Some.call is c.in_ok-place.place c.in_ok-place.ensures.some in
    let first : Line = record { processor = 0; call = c.in-Some.call } in
    elim c.then-number-awaited.branch [
      | then-number-awaited-via-then-number-awaited w ↦ other first (λ same_number _. w.if-number-awaited.true same_number)
      | then-number-awaited-via-else-number-awaited+then-not-is_call_of w ↦ other first (λ _ same_call. search rules)
    ]
