use Rattle.std.proofs.Common.{◌≡◌, ◌<◌, ◌≤◌, ◌+◌, ◌-◌, ℕ, [], List, length, flat_map, option_to_list, inl, inr, ap, subst, sym, arith, take, ◌∙◌}
use Rattle.std.specs.List.{slice_get}
use Rattle.std.proofs.lemmas.List.{take_all}
use Rattle.std.proofs.lemmas.Option.{slice_get_cases}
use Rattle.pager_model.specs.declared.entry.Numbered.{Numbered}
use Rattle.pager_model.specs.Legal.{entries_in}
use Rattle.pager_model.specs.PrintedText.{answers_of}
use Rattle.run_history.specs.Places.{NoneIn, is_by}
use Rattle.report_text.specs.Writing.{Sent, outgoing}
use Rattle.report_text.proofs.EntryAnswers.{answer_of, answers-by_entry, nothing_between}
use Rattle.report_text.proofs.SentBytes.{IsTextAt, sent_next, next_failed}
use Rattle.report_text.proofs.report.put_answers_of.Goals as goal

-- the text of the entry at a place
text_of : (c : ℕ) (history : List Numbered) (i : ℕ) → i < length history
    → IsTextAt (answer_of c) history i (answers_of (entries_in (option_to_list (slice_get history i))) c)
text_of c history i within = elim (slice_get_cases history i).1 [
  | inl found ↦ record {
    default = found.0;
    within = within;
    is = ap (λ o. answers_of (entries_in (option_to_list o)) c) found.2 ∙ ap (answer_of c) (sym found.3);
  }
  | inr past ↦ absurd (omega arith)
]

-- the answers up to a place are those up to one before it, where no entry between is the processor's
up_to : (c : ℕ) (history : List Numbered) (from place : ℕ) → from ≤ place → place ≤ length history → NoneIn (is_by c) history from place
    → flat_map (answer_of c) (take from history) ≡ flat_map (answer_of c) (take place history)
up_to c history from place low within none =
    let is : from + (place - from) ≡ place = omega (arith, low) in
    sym (nothing_between c history from (place - from) (omega (arith, within)) (subst (NoneIn (is_by c) history from) (sym is) none))
    ∙ ap (λ i. flat_map (answer_of c) (take i history)) is

pub returns-in_err-put_answer_of : goal.returns-in_err-put_answer_of
returns-in_err-put_answer_of g c =
    let history = c.args.history.now.items in
    let i = c.in-Some.place in
    let first = c.in-Some.ensures.some in
    rw (sym (answers-by_entry c.args.processor history))
    (next_failed (answer_of c.args.processor) history i _ [] (text_of c.args.processor history i first.within)
    c.from_residual.result [] c.from_residual.ensures.0
    (rw (up_to c.args.processor history c.loop-place.from i first.behind (omega (arith, first.within)) first.first) at c.loop-place.invariant.1)
    c.in_err-put_answer_of.ensures)

pub loop-place-preserved : goal.loop-place-preserved
loop-place-preserved g c =
    let history = c.args.history.now.items in
    let i = c.in-Some.place in
    let first = c.in-Some.ensures.some in (
      omega (arith, first.within),
      sent_next (answer_of c.args.processor) history i _ [] (text_of c.args.processor history i first.within)
          (rw (up_to c.args.processor history c.loop-place.from i first.behind (omega (arith, first.within)) first.first) at c.loop-place.invariant.1)
          c.in_ok-put_answer_of.ensures,
    )

pub returns : goal.returns
returns g c =
    let history = c.args.history.now.items in
    let first = outgoing (g.K.Sink.taken c.args.sink.now) (g.K.Sink.writes c.args.sink.now) (g.K.Sink.faults c.args.sink.now) c.args.room.now.bytes.items in
    let last = outgoing (g.K.Sink.taken c.loop-place.sink) (g.K.Sink.writes c.loop-place.sink) (g.K.Sink.faults c.loop-place.sink) c.loop-place.room.bytes.items in
    let all = up_to c.args.processor history c.loop-place.from (length history) c.loop-place.invariant.0 (omega arith) c.in_default.ensures.none
    ∙ ap (flat_map (answer_of c.args.processor)) (take_all (length history) history (omega arith)) in
    rw (sym (answers-by_entry c.args.processor history))
    (subst (λ (l : List ℕ). Sent first last l) all c.loop-place.invariant.1)
