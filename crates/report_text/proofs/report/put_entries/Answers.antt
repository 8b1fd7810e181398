use Rattle.std.proofs.Common.{[], ap, sym, arith}
use Rattle.std.proofs.lemmas.Option.{get_or_from_slice_get}
use Rattle.pager_model.specs.PrintedText.{history_line}
use Rattle.report_text.proofs.SentBytes.{sent_next, next_failed}
use Rattle.report_text.proofs.report.put_entries.Goals as goal

pub returns-in_err-put_line_of : goal.returns-in_err-put_line_of
returns-in_err-put_line_of g c =
    let items = c.args.history.now.items in
    let x = c.in-Some.numbered in
    next_failed history_line items c.loop-place.place _ [] (record {
      default = x;
      within = omega arith;
      is = ap history_line (sym (get_or_from_slice_get items c.loop-place.place x x (sym c.in-Some.ensures)));
    })
    c.from_residual.result [] c.from_residual.ensures.0 c.loop-place.invariant c.in_err-put_line_of.ensures

pub loop-place-preserved : goal.loop-place-preserved
loop-place-preserved g c =
    let items = c.args.history.now.items in
    let x = c.in-Some.numbered in
    sent_next history_line items c.loop-place.place _ [] (record {
      default = x;
      within = omega arith;
      is = ap history_line (sym (get_or_from_slice_get items c.loop-place.place x x (sym c.in-Some.ensures)));
    })
    c.loop-place.invariant c.in_ok-put_line_of.ensures
