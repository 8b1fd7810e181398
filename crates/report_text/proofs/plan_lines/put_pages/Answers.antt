use Rattle.std.proofs.Common.{[], refl}
use Rattle.report_text.specs.PlanText.{page_line}
use Rattle.report_text.proofs.SentBytes.{sent_next, next_failed}
use Rattle.report_text.proofs.plan_lines.put_pages.Goals as goal

pub returns-in_err-put_page : goal.returns-in_err-put_page
returns-in_err-put_page g c =
    next_failed page_line c.args.pages.now c.loop-page.page-index _ []
    (record { default = _; within = c.loop-page-test.true; is = refl })
    c.from_residual.result [] c.from_residual.ensures.0 c.loop-page.invariant c.in_err-put_page.ensures

pub loop-page-preserved : goal.loop-page-preserved
loop-page-preserved g c =
    sent_next page_line c.args.pages.now c.loop-page.page-index _ []
    (record { default = _; within = c.loop-page-test.true; is = refl })
    c.loop-page.invariant c.in_ok-put_page.ensures
