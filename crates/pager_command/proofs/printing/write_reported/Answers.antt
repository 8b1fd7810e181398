use Rattle.pager_model.specs.PrintedText.{out_text, summary_text}
use Rattle.report_text.specs.Parts.{has_history}
use Rattle.pager_command.specs.declared.form.Report.TheVariants.{Answers, Counts}
use Rattle.pager_command.specs.Runs.{setting_of}
use Rattle.pager_command.specs.Views.{replayed}
use Rattle.pager_command.proofs.CurveRuns.{EndsRun-curves, is_run}
use Rattle.pager_command.proofs.PlannedRuns.{EndsRun-planned, is_over}
use Rattle.pager_command.proofs.PrintedRuns.{EndsRun-written, prints_answers, prints_counts}
use Rattle.pager_command.proofs.printing.write_reported.Goals as goal

pub returns-in-Answers : goal.returns-in-Answers
returns-in-Answers g c = λ stores ran.
    let parts = c.in-Answers.parts in
    let summary = c.args.summary.now in
    let run = replayed c.args.trace.now stores c.args.history.now.items in
    let wrote = c.write_answers.ensures in
    rw c.in-Answers.is (EndsRun-written g.K.Sink.taken g.K.Sink.faults c.args.sink.now c.write_answers.new.sink (Answers parts) run
    c.write_answers.result (out_text (has_history parts) c.processors.result run.history summary)
    (prints_answers parts run summary c.processors.result ran c.processors.ensures.processors)
    wrote.statuses wrote.wrote wrote.part wrote.write_fault wrote.no_write_fault)

pub returns-in-Counts : goal.returns-in-Counts
returns-in-Counts g c = λ stores ran.
    let summary = c.args.summary.now in
    let run = replayed c.args.trace.now stores c.args.history.now.items in
    let wrote = c.write_counts.ensures in
    rw c.in-Counts.is (EndsRun-written g.K.Sink.taken g.K.Sink.faults c.args.sink.now c.write_counts.new.sink Counts run
    c.write_counts.result (summary_text summary) (prints_counts run summary ran)
    wrote.statuses wrote.wrote wrote.part wrote.write_fault wrote.no_write_fault)

pub write_planned-requires-clause-legal : goal.write_planned-requires-clause-legal
write_planned-requires-clause-legal g c =
    let before = c.requires.run in
    let run = replayed c.args.trace.now before.0 c.args.history.now.items in
    (setting_of run, rw c.frames.ensures.frames (is_over run c.args.summary.now c.frames.ensures.text before.1))

pub returns-in-Plan : goal.returns-in-Plan
returns-in-Plan g c = λ stores ran.
    let run = replayed c.args.trace.now stores c.args.history.now.items in
    let wrote = c.write_planned.ensures in
    rw c.in-Plan.is (EndsRun-planned g.K.Sink.taken g.K.Sink.faults c.args.sink.now c.write_planned.new.sink c.in-Plan.size run
    c.args.summary.now c.write_planned.result c.frames.ensures.text ran wrote.statuses wrote.unwritten
    (rw (← c.frames.ensures.frames) wrote.wrote) (rw (← c.frames.ensures.frames) wrote.part)
    wrote.write_fault wrote.no_write_fault)

pub write_curves_of-requires-clause-one : goal.write_curves_of-requires-clause-one
write_curves_of-requires-clause-one g c = c.requires.admitted (rw c.in-Curves.is tt)

pub write_curves_of-requires-clause-run : goal.write_curves_of-requires-clause-run
write_curves_of-requires-clause-run g c =
    let before = c.requires.run in
    let run = replayed c.args.trace.now before.0 c.args.history.now.items in
    (setting_of run, is_run run c.args.summary.now before.1)

pub returns-in-Curves : goal.returns-in-Curves
returns-in-Curves g c = λ stores ran.
    let run = replayed c.args.trace.now stores c.args.history.now.items in
    let wrote = c.write_curves_of.ensures in
    rw c.in-Curves.is (EndsRun-curves g.K.Sink.taken g.K.Sink.faults c.args.sink.now c.write_curves_of.new.sink run
    c.args.summary.now c.write_curves_of.result ran wrote.statuses wrote.unwritten wrote.wrote wrote.part
    wrote.write_fault wrote.no_write_fault)
