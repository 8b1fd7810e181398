use Rattle.std.proofs.Common.{◌++◌, ◌∙◌}
use Rattle.pager_model.specs.Stores.{setting_over}
use Rattle.stream_run.proofs.WholeStreams.{IsEndText-of}
use Rattle.stream_run.proofs.run.finish.Goals as goal

pub returns : goal.returns
returns g c = λ report course asked admitted after.
    let ended = c.finish-curves.ensures in
    let run = ended.whole course.script course.stores course.calls course.history after in
    record {
      summary = c.finish-curves.result.summary;
      curves = c.finish-curves.result.curves;
      run = run;
      text_is = IsEndText-of report (setting_over course.script course.stores) (course.history ++ run.piece) _ _ (ended.asked ∙ asked) run.counts_are
          (λ is. run.curves_are (admitted is));
      writes = c.write_end-ending.ensures;
    }
