-- What a report of a stream asks for.
use Rattle.std.specs.Prelude.{ℕ, ◌≡◌, Bool, true, false, List, Option, None}
use Rattle.miss_curves.specs.Curves.{AreCurves, stream_capacities}
use Rattle.pager_model.specs.declared.entry.Entry.{Entry}
use Rattle.pager_model.specs.Counts.{counts}
use Rattle.pager_model.specs.Scripts.{Script}
use Rattle.pager_model.specs.PrintedText.{summary_text}
use Rattle.pager_model.specs.Settings.{Given}
use Rattle.report_text.specs.CurveText.{curves_text}
use Rattle.stream_run.specs.declared.report.StreamReport.{StreamReport}
use Rattle.stream_run.specs.declared.report.StreamReport.TheVariants.{Counts, Curves}

-- after how many calls each the counts so far are written, where they are
abbrev pub every_in : StreamReport → Option ℕ
every_in (Counts every) = every
every_in Curves = None

-- it is of curves, which are for traces of one processor alone
abbrev pub is_of_curves : StreamReport → Bool
is_of_curves (Counts every) = false
is_of_curves Curves = true

-- the report is for the trace
abbrev pub Admits : StreamReport → Script → Type 0
Admits report script = is_of_curves report ≡ true → script.processors ≡ 1

-- what is written at the end: the counts of the history, or its curves
abbrev pub IsEndText : StreamReport → Given → List Entry → List ℕ → Type 0
IsEndText (Counts every) g h text = text ≡ summary_text (counts g h)
IsEndText Curves g h text =
    (tiles : List ℕ) × (pages : List ℕ) × AreCurves stream_capacities g h tiles pages × (text ≡ curves_text tiles pages)
