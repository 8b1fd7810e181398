-- From the end of the calls to the end of the run.
use Rattle.std.proofs.Common.{◌≡◌, ℕ, Bool, true, List, ◌++◌, Option, Some, None, is_some, IfSome, inl, inr, refl, ap, sym, subst, ◌∙◌}
use Rattle.std.proofs.lemmas.Bool.{true≢false}
use Rattle.io_core.specs.Faults.{one_more}
use Rattle.miss_curves.specs.declared.stacks.Curves.{Curves}
use Rattle.miss_curves.specs.Curves.{AreCurves, stream_capacities}
use Rattle.pager_model.specs.declared.entry.Entry.{Entry}
use Rattle.pager_model.specs.declared.summary.Summary.{Summary}
use Rattle.pager_model.specs.Counts.{counts}
use Rattle.pager_model.specs.Legal.{entries_in}
use Rattle.pager_model.specs.Scripts.{Script}
use Rattle.pager_model.specs.PrintedText.{summary_text}
use Rattle.pager_model.specs.Settings.{Given}
use Rattle.pager_model.specs.Showing.{IsFiled}
use Rattle.pager_model.specs.Stored.{Stored}
use Rattle.pager_model.specs.Stores.{setting_over}
use Rattle.flight_core.specs.Lacking.{NoneLacked}
use Rattle.flight_core.proofs.Lists.{all-append}
use Rattle.stream_core.specs.Streaming.{IsRunTo, Streaming, front_of, with_calls}
use Rattle.trace_stream.specs.Streams.{Opens}
use Rattle.stream_run.specs.declared.report.StreamReport.{StreamReport}
use Rattle.stream_run.specs.declared.report.StreamReport.TheVariants.{Counts, Curves as Asked}
use Rattle.stream_run.specs.declared.run.Ending.{Ending}
use Rattle.stream_run.specs.declared.run.Ending.TheVariants.{Done, Stopped, WriteFault, NoMemory}
use Rattle.stream_run.specs.Steps.{CallsEnd, CallsEndSo, RanWhole, WritesEnd, end_text, output}
use Rattle.stream_run.specs.Reports.{Admits, IsEndText, every_in, is_of_curves}
use Rattle.stream_run.specs.Streams.{AreToldBy, EndsSo, Ports, RanSome, TellsRead, course, ports, told_text}
use Rattle.stream_run.proofs.ToldCounts.{AreToldBy-longer, wrote_more, wrote_part}

-- want of memory in neither of two pieces
pub none_lacked : (h piece : List Entry) → NoneLacked h → NoneLacked piece → NoneLacked (h ++ piece)
none_lacked h piece front back = all-append _ h piece front back

-- what is written at the end, where the curves are there just if they were asked for
pub IsEndText-of : (report : StreamReport) (g : Given) (h : List Entry) (summary : Summary) (curves : Option Curves)
    → is_some curves ≡ is_of_curves report → summary ≡ counts g h
    → (is_of_curves report ≡ true → IfSome curves (λ c. AreCurves stream_capacities g h c.tiles.items c.pages.items))
    → IsEndText report g h (end_text summary curves)
IsEndText-of (Counts every) g h summary None asked counted curved = ap summary_text counted
IsEndText-of (Counts every) g h summary (Some c) asked counted curved = absurd (true≢false asked)
IsEndText-of Asked g h summary None asked counted curved = absurd (true≢false (sym asked))
IsEndText-of Asked g h summary (Some c) asked counted curved = (c.tiles.items, c.pages.items, curved refl, refl)

module _ (lasts : Bool) (report : StreamReport) (script : Script) (stores : List Stored) (s : Streaming) (before mid : Ports)
    (opens : IfSome before.left (λ bytes. (rest : List ℕ) × Opens bytes script rest)) (admitted : Admits report script) where
  -- Ended where its calls end.

  module _ (ending : Ending) (end : CallsEnd lasts (every_in report) script stores s before mid ending) (stores' : List Stored)
      (run : IsRunTo script stores end.calls end.history stores') where
    front_ends : (e : Ending) → (e ≡ Done → ⊥) → CallsEndSo script end.calls end.told before mid e
        → EndsSo report (course script stores end.calls (entries_in run.history) end.told) (front_of script end.calls) before mid e
    front_ends Done other ends = absurd (other refl)
    front_ends (Stopped fault) other ends = (refl, ends.0, ends.1, ends.2)
    front_ends WriteFault other ends = inr (refl, ends.0, ends.1)
    front_ends NoMemory other ends = absurd ends

    pub RanSome-front : (ending ≡ Done → ⊥) → RanSome lasts report before mid stores stores' ending
    RanSome-front other =
        let at = end.after_calls.at in
        record {
          script = script;
          calls = end.calls;
          run = front_of script end.calls;
          history = run.history;
          told = end.told;
          opening = at.opening;
          opens = opens;
          admitted = admitted;
          enough = at.enough;
          lines = at.lines;
          few = at.few_calls;
          ran = run.run;
          filed = subst (IsFiled (front_of script end.calls)) (sym run.entries) run.filed;
          lasting = λ lasting. subst NoneLacked (sym run.entries) (end.lasting lasting);
          told_are = subst (λ h. AreToldBy (setting_over script stores) script end.calls h (every_in report) end.told) (sym run.entries) end.told_are;
          ends = front_ends ending other end.ends;
          read_fault = end.read_fault;
          write_fault = end.write_fault;
          no_write_fault = end.no_write_fault;
        }

  -- Ended whole.

  module _ (end : CallsEnd lasts (every_in report) script stores s before mid Done) (stores' : List Stored) (taken' : Option (List ℕ)) (faults' : ℕ)
      (ending : Ending) (whole : RanWhole lasts report (course script stores end.calls end.history end.told) stores' ending
      (output mid.taken mid.write_faults) (output taken' faults')) where
    whole_ends : (e : Ending) → WritesEnd (end_text whole.summary whole.curves) e (output mid.taken mid.write_faults) (output taken' faults')
        → EndsSo report (course script stores end.calls (end.history ++ whole.run.piece) end.told) (with_calls script end.calls) before
        (ports mid.left mid.read_faults taken' faults') e
    whole_ends Done writes = (
      refl,
      end.ends.0,
      (
        end_text whole.summary whole.curves,
        whole.text_is,
        wrote_more (told_text end.told) (end_text whole.summary whole.curves) before.taken mid.taken taken' end.ends.1 writes.0,
      ),
    )
    whole_ends (Stopped fault) writes = absurd writes
    whole_ends WriteFault writes = inl (
      refl,
      end.ends.0,
      (
        end_text whole.summary whole.curves,
        whole.text_is,
        wrote_part (told_text end.told) (end_text whole.summary whole.curves) before.taken mid.taken taken' end.ends.1 writes.0,
      ),
    )
    whole_ends NoMemory writes = absurd writes

    same_writes : mid.write_faults ≡ before.write_faults
    same_writes = end.no_write_fault (λ is. cc)

    whole_faults : (e : Ending) → WritesEnd (end_text whole.summary whole.curves) e (output mid.taken mid.write_faults) (output taken' faults')
        → TellsRead e before.read_faults mid.read_faults
        × (e ≡ WriteFault → faults' ≡ one_more before.write_faults) × ((e ≡ WriteFault → ⊥) → faults' ≡ before.write_faults)
    whole_faults Done writes = (end.read_fault, λ is. cc, λ other. writes.1 ∙ same_writes)
    whole_faults (Stopped fault) writes = absurd writes
    whole_faults WriteFault writes = (end.read_fault, λ is. writes.1 ∙ ap one_more same_writes, λ other. absurd (other refl))
    whole_faults NoMemory writes = absurd writes

    pub RanSome-whole : RanSome lasts report before (ports mid.left mid.read_faults taken' faults') stores stores' ending
    RanSome-whole =
        let at = end.after_calls.at in
        let run = whole.run in
        let faults = whole_faults ending whole.writes in
        record {
          script = script;
          calls = end.calls;
          run = with_calls script end.calls;
          history = run.history;
          told = end.told;
          opening = at.opening;
          opens = opens;
          admitted = admitted;
          enough = at.enough;
          lines = at.lines;
          few = at.few_calls;
          ran = run.run;
          filed = subst (IsFiled (with_calls script end.calls)) (sym run.entries) run.filed;
          lasting = λ lasting.
              subst NoneLacked (sym run.entries) (none_lacked end.history run.piece (end.lasting lasting) (run.lasting lasting));
          told_are = subst (λ h. AreToldBy (setting_over script stores) script end.calls h (every_in report) end.told) (sym run.entries)
              (AreToldBy-longer (setting_over script stores) script end.calls end.history run.piece (every_in report) end.told end.told_are);
          ends = subst
              (λ h. EndsSo report (course script stores end.calls h end.told) (with_calls script end.calls) before
              (ports mid.left mid.read_faults taken' faults') ending)
              (sym run.entries) (whole_ends ending whole.writes);
          read_fault = faults.0;
          write_fault = faults.1;
          no_write_fault = faults.2;
        }
