-- How a run ends by what was written of it, where the whole text is known.
use Rattle.std.proofs.Common.{◌≡◌, ◌≢◌, ℕ, ◌⊎◌, inl, inr, List, Option, ap, ◌∙◌, arith}
use Rattle.io_core.specs.Faults.{one_more}
use Rattle.pager_model.specs.declared.summary.Summary.{Summary}
use Rattle.pager_model.specs.PrintedText.{out_text, summary_text}
use Rattle.report_text.specs.declared.report.Parts.{Parts}
use Rattle.report_text.specs.Parts.{has_history}
use Rattle.report_text.specs.Written.{WroteAll, WrotePart}
use Rattle.pager_command.specs.declared.form.Report.{Report}
use Rattle.pager_command.specs.declared.form.Report.TheVariants.{Answers, Counts}
use Rattle.pager_command.specs.declared.status.TheConstants.{DONE, WRITE_FAULT}
use Rattle.pager_command.specs.Runs.{EndsRun, Prints, WasRun}
use Rattle.pager_command.specs.Views.{Replayed}

-- the text of the answers, of the history where the parts have it, and of the counts is what a report of these parts prints
pub prints_answers : (parts : Parts) (run : Replayed) (summary : Summary) (processors : ℕ) → WasRun run summary → processors ≡ run.script.processors
    → Prints (Answers parts) run (out_text (has_history parts) processors run.history summary)
prints_answers parts run summary processors ran same =
    ap (λ n. out_text (has_history parts) n run.history summary) same
    ∙ ap (λ (s : Summary). out_text (has_history parts) run.script.processors run.history s) ran.counts

pub prints_counts : (run : Replayed) (summary : Summary) → WasRun run summary → Prints Counts run (summary_text summary)
prints_counts run summary ran = ap summary_text ran.counts

-- the text of a report was written, or a part of it
pub EndsRun-written : {K : Type 0} (taken : K → Option (List ℕ)) (faults : K → ℕ) (before after : K) (report : Report) (run : Replayed)
    (status : ℕ) (text : List ℕ)
    → Prints report run text
    → (status ≡ DONE) ⊎ (status ≡ WRITE_FAULT)
    → (status ≡ DONE → WroteAll text (taken before) (taken after))
    → (status ≡ WRITE_FAULT → WrotePart text (taken before) (taken after))
    → (status ≡ WRITE_FAULT → faults after ≡ one_more (faults before))
    → (status ≢ WRITE_FAULT → faults after ≡ faults before)
    → EndsRun taken faults before after report run status
EndsRun-written taken faults before after report run status text prints which wrote part fault no_fault =
    record {
      ended = elim which [ inl done ↦ inl done | inr failed ↦ inr (inl failed) ];
      wrote = λ done. (text, prints, wrote done);
      part = λ failed. (text, prints, part failed);
      unwritten = λ memory. absurd (omega (arith, memory, which));
      write_fault = fault;
      no_write_fault = no_fault;
    }
