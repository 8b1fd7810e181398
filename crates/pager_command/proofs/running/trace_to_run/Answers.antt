use Rattle.std.proofs.Common.{◌≡◌, ◌<◌, ◌⊎◌, Err, Some, inl, ap, sym, subst, ◌∙◌, arith, rules}
use Rattle.std.specs.Result.{is_err, result_err}
use Rattle.std.proofs.lemmas.Bool.{false≢true}
use Rattle.std.proofs.lemmas.Option.{same_Some}
use Rattle.io_core.proofs.FaultCounts.{rose_by_one}
use Rattle.trace_reader.specs.declared.fault.TraceFault.TheVariants.{OneProcessor, TooFewStores}
use Rattle.pager_command.specs.Forms.{IsForOneProcessor}
use Rattle.pager_command.specs.declared.status.TheConstants.{REFUSED, READ_FAULT, MEMORY}
use Rattle.pager_command.specs.Runs.{status_of}
use Rattle.pager_command.proofs.Completeness.{another_fault, counts_processors, counts_stores, refused_processors, refused_stores, runs_read, not_refused_text, refused_text, status_told}
use Rattle.trace_reader.specs.Refusals.{IsOfReader}
use Rattle.pager_command.proofs.running.trace_to_run.Goals as goal

pub returns-in-Err-clause-stopped : goal.returns-in-Err-clause-stopped
returns-in-Err-clause-stopped g c =
    let left = g.T.Source.left c.args.source.now in
    let told = c.refused.ensures in
    let status = c.refused.result.status in
    record {
      statuses = subst (λ n. (n ≡ REFUSED) ⊎ ((n ≡ READ_FAULT) ⊎ (n ≡ MEMORY))) (sym told.status) (status_told c.in-Err.fault);
      told = search rules;
      few_stores = λ count wanted is. absurd (subst IsOfReader (same_Some _ _ (sym told.refusal ∙ is)) c.in-Err.ensures.own_fault);
      one_processor = another_fault c.args.report.now c.refused.result.refusal c.in-Err.fault told.refusal
          (λ processors is. absurd (subst IsOfReader is c.in-Err.ensures.own_fault));
      refused = λ is. refused_text c.args.report.now left c.in-Err.fault c.args.stores status c.refused.result.refusal
          c.in-Err.ensures.refused told.status told.refusal is;
      read_fault = search rules;
      no_fault = λ other. c.in-Err.ensures.no_other_fault (λ is. other (told.status ∙ ap status_of (same_Some _ _ (ap result_err is))));
      memory = search rules;
      complete = λ text no_read. not_refused_text c.args.report.now left c.in-Err.fault c.args.stores status text c.in-Err.ensures.refused
          told.status (λ is. no_read (rw (c.in-Err.ensures.fault (ap Err is)) (rose_by_one (g.T.Source.faults c.args.source.now))));
    }

pub returns-then-processors-ne1-clause-stopped : goal.returns-then-processors-ne1-clause-stopped
returns-then-processors-ne1-clause-stopped g c =
    let left = g.T.Source.left c.args.source.now in
    let told = c.refused-then-processors-ne1.ensures in
    let trace = c.in-Ok.trace in
    let read = c.in-Ok.ensures.ok in
    let report = c.args.report.now in
    let refusal = c.refused-then-processors-ne1.result.refusal in
    let count : c.processors-processors.result ≡ trace.processors = c.processors-processors.ensures.processors in
    let one : IsForOneProcessor report = c.is_for_one_processor.ensures.0 c.if-is_for_one_processor.true in
    let more : 1 < trace.processors = omega (
      arith,
      count,
      c.if-processors-ne1.true,
      c.processors-processors.ensures.text.processors_in.0,
    ) in
    let wanted : refusal ≡ Some (OneProcessor trace.processors) = told.refusal ∙ ap (λ n. Some (OneProcessor n)) count in
    record {
      statuses = inl told.status;
      told = search rules;
      few_stores = λ stores spaces is. absurd (let other : Some (OneProcessor trace.processors) ≡ Some (TooFewStores stores spaces) =
          sym wanted ∙ is in cc);
      one_processor = counts_processors report refusal trace.processors wanted one more;
      refused = λ is. refused_processors report left _ trace c.args.stores refusal read one (more, wanted);
      read_fault = search rules;
      no_fault = λ _. c.in-Ok.ensures.no_other_fault (λ is. false≢true (ap is_err is));
      memory = search rules;
      complete = λ text no_read. absurd (omega (arith, more, (runs_read report left _ trace c.args.stores text read).0 one));
    }

pub returns-then-stores-from-clause-stopped : goal.returns-then-stores-from-clause-stopped
returns-then-stores-from-clause-stopped g c =
    let left = g.T.Source.left c.args.source.now in
    let told = c.refused-then-stores-from.ensures in
    let trace = c.in-Ok.trace in
    let read = c.in-Ok.ensures.ok in
    let few : c.args.stores < trace.spaces = omega (arith, c.from.ensures, c.spaces-spaces.ensures.spaces) in
    let wanted : c.refused-then-stores-from.result.refusal ≡ Some (TooFewStores c.args.stores trace.spaces) = told.refusal
    ∙ ap (λ k. Some (TooFewStores c.args.stores k)) c.spaces-spaces.ensures.spaces in
    record {
      statuses = inl told.status;
      told = search rules;
      few_stores = counts_stores c.refused-then-stores-from.result.refusal c.args.stores trace.spaces wanted few;
      one_processor = another_fault c.args.report.now c.refused-then-stores-from.result.refusal
          (TooFewStores c.args.stores trace.spaces) wanted (λ processors is. cc);
      refused = λ is. refused_stores c.args.report.now left _ trace c.args.stores c.refused-then-stores-from.result.refusal read
          (search rules) (few, wanted);
      read_fault = search rules;
      no_fault = λ _. c.in-Ok.ensures.no_other_fault (λ is. false≢true (ap is_err is));
      memory = search rules;
      complete = λ text no_read. absurd (omega (arith, few, (runs_read c.args.report.now left _ trace c.args.stores text read).1));
    }
