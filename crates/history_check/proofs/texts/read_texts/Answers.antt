use Rattle.std.proofs.Common.{◌≡◌, ◌≤◌, ◌<◌, IfSome, IfErr, IsSomeAnd, All, ℕ, List, drop, length, take, refl, sym, ap, subst, ◌∙◌, arith, unwrap_or}
use Rattle.std.proofs.lemmas.List.{take-append-drop}
use Rattle.std.proofs.lemmas.Result.{err_from_is_err_and}
use Rattle.pager_model.specs.TraceText.{IsTextOf}
use Rattle.history_text.specs.HistoryText.{IsHistoryText}
use Rattle.history_text.specs.Refusals.{IsCause as IsHistoryCause}
use Rattle.trace_reader.specs.Refusals.{IsCause, refusal_of}
use Rattle.history_check.specs.Texts.{AreTexts, IsFailure, IsJudgeable, most_bytes, trace_length}
use Rattle.history_check.proofs.ReadTexts.{are_texts, behind_first, history_complete, lines_answered, trace_complete}
use Rattle.history_check.proofs.texts.read_texts.Goals as goal

pub returns-in_err-trace-clause-complete : goal.returns-in_err-trace-clause-complete
returns-in_err-trace-clause-complete g c =
    let p = err_from_is_err_and c.from_residual-in_err-trace.result c.from_residual-in_err-trace.ensures.1 in
    let items = c.in_ok-bytes.bytes.items in
    let fault = c.in_err-trace.field-0.0 in
    let same : c.as_slice-text.result.now ≡ items = c.as_slice-text.ensures.value in
    let end : c.unwrap_or-end.result ≡ trace_length items = (let un = c.unwrap_or-end.ensures in let at = c.cut.ensures.first in cc) in
    let cause : IsCause (refusal_of (take (trace_length items) items)) fault = rw (← end, ← same) c.in_err-trace.ensures.refused in
    rw (p.1, p.2) (trace_complete (g.T.Source.left c.args.source.now) (g.T.Source.left c.read_all.new.source) items fault
    c.in_ok-bytes.ensures.ok cause)

pub returns-in-Ok-clause-lines : goal.returns-in-Ok-clause-lines
returns-in-Ok-clause-lines g c =
    lines_answered c.in_ok-trace.trace c.in_ok-trace.ensures.ok.0 c.in-Ok.history.items c.in-Ok.ensures.ok.0

pub returns-clause-complete : goal.returns-clause-complete
returns-clause-complete g c =
    let items = c.in_ok-bytes.bytes.items in
    let same : c.as_slice-text.result.now ≡ items = c.as_slice-text.ensures.value in
    let end : c.unwrap_or-end.result ≡ trace_length items = (let un = c.unwrap_or-end.ensures in let at = c.cut.ensures.first in cc) in
    let text : IsTextOf (take (trace_length items) items) c.in_ok-trace.trace = rw (← end, ← same) c.in_ok-trace.ensures.ok in
    let cause : IsHistoryCause c.in_ok-trace.trace (drop (trace_length items) items) c.in-Err.fault = rw (← end, ← same)
    (subst (λ r. IsHistoryCause c.in_ok-trace.trace r c.in-Err.fault) (behind_first c.unwrap_or-end.result c.as_slice-text.result.now) c.in-Err.ensures.refused) in
    rw c.history_fault.ensures (history_complete (g.T.Source.left c.args.source.now) (g.T.Source.left c.read_all.new.source) items
    c.in_ok-trace.trace c.in-Err.fault c.in_ok-bytes.ensures.ok text cause)

pub returns-in-Ok-clause-texts : goal.returns-in-Ok-clause-texts
returns-in-Ok-clause-texts g c =
    let items = c.in_ok-bytes.bytes.items in
    let same : c.as_slice-text.result.now ≡ items = c.as_slice-text.ensures.value in
    let end : c.unwrap_or-end.result ≡ trace_length items = (let un = c.unwrap_or-end.ensures in let at = c.cut.ensures.first in cc) in
    let text : IsTextOf (take (trace_length items) items) c.in_ok-trace.trace = rw (← end, ← same) c.in_ok-trace.ensures.ok in
    let rest : IsHistoryText c.in_ok-trace.trace (drop (trace_length items) items) c.in-Ok.history.items = rw (← end, ← same)
    (subst (λ r. IsHistoryText c.in_ok-trace.trace r c.in-Ok.history.items) (behind_first c.unwrap_or-end.result c.as_slice-text.result.now) c.in-Ok.ensures.ok) in
    are_texts (g.T.Source.left c.args.source.now) (g.T.Source.left c.read_all.new.source) items c.in_ok-trace.trace c.in-Ok.history.items
    c.in_ok-bytes.ensures.ok c.in_ok-bytes.ensures.within text rest
