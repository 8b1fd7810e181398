-- what each step takes
use Rattle.std.proofs.Common.{◌≡◌, ◌<◌, ◌^◌, ◌-◌, ℕ, true, List, Option, length, subst, refl, ◌∙◌}
use Rattle.line_source.specs.Lines.{IsNext}
use Rattle.line_source.specs.declared.Next.{Next}
use Rattle.from_lackey.specs.Converted.{StopsReading}
use Rattle.from_lackey.specs.Log.{Passed}
use Rattle.from_lackey.specs.Taken.{IsOfLog}
use Rattle.from_lackey.specs.declared.stop.Stop.{Stop}
use Rattle.from_lackey.specs.declared.stop.Stop.TheVariants.{ReadFault}
use Rattle.from_lackey.proofs.PassedLogs.{passed_looked}
use Rattle.from_lackey.proofs.TakenLines.{end_before, err_is, stops_at_line, stops_at_rest, stops_for_read, took_line, took_nothing, took_piece, took_rest}
use Rattle.from_lackey.proofs.convert.Converter.take_next.Goals.{else-count-eq0-via-then-count-eq0+else-not-log, else-count-eq0-via-else-count-eq0}
use Rattle.from_lackey.proofs.convert.Converter.take_next.Goals as goal

pub returns-in_err-count-clause-stopped : goal.returns-in_err-count-clause-stopped
returns-in_err-count-clause-stopped g c =
    err_is (λ (stop : Stop). (n : ℕ) (before : Option (List ℕ)) (lines : List (List ℕ)) →
    Passed n before lines c.args.log.now.long c.args.log.now.ahead (g.T.Source.left c.args.source.now) →
    length lines ≡ c.args.self.now.counts.lines → length lines < 2 ^ 64 - 1 →
    StopsReading c.args.self.now.memory.layout lines before (g.T.Source.left c.look.new.source) (g.T.Source.faults c.args.source.now)
    (g.T.Source.faults c.look.new.source) stop)
    c.from_residual.result ReadFault c.from_residual.ensures.1
    (λ n before lines p is few.
    let q = passed_looked n before (g.T.Source.left c.args.source.now) (g.T.Source.left c.look.new.source) lines c.args.log.now.long c.args.log.now.ahead
    c.look.new.self p c.look.ensures.same in
    stops_for_read c.args.self.now.memory.layout n before (g.T.Source.left c.look.new.source) lines c.args.log.now.long c.look.new.self
    (g.T.Source.faults c.args.source.now) (g.T.Source.faults c.look.new.source) q c.in_err-count.ensures.no_line c.in_err-count.ensures.rose)

pub returns-in_err-count-clause-of_log : goal.returns-in_err-count-clause-of_log
returns-in_err-count-clause-of_log g c = err_is IsOfLog c.from_residual.result ReadFault c.from_residual.ensures.1 tt

pub returns-in_ok-take_front-in-Line-clause-took : goal.returns-in_ok-take_front-in-Line-clause-took
returns-in_ok-take_front-in-Line-clause-took g c = λ n before lines p.
    let q = passed_looked n before (g.T.Source.left c.args.source.now) (g.T.Source.left c.look.new.source) lines c.args.log.now.long c.args.log.now.ahead
    c.look.new.self p c.look.ensures.same in
    let at = subst (λ (it : Next). IsNext it c.look.new.self (g.T.Source.left c.args.source.now) (g.T.Source.left c.look.new.source)) c.in-Line.is
    c.in_ok-count.ensures.next in
    took_line n before (g.T.Source.left c.look.new.source) lines c.args.log.now.long c.look.new.self c.args.self.now c.take_front.new.self
    c.in-Line.count c.pass.new.self q at c.look.ensures.few c.pass.ensures c.in_ok-take_front-in-Line.ensures.made
    c.in_ok-take_front-in-Line.ensures.counted

pub returns-in-Long-clause-took : goal.returns-in-Long-clause-took
returns-in-Long-clause-took g c = λ n before lines p.
    let q = passed_looked n before (g.T.Source.left c.args.source.now) (g.T.Source.left c.look.new.source) lines c.args.log.now.long c.args.log.now.ahead
    c.look.new.self p c.look.ensures.same in
    let at = subst (λ (it : Next). IsNext it c.look.new.self (g.T.Source.left c.args.source.now) (g.T.Source.left c.look.new.source)) c.in-Long.is
    c.in_ok-count.ensures.next in
    took_piece n before (g.T.Source.left c.look.new.source) lines c.args.log.now.long c.look.new.self c.args.self.now _ c.pass-in-Long.new.self q
    at.0 at.1 c.pass-in-Long.ensures c.clear.ensures.items refl

pub returns-in_err-take_front-in-Line-clause-stopped : goal.returns-in_err-take_front-in-Line-clause-stopped
returns-in_err-take_front-in-Line-clause-stopped g c =
    err_is (λ (stop : Stop). (n : ℕ) (before : Option (List ℕ)) (lines : List (List ℕ)) →
    Passed n before lines c.args.log.now.long c.args.log.now.ahead (g.T.Source.left c.args.source.now) →
    length lines ≡ c.args.self.now.counts.lines → length lines < 2 ^ 64 - 1 →
    StopsReading c.take_front.new.self.memory.layout lines before (g.T.Source.left c.look.new.source) (g.T.Source.faults c.args.source.now)
    (g.T.Source.faults c.look.new.source) stop)
    c.from_residual-in_err-take_front-in-Line.result c.in_err-take_front-in-Line.field-0.0 c.from_residual-in_err-take_front-in-Line.ensures.1
    (λ n before lines p is few.
    let q = passed_looked n before (g.T.Source.left c.args.source.now) (g.T.Source.left c.look.new.source) lines c.args.log.now.long c.args.log.now.ahead
    c.look.new.self p c.look.ensures.same in
    let at = subst (λ (it : Next). IsNext it c.look.new.self (g.T.Source.left c.args.source.now) (g.T.Source.left c.look.new.source)) c.in-Line.is
    c.in_ok-count.ensures.next in
    stops_at_line c.take_front.new.self.memory.layout n before (g.T.Source.left c.look.new.source) lines c.args.log.now.long c.look.new.self
    (g.T.Source.faults c.args.source.now) (g.T.Source.faults c.look.new.source) c.args.self.now.counts.lines c.in-Line.count
    c.in_err-take_front-in-Line.field-0.0 c.in_err-take_front-in-Line.ensures.refused is few c.in_ok-count.ensures.unfailed q at)

pub returns-then-not-log-clause-took : goal.returns-then-not-log-clause-took
returns-then-not-log-clause-took g c = λ n before lines p.
    let q = passed_looked n before (g.T.Source.left c.args.source.now) (g.T.Source.left c.look.new.source) lines c.args.log.now.long c.args.log.now.ahead
    c.look.new.self p c.look.ensures.same in
    let at = subst (λ (it : Next). IsNext it c.look.new.self (g.T.Source.left c.args.source.now) (g.T.Source.left c.look.new.source)) c.in-Rest.is
    c.in_ok-count.ensures.next in
    took_nothing n before (g.T.Source.left c.look.new.source) lines c.args.log.now.long c.look.new.self c.args.self.now _ _ q c.if-not-log.true
    (at.0 ∙ c.if-count-eq0.true) at.2
    (end_before n before (g.T.Source.left c.args.source.now) (g.T.Source.left c.look.new.source) lines c.args.log.now.long c.args.log.now.ahead p at.3)
    c.clear-then-not-log.ensures.items refl

pub returns-in_ok-take_front-in-Rest-clause-took : goal.returns-in_ok-take_front-in-Rest-clause-took
returns-in_ok-take_front-in-Rest-clause-took g c = λ n before lines p.
    let q = passed_looked n before (g.T.Source.left c.args.source.now) (g.T.Source.left c.look.new.source) lines c.args.log.now.long c.args.log.now.ahead
    c.look.new.self p c.look.ensures.same in
    let at = subst (λ (it : Next). IsNext it c.look.new.self (g.T.Source.left c.args.source.now) (g.T.Source.left c.look.new.source)) c.in-Rest.is
    c.in_ok-count.ensures.next in
    let some : c.in-Rest.count ≡ 0 → c.args.log.now.long ≡ true = elim c.else-count-eq0.branch [
      | else-count-eq0-via-then-count-eq0+else-not-log w ↦ λ none. w.if-not-log.false
      | else-count-eq0-via-else-count-eq0 w ↦ λ none. absurd (w.if-count-eq0.false none)
    ] in
    took_rest n before (g.T.Source.left c.look.new.source) lines c.args.log.now.long c.look.new.self c.args.self.now c.take_front-in-Rest.new.self
    c.in-Rest.count _ q at.0 at.1 at.2
    (end_before n before (g.T.Source.left c.args.source.now) (g.T.Source.left c.look.new.source) lines c.args.log.now.long c.args.log.now.ahead p at.3)
    some c.in_ok-take_front-in-Rest.ensures.made c.in_ok-take_front-in-Rest.ensures.counted

pub returns-in_err-take_front-in-Rest-clause-stopped : goal.returns-in_err-take_front-in-Rest-clause-stopped
returns-in_err-take_front-in-Rest-clause-stopped g c =
    let some : c.in-Rest.count ≡ 0 → c.args.log.now.long ≡ true = elim c.else-count-eq0.branch [
      | else-count-eq0-via-then-count-eq0+else-not-log w ↦ λ none. w.if-not-log.false
      | else-count-eq0-via-else-count-eq0 w ↦ λ none. absurd (w.if-count-eq0.false none)
    ] in
    err_is (λ (stop : Stop). (n : ℕ) (before : Option (List ℕ)) (lines : List (List ℕ)) →
    Passed n before lines c.args.log.now.long c.args.log.now.ahead (g.T.Source.left c.args.source.now) →
    length lines ≡ c.args.self.now.counts.lines → length lines < 2 ^ 64 - 1 →
    StopsReading c.take_front-in-Rest.new.self.memory.layout lines before (g.T.Source.left c.look.new.source) (g.T.Source.faults c.args.source.now)
    (g.T.Source.faults c.look.new.source) stop)
    c.from_residual-in_err-take_front-in-Rest.result c.in_err-take_front-in-Rest.field-0.0 c.from_residual-in_err-take_front-in-Rest.ensures.1
    (λ n before lines p is few.
    let q = passed_looked n before (g.T.Source.left c.args.source.now) (g.T.Source.left c.look.new.source) lines c.args.log.now.long c.args.log.now.ahead
    c.look.new.self p c.look.ensures.same in
    let at = subst (λ (it : Next). IsNext it c.look.new.self (g.T.Source.left c.args.source.now) (g.T.Source.left c.look.new.source)) c.in-Rest.is
    c.in_ok-count.ensures.next in
    stops_at_rest c.take_front-in-Rest.new.self.memory.layout n before (g.T.Source.left c.look.new.source) lines c.args.log.now.long c.look.new.self
    (g.T.Source.faults c.args.source.now) (g.T.Source.faults c.look.new.source) c.args.self.now.counts.lines c.in-Rest.count
    c.in_err-take_front-in-Rest.field-0.0 c.in_err-take_front-in-Rest.ensures.refused is few c.in_ok-count.ensures.unfailed q at.0 at.2
    (end_before n before (g.T.Source.left c.args.source.now) (g.T.Source.left c.look.new.source) lines c.args.log.now.long c.args.log.now.ahead p at.3) some)
