use Rattle.std.proofs.Common.{◌≡◌, ℕ, ◌<◌, ◌≤◌, List, None, length, map, sym, ap, subst, ◌∙◌, arith}
use Rattle.std.proofs.Math.ListN.{length-map}
use Rattle.pager_model.specs.declared.call.Call.TheVariants.{Map}
use Rattle.pager_model.specs.declared.call.Line.{Line}
use Rattle.pager_model.specs.declared.region.Kind.TheVariants.{Fixed}
use Rattle.pager_model.specs.declared.region.Rights.TheVariants.{NoAccess}
use Rattle.pager_model.specs.Legal.{entries_in}
use Rattle.pager_model.specs.Showing.{IsFiled}
use Rattle.flight_core.specs.Lacking.{NoneLacked}
use Rattle.pager_core.specs.Replays.{IsReplay}
use Rattle.replay_core.specs.DoneJobs.{IsBetween, DidNext, DidRest}
use Rattle.pager_model.specs.Scripts.{Script}
use Rattle.pager_model.specs.Stored.{Stored}
use Rattle.pager_model.specs.TraceText.{HasText}
use Rattle.pager_core.specs.Running.{Running, flight_at}
use Rattle.replay_core.proofs.FiledLemmas.{Filed, Filing, Turned, LineAt-read, Filed-start, Filing-start, Filing-line, Filed-rest, Turned-next, between_line, between_turns, flies_line, none_between, none_line, HasEnded-filed, IsFiled-all}
use Rattle.replay_core.proofs.RunLemmas.{IsReplay-whole, AreItsCounts-whole}
use Rattle.replay_core.proofs.file_order.replay_file_order.Goals as goal

abbrev some_line : Line
some_line = record { processor = 0; call = Map 0 0 0 Fixed NoAccess }

pub loop-line-init : goal.loop-line-init
loop-line-init g c =
    let made = c.in_ok-machine.ensures.made in
    Filing-start c.args.trace.now (map g.S.Store.seen c.args.stores.items) c.in_ok-machine.machine
    (Filed-start c.args.trace.now
    (map g.S.Store.seen c.args.stores.items) c.in_ok-machine.machine made.0 c.in_ok-machine.ensures.unused made.1 made.2 made.3 made.4)

pub do_next-requires-clause-lawful : goal.do_next-requires-clause-lawful
do_next-requires-clause-lawful g c κs within = c.loop-line.invariant.filed.of.lawful

pub do_next-requires-clause-between : goal.do_next-requires-clause-between
do_next-requires-clause-between g c κs within =
    let it =
    LineAt-read c.args.trace.now c.calls-line-items.result.now c.loop-line.line-index some_line c.calls-line-items.ensures.calls
    c.loop-line-test.true c.calls-line-items.ensures.lines in
    subst (IsBetween c.loop-line.machine) (sym c.processors-daemon.ensures.processors)
    (between_turns c.args.trace.now c.processors-daemon.ensures.text (map g.S.Store.seen c.args.stores.items) c.loop-line.line-index
    (let below = it.within in omega (arith, below)) c.loop-line.machine c.loop-line.invariant)

pub do_next-requires-clause-none_keeps : goal.do_next-requires-clause-none_keeps
do_next-requires-clause-none_keeps g c κs within =
    let it =
    LineAt-read c.args.trace.now c.calls-line-items.result.now c.loop-line.line-index some_line c.calls-line-items.ensures.calls
    c.loop-line-test.true c.calls-line-items.ensures.lines in
    none_between c.args.trace.now c.processors-daemon.ensures.text (map g.S.Store.seen c.args.stores.items) c.loop-line.line-index
    (let below = it.within in omega (arith, below)) c.loop-line.machine c.loop-line.invariant

-- after the daemon's turn before a line
turned_here : (script : Script) (has : HasText script) (stores : List Stored) (k daemon : ℕ) (run new : Running) → k < length script.calls
    → Filing script stores k run → daemon ≡ script.processors → DidNext run new daemon → Turned script stores k new
turned_here script has stores k daemon run new below filing same did =
    Turned-next script has stores k (omega (arith, below)) run filing new (subst (DidNext run new) same did)

pub do_job-requires-clause-lawful : goal.do_job-requires-clause-lawful
do_job-requires-clause-lawful g c κs within =
    let it =
    LineAt-read c.args.trace.now c.calls-line-items.result.now c.loop-line.line-index some_line c.calls-line-items.ensures.calls
    c.loop-line-test.true c.calls-line-items.ensures.lines in
    (turned_here c.args.trace.now c.processors-daemon.ensures.text (map g.S.Store.seen c.args.stores.items) c.loop-line.line-index
    c.processors-daemon.result c.loop-line.machine c.do_next.new.machine it.within c.loop-line.invariant
    c.processors-daemon.ensures.processors c.do_next.ensures).filed.of.lawful

pub do_job-requires-clause-left : goal.do_job-requires-clause-left
do_job-requires-clause-left g c κs within =
    let it =
    LineAt-read c.args.trace.now c.calls-line-items.result.now c.loop-line.line-index some_line c.calls-line-items.ensures.calls
    c.loop-line-test.true c.calls-line-items.ensures.lines in
    flies_line c.args.trace.now c.processors-daemon.ensures.text (map g.S.Store.seen c.args.stores.items) c.loop-line.line-index
    c.do_next.new.machine
    (turned_here c.args.trace.now c.processors-daemon.ensures.text (map g.S.Store.seen c.args.stores.items) c.loop-line.line-index
    c.processors-daemon.result c.loop-line.machine c.do_next.new.machine it.within c.loop-line.invariant
    c.processors-daemon.ensures.processors c.do_next.ensures) it

pub do_job-requires-clause-between : goal.do_job-requires-clause-between
do_job-requires-clause-between g c κs within =
    let it =
    LineAt-read c.args.trace.now c.calls-line-items.result.now c.loop-line.line-index some_line c.calls-line-items.ensures.calls
    c.loop-line-test.true c.calls-line-items.ensures.lines in
    between_line c.args.trace.now c.processors-daemon.ensures.text (map g.S.Store.seen c.args.stores.items) c.loop-line.line-index
    c.do_next.new.machine
    (turned_here c.args.trace.now c.processors-daemon.ensures.text (map g.S.Store.seen c.args.stores.items) c.loop-line.line-index
    c.processors-daemon.result c.loop-line.machine c.do_next.new.machine it.within c.loop-line.invariant
    c.processors-daemon.ensures.processors c.do_next.ensures) it

pub do_job-requires-clause-none_keeps : goal.do_job-requires-clause-none_keeps
do_job-requires-clause-none_keeps g c κs within =
    let it =
    LineAt-read c.args.trace.now c.calls-line-items.result.now c.loop-line.line-index some_line c.calls-line-items.ensures.calls
    c.loop-line-test.true c.calls-line-items.ensures.lines in
    none_line c.args.trace.now c.processors-daemon.ensures.text (map g.S.Store.seen c.args.stores.items) c.loop-line.line-index
    c.do_next.new.machine
    (turned_here c.args.trace.now c.processors-daemon.ensures.text (map g.S.Store.seen c.args.stores.items) c.loop-line.line-index
    c.processors-daemon.result c.loop-line.machine c.do_next.new.machine it.within c.loop-line.invariant
    c.processors-daemon.ensures.processors c.do_next.ensures) it

pub loop-line-preserved : goal.loop-line-preserved
loop-line-preserved g c =
    let it =
    LineAt-read c.args.trace.now c.calls-line-items.result.now c.loop-line.line-index some_line c.calls-line-items.ensures.calls
    c.loop-line-test.true c.calls-line-items.ensures.lines in
    Filing-line c.args.trace.now c.processors-daemon.ensures.text (map g.S.Store.seen c.args.stores.items) c.loop-line.line-index
    c.do_next.new.machine
    (turned_here c.args.trace.now c.processors-daemon.ensures.text (map g.S.Store.seen c.args.stores.items) c.loop-line.line-index
    c.processors-daemon.result c.loop-line.machine c.do_next.new.machine it.within c.loop-line.invariant
    c.processors-daemon.ensures.processors c.do_next.ensures) it c.do_job.new.machine c.do_job.ensures

-- as many lines as the trace has
all_lines : (index : ℕ) (items calls : List Line) → items ≡ calls → index ≡ length items → index ≡ length calls
all_lines index items calls same all = all ∙ ap length same

within_all : (script : Script) (k : ℕ) → k ≡ length script.calls → k ≤ length script.calls
within_all script k all = omega (arith, all)

pub do_rest-requires-clause-lawful : goal.do_rest-requires-clause-lawful
do_rest-requires-clause-lawful g c κs within = c.loop-line.invariant.filed.of.lawful

pub do_rest-requires-clause-between : goal.do_rest-requires-clause-between
do_rest-requires-clause-between g c κs within =
    let all = all_lines c.loop-line.line-index _ _ c.calls-line-items.ensures.calls (omega arith) in
    subst (IsBetween c.loop-line.machine) (sym c.processors-daemon.ensures.processors)
    (between_turns c.args.trace.now c.processors-daemon.ensures.text (map g.S.Store.seen c.args.stores.items) c.loop-line.line-index
    (within_all c.args.trace.now c.loop-line.line-index all) c.loop-line.machine c.loop-line.invariant)

pub do_rest-requires-clause-none_keeps : goal.do_rest-requires-clause-none_keeps
do_rest-requires-clause-none_keeps g c κs within =
    let all = all_lines c.loop-line.line-index _ _ c.calls-line-items.ensures.calls (omega arith) in
    none_between c.args.trace.now c.processors-daemon.ensures.text (map g.S.Store.seen c.args.stores.items) c.loop-line.line-index
    (within_all c.args.trace.now c.loop-line.line-index all) c.loop-line.machine c.loop-line.invariant

-- after all lines and turns
at_end : (script : Script) (has : HasText script) (stores : List Stored) (k daemon : ℕ) (run new : Running) → k ≡ length script.calls
    → Filing script stores k run → daemon ≡ script.processors → DidRest run new daemon
    → ((t : ℕ) × Filed script stores (length script.calls) t new) × (flight_at new.flights script.processors ≡ None)
at_end script has stores k daemon run new all filing same did =
    let rest : DidRest run new script.processors = subst (DidRest run new) same did in
    let filed = Filed-rest script has stores k (omega (arith, all)) run filing new rest in
    ((filed.0, subst (λ n. Filed script stores n filed.0 new) all filed.1), rest.2)

pub finish-requires : goal.finish-requires
finish-requires g c =
    let all = all_lines c.loop-line.line-index _ _ c.calls-line-items.ensures.calls (omega arith) in
    let end =
    at_end c.args.trace.now c.processors-daemon.ensures.text (map g.S.Store.seen c.args.stores.items) c.loop-line.line-index
    c.processors-daemon.result c.loop-line.machine c.do_rest.new.machine all c.loop-line.invariant
    c.processors-daemon.ensures.processors c.do_rest.ensures in (
      c.type_bounds.send-S,
      HasEnded-filed c.args.trace.now c.processors-daemon.ensures.text (map g.S.Store.seen c.args.stores.items) end.0.0
          c.do_rest.new.machine end.0.1 end.1,
    )

pub returns-clause-run : goal.returns-clause-run
returns-clause-run g c =
    let seen = map g.S.Store.seen in
    let all = all_lines c.loop-line.line-index _ _ c.calls-line-items.ensures.calls (omega arith) in
    let end =
    at_end c.args.trace.now c.processors-daemon.ensures.text (map g.S.Store.seen c.args.stores.items) c.loop-line.line-index
    c.processors-daemon.result c.loop-line.machine c.do_rest.new.machine all c.loop-line.invariant
    c.processors-daemon.ensures.processors c.do_rest.ensures in
    subst (λ h. IsReplay c.args.trace.now (seen c.args.stores.items) h (seen c.finish.result.stores.items)) (sym c.finish.ensures.history)
    (IsReplay-whole c.args.trace.now c.processors-daemon.ensures.text (seen c.args.stores.items)
    (seen c.finish.result.stores.items) c.do_rest.new.machine (subst (λ n. c.args.trace.now.spaces ≤ n)
    (sym (length-map c.args.stores.items g.S.Store.seen)) c.requires.enough) c.in_ok-machine.ensures.capped end.0.1.of
    c.finish.ensures.run c.finish.ensures.stores c.finish.ensures.unused)

pub returns-clause-filed : goal.returns-clause-filed
returns-clause-filed g c =
    let all = all_lines c.loop-line.line-index _ _ c.calls-line-items.ensures.calls (omega arith) in
    let end =
    at_end c.args.trace.now c.processors-daemon.ensures.text (map g.S.Store.seen c.args.stores.items) c.loop-line.line-index
    c.processors-daemon.result c.loop-line.machine c.do_rest.new.machine all c.loop-line.invariant
    c.processors-daemon.ensures.processors c.do_rest.ensures in
    subst (λ h. IsFiled c.args.trace.now (entries_in h)) (sym c.finish.ensures.history)
    (IsFiled-all c.args.trace.now c.processors-daemon.ensures.text (map g.S.Store.seen c.args.stores.items) end.0.0
    c.do_rest.new.machine end.0.1 end.1)

pub returns-clause-counts : goal.returns-clause-counts
returns-clause-counts g c =
    let all = all_lines c.loop-line.line-index _ _ c.calls-line-items.ensures.calls (omega arith) in
    let end =
    at_end c.args.trace.now c.processors-daemon.ensures.text (map g.S.Store.seen c.args.stores.items) c.loop-line.line-index
    c.processors-daemon.result c.loop-line.machine c.do_rest.new.machine all c.loop-line.invariant
    c.processors-daemon.ensures.processors c.do_rest.ensures in
    AreItsCounts-whole c.args.trace.now
    (map g.S.Store.seen c.args.stores.items) c.do_rest.new.machine c.finish.result.history.items c.finish.result.summary end.0.1.of
    c.finish.ensures.history c.finish.ensures.summary

pub returns-clause-lasting : goal.returns-clause-lasting
returns-clause-lasting g c = λ lasts. subst (λ h. NoneLacked (entries_in h)) (sym c.finish.ensures.history) (c.finish.ensures.lasting lasts)
