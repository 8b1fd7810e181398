use Rattle.std.proofs.Common.{sym, ◌∙◌, subst}
use Rattle.replay_core.specs.DoneJobs.{DidJob}
use Rattle.replay_core.proofs.WholeJobs.{InJob-start, InJob-step, DidJob-end, flight_there, still_in, advance_steps}
use Rattle.pager_core.specs.Running.{flight_at}
use Rattle.replay_core.proofs.StandingLemmas.{known_flight}
use Rattle.replay_core.proofs.file_order.do_job.Goals as goal

pub done-number-requires : goal.done-number-requires
done-number-requires g c =
    let there = flight_there (flight_at c.args.machine.now.flights c.args.actor) c.requires.left in
    (c.type_bounds.send-S, known_flight c.args.machine.now c.args.actor there.0 c.requires.lawful there.1)

pub loop-machine-init : goal.loop-machine-init
loop-machine-init g c =
    let run = c.args.machine.now in
    let there = flight_there (flight_at run.flights c.args.actor) c.requires.left in
    let same = c.done-number.ensures.made in
    InJob-start run c.args.actor c.done-number.result c.requires.lawful there.0 there.1
    (rw same c.requires.between)

pub loop-machine-smaller : goal.loop-machine-smaller
loop-machine-smaller g c =
    let still = still_in c.args.machine.now c.loop-machine.machine c.args.actor c.done-number.result c.loop-machine.invariant
    (sym c.done.ensures.made ∙ c.loop-machine-test.true) in
    let stepped = advance_steps c.args.machine.now c.loop-machine.machine c.advance.new.self c.args.actor c.done-number.result c.advance.result
    c.requires.none_keeps c.loop-machine.invariant still c.advance.ensures.ended c.advance.ensures.waits in
    (c.advance.ensures.stepped stepped).fewer

pub loop-machine-preserved : goal.loop-machine-preserved
loop-machine-preserved g c =
    let still = still_in c.args.machine.now c.loop-machine.machine c.args.actor c.done-number.result c.loop-machine.invariant
    (sym c.done.ensures.made ∙ c.loop-machine-test.true) in
    let stepped = advance_steps c.args.machine.now c.loop-machine.machine c.advance.new.self c.args.actor c.done-number.result c.advance.result
    c.requires.none_keeps c.loop-machine.invariant still c.advance.ensures.ended c.advance.ensures.waits in
    InJob-step c.args.machine.now c.loop-machine.machine c.advance.new.self c.args.actor c.done-number.result c.loop-machine.invariant still
    (c.advance.ensures.stepped stepped) c.advance.ensures.same_jobs c.advance.ensures.same_unused c.advance.ensures.lawful

pub returns : goal.returns
returns g c =
    subst (DidJob c.args.machine.now c.loop-machine.machine c.args.actor) c.done-number.ensures.made
    (DidJob-end c.args.machine.now c.loop-machine.machine c.args.actor c.done-number.result c.loop-machine.invariant
    (λ made. c.loop-machine-test.false (c.done.ensures.made ∙ made)))
