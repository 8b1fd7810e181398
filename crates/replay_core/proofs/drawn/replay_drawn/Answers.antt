use Rattle.std.proofs.Common.{◌≤◌, map, sym, subst, ◌∙◌, arith}
use Rattle.std.proofs.Math.ListN.{length-map}
use Rattle.std.proofs.lemmas.Bool.{true≢false}
use Rattle.pager_model.specs.Legal.{entries_in}
use Rattle.pager_model.specs.Schedules.{IsSeeded}
use Rattle.pager_model.proofs.Actors.{actors_few}
use Rattle.flight_core.specs.Lacking.{NoneLacked}
use Rattle.pager_core.specs.Replays.{IsReplay}
use Rattle.replay_core.proofs.RunLemmas.{length-jobs, IsReplay-whole, AreItsCounts-whole}
use Rattle.replay_core.proofs.OrderLemmas.{Drawing, Drawing-start, Drawing-step, fewer_drawn}
use Rattle.replay_core.proofs.drawn.replay_drawn.Goals as goal

pub loop-generator-init : goal.loop-generator-init
loop-generator-init g c =
    let made = c.in_ok-machine.ensures.made in
    let stores = map g.S.Store.seen c.args.stores.items in
    subst (Drawing c.args.trace.now stores c.args.seed c.in_ok-machine.machine) (sym c.of-generator.ensures)
    (Drawing-start c.args.trace.now stores c.args.seed c.in_ok-machine.machine
    (record { given = made.0; unused = c.in_ok-machine.ensures.unused; jobs = made.2; lawful = made.4 }) made.1)

pub step_drawn-requires-clause-all : goal.step_drawn-requires-clause-all
step_drawn-requires-clause-all g c κs within =
    length-jobs c.args.trace.now c.loop-generator.machine.jobs c.loop-generator.invariant.of.jobs ∙ sym c.actors-actors.ensures.actors

pub step_drawn-requires-clause-few : goal.step_drawn-requires-clause-few
step_drawn-requires-clause-few g c κs within =
    let few = actors_few c.args.trace.now c.actors-actors.ensures.text in
    omega (arith, few, c.actors-actors.ensures.actors)

pub step_drawn-requires-clause-going : goal.step_drawn-requires-clause-going
step_drawn-requires-clause-going g c κs within = λ ended. true≢false (sym (c.ended.ensures.ended.1 ended) ∙ c.loop-generator-test.true)

pub loop-generator-smaller : goal.loop-generator-smaller
loop-generator-smaller g c =
    fewer_drawn c.args.trace.now (map g.S.Store.seen c.args.stores.items) c.args.seed c.loop-generator.machine
    c.loop-generator.generator c.loop-generator.invariant c.step_drawn.new.machine c.step_drawn.ensures.stepped

pub loop-generator-preserved : goal.loop-generator-preserved
loop-generator-preserved g c =
    Drawing-step c.args.trace.now (map g.S.Store.seen c.args.stores.items) c.args.seed c.loop-generator.machine
    c.loop-generator.generator c.loop-generator.invariant c.step_drawn.new.machine c.step_drawn.ensures.stepped c.step_drawn.new.generator
    c.step_drawn.ensures.state

pub finish-requires : goal.finish-requires
finish-requires g c = (c.type_bounds.send-S, c.ended.ensures.ended.0 c.loop-generator-test.false)

pub returns-clause-run : goal.returns-clause-run
returns-clause-run g c =
    let seen = map g.S.Store.seen in
    subst (λ h. IsReplay c.args.trace.now (seen c.args.stores.items) h (seen c.finish.result.stores.items)) (sym c.finish.ensures.history)
    (IsReplay-whole c.args.trace.now c.actors-actors.ensures.text (seen c.args.stores.items)
    (seen c.finish.result.stores.items) c.loop-generator.machine (subst (λ n. c.args.trace.now.spaces ≤ n)
    (sym (length-map c.args.stores.items g.S.Store.seen)) c.requires.enough) c.in_ok-machine.ensures.capped
    c.loop-generator.invariant.of c.finish.ensures.run c.finish.ensures.stores c.finish.ensures.unused)

pub returns-clause-seeded : goal.returns-clause-seeded
returns-clause-seeded g c = subst (λ h. IsSeeded c.args.trace.now c.args.seed (entries_in h))
    (sym c.finish.ensures.history) c.loop-generator.invariant.seeded

pub returns-clause-counts : goal.returns-clause-counts
returns-clause-counts g c =
    AreItsCounts-whole c.args.trace.now
    (map g.S.Store.seen c.args.stores.items) c.loop-generator.machine c.finish.result.history.items c.finish.result.summary
    c.loop-generator.invariant.of c.finish.ensures.history c.finish.ensures.summary

pub returns-clause-lasting : goal.returns-clause-lasting
returns-clause-lasting g c = λ lasts. subst (λ h. NoneLacked (entries_in h)) (sym c.finish.ensures.history) (c.finish.ensures.lasting lasts)
