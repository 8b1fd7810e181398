use Rattle.std.proofs.Common.{◌≡◌, ℕ, ◌<◌, ◌≤◌, List, length, map, get_or, sym, ap, subst, ◌∙◌, arith}
use Rattle.std.proofs.Math.ListN.{length-map}
use Rattle.std.proofs.lemmas.Bool.{true≢false}
use Rattle.std.specs.List.{AllByRecursion, range_with_len}
use Rattle.pager_model.specs.Legal.{entries_in}
use Rattle.pager_model.specs.Showing.{actors}
use Rattle.pager_model.specs.Schedules.{IsScheduled}
use Rattle.pager_model.proofs.Actors.{actors_few}
use Rattle.flight_core.specs.Lacking.{NoneLacked}
use Rattle.pager_core.specs.Replays.{IsReplay}
use Rattle.replay_core.specs.Schedules.{IsStuck, FirstStepped}
use Rattle.replay_core.proofs.RunLemmas.{length-jobs, IsReplay-whole, AreItsCounts-whole}
use Rattle.replay_core.proofs.StandingLemmas.{known_in}
use Rattle.replay_core.proofs.ScheduleLemmas.{range_known, range_can}
use Rattle.replay_core.proofs.OrderLemmas.{Following-start, Following-advance, Lowering-start, Lowering-step, fewer_lowest, IsScheduled-end}
use Rattle.replay_core.proofs.scheduled.replay_schedule.Goals as goal

pub loop-actor-init : goal.loop-actor-init
loop-actor-init g c =
    let made = c.in_ok-machine.ensures.made in
    Following-start c.args.trace.now (map g.S.Store.seen c.args.stores.items) c.args.schedule.now c.in_ok-machine.machine
    (record { given = made.0; unused = c.in_ok-machine.ensures.unused; jobs = made.2; lawful = made.4 }) made.1

pub advance-requires-after_bounds : goal.advance-requires-after_bounds
advance-requires-after_bounds g c κs within =
    known_in c.args.trace.now (map g.S.Store.seen c.args.stores.items) c.loop-actor.machine c.loop-actor.invariant.of
    (get_or c.args.schedule.now c.loop-actor.actor-index 0)
    (c.requires.known c.loop-actor.actor-index 0 c.loop-actor-test.true)

pub loop-actor-preserved : goal.loop-actor-preserved
loop-actor-preserved g c =
    let advance = c.advance.ensures in
    Following-advance c.args.trace.now
    (map g.S.Store.seen c.args.stores.items) c.args.schedule.now c.loop-actor.actor-index c.loop-actor.machine c.loop-actor.invariant
    (record { below = c.loop-actor-test.true; known = c.requires.known c.loop-actor.actor-index 0 c.loop-actor-test.true })
    c.advance.new.self c.advance.result
    advance.ended advance.not_ended advance.waits advance.not_waiting advance.stepped advance.same_jobs advance.same_unused advance.lawful

pub loop-actors-init : goal.loop-actors-init
loop-actors-init g c = Lowering-start c.args.trace.now
    (map g.S.Store.seen c.args.stores.items) c.args.schedule.now c.loop-actor.actor-index c.loop-actor.machine c.loop-actor.invariant
    (omega arith)

pub all_below-actors-requires : goal.all_below-actors-requires
all_below-actors-requires g c =
    let few = actors_few c.args.trace.now c.actors.ensures.text in
    omega (arith, few, c.actors.ensures.actors)

-- the actors are all processors
all_actors : (n processors : ℕ) (items actors : List ℕ) → actors ≡ items → items ≡ range_with_len 0 n → n ≡ processors
    → actors ≡ range_with_len 0 processors
all_actors n processors items actors reads made count = reads ∙ made ∙ ap (range_with_len 0) count

pub step_first-requires-clause-known : goal.step_first-requires-clause-known
step_first-requires-clause-known g c κs within =
    let run = c.loop-actors.machine in
    let all = all_actors c.actors.result
    (actors c.args.trace.now) c.all_below-actors.result.items c.as_slice.result.now c.as_slice.ensures.value c.all_below-actors.ensures
    c.actors.ensures.actors ∙ ap (range_with_len 0) (sym (length-jobs c.args.trace.now run.jobs c.loop-actors.invariant.of.jobs)) in
    subst (AllByRecursion (λ x. x < length run.jobs)) (sym all) (range_known (length run.jobs))

pub step_first-requires-clause-some : goal.step_first-requires-clause-some
step_first-requires-clause-some g c κs within stuck =
    let run = c.loop-actors.machine in
    let all = all_actors c.actors.result
    (actors c.args.trace.now) c.all_below-actors.result.items c.as_slice.result.now c.as_slice.ensures.value c.all_below-actors.ensures
    c.actors.ensures.actors ∙ ap (range_with_len 0) (sym (length-jobs c.args.trace.now run.jobs c.loop-actors.invariant.of.jobs)) in
    range_can run c.loop-actors.invariant.of.lawful (λ ended. true≢false (sym (c.ended.ensures.ended.1 ended) ∙ c.loop-actors-test.true))
    (subst (AllByRecursion (IsStuck run)) all stuck)

pub loop-actors-smaller : goal.loop-actors-smaller
loop-actors-smaller g c =
    fewer_lowest c.args.trace.now
    (map g.S.Store.seen c.args.stores.items) c.args.schedule.now c.loop-actors.machine c.step_first.new.machine c.loop-actors.invariant
    (subst (FirstStepped c.loop-actors.machine c.step_first.new.machine)
    (all_actors c.actors.result
    (actors c.args.trace.now) c.all_below-actors.result.items c.as_slice.result.now c.as_slice.ensures.value c.all_below-actors.ensures
    c.actors.ensures.actors) c.step_first.ensures)

pub loop-actors-preserved : goal.loop-actors-preserved
loop-actors-preserved g c =
    Lowering-step c.args.trace.now
    (map g.S.Store.seen c.args.stores.items) c.args.schedule.now c.loop-actors.machine c.step_first.new.machine c.loop-actors.invariant
    (subst (FirstStepped c.loop-actors.machine c.step_first.new.machine)
    (all_actors c.actors.result
    (actors c.args.trace.now) c.all_below-actors.result.items c.as_slice.result.now c.as_slice.ensures.value c.all_below-actors.ensures
    c.actors.ensures.actors) c.step_first.ensures)

pub finish-requires : goal.finish-requires
finish-requires g c = (c.type_bounds.send-S, c.ended.ensures.ended.0 c.loop-actors-test.false)

pub returns-clause-run : goal.returns-clause-run
returns-clause-run g c =
    let seen = map g.S.Store.seen in
    subst (λ h. IsReplay c.args.trace.now (seen c.args.stores.items) h (seen c.finish.result.stores.items)) (sym c.finish.ensures.history)
    (IsReplay-whole c.args.trace.now c.actors.ensures.text (seen c.args.stores.items)
    (seen c.finish.result.stores.items) c.loop-actors.machine (subst (λ n. c.args.trace.now.spaces ≤ n)
    (sym (length-map c.args.stores.items g.S.Store.seen)) c.requires.enough) c.in_ok-machine.ensures.capped c.loop-actors.invariant.of
    c.finish.ensures.run c.finish.ensures.stores c.finish.ensures.unused)

pub returns-clause-scheduled : goal.returns-clause-scheduled
returns-clause-scheduled g c =
    subst (λ h. IsScheduled c.args.trace.now c.args.schedule.now (entries_in h)) (sym c.finish.ensures.history)
    (IsScheduled-end c.args.trace.now
    (map g.S.Store.seen c.args.stores.items) c.args.schedule.now c.loop-actors.machine c.loop-actors.invariant)

pub returns-clause-counts : goal.returns-clause-counts
returns-clause-counts g c =
    AreItsCounts-whole c.args.trace.now
    (map g.S.Store.seen c.args.stores.items) c.loop-actors.machine c.finish.result.history.items c.finish.result.summary
    c.loop-actors.invariant.of c.finish.ensures.history c.finish.ensures.summary

pub returns-clause-lasting : goal.returns-clause-lasting
returns-clause-lasting g c = λ lasts. subst (λ h. NoneLacked (entries_in h)) (sym c.finish.ensures.history) (c.finish.ensures.lasting lasts)
