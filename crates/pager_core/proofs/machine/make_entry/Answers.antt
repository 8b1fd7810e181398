use Rattle.std.proofs.Common.{◌≡◌, ◌+◌, ◌^◌, ◌<◌, true, if◌then◌else◌, refl, ap, sym, subst, ◌∙◌, arith}
use Rattle.pager_model.specs.FrameStates.{FrameState}
use Rattle.flight_core.specs.Flying.{in_space, since}
use Rattle.flight_core.specs.Logged.{Stepped}
use Rattle.pager_core.proofs.SilentSteps.{HasPassed-none, HasPassed-more, Stepped-passed}
use Rattle.pager_core.proofs.machine.make_entry.Goals as goal

pub loop-init : goal.loop-init
loop-init g c = record {
  passed = λ s h before is here frames.
      HasPassed-none g.L.Log.stands s h before c.args.log.now c.args.flight.now c.args.space.now c.args.pool.now is here frames;
  takes = c.requires.takes;
  room = c.requires.room;
  same_room = refl;
  lasting = λ lasts has. has;
}

pub step-requires-clause-can : goal.step-requires-clause-can
step-requires-clause-can g c κs within =
    let can = c.requires.can in
    let passed = c.loop.invariant.passed can.setting can.history can.before can.stands_for can.here can.frames in
    record {
      setting = can.setting;
      history = can.history;
      before = can.before;
      stands_for = passed.stands_for;
      here = passed.here;
      frames = passed.frames;
    }

pub step-requires-clause-takes : goal.step-requires-clause-takes
step-requires-clause-takes g c κs within = c.loop.invariant.takes

pub step-requires-clause-room : goal.step-requires-clause-room
step-requires-clause-room g c κs within = c.loop.invariant.room

pub step-requires-clause-few : goal.step-requires-clause-few
step-requires-clause-few g c κs within =
    let can = c.requires.can in
    let passed = c.loop.invariant.passed can.setting can.history can.before can.stands_for can.here can.frames in
    subst (λ (st : FrameState). st.entries < 2 ^ 45) (can.frames ∙ sym passed.frames) c.requires.few

pub returns-then-step-clause-made : goal.returns-then-step-clause-made
returns-then-step-clause-made g c = λ s h before is here frames.
    let passed = c.loop.invariant.passed s h before is here frames in
    Stepped-passed g.L.Log.stands s h before c.loop.log c.step.new.log c.args.flight.now c.loop.flight c.step.new.flight
    c.args.space.now c.loop.space c.step.new.space c.loop.pool c.step.new.pool passed true
    (subst (λ made. Stepped g.L.Log.stands (since s h before) c.step.new.log made (in_space c.loop.flight c.loop.space)
    (in_space c.step.new.flight c.step.new.space) c.step.new.pool) c.if-step.true
    (c.step.ensures.stepped s h before passed.stands_for passed.here passed.frames))

pub returns-then-step-clause-fewer : goal.returns-then-step-clause-fewer
returns-then-step-clause-fewer g c =
    ap (λ made. g.L.Log.room c.step.new.log + (if made then 1 else 0)) (sym c.if-step.true) ∙ c.step.ensures.fewer ∙ c.loop.invariant.same_room

pub returns-then-step-clause-lasting : goal.returns-then-step-clause-lasting
returns-then-step-clause-lasting g c = λ lasts has. c.step.ensures.lasting lasts (c.loop.invariant.lasting lasts has)

pub loop-preserved : goal.loop-preserved
loop-preserved g c = record {
  passed = λ s h before is here frames.
      let passed = c.loop.invariant.passed s h before is here frames in
      HasPassed-more g.L.Log.stands s h before c.loop.log c.step.new.log c.args.flight.now c.loop.flight c.step.new.flight
      c.args.space.now c.loop.space c.step.new.space c.loop.pool c.step.new.pool passed
      (subst (λ made. Stepped g.L.Log.stands (since s h before) c.step.new.log made (in_space c.loop.flight c.loop.space)
      (in_space c.step.new.flight c.step.new.space) c.step.new.pool) c.if-step.false
      (c.step.ensures.stepped s h before passed.stands_for passed.here passed.frames));
  takes = c.step.ensures.takes;
  room = c.step.ensures.room;
  same_room =
      (let none : g.L.Log.room c.step.new.log + 0 ≡ g.L.Log.room c.loop.log =
      ap (λ made. g.L.Log.room c.step.new.log + (if made then 1 else 0)) (sym c.if-step.false) ∙ c.step.ensures.fewer in
      let before = c.loop.invariant.same_room in omega (arith, none, before));
  lasting = λ lasts has. c.step.ensures.lasting lasts (c.loop.invariant.lasting lasts has);
}
