use Rattle.std.proofs.Common.{map, reverse, arith}
use Rattle.pager_model.specs.Legal.{entries_in}
use Rattle.pager_laws.proofs.KeptLaws.{KeepsLaws-legal}
use Rattle.pager_laws.proofs.OrderedRefusals.{IsNeverShort-legal}
use Rattle.pager_core.proofs.Advances.{MachineParts}
use Rattle.pager_core.proofs.MoreEntries.{IsListed-machine}
use Rattle.pager_core.proofs.ReadyFlights.{number-few, needs-frames, entries-below, room-machine, FliesOn-machine}
use Rattle.pager_core.proofs.MadeAdvances.{Advanced, Advanced-on_frames, made_on_frames}
use Rattle.pager_core.proofs.WholeAdvances.{steps_read}
use Rattle.pager_core.proofs.machine.Machine.advance_on_frames.Given.{Over}
use Rattle.pager_core.proofs.machine.Machine.advance_on_frames.Goals as goal

pub step_frames-requires-clause-can : goal.step_frames-requires-clause-can
step_frames-requires-clause-can g c =
    let i = c.self.inside in
    let machine = c.self.invariant.0 in
    let f = c.in-Some.flight in
    let here = steps_read _ c.args.self.now c.args.actor _ c.index_mut-place.result.now f c.self.view_is c.requires
    c.index_mut-place.ensures.value c.in-Some.is in
    record {
      setting = i.setting;
      history = entries_in i.log.history.items;
      before = 0;
      stands_for = IsListed-machine _ machine;
      legal = machine.lawful.legal;
      flying = FliesOn-machine _ c.args.actor f machine here.0;
      frames = machine.frames;
    }

pub step_frames-requires-clause-needs : goal.step_frames-requires-clause-needs
step_frames-requires-clause-needs g c =
    let f = c.in-Some.flight in
    let here = steps_read _ c.args.self.now c.args.actor _ c.index_mut-place.result.now f c.self.view_is c.requires
    c.index_mut-place.ensures.value c.in-Some.is in
    needs-frames _ c.args.actor f c.self.invariant.0 here.0 here.1

pub step_frames-requires-clause-room : goal.step_frames-requires-clause-room
step_frames-requires-clause-room g c =
    let f = c.in-Some.flight in
    let here = steps_read _ c.args.self.now c.args.actor _ c.index_mut-place.result.now f c.self.view_is c.requires
    c.index_mut-place.ensures.value c.in-Some.is in
    room-machine _ c.args.actor f c.self.invariant.0 here.0

pub step_frames-requires-clause-few : goal.step_frames-requires-clause-few
step_frames-requires-clause-few g c =
    let f = c.in-Some.flight in
    let here = steps_read _ c.args.self.now c.args.actor _ c.index_mut-place.result.now f c.self.view_is c.requires
    c.index_mut-place.ensures.value c.in-Some.is in
    entries-below _ c.args.actor f c.self.invariant.0 here.0

pub go_on-requires : goal.go_on-requires
go_on-requires g c =
    let machine = c.self.invariant.0 in
    let f = c.in-Some.flight in
    let here = steps_read _ c.args.self.now c.args.actor _ c.index_mut-place.result.now f c.self.view_is c.requires
    c.index_mut-place.ensures.value c.in-Some.is in
    let few = number-few _ c.args.actor f machine here.0 in
    let made = made_on_frames _ c.args.actor f c.step_frames.new.flight machine c.step_frames.new.log c.step_frames.new.pool here.0
    c.step_frames.ensures.stepped in
    let same = made.added.same_work.number in
    omega (arith, few, same)

-- the machine before the turn
abbrev parts : (g : Over) → goal.After-self-2-1 g → MachineParts
parts g c =
    let i = c.self.inside in
    record {
      run = record {
        given = i.setting;
        jobs = i.jobs;
        flights = i.flights.items;
        history = i.log.history.items;
        unused = map g.S.Store.seen (reverse i.stores.items);
      };
      spaces = i.spaces.items;
      pool = i.pool;
      capacity = i.log.history.room;
    }

-- what the turn leaves
advanced : (g : Over) (c : goal.After-self-2-1 g)
    → Advanced (parts g c) c.args.self.now c.args.actor c.in-Some.flight c.step_frames.new.flight c.go_on.new.place c.step_frames.new.log
    c.self.inside.spaces.items c.step_frames.new.pool c.self.inside.keepers.items c.self.inside.keepers.items
advanced g c =
    let machine = c.self.invariant.0 in
    let m = parts g c in
    let f = c.in-Some.flight in
    let here = steps_read m.run c.args.self.now c.args.actor _ c.index_mut-place.result.now f c.self.view_is c.requires
    c.index_mut-place.ensures.value c.in-Some.is in
    Advanced-on_frames m c.args.self.now c.args.actor f c.step_frames.new.flight c.go_on.new.place c.step_frames.new.log
    (record {
      whole = machine;
      same = c.self.view_is;
      next = record { going = c.go_on.ensures.going; next = c.go_on.ensures.next };
      fewer = c.step_frames.ensures.fewer;
    })
    c.step_frames.new.pool here.0 here.1
    (made_on_frames m c.args.actor f c.step_frames.new.flight machine c.step_frames.new.log c.step_frames.new.pool here.0
    c.step_frames.ensures.stepped)
    c.self.inside.keepers.items

pub invariant_of-self : goal.invariant_of-self
invariant_of-self g c =
    let after = advanced g c in (
      after.whole,
      c.self.invariant.1,
      after.kept c.self.invariant.2,
      λ lasts. after.memory (c.self.invariant.3 lasts) c.step_frames.ensures.never_lacks,
    )

pub returns-clause-stepped : goal.returns-clause-stepped
returns-clause-stepped g c = (advanced g c).more

pub returns-clause-lawful : goal.returns-clause-lawful
returns-clause-lawful g c = (advanced g c).whole.lawful

pub returns-clause-laws : goal.returns-clause-laws
returns-clause-laws g c = KeepsLaws-legal _ _ (advanced g c).whole.lawful.legal

pub returns-clause-never_short : goal.returns-clause-never_short
returns-clause-never_short g c = IsNeverShort-legal _ _ (advanced g c).whole.lawful.legal

pub returns-clause-lasting : goal.returns-clause-lasting
returns-clause-lasting g c = λ lasts. ((advanced g c).memory (c.self.invariant.3 lasts) c.step_frames.ensures.never_lacks).answers
