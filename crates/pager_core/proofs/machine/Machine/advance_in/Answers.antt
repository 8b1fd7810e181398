use Rattle.std.proofs.Common.{map, reverse, arith}
use Rattle.std.proofs.Math.ListN.{set, length-set}
use Rattle.pager_model.specs.Legal.{entries_in}
use Rattle.pager_laws.proofs.KeptLaws.{KeepsLaws-legal}
use Rattle.pager_laws.proofs.OrderedRefusals.{IsNeverShort-legal}
use Rattle.pager_core.proofs.Advances.{MachineParts}
use Rattle.pager_core.proofs.MoreEntries.{IsListed-machine}
use Rattle.pager_core.proofs.ReadyFlights.{number-few, entries-below, room-machine, space_within}
use Rattle.pager_core.proofs.MadeAdvances.{Advanced, Advanced-in, made_in}
use Rattle.pager_core.proofs.WholeAdvances.{Finds, finds, steps_read}
use Rattle.pager_core.proofs.machine.Machine.advance_in.Given.{Over}
use Rattle.pager_core.proofs.machine.Machine.advance_in.Goals as goal

pub index_mut-requires : goal.index_mut-requires
index_mut-requires g c =
    let f = c.in-Some.flight in
    let here = steps_read _ c.args.self.now c.args.actor _ c.index_mut-place.result.now f c.self.view_is c.requires.under
    c.index_mut-place.ensures.value c.in-Some.is in
    let below = space_within _ c.args.actor f c.self.invariant.0 here.0 c.args.space here.1 in
    omega (arith, below, c.self.inside.spaces.ok.0)

pub index_mut-requires-2 : goal.index_mut-requires-2
index_mut-requires-2 g c =
    let f = c.in-Some.flight in
    let here = steps_read _ c.args.self.now c.args.actor _ c.index_mut-place.result.now f c.self.view_is c.requires.under
    c.index_mut-place.ensures.value c.in-Some.is in
    let below = space_within _ c.args.actor f c.self.invariant.0 here.0 c.args.space here.1 in
    let count = c.self.invariant.2.count in
    omega (arith, below, count, c.self.inside.keepers.ok.0)

pub make_entry-requires-clause-can : goal.make_entry-requires-clause-can
make_entry-requires-clause-can g c κs within =
    let i = c.self.inside in
    let machine = c.self.invariant.0 in
    let f = c.in-Some.flight in
    let here = steps_read _ c.args.self.now c.args.actor _ c.index_mut-place.result.now f c.self.view_is c.requires.under
    c.index_mut-place.ensures.value c.in-Some.is in
    let found = finds _ c.args.self.now c.args.actor c.args.space f machine c.self.view_is here.0 here.1
    c.requires.free c.index_mut.result.now c.index_mut.ensures.value in
    record {
      setting = i.setting;
      history = entries_in i.log.history.items;
      before = 0;
      stands_for = IsListed-machine _ machine;
      here = found.here;
      frames = machine.frames;
    }

pub make_entry-requires-clause-room : goal.make_entry-requires-clause-room
make_entry-requires-clause-room g c κs within =
    let f = c.in-Some.flight in
    let here = steps_read _ c.args.self.now c.args.actor _ c.index_mut-place.result.now f c.self.view_is c.requires.under
    c.index_mut-place.ensures.value c.in-Some.is in
    room-machine _ c.args.actor f c.self.invariant.0 here.0

pub make_entry-requires-clause-few : goal.make_entry-requires-clause-few
make_entry-requires-clause-few g c κs within =
    let f = c.in-Some.flight in
    let here = steps_read _ c.args.self.now c.args.actor _ c.index_mut-place.result.now f c.self.view_is c.requires.under
    c.index_mut-place.ensures.value c.in-Some.is in
    entries-below _ c.args.actor f c.self.invariant.0 here.0

pub go_on-requires : goal.go_on-requires
go_on-requires g c =
    let machine = c.self.invariant.0 in
    let f = c.in-Some.flight in
    let here = steps_read _ c.args.self.now c.args.actor _ c.index_mut-place.result.now f c.self.view_is c.requires.under
    c.index_mut-place.ensures.value c.in-Some.is in
    let found = finds _ c.args.self.now c.args.actor c.args.space f machine c.self.view_is here.0 here.1
    c.requires.free c.index_mut.result.now c.index_mut.ensures.value in
    let few = number-few _ c.args.actor f machine found.flies in
    let made = made_in _ c.args.actor f c.make_entry.new.flight machine c.make_entry.new.log c.make_entry.new.pool c.args.space
    c.index_mut.result.now c.make_entry.new.space found c.make_entry.ensures.made in
    let same = made.added.same_work.number in
    omega (arith, few, same)

-- the machine before the turn
abbrev parts : (g : Over) → goal.After-self-4-1 g → MachineParts
parts g c =
    let i = c.self.inside in
    record {
      run = record {
        given = i.setting;
        jobs = i.jobs;
        flights = i.flights.items;
        history = i.log.history.items;
        unused = map g.S.Store.seen (reverse i.stores.items);
      };
      spaces = i.spaces.items;
      pool = i.pool;
      capacity = i.log.history.room;
    }

-- what it found
found : (g : Over) (c : goal.After-self-4-1 g) → Finds (parts g c) c.args.actor c.args.space c.in-Some.flight c.index_mut.result.now
found g c =
    let m = parts g c in
    let f = c.in-Some.flight in
    let here = steps_read m.run c.args.self.now c.args.actor _ c.index_mut-place.result.now f c.self.view_is c.requires.under
    c.index_mut-place.ensures.value c.in-Some.is in
    finds m c.args.self.now c.args.actor c.args.space f c.self.invariant.0 c.self.view_is here.0 here.1
    c.requires.free c.index_mut.result.now c.index_mut.ensures.value

-- what the turn leaves
advanced : (g : Over) (c : goal.After-self-4-1 g)
    → Advanced (parts g c) c.args.self.now c.args.actor c.in-Some.flight c.make_entry.new.flight c.go_on.new.place c.make_entry.new.log
    (set c.self.inside.spaces.items c.args.space c.make_entry.new.space) c.make_entry.new.pool c.self.inside.keepers.items
    (set c.self.inside.keepers.items c.args.space c.keeper.result)
advanced g c =
    let machine = c.self.invariant.0 in
    let m = parts g c in
    Advanced-in m c.args.self.now c.args.actor c.in-Some.flight c.make_entry.new.flight c.go_on.new.place c.make_entry.new.log
    (record {
      whole = machine;
      same = c.self.view_is;
      next = record { going = c.go_on.ensures.going; next = c.go_on.ensures.next };
      fewer = c.make_entry.ensures.fewer;
    })
    c.args.space c.index_mut.result.now c.make_entry.new.space c.make_entry.new.pool (found g c)
    (made_in m c.args.actor c.in-Some.flight c.make_entry.new.flight machine c.make_entry.new.log c.make_entry.new.pool c.args.space
    c.index_mut.result.now c.make_entry.new.space (found g c) c.make_entry.ensures.made)
    c.self.inside.keepers.items c.keeper.result c.keeper.ensures

pub invariant_of-self : goal.invariant_of-self
invariant_of-self g c =
    let after = advanced g c in
    let same = length-set c.self.inside.spaces.items c.args.space c.make_entry.new.space in
    let room = c.self.invariant.1 in (
      after.whole,
      omega (arith, room, same),
      after.kept c.self.invariant.2,
      λ lasts. after.memory (c.self.invariant.3 lasts) (c.make_entry.ensures.lasting lasts),
    )

pub returns-clause-stepped : goal.returns-clause-stepped
returns-clause-stepped g c = (advanced g c).more

pub returns-clause-lawful : goal.returns-clause-lawful
returns-clause-lawful g c = (advanced g c).whole.lawful

pub returns-clause-laws : goal.returns-clause-laws
returns-clause-laws g c = KeepsLaws-legal _ _ (advanced g c).whole.lawful.legal

pub returns-clause-never_short : goal.returns-clause-never_short
returns-clause-never_short g c = IsNeverShort-legal _ _ (advanced g c).whole.lawful.legal

pub returns-clause-lasting : goal.returns-clause-lasting
returns-clause-lasting g c = λ lasts. ((advanced g c).memory (c.self.invariant.3 lasts) (c.make_entry.ensures.lasting lasts)).answers
