use Rattle.std.proofs.Common.{sym, ◌∙◌}
use Rattle.flight_core.proofs.WholeFlights.{WentOn-none, WentOn-on}
use Rattle.flight_core.proofs.flights.fly.Goals as goal

pub loop-log-init : goal.loop-log-init
loop-log-init g c =
    record {
      went = λ s h before is at.
          WentOn-none g.L.Log.stands s h before c.args.log.now c.args.flight.now c.args.spaces.now.items c.args.pool.now c.requires.going is at;
      grown = λ from grown. grown;
      takes = c.requires.takes;
      room = c.requires.room;
      lasting = λ lasts never. never;
    }

pub go_on-requires-clause-can : goal.go_on-requires-clause-can
go_on-requires-clause-can g c κs within =
    let can = c.requires.can in
    let went = c.loop-log.invariant.went can.setting can.history can.before can.stands_for can.at in
    record {
      setting = can.setting;
      history = went.history;
      before = can.before;
      stands_for = went.stands_for;
      at = went.at;
    }

pub loop-log-preserved : goal.loop-log-preserved
loop-log-preserved g c =
    record {
      went = λ s h before is at.
          let first = c.loop-log.invariant.went s h before is at in
          WentOn-on g.L.Log.stands s h before c.loop-log.log c.go_on.new.log c.args.flight.now c.loop-log.flight c.go_on.new.flight
          c.loop-log.spaces.items c.go_on.new.spaces.items c.loop-log.pool c.go_on.new.pool
          (sym c.has_ended.ensures ∙ c.loop-log-test.true) first
          (c.go_on.ensures.went s first.history before first.stands_for first.at);
      grown = λ from grown. c.go_on.ensures.grown from (c.loop-log.invariant.grown from grown);
      takes = c.go_on.ensures.takes;
      room = c.go_on.ensures.room;
      lasting = λ lasts never. c.go_on.ensures.lasting lasts (c.loop-log.invariant.lasting lasts never);
    }
