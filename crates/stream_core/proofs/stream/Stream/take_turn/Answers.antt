use Rattle.std.proofs.Common.{List, ap, sym, subst, arith}
use Rattle.pager_model.specs.declared.call.Line.{Line}
use Rattle.pager_model.specs.declared.entry.Entry.{Entry}
use Rattle.pager_model.specs.Scripts.{Script}
use Rattle.pager_model.specs.Stored.{Stored}
use Rattle.stream_core.specs.Streaming.{CanTurn, IsAt, IsDue, Streaming, TookTurns, turns_in}
use Rattle.stream_core.proofs.Flown.{TookTurns-all, TookTurns-flown, can_turn, turn_count}
use Rattle.stream_core.proofs.stream.Stream.take_turn.Goals as goal

-- that a stream went on to this one
abbrev Took : Streaming → Streaming → Type 0
Took new old = (script : Script) (stores : List Stored) (calls : List Line) (h : List Entry) → IsAt script stores calls h old
    → IsDue script calls old.turns → TookTurns script stores calls h old.turns 1 new

pub returns-in_default-clause-took : goal.returns-in_default-clause-took
returns-in_default-clause-took g c = subst (λ x. Took x x) c.self.view_is (λ script stores calls h at due.
    TookTurns-all script stores calls h _ at (let none = ap turns_in c.in_default.is in omega (arith, none)))

pub returns-then-self-daemon-clause-took : goal.returns-then-self-daemon-clause-took
returns-then-self-daemon-clause-took g c = subst (λ x. Took x x) c.self.view_is (λ script stores calls h at due.
    TookTurns-all script stores calls h _ at
    (let all = ap turns_in c.in-Some.is in let same = c.if-self-daemon.true in omega (arith, all, same)))

pub fly-requires-clause-can : goal.fly-requires-clause-can
fly-requires-clause-can g c κs within =
    let can = subst CanTurn (sym c.self.view_is) c.requires.can in
    can_turn can.script can.stores can.calls can.history _ can.at can.due c.in-Some.daemon c.in-Some.is c.if-self-daemon.false
    c.of_turn-flight.result c.of_turn-flight.ensures

pub invariant_of-self : goal.invariant_of-self
invariant_of-self g c =
    let can = subst CanTurn (sym c.self.view_is) c.requires.can in
    let same = turn_count can.script can.stores can.calls can.history _ can.at can.due c.in-Some.daemon c.in-Some.is c.if-self-daemon.false
    c.of_turn-flight.result c.of_turn-flight.ensures c.fly.new.log c.fly.new.flight c.fly.new.spaces.items c.fly.new.pool c.fly.ensures.went in
    let room = c.self.invariant in
    omega (arith, same, room)

pub returns-clause-took : goal.returns-clause-took
returns-clause-took g c = subst (Took _) c.self.view_is (λ script stores calls h at due.
    TookTurns-flown script stores calls h _ at due c.in-Some.daemon c.in-Some.is c.if-self-daemon.false
    c.of_turn-flight.result c.of_turn-flight.ensures c.fly.new.log c.fly.new.flight c.fly.new.spaces.items c.fly.new.pool
    c.fly.ensures.went c.fly.ensures.ended)
