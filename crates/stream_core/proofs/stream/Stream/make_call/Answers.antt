use Rattle.std.proofs.Common.{◌+◌, ◌≤◌, Bool, List, length, sym, subst, arith}
use Rattle.pager_model.specs.declared.call.Line.{Line}
use Rattle.pager_model.specs.declared.entry.Entry.{Entry}
use Rattle.pager_model.specs.Scripts.{Script}
use Rattle.pager_model.specs.Stored.{Stored}
use Rattle.stream_core.specs.Streaming.{CanCall, IsAt, IsCalled, IsNext, Streaming}
use Rattle.stream_core.proofs.Flown.{IsCalled-flown, call_count, calls_small, can_call, number_small}
use Rattle.stream_core.proofs.stream.Stream.make_call.Goals as goal

-- that a stream went on to this one by a call
abbrev Called : Bool → Line → Streaming → Streaming → Type 0
Called lasts line new old = (script : Script) (stores : List Stored) (calls : List Line) (h : List Entry) → IsAt script stores calls h old
    → IsNext script calls line → old.turns ≤ length calls + 1 → IsCalled lasts script stores calls line h old.turns new

pub fly-requires-clause-can : goal.fly-requires-clause-can
fly-requires-clause-can g c κs within =
    let can = subst (λ (s : Streaming). CanCall s c.args.line) (sym c.self.view_is) c.requires.can in
    can_call can.script can.stores can.calls can.history _ can.at c.args.line can.next can.turns c.of_call-flight.result c.of_call-flight.ensures

pub overflow_add-self : goal.overflow_add-self
overflow_add-self g c =
    let can = subst (λ (s : Streaming). CanCall s c.args.line) (sym c.self.view_is) c.requires.can in
    let small = number_small can.script can.stores can.calls can.history _ can.at c.args.line can.next can.turns c.of_call-flight.result
    c.of_call-flight.ensures in
    omega (arith, small)

pub overflow_add-self-2 : goal.overflow_add-self-2
overflow_add-self-2 g c =
    let can = subst (λ (s : Streaming). CanCall s c.args.line) (sym c.self.view_is) c.requires.can in
    let small = calls_small can.script can.stores can.calls can.history _ can.at c.args.line can.next can.turns c.of_call-flight.result
    c.of_call-flight.ensures in
    omega (arith, small)

pub invariant_of-self : goal.invariant_of-self
invariant_of-self g c =
    let can = subst (λ (s : Streaming). CanCall s c.args.line) (sym c.self.view_is) c.requires.can in
    let same = call_count can.script can.stores can.calls can.history _ can.at c.args.line can.next can.turns c.of_call-flight.result
    c.of_call-flight.ensures c.fly.new.log c.fly.new.flight c.fly.new.spaces.items c.fly.new.pool c.fly.ensures.went in
    let room = c.self.invariant in
    omega (arith, same, room)

pub returns-clause-made : goal.returns-clause-made
returns-clause-made g c = subst (Called g.S.Store.lasts c.args.line _) c.self.view_is (λ script stores calls h at next turns.
    IsCalled-flown script stores calls h _ at c.args.line next turns c.of_call-flight.result c.of_call-flight.ensures g.S.Store.lasts
    c.fly.new.log c.fly.new.flight c.fly.new.spaces.items c.fly.new.pool c.fly.ensures.went c.fly.ensures.ended c.fly.ensures.lasting)
