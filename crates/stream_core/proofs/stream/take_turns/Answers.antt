use Rattle.std.proofs.Common.{◌++◌, ap, ◌∙◌, arith}
use Rattle.stream_core.specs.Streaming.{turns_in}
use Rattle.stream_core.proofs.Ends.{TookTurns-more, TookTurns-whole, due_still}
use Rattle.stream_core.proofs.stream.take_turns.Goals as goal

pub take_turn-requires-clause-can : goal.take_turn-requires-clause-can
take_turn-requires-clause-can g c κs within =
    let can = c.requires.can in
    let took = c.loop.invariant.took can.script can.stores can.calls can.history can.at can.due in
    record {
      script = can.script;
      stores = can.stores;
      calls = can.calls;
      history = can.history ++ took.piece;
      at = took.at;
      due = due_still can.script can.stores can.calls can.history c.args.stream.now.turns c.loop.counter c.loop.stream can.due took;
    }

pub loop-preserved : goal.loop-preserved
loop-preserved g c = record {
  took = λ script stores calls h at due.
      let took = c.loop.invariant.took script stores calls h at due in
      TookTurns-more script stores calls h c.args.stream.now.turns c.loop.counter c.loop.stream c.take_turn.new.self took
      (c.take_turn.ensures.took script stores calls (h ++ took.piece) took.at
      (due_still script stores calls h c.args.stream.now.turns c.loop.counter c.loop.stream due took));
  asked = c.take_turn.ensures.asked ∙ c.loop.invariant.asked;
}

pub returns : goal.returns
returns g c = record {
  took = λ script stores calls h at due.
      let all = c.turns_left-end.ensures in
      let same = ap turns_in at.daemon_is in
      let end = c.loop-test.false in
      TookTurns-whole script stores calls h c.args.stream.now.turns c.loop.counter c.loop.stream (omega (arith, all, same, end))
      (c.loop.invariant.took script stores calls h at due);
  asked = c.loop.invariant.asked;
}
