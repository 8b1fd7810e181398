use Rattle.std.proofs.Common.{◌++◌}
use Rattle.stream_core.proofs.Ends.{IsMade-then, IsMadeAlone-then, due_after, few_before}
use Rattle.stream_core.proofs.stream.Stream.make.Goals as goal

pub take_turn-requires-clause-can : goal.take_turn-requires-clause-can
take_turn-requires-clause-can g c κs within =
    let can = c.requires.can in
    record {
      script = can.script;
      stores = can.stores;
      calls = can.calls;
      history = can.history;
      at = can.after.at;
      due = due_after can.script can.stores can.calls can.history c.args.self.now can.after;
    }

pub make_call-requires-clause-can : goal.make_call-requires-clause-can
make_call-requires-clause-can g c κs within =
    let can = c.requires.can in
    let took = c.take_turn.ensures.took can.script can.stores can.calls can.history can.after.at
    (due_after can.script can.stores can.calls can.history c.args.self.now can.after) in
    record {
      script = can.script;
      stores = can.stores;
      calls = can.calls;
      history = can.history ++ took.piece;
      at = took.at;
      next = can.next;
      turns = few_before can.script can.stores can.calls can.history c.args.self.now c.take_turn.new.self can.after took;
    }

pub returns-clause-made : goal.returns-clause-made
returns-clause-made g c = λ script stores calls h after next.
    let took = c.take_turn.ensures.took script stores calls h after.at (due_after script stores calls h c.args.self.now after) in
    IsMade-then g.S.Store.lasts script stores calls h c.args.line c.args.self.now c.take_turn.new.self c.make_call.new.self after took
    (c.make_call.ensures.made script stores calls (h ++ took.piece) took.at next
    (few_before script stores calls h c.args.self.now c.take_turn.new.self after took))

pub returns-clause-alone : goal.returns-clause-alone
returns-clause-alone g c = λ script stores calls h after next alone.
    let took = c.take_turn.ensures.took script stores calls h after.at (due_after script stores calls h c.args.self.now after) in
    IsMadeAlone-then g.S.Store.lasts script stores calls h c.args.line c.args.self.now c.take_turn.new.self c.make_call.new.self after alone took
    (c.make_call.ensures.made script stores calls (h ++ took.piece) took.at next
    (few_before script stores calls h c.args.self.now c.take_turn.new.self after took))
