use Rattle.std.proofs.Common.{◌≡◌, List, ◌++◌, drop, length, map, sym, subst}
use Rattle.pager_model.specs.declared.entry.Numbered.{Numbered}
use Rattle.pager_model.specs.FrameStates.{FrameState}
use Rattle.pager_model.specs.Legal.{entries_in}
use Rattle.pager_model.specs.Settings.{Given}
use Rattle.pager_model.specs.Stored.{Stored}
use Rattle.pager_model.specs.Stores.{StoresEnd, setting_over}
use Rattle.pager_core.specs.RunParts.{AreAtRest}
use Rattle.stream_core.specs.Streaming.{Streaming}
use Rattle.stream_core.specs.Tallies.{IsTallied}
use Rattle.stream_core.proofs.Ends.{IsRunWhole-took, due_after}
use Rattle.stream_core.proofs.stream.Stream.finish.Goals as goal

pub counts-summary-requires-after_bounds : goal.counts-summary-requires-after_bounds
counts-summary-requires-after_bounds g c κs within =
    let can = c.requires in
    let took = c.take_turns.ensures.took can.script can.stores can.calls can.history can.after.at
    (due_after can.script can.stores can.calls can.history c.args.self can.after) in
    record { script = can.script; stores = can.stores; calls = can.calls; history = can.history ++ took.piece; at = took.at }

pub returns-clause-whole : goal.returns-clause-whole
returns-clause-whole g c = λ script stores calls h after.
    let left : List Stored = map g.S.Store.seen c.stores_of.result.items in
    let took = c.take_turns.ensures.took script stores calls h after.at (due_after script stores calls h c.args.self after) in
    IsRunWhole-took g.S.Store.lasts script stores calls h c.args.self.turns c.take_turns.new.stream left c.counts-summary.result c.into_curves.result took
    (subst (λ (s : Streaming). (given : Given) (history : List Numbered) (pool : FrameState)
    → AreAtRest given (entries_in history) s.spaces pool → StoresEnd given history left) c.stream.view_is c.stores_of.ensures.ends)
    (subst (λ (s : Streaming). drop (length s.spaces) left ≡ s.unused) c.stream.view_is c.stores_of.ensures.unused)
    (c.counts-summary.ensures script stores calls (h ++ took.piece) took.at)
    (c.into_curves.ensures.curves (setting_over script stores) (h ++ took.piece)
    (subst (λ (s : Streaming). IsTallied s.tally (setting_over script stores) (h ++ took.piece)) (sym c.stream.view_is) took.at.tallied))
