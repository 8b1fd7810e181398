use Rattle.std.proofs.Common.{List, map, subst}
use Rattle.pager_model.specs.declared.call.Line.{Line}
use Rattle.pager_model.specs.declared.entry.Entry.{Entry}
use Rattle.pager_model.specs.Scripts.{Script}
use Rattle.pager_model.specs.Stored.{Stored}
use Rattle.stream_core.specs.Streaming.{IsAfter, IsRunTo, Streaming}
use Rattle.stream_core.proofs.Ends.{IsRunTo-at}
use Rattle.stream_core.proofs.stream.Stream.stop.Goals as goal

pub returns : goal.returns
returns g c =
    subst (λ (s : Streaming). (script : Script) (stores : List Stored) (calls : List Line) (h : List Entry) → IsAfter script stores calls h s
    → IsRunTo script stores calls h (map g.S.Store.seen c.stores_of.result.items)) c.self.view_is
    (λ script stores calls h after. IsRunTo-at script stores calls h _ after.at (map g.S.Store.seen c.stores_of.result.items)
    c.stores_of.ensures.ends c.stores_of.ensures.unused after.turns)
