use Rattle.std.proofs.Common.{◌∙◌, sym}
use Rattle.space_core.specs.contracts.table.PageTable.{the_view}
use Rattle.space_core.proofs.TableLemmas.{own_in-is}
use Rattle.space_core.proofs.table.PageTable.own.Goals as goal

pub returns : goal.returns
returns c = rw (← c.self.view_is) (c.get.ensures ∙ sym (own_in-is (the_view c.self.inside) c.args.page))
