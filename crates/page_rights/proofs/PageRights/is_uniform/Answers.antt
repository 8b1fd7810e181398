use Rattle.std.proofs.Common.{◌≡◌, ◌∙◌, sym, rules, arith}
use Rattle.std.proofs.lemmas.List.{get_or_read}
use Rattle.page_rights.specs.contracts.PageRights.{the_view}
use Rattle.page_rights.specs.Rights.{uniform}
use Rattle.page_rights.specs.declared.block.Block.TheVariants.{Unset}
use Rattle.page_rights.proofs.BlockChanges.{rights_of-uniform}
use Rattle.page_rights.proofs.PageRights.is_uniform.Goals as goal

pub returns : goal.returns
returns c equal p here =
    let block = get_or_read c.self.inside.blocks.items _ _ (omega (arith, c.self.invariant.0.blocks, c.requires)) c.index.ensures Unset in
    let same : c.index.result.now ≡ uniform c.args.rights = search rules in
    rw (← c.self.view_is) (rights_of-uniform (the_view c.self.inside) p c.args.block c.args.rights here (sym block ∙ same))
