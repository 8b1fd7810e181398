use Rattle.std.proofs.Common.{◌&&◌, ◌∙◌, nat_le, nat_lt, if◌then◌else◌, ap}
use Rattle.page_rights.specs.Rights.{block_at}
use Rattle.page_rights.specs.contracts.PageRights.{the_view}
use Rattle.page_rights.proofs.BlockChanges.{whole_rights}
use Rattle.page_rights.proofs.PageRights.set_whole.Goals as goal

pub returns : goal.returns
returns c =
    let t = the_view c.self.inside in
    rw (← c.self.view_is) (whole_rights t c.fill.new.blocks.items c.args.low c.args.high c.args.rights
    (λ b. c.fill.ensures.blocks b ∙ ap (λ kept. if nat_le c.args.low b && nat_lt b c.args.high then kept else block_at t b) c.uniform.ensures))
