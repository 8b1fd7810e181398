use Rattle.std.proofs.Common.{◌-◌, ap, sym, ◌∙◌}
use Rattle.pager_model.specs.Layouts.{Layout, to_break}
use Rattle.frame_pool.proofs.BreakSteps.{oldest_from-free}
use Rattle.frame_pool.proofs.layout.Layout.to_break.Goals as goal

pub returns : goal.returns
returns c = c.to_break.ensures ∙ sym (oldest_from-free c.self.inside.free c.self.inside.reserved c.args.size (3 - c.args.size))
    ∙ ap (λ (l : Layout). to_break l c.args.size) c.self.view_is
