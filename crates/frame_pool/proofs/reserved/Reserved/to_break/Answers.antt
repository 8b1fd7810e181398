use Rattle.std.proofs.Common.{◌-◌, ap, ◌∙◌, arith}
use Rattle.pager_model.specs.Layouts.{Layout, to_break}
use Rattle.frame_pool.specs.ReservedState.{reserved_in}
use Rattle.frame_pool.proofs.BreakSteps.{first_oldest-listed}
use Rattle.frame_pool.proofs.reserved.Reserved.to_break.Goals as goal

pub returns : goal.returns
returns c = c.first_oldest.ensures ∙ first_oldest-listed (reserved_in c.self.inside) c.self.inside.lists.lists c.self.invariant.listed c.args.size (3 - c.args.size) (omega arith)
    ∙ ap (λ (l : Layout). to_break l c.args.size) c.self.view_is
