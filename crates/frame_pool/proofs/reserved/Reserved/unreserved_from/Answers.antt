use Rattle.std.proofs.Common.{◌≡◌, ap, ◌∙◌, arith}
use Rattle.pager_model.specs.Layouts.{frame_in, used_in}
use Rattle.frame_pool.proofs.reserved.Reserved.unreserved_from.Goals as goal

pub returns-clause-none : goal.returns-clause-none
returns-clause-none c = λ other low high.
    let l = c.args.self.now in
    let same : other ≡ c.args.page = omega (arith, low, high) in
    ap (frame_in l c.args.space) same ∙ ap (used_in l.used c.args.page) c.requires.none
