use Rattle.std.proofs.Common.{sym, ap, ◌∙◌, rules}
use Rattle.pager_model.specs.Layouts.{Layout, meets_any}
use Rattle.pager_model.specs.SizeSets.{size_within}
use Rattle.pager_laws.proofs.PreferredExtent.{preferred_among-within}
use Rattle.frame_pool.proofs.reserved.Reserved.preferred.Goals as goal

pub returns : goal.returns
returns c =
    let l = c.args.self.now in
    let widest = c.preferred-widest.ensures.exact (meets_any c.args.space l.records) (λ e b _ _ answer. search rules) in
    c.within.ensures
    ∙ ap (λ (m : Layout). size_within m.sizes c.preferred-widest.result) c.self.view_is
    ∙ ap (size_within l.sizes) widest
    ∙ sym (preferred_among-within l.sizes c.args.space c.args.page l.records c.args.want.now)
