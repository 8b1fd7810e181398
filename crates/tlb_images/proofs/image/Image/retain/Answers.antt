use Rattle.std.proofs.Common.{rules, filter, ap, ◌∙◌}
use Rattle.std.proofs.lemmas.Fn.{filter_same}
use Rattle.tlb_images.proofs.ImageLemmas.{IsImage-picked, count-picked}
use Rattle.tlb_images.proofs.image.Image.retain.Goals as goal

pub returns-clause-kept : goal.returns-clause-kept
returns-clause-kept g c = λ test told.
    filter_same _ test _ (λ x b f' called. (told x b (search rules), search rules)) _ _ c.retain.ensures.filtered
    ∙ ap (filter test) c.self.view_is

pub returns-clause-fewer : goal.returns-clause-fewer
returns-clause-fewer g c = λ f.
    let kept = c.retain.ensures.filtered in
    rw (kept.4, c.self.view_is) (count-picked f kept.0 c.args.self.now)

pub invariant_of-self : goal.invariant_of-self
invariant_of-self g c =
    let kept = c.retain.ensures.filtered in
    (IsImage-picked kept.0 c.self.inside.tiles.items c.retain.new.self.items c.self.invariant.0 kept.4 (search rules), search rules)
