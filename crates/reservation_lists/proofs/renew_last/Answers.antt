use Rattle.std.proofs.Common.{refl, sym, ◌∙◌, ap, arith}
use Rattle.pager_model.specs.Ages.{Member}
use Rattle.reservation_lists.proofs.Renewed.{renewed_last}
use Rattle.reservation_lists.proofs.renew_last.Goals as goal

pub returns-clause-items : goal.returns-clause-items
returns-clause-items c =
    let list = c.args.list.now in
    let last = c.in-Some.last.now in
    let same = ap (λ (m : Member). m.frame) (sym c.last.view_is) ∙ c.if-last-new.false ∙ ap (λ (m : Member). m.frame) c.new.view_is in
    let stamp = ap (λ (m : Member). m.stamp) c.last.view_is in
    let stamp_new = ap (λ (m : Member). m.stamp) c.new.view_is in
    rw c.new.view_is
    (sym (renewed_last c.args.new last list.items _ c.requires.ordered c.requires.differ
    (omega (arith, c.in-Some.ensures.variant.0 refl, list.ok.0)) (sym c.in-Some.ensures.value) same
    (omega (arith, stamp, stamp_new, c.if-last-new-2.false))))
