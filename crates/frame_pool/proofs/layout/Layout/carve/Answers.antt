use Rattle.std.proofs.Common.{◌∙◌, ap}
use Rattle.std.proofs.lemmas.Option.{IfSome_then}
use Rattle.pager_model.specs.Layouts.{take_out, record_at}
use Rattle.frame_pool.specs.LayoutState.{layout_in}
use Rattle.frame_pool.specs.ReservedChanges.{with_free}
use Rattle.frame_pool.proofs.LayoutInOrder.{used_alone, same_alone}
use Rattle.frame_pool.proofs.ReservedLayouts.{IsLaid-without_place, without_only}
use Rattle.frame_pool.proofs.layout.Layout.carve.Goals as goal

pub vacate-requires : goal.vacate-requires
vacate-requires c = used_alone (layout_in c.self.inside) c.args.frame c.self.invariant.0 (rw (← c.self.view_is) at c.narrow.ensures.alone)

pub invariant_of-self : goal.invariant_of-self
invariant_of-self c =
    let l = layout_in c.self.inside in
    let was = c.self.invariant in
    let v = c.vacate.ensures in
    let used = used_alone l c.args.frame was.0 (rw (← c.self.view_is) at c.narrow.ensures.alone) in
    rw v.left (IsLaid-without_place l c.args.frame v.whole was.0 v.stood v.had used, was.1)

pub returns : goal.returns
returns c =
    let l = layout_in c.self.inside in
    let frame = c.args.frame in
    let v = c.vacate.ensures in
    let whole = same_alone l frame c.self.invariant.0 (rw (← c.self.view_is) at c.narrow.ensures.alone) v.whole v.stood v.had in
    let out = ap (with_free l.free) v.left ∙ without_only l frame v.whole whole.0 whole.1 in
    λ id. IfSome_then (record_at c.args.self.now id) (c.narrow.ensures.narrowed id)
    (λ q narrowed has. out ∙ ap (take_out frame) (c.self.view_is ∙ narrowed has))
