use Rattle.std.proofs.Common.{◌≡◌, ◌∙◌, ◌≤◌, ℕ, Some, true, false, length, refl, sym, ap, subst, arith}
use Rattle.std.specs.Option.{IfSome}
use Rattle.pager_model.specs.Bounds.{most_frames}
use Rattle.pager_model.specs.declared.reservation.Reservation.{Reservation}
use Rattle.pager_model.specs.Agreement.{has_frame}
use Rattle.pager_model.specs.Layouts.{Layout, vacate_layout, record_at}
use Rattle.pager_model.proofs.Options.{IfSome-from}
use Rattle.pager_model.proofs.RecordFrames.{has_frame_from}
use Rattle.pager_laws.specs.Laid.{IsLaid}
use Rattle.pager_laws.proofs.LayoutRelease.{Gives-vacate}
use Rattle.frame_pool.specs.LayoutState.{layout_in}
use Rattle.frame_pool.specs.ReservedChanges.{with_free}
use Rattle.frame_pool.proofs.LayoutInOrder.{not_free_there, same_reservation}
use Rattle.frame_pool.proofs.ReservedLayouts.{IsLaid-without_place, given}
use Rattle.frame_pool.proofs.layout.Layout.vacate.Goals as goal

-- what is left is told of whichever reservation has the frame
vacated_any : (l old new : Layout) (frame : ℕ) (r : Reservation) → IsLaid l → record_at l r.frame ≡ Some r → has_frame frame (Some r) ≡ true
    → l ≡ old → new ≡ vacate_layout frame r l → (id : ℕ)
    → IfSome (record_at old id) (λ q. has_frame frame (Some q) ≡ true → new ≡ vacate_layout frame q old)
vacated_any l old new frame r laid stood had seen is id = IfSome-from (record_at old id) _ (λ q stands has.
    let same = same_reservation l r.frame r laid stood frame id q had (ap (λ m. record_at m id) seen ∙ stands) has in
    is ∙ ap (λ p. vacate_layout frame p l) same ∙ ap (vacate_layout frame q) seen)

pub give-requires-clause-aligned : goal.give-requires-clause-aligned
give-requires-clause-aligned c =
    let v = c.in-Some.ensures in
    rw v.frames.1 (c.self.invariant.0.placed v.whole.frame v.whole v.stood).aligned

pub give-requires-clause-within : goal.give-requires-clause-within
give-requires-clause-within c =
    let v = c.in-Some.ensures in
    rw v.frames.1 (omega (arith, (c.self.invariant.0.placed v.whole.frame v.whole v.stood).within, c.self.invariant.0.records_long))

pub give-requires-clause-taken : goal.give-requires-clause-taken
give-requires-clause-taken c =
    let v = c.in-Some.ensures in
    rw v.frames.1 (λ f low high. not_free_there (layout_in c.self.inside) v.whole.frame v.whole c.self.invariant.0 v.stood f
    (has_frame_from f v.whole low high))

pub invariant_of-self : goal.invariant_of-self
invariant_of-self c =
    let v = c.in_default.ensures in
    rw v.left (
      IsLaid-without_place (layout_in c.self.inside) c.args.frame v.whole c.self.invariant.0 v.stood v.had
          (rw (← c.self.view_is) at c.requires),
      c.self.invariant.1,
    )

pub returns-in_default : goal.returns-in_default
returns-in_default c =
    let l = layout_in c.self.inside in
    let frame = c.args.frame in
    let v = c.in_default.ensures in
    let is = ap (with_free l.free) v.left ∙ given l frame v.whole l.free false v.frames refl in
    vacated_any l c.args.self.now _ frame v.whole c.self.invariant.0 v.stood v.had c.self.view_is is

pub invariant_of-self-2 : goal.invariant_of-self-2
invariant_of-self-2 c =
    let l = layout_in c.self.inside in
    let v = c.in-Some.ensures in
    let after = given l c.args.frame v.whole c.give.new.free true v.frames.0 (rw v.frames.1 at c.give.ensures) in
    let gives = Gives-vacate l v.whole.frame c.args.frame v.whole c.self.invariant.0 v.stood v.had (rw (← c.self.view_is) at c.requires) in
    rw v.left (subst (λ (m : Layout). IsLaid m × (length m.free ≤ most_frames)) (sym after)
    (gives.laid, omega (arith, gives.long, c.self.invariant.1)))

pub returns : goal.returns
returns c =
    let l = layout_in c.self.inside in
    let frame = c.args.frame in
    let v = c.in-Some.ensures in
    let is = ap (with_free c.give.new.free) v.left ∙ given l frame v.whole c.give.new.free true v.frames.0
    (rw v.frames.1 at c.give.ensures) in
    vacated_any l c.args.self.now _ frame v.whole c.self.invariant.0 v.stood v.had c.self.view_is is
