use Rattle.std.proofs.Common.{◌≡◌, Some, None, sym, ap, ◌∙◌, arith}
use Rattle.std.specs.Option.{is_some}
use Rattle.pager_model.specs.FreeBlocks.{choice}
use Rattle.pager_model.specs.Layouts.{Layout, FreeExtent, extent_of}
use Rattle.pager_laws.specs.Laid.{IsLaid}
use Rattle.frame_pool.specs.LayoutState.{layout_in}
use Rattle.frame_pool.specs.ReservedChanges.{with_free}
use Rattle.frame_pool.proofs.TakenExtent.{IsLaid-without, without-long, FindsExtent-chosen, extent_of-free, extent_of-broken, CanBreak-oldest, choice-oldest}
use Rattle.frame_pool.proofs.layout.Layout.extent_of.Goals as goal

pub invariant_of-self : goal.invariant_of-self
invariant_of-self c =
    let was = c.self.invariant in
    let found : FreeExtent = record { layout = layout_in c.self.inside; size = c.args.size; first = c.in-Some.first; broken = 0 } in
    let chosen = sym c.in-Some.ensures.chosen in
    rw c.in-Some.ensures.taken (IsLaid-without found was.0 chosen, omega (arith, without-long found was.0 chosen, was.1))

pub returns-in-Some-clause-found : goal.returns-in-Some-clause-found
returns-in-Some-clause-found c =
    let l = layout_in c.self.inside in
    let found : FreeExtent = record { layout = l; size = c.args.size; first = c.in-Some.first; broken = 0 } in
    let chosen = sym c.in-Some.ensures.chosen in
    let finds : extent_of c.args.size c.args.self.now ≡ Some found = ap (extent_of c.args.size) (sym c.self.view_is)
    ∙ extent_of-free c.args.size c.in-Some.first l chosen in
    rw c.in-Some.ensures.taken (FindsExtent-chosen found c.self.invariant.0 chosen (extent_of c.args.size c.args.self.now)
    (omega arith) finds)

pub break_at-requires : goal.break_at-requires
break_at-requires c =
    let laid = rw (← c.in_default.ensures.taken) at c.self.invariant.0 in
    CanBreak-oldest (with_free c.take.new.free c.self.inside.reserved) c.args.size c.in_ok-id.id laid (sym c.in_ok-id.ensures)

pub unwrap-first-requires : goal.unwrap-first-requires
unwrap-first-requires c =
    let l = with_free c.take.new.free c.self.inside.reserved in
    let laid : IsLaid l = rw c.in_default.ensures.taken c.self.invariant.0 in
    let chosen = c.take-2.ensures.chosen ∙ ap (λ (m : Layout). choice m.free c.args.size) (c.self-2.view_is ∙ c.break_at.ensures) in
    ap is_some chosen ∙ choice-oldest l c.args.size c.in_ok-id.id laid (sym c.in_ok-id.ensures)

pub invariant_of-self-2 : goal.invariant_of-self-2
invariant_of-self-2 c = rw c.in_default.ensures.taken c.self.invariant

pub invariant_of-self-3 : goal.invariant_of-self-3
invariant_of-self-3 c =
    let was = c.self-2.invariant in
    let first = c.unwrap-first.result in
    let found : FreeExtent = record { layout = layout_in c.self-2.inside; size = c.args.size; first = first; broken = 1 } in
    let chosen : choice c.self-2.inside.free c.args.size ≡ Some first = sym c.take-2.ensures.chosen ∙ c.unwrap-first.ensures in
    let taken = rw c.unwrap-first.ensures at c.take-2.ensures.taken in
    rw taken (IsLaid-without found was.0 chosen, omega (arith, without-long found was.0 chosen, was.1))

pub returns-clause-found : goal.returns-clause-found
returns-clause-found c =
    let reserved = c.self.inside.reserved in
    let l = layout_in c.self-2.inside in
    let first = c.unwrap-first.result in
    let found : FreeExtent = record { layout = l; size = c.args.size; first = first; broken = 1 } in
    let chosen : choice l.free c.args.size ≡ Some first = sym c.take-2.ensures.chosen ∙ c.unwrap-first.ensures in
    let none : choice c.take.new.free c.args.size ≡ None = ap (λ free. choice free c.args.size) c.in_default.ensures.taken
    ∙ sym c.in_default.ensures.chosen in
    let same : c.args.self.now ≡ with_free c.take.new.free reserved = sym c.self.view_is
    ∙ sym (ap (λ free. with_free free reserved) c.in_default.ensures.taken) in
    let finds : extent_of c.args.size c.args.self.now ≡ Some found =
    ap (extent_of c.args.size) same
    ∙ extent_of-broken c.args.size c.in_ok-id.id first (with_free c.take.new.free reserved) l none (sym c.in_ok-id.ensures)
    (c.self-2.view_is ∙ c.break_at.ensures) chosen in
    let taken = rw c.unwrap-first.ensures at c.take-2.ensures.taken in
    rw taken (FindsExtent-chosen found c.self-2.invariant.0 chosen (extent_of c.args.size c.args.self.now) (omega arith) finds)
