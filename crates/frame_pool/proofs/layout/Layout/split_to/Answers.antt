use Rattle.std.proofs.Common.{◌≡◌, ◌≤◌, ◌+◌, ◌^◌, Some, length, sym, ap, subst, ◌∙◌, arith}
use Rattle.std.proofs.lemmas.Option.{none-some, same_Some}
use Rattle.pager_model.specs.Bounds.{most_frames}
use Rattle.pager_model.specs.declared.reservation.Reservation.{Reservation}
use Rattle.pager_model.specs.Layouts.{Layout, record_at}
use Rattle.pager_model.proofs.ExtentLemmas.{eight_pos}
use Rattle.pager_laws.specs.Laid.{IsLaid}
use Rattle.frame_pool.proofs.PartedOnce.{IsGoing, IsGoing-start, IsGoing-split, IsGoing-skip, going_done, stands_there, split_nearer, size_there-small}
use Rattle.frame_pool.proofs.layout.Layout.split_to.Goals as goal
use Rattle.frame_pool.proofs.layout.Layout.split_to.Goals.{After-split-in-Some, After-pages-next, in_default-via-in-Some+else-level-2, in_default-via-in_default}

pub overflow_add-end : goal.overflow_add-end
overflow_add-end c =
    let laid = c.self.invariant.0 in
    let placed = laid.placed c.args.whole.now.frame c.args.whole.now (rw (← c.self.view_is) at c.requires.stands) in
    omega (arith, placed.within, laid.records_long, c.self.invariant.1, c.pages.ensures)

pub loop-next-init : goal.loop-next-init
loop-next-init c = IsGoing-start c.args.size c.args.whole.now c.args.self.now
    (subst IsLaid c.self.view_is c.self.invariant.0) c.requires.stands c.requires.smaller

pub split-requires-in-Some-clause-stands : goal.split-requires-in-Some-clause-stands
split-requires-in-Some-clause-stands c = stands_there c.args.size c.loop-next.next c.args.whole.now c.args.self.now c.loop-next.self
    c.loop-next.invariant c.in-Some.part (rw (← c.self-in-loop-next.view_is) (sym c.get.ensures ∙ c.in-Some.is))

-- the larger one stood there
stood : (c : After-split-in-Some) → record_at c.loop-next.self c.loop-next.next ≡ Some c.in-Some.part
stood c = rw (← c.self-in-loop-next.view_is) (sym c.get.ensures ∙ c.in-Some.is)

pub loop-next-smaller-then-level-2 : goal.loop-next-smaller-then-level-2
loop-next-smaller-then-level-2 c =
    let nearer = split_nearer c.args.size c.loop-next.next c.args.whole.now c.args.self.now c.loop-next.self c.loop-next.invariant c.in-Some.part
    (stood c) (omega arith) (omega (arith, c.loop-next-test.true, c.pages.ensures)) in
    rw (c.split-in-Some.ensures, stood c) (omega (arith, nearer))

pub loop-next-preserved-then-level-2 : goal.loop-next-preserved-then-level-2
loop-next-preserved-then-level-2 c =
    rw c.split-in-Some.ensures
    (IsGoing-split c.args.size c.loop-next.next c.args.whole.now c.args.self.now c.loop-next.self c.loop-next.invariant c.in-Some.part (stood c)
    (omega arith) (omega (arith, c.loop-next-test.true, c.pages.ensures)))

-- none that is larger stands there, and what follows is looked at
skips : (c : After-pages-next) → IsGoing c.args.size (c.loop-next.next + 8 ^ c.args.size) c.args.whole.now c.args.self.now c.loop-next.self
skips c = IsGoing-skip c.args.size c.loop-next.next c.args.whole.now c.args.self.now c.loop-next.self c.loop-next.invariant
    (omega (arith, c.loop-next-test.true, c.pages.ensures)) (λ q is.
    let told : c.get.result ≡ Some q = c.get.ensures ∙ ap (λ (m : Layout). record_at m c.loop-next.next) c.self-in-loop-next.view_is ∙ is in
    elim c.in_default.branch [
      | in_default-via-in-Some+else-level-2 w ↦ let same = same_Some w.in-Some.part q (sym w.in-Some.is ∙ told) in
          omega (arith, ap (λ (p : Reservation). p.size) same, w.if-level-2.false)
      | in_default-via-in_default w ↦ absurd (none-some q (sym w.in_default.is ∙ told))
    ])

pub overflow_add-next : goal.overflow_add-next
overflow_add-next c =
    let going = skips (goal.at.overflow_add-next c).After-pages-next in
    let within = (going.laid.placed c.args.whole.now.frame c.args.whole.now going.is).within in
    let few : length c.args.self.now.free ≤ most_frames = subst (λ (m : Layout). length m.free ≤ most_frames) c.self.view_is c.self.invariant.1 in
    omega (arith, going.low, c.pages-next.ensures, within, going.laid.records_long, few)

pub loop-next-smaller : goal.loop-next-smaller
loop-next-smaller c =
    let small = size_there-small c.loop-next.self (c.loop-next.next + c.pages-next.result) c.loop-next.invariant.down.settles.laid in
    omega (arith, small, eight_pos c.args.size, c.pages-next.ensures, c.loop-next-test.true)

pub loop-next-preserved : goal.loop-next-preserved
loop-next-preserved c = rw c.pages-next.ensures (skips (goal.at.loop-next-preserved c).After-pages-next)

pub returns : goal.returns
returns c = going_done c.args.size c.loop-next.next c.args.whole.now c.args.self.now c.loop-next.self c.loop-next.invariant
    (omega (arith, c.loop-next-test.false, c.pages.ensures))
