use Rattle.std.proofs.Common.{◌≡◌, ◌<◌, Some, false, sym, ap, subst, ◌∙◌, arith}
use Rattle.pager_model.specs.Layouts.{Layout, record_at}
use Rattle.pager_model.specs.Records.{is_used, part_at, part_size, yield_in, same_size, goes_on_at}
use Rattle.pager_laws.specs.Laid.{IsLaid}
use Rattle.frame_pool.proofs.BreakSteps.{Fills, Fills-from, part_stands, goes_on-lowest, CanBreak-goes_on, stops_there}
use Rattle.pager_laws.proofs.LayoutBreak.{part_size-less}
use Rattle.pager_laws.proofs.PartYields.{same_size_from}
use Rattle.frame_pool.proofs.layout.Layout.split_to_break.Goals as goal
use Rattle.frame_pool.proofs.layout.Layout.split_to_break.Goals.{After-is_size, After-lowest_as_wide}

-- its yield is told
told : (c : After-is_size) → c.yields-yields.result ≡ yield_in c.args.self.now.sizes (is_used c.args.self.now.used) c.args.whole.now
told c = subst (λ (m : Layout). c.yields-yields.result ≡ yield_in m.sizes (is_used m.used) c.args.whole.now) c.self.view_is
    c.yields-yields.ensures

-- where it isn't the size of the parts, which are of more than a frame, none of these is empty
fills : (c : After-is_size) → c.is_size.result ≡ false → 0 < c.split_down-size.result → Fills c.args.self.now c.args.whole.now
fills c other large =
    let l = c.args.self.now in
    let r = c.args.whole.now in
    let size = c.split_down-size.ensures.size in
    Fills-from l r (subst IsLaid c.self.view_is c.self.invariant.0) c.requires (omega (arith, size, large))
    (ap (λ y. same_size y (Some (part_size l.sizes r))) (sym (told c)) ∙ ap (λ n. same_size c.yields-yields.result (Some n)) (sym size)
    ∙ sym c.is_size.ensures ∙ other)

pub returns-then-is_size-clause-next : goal.returns-then-is_size-clause-next
returns-then-is_size-clause-next c =
    let l = c.args.self.now in
    let is : yield_in l.sizes (is_used l.used) c.args.whole.now ≡ Some (part_size l.sizes c.args.whole.now) =
    sym (told (goal.at.returns-then-is_size-clause-next c).After-is_size)
    ∙ same_size_from c.yields-yields.result c.split_down-size.result (sym c.is_size.ensures ∙ c.if-is_size.true)
    ∙ ap Some c.split_down-size.ensures.size in
    sym (stops_there l.sizes (is_used l.used) c.args.whole.now is)

pub lowest_as_wide-requires-clause-splits : goal.lowest_as_wide-requires-clause-splits
lowest_as_wide-requires-clause-splits c = rw c.split_down-size.ensures.size
    (part_size-less c.args.self.now.sizes c.args.whole.now c.requires.splits)

pub lowest_as_wide-requires-clause-frames : goal.lowest_as_wide-requires-clause-frames
lowest_as_wide-requires-clause-frames c =
    (c.self.invariant.0.placed c.args.whole.now.frame c.args.whole.now (rw (← c.self.view_is) at c.requires.stands)).aligned

pub lowest_as_wide-requires-clause-pages : goal.lowest_as_wide-requires-clause-pages
lowest_as_wide-requires-clause-pages c =
    (c.self.invariant.0.placed c.args.whole.now.frame c.args.whole.now (rw (← c.self.view_is) at c.requires.stands)).pages_aligned

pub lowest_as_wide-requires-clause-parts : goal.lowest_as_wide-requires-clause-parts
lowest_as_wide-requires-clause-parts c =
    let l = c.args.self.now in
    let r = c.args.whole.now in
    let full = fills (goal.at.lowest_as_wide-requires-clause-parts c).After-is_size c.if-is_size.false
    (omega (arith, c.level.ensures.level, c.if-level-eq0.false)) in
    rw c.split_down-size.ensures.size
    (λ i one. subst (λ m. record_at m (part_at (part_size l.sizes r) r i).frame ≡ Some (part_at (part_size l.sizes r) r i))
    (sym (c.self-2.view_is ∙ c.split_down-size.ensures.split)) (part_stands l r full i one))

-- so the part at which it goes on is told
next : (c : After-lowest_as_wide) → Fills c.args.self.now c.args.whole.now
    → c.lowest_as_wide.result ≡ goes_on_at c.args.self.now.sizes (is_used c.args.self.now.used) c.args.whole.now
next c full =
    let same = c.self-2.view_is ∙ c.split_down-size.ensures.split in
    let used = ap (λ (m : Layout). m.used) same in
    let sizes = ap (λ (m : Layout). m.sizes) same in
    (rw (← c.split_down-size.ensures.size, ← used, ← sizes) c.lowest_as_wide.ensures) ∙ goes_on-lowest c.args.self.now c.args.whole.now full

pub returns-clause-next : goal.returns-clause-next
returns-clause-next c =
    let at = goal.at.returns-clause-next c in
    next at.After-lowest_as_wide
    (fills at.After-is_size c.if-is_size.false (omega (arith, c.level.ensures.level, c.if-level-eq0.false)))

pub returns-clause-breaks : goal.returns-clause-breaks
returns-clause-breaks c =
    let at = goal.at.returns-clause-breaks c in
    let full = fills at.After-is_size c.if-is_size.false (omega (arith, c.level.ensures.level, c.if-level-eq0.false)) in
    rw (c.split_down-size.ensures.split, next at.After-lowest_as_wide full) (CanBreak-goes_on c.args.self.now c.args.whole.now full)
