use Rattle.std.proofs.Common.{◌≡◌, ◌<◌, ◌*◌, ◌/◌, refl, sym, ap, subst, ◌∙◌, arith, List, Option, ℕ, None}
use Rattle.std.specs.List.{range_with_len}
use Rattle.pager_model.proofs.ExtentLemmas.{eight_pos}
use Rattle.contiguity_plan.specs.declared.table.Use.{Use}
use Rattle.contiguity_plan.specs.Costs.{stays, has_use, pages_in, emptying, IsLeast}
use Rattle.contiguity_plan.specs.Emptying.{AreItsPages}
use Rattle.contiguity_plan.proofs.Planned.{planned-by, planned-nothing}
use Rattle.contiguity_plan.proofs.table.Table.plan.Goals as goal

pub cheapest-requires-clause-some : goal.cheapest-requires-clause-some
cheapest-requires-clause-some c = let some = eight_pos c.args.size in omega (arith, c.frames_in-count.ensures.frames, some)

pub returns-in_default : goal.returns-in_default
returns-in_default c = λ st right first may.
    let t = c.args.self.now in
    planned-nothing st t.uses.items t.held.items t.places.items right c.args.frames c.args.size c.frames_in-count.result may.extent.0 c.frames_in-count.ensures.frames
    (subst (λ (held : List (Option ℕ)). (n : ℕ) → n < c.args.frames / c.frames_in-count.result
    → emptying (stays t.uses.items held) (has_use t.uses.items) (n * c.frames_in-count.result) c.frames_in-count.result
    ≡ None) c.deref-2.ensures.value
    (subst (λ (uses : List (Option Use)). (n : ℕ) → n < c.args.frames / c.frames_in-count.result
    → emptying (stays uses c.deref-2.result.now) (has_use uses) (n * c.frames_in-count.result) c.frames_in-count.result
    ≡ None) c.deref.ensures.value
    c.in_default.ensures)) first may

pub returns : goal.returns
returns c = λ st right.
    let t = c.args.self.now in
    let count = c.frames_in-count.result in
    let best = c.in-Some.best in
    let first = best.number * count in
    let least =
    subst (λ (held : List (Option ℕ)). IsLeast (λ n. emptying (stays t.uses.items held) (has_use t.uses.items) (n * count) count)
    (c.args.frames / count) best.number best.cost) c.deref-2.ensures.value
    (subst (λ (uses : List (Option Use)). IsLeast (λ n. emptying (stays uses c.deref-2.result.now) (has_use uses) (n * count) count)
    (c.args.frames / count) best.number best.cost) c.deref.ensures.value c.in-Some.ensures) in
    let parts = planned-by st t.uses.items t.held.items t.places.items right c.args.frames c.args.size count best.number best.cost
    c.frames_in-count.ensures.level c.frames_in-count.ensures.frames least in
    let pages = c.in_ok-pages.ensures ∙ ap (λ (us : List (Option Use)). pages_in us (range_with_len first count)) c.deref-3.ensures.value in
    (refl, parts.0, subst (AreItsPages st c.args.size first) (sym pages) parts.1)
