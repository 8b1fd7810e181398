use Rattle.std.proofs.Common.{rules, ◌≡◌, ℕ, ◌+◌, ◌-◌, ◌*◌, ◌<◌, ◌≤◌, refl, inl, sym, ap, subst, ◌∙◌, arith}
use Rattle.extent_tree.specs.Kept.{AreInOrder}
use Rattle.extent_tree.specs.Rows.{NoRows, number_at, row}
use Rattle.extent_tree.proofs.Nexts.{above_pages, looks_all, rest_at, rest_some, number_within, first_place, parts_in_order, rest_in_order, no_row_within, no_rows_on, no_rows_up, next_up, row_at, looks_more}
use Rattle.extent_tree.proofs.Trees.{place_known}
use Rattle.extent_tree.proofs.walk.+next_below.Goals as goal
use Rattle.extent_tree.proofs.walk.+next_below.Goals.{in-Some-node+in_default-next_below, in_default-node}
use Rattle.extent_tree.proofs.walk.+next_below.Given.{Over}

pub returns-in-Some-clause-some : goal.returns-in-Some-clause-some
returns-in-Some-clause-some g t c =
    let s = c.args.store.now in
    let h = c.args.height in
    let page = c.loop-page.page in
    let at = first_place s h c.loop-page.place page c.args.end c.loop-page.invariant.places c.loop-page-test.true in
    let value = sym (ap (λ s. s.value) c.spot-spot.ensures.spot) ∙ c.in-Some.is in
    record {
      from_on = c.loop-page.invariant.from_on;
      before_end = c.loop-page-test.true;
      low = omega (arith, c.size_at.ensures);
      is = ap (λ k. row s k page) c.size_at.ensures ∙ (row_at s h c.loop-page.place page page c.requires.height at refl ∙ value);
      largest = λ size more most. absurd (omega (arith, c.size_at.ensures));
      lowest = c.loop-page.invariant.none;
    }

pub part_at-requires : goal.part_at-requires
part_at-requires g t c =
    let s = c.args.store.now in
    let at = first_place s c.args.height c.loop-page.place c.loop-page.page c.args.end c.loop-page.invariant.places c.loop-page-test.true in
    omega (
      arith,
      above_pages s c.requires.tree c.args.height c.loop-page.page c.loop-page.place c.in-Some-node.node c.requires.height at
          (sym (ap (λ s. s.node) c.spot-spot.ensures.spot) ∙ (sym c.node.ensures ∙ c.in-Some-node.is)),
    )

pub place-first-requires : goal.place-first-requires
place-first-requires g t c =
    let hangs = c.requires.tree.nodes.hangs c.loop-page.place c.in-Some-node.node
    (sym (ap (λ s. s.node) c.spot-spot.ensures.spot) ∙ (sym c.node.ensures ∙ c.in-Some-node.is)) in
    omega (arith, hangs.0, c.requires.tree.nodes.fits, c.requires.tree.nodes.small, c.part_at.ensures.small)

pub next_below-requires : goal.next_below-requires
next_below-requires g t c κs within =
    let s = c.args.store.now in
    let h = c.args.height in
    let page = c.loop-page.page in
    let at = first_place s h c.loop-page.place page c.args.end c.loop-page.invariant.places c.loop-page-test.true in
    let leads = sym (ap (λ s. s.node) c.spot-spot.ensures.spot) ∙ (sym c.node.ensures ∙ c.in-Some-node.is) in
    let low = above_pages s c.requires.tree h page c.loop-page.place c.in-Some-node.node c.requires.height at leads in
    let first = c.place-first.ensures ∙ ap (λ n. s.roots + 8 * c.in-Some-node.node + n) c.part_at.ensures.part in
    let stop : page + c.min.result ≤ page + rest_at h page = omega (arith, c.min.ensures, c.rest_at.ensures) in
    let smaller : 4 - (h + 1) < 4 - h = omega (arith, low) in
    let lower : h + 1 ≤ 3 = omega (arith, low) in
    let parts = subst (λ place. AreInOrder s (h + 1) place page (page + c.min.result)) (sym first)
    (parts_in_order s h c.loop-page.place page (page + c.min.result) c.in-Some-node.node low stop at leads) in
    (search (rules, smaller), (within.0, (within.1, (lower, (c.requires.tree, parts)))))

pub returns-in-Some-next_below-clause-some : goal.returns-in-Some-next_below-clause-some
returns-in-Some-next_below-clause-some g t c =
    let s = c.args.store.now in
    let h = c.args.height in
    let page = c.loop-page.page in
    let stop = page + c.min.result in
    let at = first_place s h c.loop-page.place page c.args.end c.loop-page.invariant.places c.loop-page-test.true in
    let value = sym (ap (λ s. s.value) c.spot-spot.ensures.spot) ∙ c.in_default.is in
    let next = next_up s h page stop c.in-Some-next_below.found c.in-Some-next_below.ensures.some
    (λ other on before. row_at s h c.loop-page.place page other c.requires.height at
    (number_within h page other c.requires.height on (omega (arith, before, c.min.ensures, c.rest_at.ensures))) ∙ value) in
    record {
      from_on = omega (arith, next.from_on, c.loop-page.invariant.from_on);
      before_end = omega (arith, next.before_end, c.min.ensures, c.loop-page-test.true);
      low = next.low;
      is = next.is;
      largest = next.largest;
      lowest = no_rows_on s (3 - h) c.args.from page c.in-Some-next_below.found.page c.loop-page.invariant.none next.lowest;
    }

pub returns-in-Some-next_below-clause-cost : goal.returns-in-Some-next_below-clause-cost
returns-in-Some-next_below-clause-cost g t c =
    let next = c.in-Some-next_below.ensures in
    looks_more c.args.height c.args.from c.loop-page.page
    (c.in-Some-next_below.found.page + 1) c.args.steps.now c.loop-page.steps c.next_below.new.steps c.requires.height c.loop-page.invariant.from_on
    (omega (arith, next.some.from_on)) c.loop-page.invariant.cost (omega (arith, next.cost, c.spot-spot.ensures.cost))

pub overflow_add-place : goal.overflow_add-place
overflow_add-place g t c =
    let s = c.args.store.now in
    let at = first_place s c.args.height c.loop-page.place c.loop-page.page c.args.end c.loop-page.invariant.places c.loop-page-test.true in
    omega (
      arith,
      place_known s c.requires.tree.nodes c.args.height c.loop-page.page c.loop-page.place at,
      c.requires.tree.nodes.places,
      c.requires.tree.nodes.fits,
      c.requires.tree.nodes.small,
    )

pub loop-page-smaller : goal.loop-page-smaller
loop-page-smaller g t c =
    omega (arith, c.min.ensures, c.rest_at.ensures, rest_some c.args.height c.loop-page.page c.requires.height, c.loop-page-test.true)

-- no page of the extent round the page has a row round it
passed : (g : Over) (t : ℕ) (c : goal.Joined-node g t) → NoRows c.args.store.now (3 - c.args.height) c.loop-page.page
    (c.loop-page.page + c.min.result)
passed g t c =
    let s = c.args.store.now in
    let h = c.args.height in
    let page = c.loop-page.page in
    let place = c.loop-page.place in
    let at = first_place s h place page c.args.end c.loop-page.invariant.places c.loop-page-test.true in
    let value = sym (ap (λ s. s.value) c.spot-spot.ensures.spot) ∙ c.in_default.is in
    let inside : (other : ℕ) → page ≤ other → other < page + c.min.result → number_at h other ≡ number_at h page =
    λ other on before. number_within h page other c.requires.height on (omega (arith, before, c.min.ensures, c.rest_at.ensures)) in
    elim c.match-node.branch [
      | in-Some-node+in_default-next_below w ↦
          no_rows_up s h page (page + c.min.result) w.in_default-next_below.ensures.none
          (λ other on before. row_at s h place page other c.requires.height at (inside other on before) ∙ value)
      | in_default-node w ↦ λ size other most on before.
          no_row_within s c.requires.tree h place page size other c.requires.height at value
          (sym (ap (λ s. s.node) c.spot-spot.ensures.spot) ∙ (sym c.node.ensures ∙ w.in_default-node.is)) (inside other on before) most
    ]

-- the looks at the extent round the page
looks : (g : Over) (t : ℕ) (c : goal.Joined-node g t)
    → c.match-node.steps ≤ c.loop-page.steps + 1 + (4 - (c.args.height + 1)) * (c.loop-page.page + c.min.result - c.loop-page.page)
looks g t c = elim c.match-node.branch [
  | in-Some-node+in_default-next_below w ↦ omega (arith, w.steps-is, w.in_default-next_below.ensures.cost, c.spot-spot.ensures.cost)
  | in_default-node w ↦ omega (arith, w.steps-is, c.spot-spot.ensures.cost)
]

pub loop-page-preserved : goal.loop-page-preserved
loop-page-preserved g t c =
    let s = c.args.store.now in
    let h = c.args.height in
    let page = c.loop-page.page in
    let was = c.loop-page.invariant in
    let some : 0 < c.min.result = omega (
      arith,
      c.min.ensures,
      c.rest_at.ensures,
      rest_some h page c.requires.height,
      c.loop-page-test.true,
    ) in
    let within : page + c.min.result ≤ c.args.end = omega (arith, c.min.ensures, c.loop-page-test.true) in
    let full : page + c.min.result < c.args.end → c.min.result ≡ rest_at h page =
    λ before. omega (arith, before, c.min.ensures, c.rest_at.ensures) in
    record {
      none = no_rows_on s (3 - h) c.args.from page (page + c.min.result) was.none (passed g t c);
      from_on = omega (arith, was.from_on);
      within = inl within;
      places = rest_in_order s h c.loop-page.place page (page + c.min.result) c.args.end c.requires.height (omega arith)
          (λ before. omega (arith, full before)) was.places;
      cost = looks_more h c.args.from page
          (page + c.min.result) c.args.steps.now c.loop-page.steps c.match-node.steps c.requires.height was.from_on
          (omega (arith, some)) was.cost (looks g t c);
    }

pub returns-clause-cost : goal.returns-clause-cost
returns-clause-cost g t c =
    looks_all c.args.height c.args.from c.args.end c.loop-page.page c.args.steps.now c.loop-page.steps c.loop-page.invariant.within c.loop-page.invariant.cost
