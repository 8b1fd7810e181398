use Rattle.std.proofs.Common.{◌≡◌, ℕ, ◌+◌, ◌*◌, ◌<◌, ◌≤◌, None, inl, refl, sym, ap, subst, ◌∙◌, arith}
use Rattle.extent_tree.specs.Kept.{AreInOrder}
use Rattle.extent_tree.specs.Rows.{row}
use Rattle.extent_tree.proofs.Nexts.{IsUnderSplit, under_used, under_split, found_root, no_root, no_rows_on, no_rows_at_roots, no_rows_up, next_up, no_root_node, number_within, parts_in_order, row_at}
use Rattle.extent_tree.proofs.walk.next.Goals as goal
use Rattle.extent_tree.proofs.walk.next.Goals.{After-part_at}
use Rattle.extent_tree.proofs.walk.next.Given.{Over}

pub returns-in-Some-clause-some : goal.returns-in-Some-clause-some
returns-in-Some-clause-some g c =
    let s = c.args.store.now in
    let root = c.next_root-root.result.0 in
    let found = c.next_root-root.ensures in
    let low = found_root c.next_root-root.result.1 root c.div_ceil-past.result found.within found.none
    (λ e. let a = ap (λ s. s.value) e in let b = c.in-Some.is in absurd (cc)) in
    let under = under_used s c.requires.tree c.loop-page.page c.args.end root c.max.result c.requires.end c.loop-page-test.true found.from_on
    (omega (arith, low, c.div_ceil-past.ensures)) found.bare c.max.ensures in
    record {
      from_on = omega (arith, under.on, c.loop-page.invariant.from_on);
      before_end = under.before;
      low = omega (arith, c.size_at.ensures);
      is = ap (λ k. row s k c.max.result) c.size_at.ensures
          ∙ (row_at s 0 root c.max.result c.max.result (omega arith) under.at refl ∙ (sym (ap (λ s. s.value) (found.spot low)) ∙ c.in-Some.is));
      largest = λ size more most. absurd (omega (arith, c.size_at.ensures));
      lowest = no_rows_on s 3 c.args.from c.loop-page.page c.max.result c.loop-page.invariant.none under.none;
    }

pub returns-in_default-node-clause-none : goal.returns-in_default-node-clause-none
returns-in_default-node-clause-none g c size page most on before =
    let s = c.args.store.now in
    let root = c.next_root-root.result.0 in
    let found = c.next_root-root.ensures in
    let last = no_root c.next_root-root.result.1 root c.div_ceil-past.result found.within found.used c.in_default.is
    (sym c.node.ensures ∙ c.in_default-node.is) in
    no_rows_on s 3 c.args.from c.loop-page.page (512 * root) c.loop-page.invariant.none
    (no_rows_at_roots s c.requires.tree c.loop-page.page root (omega (arith, last, c.div_ceil-past.ensures, c.requires.end)) found.bare)
    size page most on (omega (arith, last, c.div_ceil-past.ensures))

-- the root has a node, and its parts are gone over
below : (g : Over) (c : After-part_at g)
    → IsUnderSplit c.args.store.now c.loop-page.page c.max-page.result c.args.end c.next_root-root.result.0 c.in-Some-node.node
below g c =
    under_split c.args.store.now c.requires.tree c.loop-page.page c.args.end c.next_root-root.result.0 c.div_ceil-past.result
    c.max-page.result c.in-Some-node.node c.next_root-root.result.1 c.requires.end c.loop-page-test.true (omega (arith, c.div_ceil-past.ensures))
    c.next_root-root.ensures.from_on c.next_root-root.ensures.within c.next_root-root.ensures.bare c.next_root-root.ensures.spot
    c.next_root-root.ensures.none c.in_default.is (sym c.node.ensures ∙ c.in-Some-node.is) c.max-page.ensures

pub place-first-requires : goal.place-first-requires
place-first-requires g c =
    let s = c.args.store.now in
    let hangs = c.requires.tree.nodes.hangs c.next_root-root.result.0 c.in-Some-node.node (below g c).leads in
    omega (arith, hangs.0, c.requires.tree.nodes.fits, c.requires.tree.nodes.small, c.part_at.ensures.small)

pub next_below-requires-clause-places : goal.next_below-requires-clause-places
next_below-requires-clause-places g c =
    let s = c.args.store.now in
    let root = c.next_root-root.result.0 in
    let page = c.max-page.result in
    let stop = page + c.min.result in
    let split = below g (goal.at.next_below-requires-clause-places g c).After-part_at in
    let first = c.place-first.ensures ∙ ap (λ n. s.roots + 8 * c.in-Some-node.node + n) c.part_at.ensures.part in
    subst (λ place. AreInOrder s 1 place page stop) (sym first)
    (parts_in_order s 0 root page stop c.in-Some-node.node (omega arith) (omega (arith, c.min.ensures, c.rest_at.ensures)) split.under.at split.leads)

-- a root that is split has a row of its size at no page before the end of its extent
whole : (g : Over) (c : After-part_at g) (page : ℕ) → c.max-page.result ≤ page → page < c.max-page.result + c.min.result
    → row c.args.store.now 3 page ≡ None
whole g c page on before =
    let s = c.args.store.now in
    let split = below g c in
    row_at s 0 c.next_root-root.result.0 c.max-page.result page (omega arith) split.under.at
    (number_within 0 c.max-page.result page (omega arith) on (omega (arith, before, c.min.ensures, c.rest_at.ensures)))
    ∙ split.value

pub returns-in-Some-next_below-clause-some : goal.returns-in-Some-next_below-clause-some
returns-in-Some-next_below-clause-some g c =
    let s = c.args.store.now in
    let page = c.max-page.result in
    let under = (below g (goal.at.returns-in-Some-next_below-clause-some g c).After-part_at).under in
    let next = next_up s 0 page (page + c.min.result) c.in-Some-next_below.found c.in-Some-next_below.ensures.some
    (whole g (goal.at.returns-in-Some-next_below-clause-some g c).After-part_at) in
    record {
      from_on = omega (arith, next.from_on, under.on, c.loop-page.invariant.from_on);
      before_end = omega (arith, next.before_end, c.min.ensures, under.before);
      low = next.low;
      is = next.is;
      largest = next.largest;
      lowest = no_rows_on s 3 c.args.from c.loop-page.page c.in-Some-next_below.found.page c.loop-page.invariant.none
          (no_rows_on s 3 c.loop-page.page page c.in-Some-next_below.found.page under.none next.lowest);
    }

pub returns-in-Some-next_below-clause-roots : goal.returns-in-Some-next_below-clause-roots
returns-in-Some-next_below-clause-roots g c _ bare =
    let split = below g (goal.at.returns-in-Some-next_below-clause-roots g c).After-part_at in
    absurd (no_root_node c.args.store.now 0 c.max-page.result c.next_root-root.result.0 c.in-Some-node.node refl split.under.at split.leads
    (bare c.max-page.result (omega (arith, split.under.on, c.loop-page.invariant.from_on)) split.under.before))

pub loop-page-preserved : goal.loop-page-preserved
loop-page-preserved g c =
    let s = c.args.store.now in
    let page = c.max-page.result in
    let stop = page + c.min.result in
    let split = below g (goal.at.loop-page-preserved g c).After-part_at in
    let was = c.loop-page.invariant in
    let passed = no_rows_up s 0 page stop c.in_default-next_below.ensures.none (whole g (goal.at.loop-page-preserved g c).After-part_at) in
    record {
      none = no_rows_on s 3 c.args.from c.loop-page.page stop was.none (no_rows_on s 3 c.loop-page.page page stop split.under.none passed);
      from_on = omega (arith, was.from_on, split.under.on);
      within = inl (omega (arith, c.min.ensures, split.under.before));
      cost = omega (
        arith,
        was.cost,
        was.from_on,
        split.under.on,
        split.under.before,
        c.min.ensures,
        c.rest_at.ensures,
        c.max-page.ensures,
        c.in_default-next_below.ensures.cost,
        c.next_root-root.ensures.cost_used (omega (arith, split.low, c.div_ceil-past.ensures)),
      );
      begun = λ bare.
          absurd (no_root_node s 0 page c.next_root-root.result.0 c.in-Some-node.node refl split.under.at split.leads
          (bare page (omega (arith, split.under.on, was.from_on)) split.under.before));
    }
