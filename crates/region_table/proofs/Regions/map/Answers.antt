use Rattle.std.proofs.Common.{sym, ◌∙◌, arith, length, ◌<◌}
use Rattle.std.proofs.lemmas.Bool.{eqb-false}
use Rattle.region_table.specs.Table.{region_of}
use Rattle.region_table.proofs.TableLemmas.{with_region-insert, IsTable-with_region}
use Rattle.region_table.proofs.Regions.map.Goals as goal

pub returns-clause-after : goal.returns-clause-after
returns-clause-after c =
    let new = region_of c.args.page c.args.length c.args.kind c.args.rights in
    let place = c.count_up_to-place in
    c.insert.ensures.items ∙ rw c.self.view_is (sym (with_region-insert new c.args.self.now place.result place.ensures.value))

pub invariant_of-self : goal.invariant_of-self
invariant_of-self c =
    let new = region_of c.args.page c.args.length c.args.kind c.args.rights in
    let place = c.count_up_to-place in
    let room : length c.args.self.now < 64 = rw (sym c.self.view_is) (omega
    (arith, c.self.invariant.at_most, eqb-false _ _ (sym c.if-is_full.ensures.value))) in
    rw (returns-clause-after c)
    (IsTable-with_region c.args.self.now new place.result place.ensures.ordered c.requires.some (omega (arith, c.if-length-page.false))
    (sym c.if-meets.ensures) room place.ensures.value)

pub returns-clause-ordered : goal.returns-clause-ordered
returns-clause-ordered c = invariant_of-self c
