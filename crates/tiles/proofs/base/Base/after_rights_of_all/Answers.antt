use Rattle.std.proofs.Common.{◌-◌, sym, ◌∙◌, arith}
use Rattle.tiles.specs.Resident.{mapping_at}
use Rattle.tiles.proofs.Blocks.{protects_bare, protects_on}
use Rattle.tiles.proofs.Looks.{count-further, count-part, has_page, next_resident, resident_is, still_resident}
use Rattle.tiles.proofs.base.Base.after_rights_of_all.Goals as goal

pub loop-entry-preserved : goal.loop-entry-preserved
loop-entry-preserved g c =
    let so_far = c.loop-entry.invariant in
    let next = c.in-Some.ensures.some in
    let part = c.after_rights_of_part-from.ensures in
    let page = c.max-page.result in
    record {
      from_on = omega (arith, so_far.from_on, part.further, c.max-page.ensures);
      within = part.within;
      protects =
          protects_on c.args.first page c.after_rights_of_part-from.result c.args.rights c.args.self.now c.loop-entry.self c.after_rights_of_part-from.new.self (omega (arith, so_far.from_on, c.max-page.ensures)) (omega (arith, part.further))
          (protects_bare c.args.first c.loop-entry.from page c.args.rights c.args.self.now c.loop-entry.self
          (omega (arith, c.max-page.ensures)) (rw c.max-page.ensures next.lowest) so_far.protects)
          part.protects;
      cost = omega (
        arith,
        so_far.cost,
        c.in-Some.ensures.cost,
        part.cost,
        part.further,
        c.max-page.ensures,
        count-further (has_page (mapping_at c.args.self.now)) c.args.first c.loop-entry.from page c.after_rights_of_part-from.result so_far.from_on
            (omega (arith, c.max-page.ensures)) part.further
            (sym (still_resident c.args.first c.loop-entry.from c.args.rights c.args.self.now c.loop-entry.self so_far.protects page)
            ∙ (rw c.max-page.ensures (next_resident c.loop-entry.self c.loop-entry.from c.args.end c.in-Some.entry next))),
      );
    }

pub returns-clause-protects : goal.returns-clause-protects
returns-clause-protects g c =
    let so_far = c.loop-entry.invariant in
    protects_bare c.args.first c.loop-entry.from c.args.end c.args.rights c.args.self.now c.loop-entry.self so_far.within
    c.in_default.ensures.none so_far.protects

pub returns-clause-cost : goal.returns-clause-cost
returns-clause-cost g c =
    let so_far = c.loop-entry.invariant in
    let pages = mapping_at c.args.self.now in
    omega (
      arith,
      so_far.cost,
      so_far.from_on,
      so_far.within,
      c.in_default.ensures.cost,
      count-part (has_page pages) c.args.first (c.args.end - c.args.first) c.args.first (c.loop-entry.from - c.args.first) (omega arith)
          (omega (arith, so_far.from_on, so_far.within)),
      resident_is pages c.args.first (c.args.end - c.args.first) (omega (arith, c.requires.range, c.requires.in_space)),
    )
