use Rattle.std.proofs.Common.{sym, subst, ap, ◌+◌, arith}
use Rattle.pager_model.proofs.ExtentLemmas.{eight_pos}
use Rattle.pager_model.specs.declared.region.Rights.{Rights}
use Rattle.pager_model.specs.declared.tile.Mapping.{Mapping}
use Rattle.tiles.specs.Blocks.{ProtectsTo}
use Rattle.tiles.specs.Resident.{with_rights}
use Rattle.tiles.proofs.Blocks.{protects_part}
use Rattle.tiles.proofs.base.Base.after_rights_of_part.Goals as goal

pub returns-clause-further : goal.returns-clause-further
returns-clause-further g c = omega (arith, c.pages.ensures, eight_pos c.largest_part-size.result)

pub returns-clause-protects : goal.returns-clause-protects
returns-clause-protects g c =
    let part = c.largest_part-size.ensures in
    let given : Mapping =
    record {
      frame = c.mapping_of.result.frame;
      region = c.mapping_of.result.region;
      rights = c.args.rights;
      dirty = c.mapping_of.result.dirty;
    } in
    let is = ap (λ m. with_rights c.args.rights m) c.mapping_of.ensures in
    subst (λ n. ProtectsTo c.args.page (c.args.page + n) c.args.rights c.args.self.now c.set.new.self) (sym c.pages.ensures)
    (protects_part c.largest_part-size.result c.args.page c.args.rights given c.args.entry c.args.self.now c.set.new.self c.requires.fits part.within part.first is
    c.set.ensures.maps)

pub returns-clause-within : goal.returns-clause-within
returns-clause-within g c = omega (arith, c.pages.ensures, c.largest_part-size.ensures.last)

pub set-requires-clause-size : goal.set-requires-clause-size
set-requires-clause-size g c = c.largest_part-size.ensures.within

pub set-requires-clause-frame : goal.set-requires-clause-frame
set-requires-clause-frame g c = ap (λ (m : Mapping). m.frame) c.mapping_of.ensures

pub set-requires-clause-other : goal.set-requires-clause-other
set-requires-clause-other g c = λ same.
    let kept = ap (λ (m : Mapping). m.rights) same in
    c.has_other_rights.ensures.other c.if-not-has_other_rights.false (ap (λ (r : Rights). with_rights r c.args.entry.mapping) kept)
