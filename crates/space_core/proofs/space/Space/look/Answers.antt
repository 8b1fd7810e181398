use Rattle.std.proofs.Common.{◌∙◌, sym, subst}
use Rattle.space_core.specs.Beginning.{IsMappedBy}
use Rattle.space_core.specs.Standing.{Kept}
use Rattle.space_core.proofs.MappedAccesses.{mapping_allows, mapping_denies}
use Rattle.space_core.proofs.ServedPages.{AreMapped}
use Rattle.space_core.proofs.TableLemmas.{frame-absent}
use Rattle.space_core.proofs.space.Space.look.Goals as goal

pub look_at_region-requires-clause-absent : goal.look_at_region-requires-clause-absent
look_at_region-requires-clause-absent g c κs within =
    rw (← c.self.view_is) (frame-absent c.self.inside.table c.args.page (sym (rw c.in-None.is at c.translate.ensures.mapping)))

pub returns-in-Some : goal.returns-in-Some
returns-in-Some g c =
    let mapped = subst (λ (k : Kept). AreMapped k.regions k.table) c.self.view_is c.self.invariant.mapped in
    let by : IsMappedBy c.args.self.now c.args.page c.in-Some.found =
    rw (← c.self.view_is) (record { mapping = sym c.in-Some.ensures.mapping; tile = sym c.in-Some.ensures.tile }) in (
      mapping_allows c.args.self.now c.args.call.now c.args.page c.in-Some.found.mapping c.requires.page mapped by.mapping
          (sym c.permits.ensures ∙ c.if-permits.true),
      rw c.requires.page by,
    )

pub returns-in-Some-2 : goal.returns-in-Some-2
returns-in-Some-2 g c =
    let mapped = subst (λ (k : Kept). AreMapped k.regions k.table) c.self.view_is c.self.invariant.mapped in
    let by : IsMappedBy c.args.self.now c.args.page c.in-Some.found =
    rw (← c.self.view_is) (record { mapping = sym c.in-Some.ensures.mapping; tile = sym c.in-Some.ensures.tile }) in
    mapping_denies c.args.self.now c.args.call.now c.args.page c.in-Some.found.mapping c.requires.page mapped by.mapping c.requires.can
    (sym c.permits.ensures ∙ c.if-permits.false)
