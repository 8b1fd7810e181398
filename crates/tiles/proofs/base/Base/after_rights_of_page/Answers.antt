use Rattle.std.proofs.Common.{◌≡◌, None, Some, refl, sym, ap, subst, ◌∙◌}
use Rattle.tiles.specs.TableEntries.{mapping_of}
use Rattle.pager_model.specs.declared.region.Rights.{Rights}
use Rattle.pager_model.specs.declared.tile.Mapping.{Mapping}
use Rattle.tiles.specs.Resident.{Maps, mapping_at, with_rights}
use Rattle.tiles.proofs.KeptPages.{given_other, given_same, maps_one}
use Rattle.tiles.proofs.Looks.{cost_found, cost_set}
use Rattle.tiles.proofs.base.Base.after_rights_of_page.Goals as goal

pub returns-in_default-clause-cost : goal.returns-in_default-clause-cost
returns-in_default-clause-cost g c = cost_found c.args.steps.now c.find.new.steps c.find.ensures.cost

pub returns-then-not-has_other_rights-clause-cost : goal.returns-then-not-has_other_rights-clause-cost
returns-then-not-has_other_rights-clause-cost g c = cost_found c.args.steps.now c.find.new.steps c.find.ensures.cost

pub returns-clause-cost : goal.returns-clause-cost
returns-clause-cost g c = cost_set c.args.steps.now c.find.new.steps c.set-protected.new.steps c.find.ensures.cost c.set-protected.ensures.cost

pub set-protected-requires-clause-there : goal.set-protected-requires-clause-there
set-protected-requires-clause-there g c = sym c.find.ensures.entry ∙ c.in-Some.is

pub returns-in_default-clause-maps : goal.returns-in_default-clause-maps
returns-in_default-clause-maps g c =
    let none : None ≡ mapping_at c.args.self.now c.args.page = rw c.in_default.is at c.find.ensures.mapping in
    given_same c.args.page (with_rights c.args.rights) None c.args.self.now none refl

pub returns-in_default-clause-changes : goal.returns-in_default-clause-changes
returns-in_default-clause-changes g c = c.none.ensures.changes c.args.self.now c.args.self.now (λ p. refl)

pub returns-then-not-has_other_rights-clause-maps : goal.returns-then-not-has_other_rights-clause-maps
returns-then-not-has_other_rights-clause-maps g c =
    let m = mapping_of c.in-Some.entry c.args.page in
    let some : Some m ≡ mapping_at c.args.self.now c.args.page = rw c.in-Some.is at c.find.ensures.mapping in
    let has = ap (λ (m : Mapping). m.rights) (c.has_other_rights.ensures.same c.if-not-has_other_rights.true) in
    given_same c.args.page (with_rights c.args.rights) (Some m) c.args.self.now some (ap (λ (r : Rights). Some (with_rights r m)) has)

pub returns-then-not-has_other_rights-clause-changes : goal.returns-then-not-has_other_rights-clause-changes
returns-then-not-has_other_rights-clause-changes g c = c.none-then-not-has_other_rights.ensures.changes c.args.self.now c.args.self.now (λ p. refl)

pub set-protected-requires-clause-other : goal.set-protected-requires-clause-other
set-protected-requires-clause-other g c = λ same.
    let kept = ap (λ (m : Mapping). m.rights) same in
    c.has_other_rights.ensures.other c.if-not-has_other_rights.false (ap (λ (r : Rights). with_rights r c.in-Some.entry.mapping) kept)

pub returns-clause-maps : goal.returns-clause-maps
returns-clause-maps g c =
    let m = mapping_of c.in-Some.entry c.args.page in
    let some : Some m ≡ mapping_at c.args.self.now c.args.page = rw c.in-Some.is at c.find.ensures.mapping in
    let maps = maps_one c.at_level.result c.args.page _ c.args.self.now c.set-protected.new.self c.at_level.ensures c.set-protected.ensures.maps in
    given_other c.args.page (with_rights c.args.rights) m c.args.self.now c.set-protected.new.self some
    (subst (λ (k : Mapping). Maps c.args.page (Some (with_rights c.args.rights k)) c.args.self.now c.set-protected.new.self)
    c.mapping_of.ensures maps)

pub returns-clause-changes : goal.returns-clause-changes
returns-clause-changes g c =
    let maps = maps_one c.at_level.result c.args.page _ c.args.self.now c.set-protected.new.self c.at_level.ensures c.set-protected.ensures.maps in
    c.of.ensures.changes c.args.self.now c.set-protected.new.self _ maps c.set-protected.ensures.change
