use Rattle.std.proofs.Common.{◌≡◌, ◌≢◌, Bool, true, false, None, Some, refl, sym, ap, subst, ◌∙◌}
use Rattle.std.proofs.Math.Bool.{beq}
use Rattle.std.proofs.lemmas.Bool.{false≢true}
use Rattle.tiles.specs.TableEntries.{mapping_of}
use Rattle.pager_model.specs.declared.tile.Mapping.{Mapping}
use Rattle.tiles.specs.Resident.{Maps, mapping_at, with_flag}
use Rattle.tiles.proofs.KeptPages.{given_other, given_same, maps_one}
use Rattle.tiles.proofs.Looks.{cost_found, cost_set}
use Rattle.tiles.proofs.base.Base.after_dirty.Goals as goal

same_flag : (a b : Bool) → beq a b ≡ true → b ≡ a
same_flag true true _ = refl
same_flag true false e = e
same_flag false true e = sym e
same_flag false false _ = refl

other_flag : (a b : Bool) → beq a b ≡ false → b ≢ a
other_flag true true e _ = false≢true (sym e)
other_flag true false _ e = false≢true e
other_flag false true _ e = false≢true (sym e)
other_flag false false e _ = false≢true (sym e)

pub returns-in_default-clause-cost : goal.returns-in_default-clause-cost
returns-in_default-clause-cost g c = cost_found c.args.steps.now c.find.new.steps c.find.ensures.cost

pub returns-then-entry-dirty-clause-cost : goal.returns-then-entry-dirty-clause-cost
returns-then-entry-dirty-clause-cost g c = cost_found c.args.steps.now c.find.new.steps c.find.ensures.cost

pub returns-clause-cost : goal.returns-clause-cost
returns-clause-cost g c = cost_set c.args.steps.now c.find.new.steps c.set-change.new.steps c.find.ensures.cost c.set-change.ensures.cost

pub set-change-requires-clause-there : goal.set-change-requires-clause-there
set-change-requires-clause-there g c = sym c.find.ensures.entry ∙ c.in-Some.is

pub returns-in_default-clause-maps : goal.returns-in_default-clause-maps
returns-in_default-clause-maps g c =
    let none : None ≡ mapping_at c.args.self.now c.args.page = rw c.in_default.is at c.find.ensures.mapping in
    given_same c.args.page (with_flag c.args.dirty) None c.args.self.now none refl

pub returns-in_default-clause-changes : goal.returns-in_default-clause-changes
returns-in_default-clause-changes g c = c.none.ensures.changes c.args.self.now c.args.self.now (λ p. refl)

pub returns-then-entry-dirty-clause-maps : goal.returns-then-entry-dirty-clause-maps
returns-then-entry-dirty-clause-maps g c =
    let m = mapping_of c.in-Some.entry c.args.page in
    let some : Some m ≡ mapping_at c.args.self.now c.args.page = rw c.in-Some.is at c.find.ensures.mapping in
    given_same c.args.page (with_flag c.args.dirty) (Some m) c.args.self.now some
    (ap (λ (d : Bool). Some (with_flag d m)) (same_flag c.in-Some.entry.mapping.dirty c.args.dirty c.if-entry-dirty.true))

pub returns-then-entry-dirty-clause-changes : goal.returns-then-entry-dirty-clause-changes
returns-then-entry-dirty-clause-changes g c = c.none-then-entry-dirty.ensures.changes c.args.self.now c.args.self.now (λ p. refl)

pub set-change-requires-clause-other : goal.set-change-requires-clause-other
set-change-requires-clause-other g c = λ same.
    other_flag c.in-Some.entry.mapping.dirty c.args.dirty c.if-entry-dirty.false (ap (λ (m : Mapping). m.dirty) same)

pub returns-clause-maps : goal.returns-clause-maps
returns-clause-maps g c =
    let m = mapping_of c.in-Some.entry c.args.page in
    let some : Some m ≡ mapping_at c.args.self.now c.args.page = rw c.in-Some.is at c.find.ensures.mapping in
    let maps = maps_one c.at_level.result c.args.page _ c.args.self.now c.set-change.new.self c.at_level.ensures c.set-change.ensures.maps in
    given_other c.args.page (with_flag c.args.dirty) m c.args.self.now c.set-change.new.self some
    (subst (λ (k : Mapping). Maps c.args.page (Some (with_flag c.args.dirty k)) c.args.self.now c.set-change.new.self) c.mapping_of.ensures maps)

pub returns-clause-changes : goal.returns-clause-changes
returns-clause-changes g c =
    let maps = maps_one c.at_level.result c.args.page _ c.args.self.now c.set-change.new.self c.at_level.ensures c.set-change.ensures.maps in
    c.of.ensures.changes c.args.self.now c.set-change.new.self _ maps c.set-change.ensures.change
