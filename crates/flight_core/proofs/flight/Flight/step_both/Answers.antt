use Rattle.std.proofs.Common.{◌≡◌, ℕ, Option, Some, None, true, refl, ap, subst}
use Rattle.std.specs.Option.{IfNone}
use Rattle.std.proofs.lemmas.Option.{IfSome_then}
use Rattle.flight_core.specs.declared.flight.Needs.TheVariants.{Both}
use Rattle.flight_core.specs.declared.flight.Purpose.{Purpose}
use Rattle.flight_core.specs.declared.flight.Purpose.TheVariants.{Call as OfCall, Turn as OfTurn}
use Rattle.flight_core.specs.Lacking.{may_write}
use Rattle.flight_core.specs.Rows.{both, is_of_call, own_space, row_in}
use Rattle.flight_core.proofs.WantOfMemory.{NeverLacks-made, NeverLacks-stepped}
use Rattle.flight_core.proofs.flight.Flight.step_both.Goals as goal

-- what follows from what a clause says where there is no value
IfNone_then : {X : Type 0} (r : Option X) {P Q : Type 0} → IfNone r P → (P → Q) → IfNone r Q
IfNone_then None holds then = then holds
IfNone_then (Some x) holds then = holds

pub returns-in-Out-clause-entry : goal.returns-in-Out-clause-entry
returns-in-Out-clause-entry g c = IfSome_then c.collect.result c.collect.ensures.entry
    (λ e makes st ready. makes c.args.space.now st ready c.requires.agree)

pub returns-in-Out-clause-none : goal.returns-in-Out-clause-none
returns-in-Out-clause-none g c = IfNone_then c.collect.result c.collect.ensures.none
    (λ none. (none.0, λ st ready. none.1 c.args.space.now st ready c.requires.agree))

pub returns-in-Unclaim-clause-entry : goal.returns-in-Unclaim-clause-entry
returns-in-Unclaim-clause-entry g c = λ st ready. c.unclaim.ensures.entry c.args.space.now st ready c.requires.agree

pub returns-in-Drop-clause-entry : goal.returns-in-Drop-clause-entry
returns-in-Drop-clause-entry g c = λ st ready. c.drop_held.ensures.entry c.args.space.now st ready

-- what is dropped under a space's lock is dropped for a call
of_call-both : (purpose : Purpose) (space : ℕ) → both (own_space purpose) ≡ Both space → is_of_call purpose ≡ true
of_call-both (OfCall call claimed) space is = refl
of_call-both (OfTurn mark evictions) space is = cc

pub drop_held-requires-clause-of_call : goal.drop_held-requires-clause-of_call
drop_held-requires-clause-of_call g c =
    let f = c.args.self.now in
    let space = c.args.space.now.number in
    of_call-both f.purpose space
    (subst (λ p. (row_in f.processor f.number (own_space f.purpose) f.purpose p).needs ≡ Both space) c.in-Drop.is c.requires.needs)

pub returns-in-Evict-clause-never_lacks : goal.returns-in-Evict-clause-never_lacks
returns-in-Evict-clause-never_lacks g c = NeverLacks-made c.args.self.now.purpose c.args.self.now.phase c.evict.result.what c.evict.new.self.phase (ap may_write c.in-Evict.is) c.evict.ensures.row

pub returns-in-Clear-clause-never_lacks : goal.returns-in-Clear-clause-never_lacks
returns-in-Clear-clause-never_lacks g c = NeverLacks-made c.args.self.now.purpose c.args.self.now.phase c.clear.result.what c.clear.new.self.phase (ap may_write c.in-Clear.is) c.clear.ensures.row

pub returns-in-Pin-clause-never_lacks : goal.returns-in-Pin-clause-never_lacks
returns-in-Pin-clause-never_lacks g c = NeverLacks-made c.args.self.now.purpose c.args.self.now.phase c.pin.result.what c.pin.new.self.phase (ap may_write c.in-Pin.is) c.pin.ensures.row

pub returns-in-Frame-clause-never_lacks : goal.returns-in-Frame-clause-never_lacks
returns-in-Frame-clause-never_lacks g c = NeverLacks-made c.args.self.now.purpose c.args.self.now.phase c.take.result.what c.take.new.self.phase (ap may_write c.in-Frame.is) c.take.ensures.row

pub returns-in-Unfill-clause-never_lacks : goal.returns-in-Unfill-clause-never_lacks
returns-in-Unfill-clause-never_lacks g c = NeverLacks-made c.args.self.now.purpose c.args.self.now.phase c.unfill.result.what c.unfill.new.self.phase (ap may_write c.in-Unfill.is) c.unfill.ensures.row

pub returns-in-Hand-clause-never_lacks : goal.returns-in-Hand-clause-never_lacks
returns-in-Hand-clause-never_lacks g c = NeverLacks-made c.args.self.now.purpose c.args.self.now.phase c.hand.result.what c.hand.new.self.phase (ap may_write c.in-Hand.is) c.hand.ensures.row

pub returns-in-Unclaim-clause-never_lacks : goal.returns-in-Unclaim-clause-never_lacks
returns-in-Unclaim-clause-never_lacks g c = NeverLacks-made c.args.self.now.purpose c.args.self.now.phase c.unclaim.result.what c.unclaim.new.self.phase (ap may_write c.in-Unclaim.is) c.unclaim.ensures.row

pub returns-in-Drop-clause-never_lacks : goal.returns-in-Drop-clause-never_lacks
returns-in-Drop-clause-never_lacks g c = NeverLacks-made c.args.self.now.purpose c.args.self.now.phase c.drop_held.result.what c.drop_held.new.self.phase (ap may_write c.in-Drop.is) c.drop_held.ensures.row

pub returns-in-Use-clause-never_lacks : goal.returns-in-Use-clause-never_lacks
returns-in-Use-clause-never_lacks g c = NeverLacks-made c.args.self.now.purpose c.args.self.now.phase c.use_held.result.what c.use_held.new.self.phase (ap may_write c.in-Use.is) c.use_held.ensures.row

pub returns-in-Out-clause-never_lacks : goal.returns-in-Out-clause-never_lacks
returns-in-Out-clause-never_lacks g c =
    NeverLacks-stepped c.args.self.now.purpose c.args.self.now.phase c.collect.new.self.phase c.collect.result (ap may_write c.in-Out.is) c.collect.ensures.row c.collect.ensures.row_passed
