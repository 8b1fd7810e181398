use Rattle.std.proofs.Common.{◌≡◌, ◌∙◌, ℕ, sym, subst}
use Rattle.flight_core.proofs.PinSteps.{on_pin, page_kept, range_pinned}
use Rattle.flight_core.proofs.flight.Flight.pin.Goals as goal

pub returns-in-None-clause-entry : goal.returns-in-None-clause-entry
returns-in-None-clause-entry g c =
    let ready = c.requires.ready in
    let own = c.number-own.ensures.number ∙ sym (on_pin c.args.self.now c.args.first c.args.length c.args.wired c.args.space.now ready.0 c.requires.phase ready.1) in
    λ st. rw c.entry.ensures
    (rw (c.in-None.ensures.pinned.1, own)
    (range_pinned c.args.self.now c.args.first c.args.length c.args.wired c.args.space.now c.args.pool.now c.requires.phase
    (rw own at c.in-None.ensures.pinned.0) st))

pub returns-in-Some-clause-entry : goal.returns-in-Some-clause-entry
returns-in-Some-clause-entry g c =
    let ready = c.requires.ready in
    let found = c.in-Some.ensures.kept in
    let own = c.number-own.ensures.number ∙ sym (on_pin c.args.self.now c.args.first c.args.length c.args.wired c.args.space.now ready.0 c.requires.phase ready.1) in
    λ st. rw c.entry-in-Some.ensures
    (rw (found.3, own)
    (page_kept c.args.self.now c.args.first c.args.length c.args.wired c.in-Some.kept.page c.in-Some.kept.frame c.args.space.now c.args.pool.now c.requires.phase
    found.0 (rw own at found.1) (rw own at found.2) st))
