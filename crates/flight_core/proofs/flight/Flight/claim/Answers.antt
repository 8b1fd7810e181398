use Rattle.std.proofs.Common.{◌≡◌, ◌∙◌, ap, sym}
use Rattle.flight_core.specs.Rows.{call_in, is_store}
use Rattle.flight_core.proofs.ClaimSteps.{is_no_store, victim_claimed}
use Rattle.flight_core.proofs.flight.Flight.claim.Goals as goal
use Rattle.flight_core.proofs.flight.Flight.claim.Goals.{in-Store, in_default}

pub returns-after-matches-clause-entry : goal.returns-after-matches-clause-entry
returns-after-matches-clause-entry c = λ kept st ready agree.
    let told : c.match-matches.matches ≡ is_store (call_in c.args.self.now.purpose) = elim c.match-matches.branch [
      | in-Store w ↦ w.matches-is ∙ ap is_store (sym w.in-Store.is ∙ c.call-call.ensures)
      | in_default w ↦ w.matches-is ∙ sym (is_no_store c.call-call.result w.in_default.not-Store) ∙ ap is_store c.call-call.ensures
    ] in
    let phase = c.requires.phase in
    rw c.entry.ensures
    (rw told
    (rw c.space.ensures
    (rw c.call-call.ensures
    (rw c.in-Ok.ensures.claimed.1
    (victim_claimed c.args.self.now c.args.page phase.0 c.in-Ok.victim kept st c.args.pool.now phase.1 c.requires.owns c.requires.full c.in-Ok.ensures.claimed.0 ready)))))
