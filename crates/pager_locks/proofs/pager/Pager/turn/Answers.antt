use Rattle.pager_locks.specs.Locked.{Departure, IsFlying}
use Rattle.pager_locks.proofs.WholeCalls.{from_turn, known_here, IsFlying-turn, MakesTurn-ended}
use Rattle.pager_locks.proofs.pager.Pager.turn.Goals as goal
use Rattle.std.proofs.Common.{subst, sym}
use Rattle.flight_core.specs.declared.flight.Flight.{Flight}

pub fly_on-requires-clause-flying : goal.fly_on-requires-clause-flying
fly_on-requires-clause-flying g c κs within =
    let j = g.N.Named.journal in
    let known = known_here j c.args.pass _ c.requires.pass.journal c.processor.ensures.number c.processor.ensures.known in
    let from : Departure = from_turn j c.args.pass c.processor.result c.args.mark c.requires.pass c.processor.ensures.number known in (
      from,
      subst (λ (f : Flight). IsFlying j from f c.args.pass) (sym c.of_turn-flight.ensures)
          (IsFlying-turn j c.args.pass c.processor.result c.args.mark c.requires.pass c.processor.ensures.number known),
    )

pub returns : goal.returns
returns g c =
    let j = g.N.Named.journal in
    let known = known_here j c.args.pass _ c.requires.pass.journal c.processor.ensures.number c.processor.ensures.known in
    let from : Departure = from_turn j c.args.pass c.processor.result c.args.mark c.requires.pass c.processor.ensures.number known in
    MakesTurn-ended j c.args.pass c.processor.result c.args.mark c.requires.pass c.processor.ensures.number known c.fly_on.result.0 c.fly_on.result.1
    (c.fly_on.ensures.flying from
    (subst (λ (f : Flight). IsFlying j from f c.args.pass) (sym c.of_turn-flight.ensures)
    (IsFlying-turn j c.args.pass c.processor.result c.args.mark c.requires.pass c.processor.ensures.number known)))
    c.fly_on.ensures.ended
