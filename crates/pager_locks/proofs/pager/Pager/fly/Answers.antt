use Rattle.std.proofs.Common.{ap, refl}
use Rattle.pager_model.specs.declared.reply.Reply.TheVariants.{NoMemory}
use Rattle.flight_core.specs.Lacking.{is_lacking}
use Rattle.flight_core.proofs.WantOfMemory.{replied}
use Rattle.pager_locks.proofs.WholeCalls.{known_here, IsFlying-start, MakesCall-ended}
use Rattle.pager_locks.proofs.pager.Pager.fly.Goals as goal

pub fly_on-requires-clause-flying : goal.fly_on-requires-clause-flying
fly_on-requires-clause-flying g c κs within =
    let r = c.requires in
    let known = known_here g.N.Named.journal c.args.pass _ r.pass.journal c.processor-processor.ensures.number c.processor-processor.ensures.known in (
      record { pass = c.args.pass; before = 0; flight = c.args.flight },
      IsFlying-start g.N.Named.journal c.args.pass c.args.flight r.pass r.next r.can known,
    )

pub returns-clause-made : goal.returns-clause-made
returns-clause-made g c =
    let r = c.requires in
    let known = known_here g.N.Named.journal c.args.pass _ r.pass.journal c.processor-processor.ensures.number c.processor-processor.ensures.known in
    MakesCall-ended g.N.Named.journal c.args.pass c.args.flight r.pass r.next r.can known c.fly_on.result.0 c.fly_on.result.1
    (c.fly_on.ensures.flying (record { pass = c.args.pass; before = 0; flight = c.args.flight }) (IsFlying-start g.N.Named.journal c.args.pass c.args.flight r.pass r.next r.can known))
    c.fly_on.ensures.ended

pub returns-clause-lasting : goal.returns-clause-lasting
returns-clause-lasting g c = λ lasts said.
    replied c.fly_on.result.0 NoMemory (c.fly_on.ensures.lasting lasts (ap is_lacking c.requires.next.start)) said refl
