use Rattle.pager_locks.proofs.pager.Pager.fly_on.Goals as goal

pub loop-flight-preserved : goal.loop-flight-preserved
loop-flight-preserved g c =
    let i = c.loop-flight.invariant in
    record {
      some = (i.some.0, c.go_on-pass.ensures.flying i.some.0 i.some.1);
      flying = λ from was. c.go_on-pass.ensures.flying from (i.flying from was);
      keeps = c.go_on-pass.ensures.left;
      lasting = λ lasts has. c.go_on-pass.ensures.lasting lasts (i.lasting lasts has);
    }
