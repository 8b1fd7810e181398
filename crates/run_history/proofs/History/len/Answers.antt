use Rattle.std.proofs.Common.{ap, length, arith}
use Rattle.run_history.specs.Kept.{Kept}
use Rattle.run_history.proofs.KeptEntries.{length-items}
use Rattle.run_history.proofs.History.len.Goals as goal

pub returns : goal.returns
returns c =
    let seen = ap (λ (k : Kept). length k.items) c.self.view_is in
    let h = c.self.inside in
    omega (arith, length-items h.listed.items h.whole.items h.briefs.items)
