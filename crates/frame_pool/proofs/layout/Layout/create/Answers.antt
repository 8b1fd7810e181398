use Rattle.std.proofs.Common.{true, arith}
use Rattle.std.proofs.lemmas.List.{length-replicate}
use Rattle.pager_laws.proofs.StartStates.{IsLaid-start}
use Rattle.frame_pool.proofs.layout.Layout.create.Goals as goal

pub invariant_of-result : goal.invariant_of-result
invariant_of-result c =
    rw (c.in_ok-create.ensures, c.in_ok-create-2.ensures) (
      IsLaid-start c.args.sizes c.args.frames,
      omega (arith, length-replicate c.args.frames true, c.requires.most),
    )
