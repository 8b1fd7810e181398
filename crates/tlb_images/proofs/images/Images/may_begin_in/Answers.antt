use Rattle.std.proofs.Common.{arith}
use Rattle.tlb_images.proofs.CountedLemmas.{NoneBegins-uncounted}
use Rattle.tlb_images.proofs.images.Images.may_begin_in.Goals as goal

pub returns : goal.returns
returns c = λ none.
    rw (← c.self.view_is)
    (NoneBegins-uncounted c.self.inside.begun.items c.self.inside.images.items c.args.range _ c.self.invariant c.if-range-first.false
    (omega arith)
    (rw c.deref.ensures.value at c.any.ensures none))
