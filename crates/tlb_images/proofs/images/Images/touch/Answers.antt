use Rattle.std.proofs.Common.{rules}
use Rattle.std.proofs.lemmas.List.{with_items_is}
use Rattle.tlb_images.proofs.CountedLemmas.{AreCounted-below, AreCounted-set, touched-short}
use Rattle.tlb_images.proofs.images.Images.touch.Goals as goal

pub touch_in-requires-clause-room : goal.touch_in-requires-clause-room
touch_in-requires-clause-room c = rw c.deref_mut.ensures.value
    (AreCounted-below c.self.inside.begun.items c.self.inside.images.items c.self.invariant)

pub invariant_of-self : goal.invariant_of-self
invariant_of-self c =
    rw (with_items_is c.self.inside.begun c.touch_in.new.begun (search rules))
    (AreCounted-set c.self.inside.begun.items c.touch_in.new.begun c.self.inside.images.items c.args.processor c.touch_in.new.image c.index_mut-image.result.now (search rules) c.self.invariant
    (rw (← c.deref_mut.ensures.value, ← c.index_mut-image.ensures.value) c.touch_in.ensures.counts)
    (rw c.touch_in.ensures.touched (touched-short c.args.tile c.index_mut-image.result.now)))
