use Rattle.std.proofs.Common.{◌≡◌, [], replicate}
use Rattle.tlb_images.proofs.images.Images.create.Given as goal

abbrev pub invariant-loop : goal.invariant-loop
invariant-loop l = l.images.items ≡ replicate l.counter []
