use Rattle.std.proofs.Common.{◌≡◌, take}
use Rattle.std.specs.List.{All}
use Rattle.tlb_images.proofs.images.any.Given as goal

abbrev pub invariant-loop-count : goal.invariant-loop-count
invariant-loop-count l = l.bits ≡ 0 → All (λ n. n ≡ 0) (take l.count-index l.counts)
