use Rattle.std.proofs.Common.{◌≡◌, [], replicate, arith, refl, ap, ◌∙◌}
use Rattle.tlb_images.specs.Counted.{remainders}
use Rattle.tlb_images.proofs.CountedLemmas.{AreCounted-new}
use Rattle.tlb_images.proofs.images.Images.create.Goals as goal

pub invariant_of-result : goal.invariant_of-result
invariant_of-result c =
    AreCounted-new c.in_ok-begun.begun.items c.loop.images.items remainders c.loop.counter
    (c.in_ok-begun.ensures.items_if_clones_equal (λ y same. same)) refl c.loop.invariant (omega arith)

pub returns : goal.returns
returns c =
    let all : c.loop.counter ≡ c.args.processors = omega arith in
    c.loop.invariant ∙ ap (λ n. replicate n []) all
