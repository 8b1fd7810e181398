use Rattle.std.proofs.Common.{◌≡◌, None, replicate, rules}
use Rattle.frame_pool.proofs.PoolFields.{IsPool-start}
use Rattle.frame_pool.proofs.pool.Pool.create.Goals as goal

pub invariant_of-result : goal.invariant_of-result
invariant_of-result c =
    let frames = c.args.frames in
    let held : c.in_ok-vec.field-0.items ≡ replicate c.args.processors None =
    c.in_ok-vec.ensures.items_if_clones_equal (λ y same. search rules) in
    rw (c.in_ok-every_frame.ensures, c.in_ok-create.ensures, c.in_ok-create-2.ensures, held)
    (IsPool-start c.args.sizes frames c.args.processors c.requires.frames c.requires.processors)
