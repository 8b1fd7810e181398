use Rattle.std.proofs.Common.{◌≡◌, None, replicate, rules}
use Rattle.used_frames.proofs.NoteChanges.{AreMutual-start}
use Rattle.used_frames.proofs.UsedFrames.create.Goals as goal

pub invariant_of-result : goal.invariant_of-result
invariant_of-result c =
    let claims : c.in_ok-vec.field-0.items ≡ replicate c.args.processors None =
    c.in_ok-vec.ensures.items_if_clones_equal (λ y same. search rules) in
    rw (c.in_ok-create.ensures, claims) (AreMutual-start c.args.frames c.args.processors)
