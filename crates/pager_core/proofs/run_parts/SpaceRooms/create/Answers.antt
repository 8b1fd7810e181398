use Rattle.std.proofs.Common.{◌∷◌, [], ◌++◌, ap, replicate, ◌∙◌, arith}
use Rattle.std.proofs.lemmas.List.{replicate_more}
use Rattle.space_core.specs.Rooms.{Capacity}
use Rattle.pager_core.proofs.run_parts.SpaceRooms.create.Goals as goal

pub loop-preserved : goal.loop-preserved
loop-preserved g c =
    let room : Capacity = record { frames = c.args.frames; processors = c.args.processors; sizes = c.args.sizes } in
    c.in_ok-push.ensures.items ∙ ap (λ l. l ++ c.in_ok-create.field-0 ∷ []) c.loop.invariant
    ∙ ap (λ x. replicate c.loop.counter room ++ x ∷ []) c.in_ok-create.ensures ∙ replicate_more c.loop.counter room

pub returns : goal.returns
returns g c =
    let room : Capacity = record { frames = c.args.frames; processors = c.args.processors; sizes = c.args.sizes } in
    c.loop.invariant ∙ ap (λ n. replicate n room) (omega (arith, c.loop.auto.counter-end, c.loop-test.false))
