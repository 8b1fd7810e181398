use Rattle.std.proofs.Common.{◌≡◌, ◌++◌, ◌∷◌, [], length, ap, sym, ◌∙◌, arith}
use Rattle.std.proofs.lemmas.List.FromFn.{length-range_with_len}
use Rattle.pager_model.proofs.Ranges.{range_with_len-more}
use Rattle.replay_core.proofs.scheduled.all_below.Goals as goal

pub push-requires : goal.push-requires
push-requires c =
    let count : length c.loop-actor.actors.items ≡ c.loop-actor.actor = ap length c.loop-actor.invariant
    ∙ length-range_with_len 0 c.loop-actor.actor in
    (omega arith, omega (arith, count))

pub loop-actor-preserved : goal.loop-actor-preserved
loop-actor-preserved c =
    c.push.ensures.items ∙ ap (λ l. l ++ c.loop-actor.actor ∷ []) c.loop-actor.invariant ∙ sym (range_with_len-more c.loop-actor.actor)
