use Rattle.std.proofs.Common.{◌++◌, ◌∷◌, [], length, sym, ap, ◌∙◌, arith}
use Rattle.std.proofs.lemmas.Bool.{true≢false}
use Rattle.pager_core.specs.Running.{flight_at}
use Rattle.replay_core.specs.Schedules.{flies}
use Rattle.replay_core.proofs.ScheduleLemmas.{filter_push, filter_pass, some_there, none_there}
use Rattle.replay_core.proofs.drawn.left_in.Goals as goal
use Rattle.replay_core.proofs.drawn.left_in.Goals.{then-has_left, else-has_left}

pub loop-actor-preserved : goal.loop-actor-preserved
loop-actor-preserved g c =
    let flights = c.args.machine.now.flights in
    let actor = c.loop-actor.actor in
    let was = c.loop-actor.invariant in
    elim c.if-has_left.branch [
      | then-has_left w ↦
          let left = some_there (flight_at flights actor) (c.has_left.ensures.0 w.if-has_left.true) in (
            ap (λ v. v.items) w.left-is ∙ w.push.ensures.items ∙ ap (λ l. l ++ actor ∷ []) was.0
                ∙ sym (filter_push (flies flights) actor left),
            omega (arith, was.1, ap (λ v. length v.items) w.left-is, w.push.ensures.len),
          )
      | else-has_left w ↦
          let none = none_there (flight_at flights actor) (λ there. true≢false (sym (c.has_left.ensures.1 there) ∙ w.if-has_left.false)) in (
            ap (λ v. v.items) w.left-is ∙ was.0 ∙ sym (filter_pass (flies flights) actor none),
            omega (arith, was.1, ap (λ v. length v.items) w.left-is),
          )
    ]
