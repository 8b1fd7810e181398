use Rattle.std.proofs.Common.{◌≡◌, ℕ, Option, None, replicate, ap, ◌∙◌, arith, rules}
use Rattle.std.proofs.lemmas.Grind.{replicate_next}
use Rattle.pager_model.specs.Frame.{Framed}
use Rattle.followed_frames.proofs.frames.empty_hands.Goals as goal

pub push_reserved-requires : goal.push_reserved-requires
push_reserved-requires c = omega (arith, c.loop.invariant.1, c.loop.invariant.2)

pub loop-preserved : goal.loop-preserved
loop-preserved c = search (rules, replicate_next {X = Option Framed} c.loop.counter None)

pub returns : goal.returns
returns c =
    let all : c.loop.counter ≡ c.args.frames = omega arith in
    c.loop.invariant.0 ∙ ap (λ (n : ℕ). replicate {A = Option Framed} n None) all
