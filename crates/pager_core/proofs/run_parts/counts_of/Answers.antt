use Rattle.std.proofs.Common.{ℕ, ap}
use Rattle.pager_core.proofs.RunCounts.{promotions_small, demotions_small, counts_are}
use Rattle.pager_core.proofs.run_parts.counts_of.Goals as goal

pub moves_of-promotions-requires-clause-promotions : goal.moves_of-promotions-requires-clause-promotions
moves_of-promotions-requires-clause-promotions g c κs within =
    let rest = c.requires.rest in
    promotions_small rest.0 rest.1 c.args.spaces.now c.args.pool.now rest.2 rest.3 c.requires.few

pub moves_of-promotions-requires-clause-demotions : goal.moves_of-promotions-requires-clause-demotions
moves_of-promotions-requires-clause-demotions g c κs within =
    let rest = c.requires.rest in
    demotions_small rest.0 rest.1 c.args.spaces.now c.args.pool.now rest.2 rest.3 c.requires.few

pub returns : goal.returns
returns g c = λ given history rest few hits misses.
    let moves = c.moves_of-promotions.ensures in
    counts_are given history c.args.spaces.now c.args.pool.now rest few c.requires.few _
    c.tiles_of.ensures
    (ap (λ (p : ℕ × ℕ). p.0) moves)
    (ap (λ (p : ℕ × ℕ). p.1) moves)
    c.preempted.ensures
    hits
    misses
    c.counts-frames.ensures.free c.counts-frames.ensures.reserved c.counts-frames.ensures.used
