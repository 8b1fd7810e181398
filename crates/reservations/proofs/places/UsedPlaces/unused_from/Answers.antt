use Rattle.std.proofs.Common.{◌^◌, sym, ◌∙◌, arith}
use Rattle.pager_model.specs.Records.{is_used}
use Rattle.reservations.proofs.UnusedRuns.{unused_in}
use Rattle.reservations.proofs.places.UsedPlaces.unused_from.Goals as goal

pub returns-then-is_empty-clause-unused : goal.returns-then-is_empty-clause-unused
returns-then-is_empty-clause-unused c = λ other low high.
    let first = c.start_round-first.result in
    let round = c.start_round-first.ensures.round in
    unused_in (is_used c.args.self.now) first (8 ^ c.at_level-size.result) other (sym c.is_empty.ensures ∙ c.if-is_empty.true)
    (omega (arith, low, round.0)) (omega (arith, high, round.0, round.1, c.pages.ensures))
