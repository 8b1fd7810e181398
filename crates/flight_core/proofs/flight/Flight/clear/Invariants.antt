use Rattle.std.proofs.Common.{is_some}
use Rattle.std.specs.List.{range_with_len, count_by}
use Rattle.space_core.specs.Standing.{frame_at}
use Rattle.flight_core.proofs.flight.Flight.clear.Given as goal
use Rattle.flight_core.proofs.ClearSteps.{IsClearing}

-- so far some pages of the range gave their frames up, the lowest first
abbrev pub invariant-loop-page : goal.invariant-loop-page
invariant-loop-page g l =
    IsClearing (record { space = l.initial.space; frames = l.initial.pool }) (record { space = l.space; frames = l.pool }) l.first l.length

-- so many pages of the range are resident
abbrev pub decreases-loop-page : goal.decreases-loop-page
decreases-loop-page g l = count_by (λ p. is_some (frame_at l.space p)) (range_with_len l.first l.length)
