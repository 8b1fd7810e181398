use Rattle.std.proofs.Common.{◌≡◌, ◌<◌, ℕ, length, get_or}
use Rattle.pager_model.specs.Records.{is_used}
use Rattle.reservations.specs.declared.part.Part.{Part}
use Rattle.reservations.specs.Parts.{told_part}
use Rattle.reservations.proofs.places.UsedPlaces.parts.Given as goal

abbrev pub invariant-loop-i : goal.invariant-loop-i
invariant-loop-i l =
    record { long : length l.parts ≡ 8; told : (k : ℕ) (d : Part) → k < l.i → get_or l.parts k d ≡ told_part (is_used l.self) l.whole k }
