use Rattle.tiles.proofs.Cleared.{promotions_cleared, demotions_cleared}
use Rattle.tiles.proofs.laws.a_clear_breaks_the_tiles_that_meet_its_range.Goals as goal

pub returns-clause-promotions : goal.returns-clause-promotions
returns-clause-promotions c z first len old new clears = promotions_cleared first len old new clears z

pub returns-clause-demotions : goal.returns-clause-demotions
returns-clause-demotions c z first len old new clears = demotions_cleared first len old new clears z
