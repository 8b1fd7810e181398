use Rattle.pager_laws.proofs.TranslationLaws.{HasHit-answer}
use Rattle.pager_laws.proofs.laws.a_hit_is_of_the_tile_before.Goals as goal

pub returns : goal.returns
returns c st e number call a allowed what hit = HasHit-answer st e number call a allowed what hit
