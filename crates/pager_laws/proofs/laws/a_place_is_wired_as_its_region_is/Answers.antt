use Rattle.pager_laws.proofs.WiredPlaces.{KeepsWires-legal}
use Rattle.pager_laws.proofs.laws.a_place_is_wired_as_its_region_is.Goals as goal

pub returns : goal.returns
returns c = KeepsWires-legal
