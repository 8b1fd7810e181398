-- What a program's memory holds.
use Rattle.std.specs.Prelude.{List}
use Rattle.lackey_regions.specs.declared.memory.Memory.{Memory}
use Rattle.lackey_regions.specs.declared.region.Region.{Region}

-- its regions
abbrev pub regions_of : Memory → List Region
regions_of memory = memory.regions.regions.items
