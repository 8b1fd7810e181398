-- What C asks for, by number.
use Rattle.std.specs.Prelude.{ℕ, zero, suc, ◌==◌, not, Option, Some, None}
use Rattle.std.specs.Option.{option_and_then, option_map}
use Rattle.pager_model.specs.declared.call.Call.{Call}
use Rattle.pager_model.specs.declared.call.Call.TheVariants.{Map, Protect}
use Rattle.pager_model.specs.declared.region.Kind.{Kind}
use Rattle.pager_model.specs.declared.region.Kind.TheVariants.{Fixed, Growing, Wired}
use Rattle.pager_model.specs.declared.region.Rights.{Rights}
use Rattle.pager_model.specs.declared.region.Rights.TheVariants.{NoAccess, Read, Write}
use Rattle.pager_model.specs.SizeSets.{SizeSet}
use Rattle.superpager_machine.specs.declared.asked.MachineSetting.{MachineSetting}

-- the page sizes: any number but 0 says that there is one
abbrev pub sizes_of : MachineSetting → SizeSet
sizes_of s = record { one = not (s.pages_8 == 0); two = not (s.pages_64 == 0); three = not (s.pages_512 == 0) }

-- the kind of a region of this number
abbrev pub kind_of : ℕ → Option Kind
kind_of zero = Some Fixed
kind_of (suc zero) = Some Growing
kind_of (suc (suc zero)) = Some Wired
kind_of (suc (suc (suc n))) = None

-- the rights of this number
abbrev pub rights_of : ℕ → Option Rights
rights_of zero = Some NoAccess
rights_of (suc zero) = Some Read
rights_of (suc (suc zero)) = Some Write
rights_of (suc (suc (suc n))) = None

-- the call to map a range, where there are the kind and the rights
abbrev pub map_of : (space page len kind rights : ℕ) → Option Call
map_of space page len kind rights = option_and_then (λ k. option_map (Map space page len k) (rights_of rights)) (kind_of kind)

-- the call to protect a range, where there are the rights
abbrev pub protect_of : (space page len rights : ℕ) → Option Call
protect_of space page len rights = option_map (Protect space page len) (rights_of rights)
