-- Want of memory: which flights lack it, and which entries say so. Over a store that keeps every page of a space for good there is none.
use Rattle.std.specs.Prelude.{◌≡◌, ◌≢◌, Bool, true, false, List, None, Some}
use Rattle.std.specs.List.{AllByRecursion}
use Rattle.pager_model.specs.declared.entry.Entry.{Entry}
use Rattle.pager_model.specs.declared.reply.Reply.{Reply}
use Rattle.pager_model.specs.declared.reply.Reply.TheVariants.{NoMemory}
use Rattle.flight_core.specs.declared.flight.Phase.{Phase}
use Rattle.flight_core.specs.declared.flight.Phase.TheVariants.{Start, Write, Unclaim, Lack, Ended}
use Rattle.flight_core.specs.Steps.{reply_said}

-- a step from the phase may write a copy, and so may find no memory for one
abbrev pub may_write : Phase → Bool
may_write Start = true
may_write (Write v) = true
may_write phase = false

abbrev pub is_no_memory : Reply → Bool
is_no_memory NoMemory = true
is_no_memory reply = false

-- there was no memory for the copy of its victim's page, or its call was answered so
abbrev pub is_lacking : Phase → Bool
is_lacking (Unclaim v None) = true
is_lacking (Lack space) = true
is_lacking (Ended reply) = is_no_memory reply
is_lacking phase = false

-- a flight that doesn't lack memory doesn't come to
abbrev pub NeverLacks : Phase → Phase → Type 0
NeverLacks old new = is_lacking old ≡ false → is_lacking new ≡ false

-- no entry answers a call for want of memory
abbrev pub NoneLacked : List Entry → Type 0
NoneLacked entries = AllByRecursion (λ (e : Entry). reply_said e.what ≢ Some NoMemory) entries
