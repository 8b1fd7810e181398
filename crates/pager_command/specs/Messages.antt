-- What is said of a status where no fault is told.
use Rattle.std.specs.Prelude.{ℕ, ◌==◌, if◌then◌else◌, List, codes}

-- the message of a status: that of want of memory where it is no other
abbrev pub message_text : ℕ → List ℕ
message_text status =
    if status == 0 then codes "done"
    else if status == 2 then codes "usage"
    else if status == 3 then codes "refused"
    else if status == 4 then codes "read fault"
    else if status == 6 then codes "write fault"
    else codes "memory"
