-- Nothing that is kept names a thread.
use Rattle.std.specs.Prelude.{Option, None, Some}
use base.Shift.{Keyless}
use mir.Raw.{raw}
use denote.Memory.{lone}
use denote.RawPtr.{Ptr}
use denote.Param.Send.{IsSend, owning_send, sendable}
use Rattle.std.proofs.Crossing.{frees}
use Rattle.std_alloc.proofs.SendSync.{lies}
use Rattle.pager_model.specs.FrameStates.{FrameState}
use Rattle.frame_table.specs.contracts.table.FrameTable.{the_row as table-row}
use Rattle.frame_table.proofs.table.FrameTable.TheSendSync.{the_send}
use Rattle.superpager_c.specs.Ownership.{kept_owns, heap}
use Rattle.superpager_c.specs.contracts.kept.Kept.{the_row, the_type}

kept_keyless : (at : Ptr) (state : Option FrameState) → Keyless (kept_owns at state)
kept_keyless at None = tt
kept_keyless at (Some st) = (lies table-row the_send at st, frees.frees heap (raw (lone table-row.mir)) at)

pub send : IsSend the_row
send = owning_send the_type (search sendable, tt) (λ k. kept_keyless k.at k.state) (λ k d w. tt)
