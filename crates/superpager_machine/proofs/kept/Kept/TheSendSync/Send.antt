-- Nothing that is kept names a thread.
use Rattle.std.specs.Prelude.{Option, None, Some}
use base.Shift.{Keyless}
use mir.Raw.{raw}
use denote.Memory.{lone}
use denote.RawPtr.{Ptr}
use denote.Param.Send.{IsSend, owning_send, sendable}
use Rattle.std.proofs.Crossing.{frees}
use Rattle.std_alloc.proofs.SendSync.{lies}
use Rattle.stream_core.specs.Streaming.{Streaming}
use Rattle.guarded_pager.specs.contracts.pager.GuardedPager.{the_row as pager-row}
use Rattle.guarded_pager.proofs.pager.GuardedPager.TheSendSync.{the_send}
use Rattle.superpager_machine.specs.Ownership.{kept_owns, heap}
use Rattle.superpager_machine.specs.contracts.kept.Kept.{the_row, the_type}

kept_keyless : (at : Ptr) (state : Option Streaming) → Keyless (kept_owns at state)
kept_keyless at None = tt
kept_keyless at (Some st) = (lies pager-row the_send at st, frees.frees heap (raw (lone pager-row.mir)) at)

pub send : IsSend the_row
send = owning_send the_type (search sendable, tt) (λ k. kept_keyless k.at k.state) (λ k d w. tt)
