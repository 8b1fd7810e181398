-- What a handle owns: the box of its table, where it has one.
use Rattle.std.specs.Prelude.{Option, None, Some}
use base.Fml.{Fml, ftrue}
use denote.RawPtr.{Ptr}
use Rattle.pager_model.specs.FrameStates.{FrameState}
use Rattle.std_alloc.specs.Box.Ownership.{box_owns}
use Rattle.std.specs.Global.{Global}
use Rattle.std.specs.contracts.impls.GlobalAllocator.TheImpl.{ghosts}
use Rattle.frame_table.specs.contracts.table.FrameTable.{the_row as table-row}

-- a handle to the heap: all are alike
abbrev pub heap : Global
heap = record { memory = record { seal = tt } }

-- what lies at the pointer: the table of frames in this state, where there is one
abbrev pub kept_owns : Ptr → Option FrameState → Fml
kept_owns p None = ftrue
kept_owns p (Some x) = box_owns (ghosts.dealloc_token heap) table-row p x
