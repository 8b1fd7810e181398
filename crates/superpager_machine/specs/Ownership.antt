-- What a handle owns: the box of its pager, where it has one.
use Rattle.std.specs.Prelude.{Option, None, Some}
use base.Fml.{Fml, ftrue}
use denote.RawPtr.{Ptr}
use Rattle.stream_core.specs.Streaming.{Streaming}
use Rattle.std_alloc.specs.Box.Ownership.{box_owns}
use Rattle.std.specs.Global.{Global}
use Rattle.std.specs.contracts.impls.GlobalAllocator.TheImpl.{ghosts}
use Rattle.guarded_pager.specs.contracts.pager.GuardedPager.{the_row as pager-row}

-- a handle to the heap: all are alike
abbrev pub heap : Global
heap = record { memory = record { seal = tt } }

-- what lies at the pointer: the pager in this state, where there is one
abbrev pub kept_owns : Ptr → Option Streaming → Fml
kept_owns p None = ftrue
kept_owns p (Some x) = box_owns (ghosts.dealloc_token heap) pager-row p x
