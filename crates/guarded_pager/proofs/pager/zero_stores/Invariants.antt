use Rattle.std.proofs.Common.{◌≡◌, map, replicate}
use Rattle.store_core.specs.MemoryState.{stored_of}
use Rattle.guarded_pager.specs.Guards.{zero_store}
use Rattle.guarded_pager.proofs.pager.zero_stores.Given as goal

-- one for each round so far
abbrev pub invariant-loop : goal.invariant-loop
invariant-loop l = map stored_of l.stores.items ≡ replicate l.counter zero_store
