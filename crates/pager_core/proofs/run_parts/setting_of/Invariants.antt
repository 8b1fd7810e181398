use Rattle.std.proofs.Common.{◌≡◌, ◌≤◌, map, take}
use Rattle.pager_model.specs.SpaceStates.{last_count}
use Rattle.pager_model.specs.Stored.{Stored}
use Rattle.pager_core.proofs.Stores.{Each, IsZeroIfTold}
use Rattle.pager_core.proofs.run_parts.setting_of.Given as goal

abbrev pub invariant-loop-store : goal.invariant-loop-store
invariant-loop-store g l =
    (l.told.items ≡ map (λ (s : Stored). s.told) (map g.S.Store.seen (take l.store-index l.stores)))
    × (l.faults.items ≡ map (λ (s : Stored). s.faults) (map g.S.Store.seen (take l.store-index l.stores)))
    × Each IsZeroIfTold (map g.S.Store.seen (take l.store-index l.stores))
    × Each (λ s. s.faults ≤ last_count) (map g.S.Store.seen (take l.store-index l.stores))
