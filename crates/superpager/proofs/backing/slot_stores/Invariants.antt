use Rattle.std.proofs.Common.{◌≡◌, length, All}
use Rattle.superpager.specs.NewStores.{IsNewSlots}
use Rattle.superpager.proofs.backing.slot_stores.Given as goal

-- one for each round so far
abbrev pub invariant-loop : goal.invariant-loop
invariant-loop l = record {
  count : length l.stores.items ≡ l.counter;
  new : All (IsNewSlots l.slots) l.stores.items;
}
