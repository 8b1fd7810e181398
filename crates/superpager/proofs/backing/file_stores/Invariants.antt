use Rattle.std.proofs.Common.{◌≡◌, length, All}
use Rattle.superpager.specs.NewStores.{IsNewFile}
use Rattle.superpager.proofs.backing.file_stores.Given as goal

-- one for each number so far
abbrev pub invariant-loop-number : goal.invariant-loop-number
invariant-loop-number g l = record {
  count : length l.stores.items ≡ l.number;
  new : All IsNewFile l.stores.items;
}
