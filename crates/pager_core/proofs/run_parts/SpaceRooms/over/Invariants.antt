use Rattle.std.proofs.Common.{◌≡◌, ◌+◌, ◌≤◌, ◌++◌, length, map, reverse, vec_capacity}
use Rattle.std.specs.List.{All}
use Rattle.space_core.specs.Rooms.{Capacity}
use Rattle.space_core.specs.Standing.{Kept}
use Rattle.pager_core.proofs.Stores.{AreNew}
use Rattle.pager_core.proofs.run_parts.SpaceRooms.over.Given as goal

abbrev pub invariant-loop-room : goal.invariant-loop-room
invariant-loop-room g l =
    record {
      count : length l.rooms.items + length l.spaces.items ≡ length l.fn.self;
      alike : (room : Capacity) → All (λ r. r ≡ room) l.fn.self → All (λ r. r ≡ room) l.rooms.items × AreNew room l.spaces.items;
      stores : map g.S.Store.seen l.fn.stores.items ≡ map (λ (k : Kept). k.store) l.spaces.items
          ++ map g.S.Store.seen (reverse l.left.items);
      enough : length l.rooms.items ≤ length l.left.items;
      room : length l.rooms.items + length l.spaces.items ≤ vec_capacity l.spaces;
      capacity : vec_capacity l.left ≡ vec_capacity l.fn.stores;
    }

abbrev pub decreases-loop-room : goal.decreases-loop-room
decreases-loop-room g l = length l.rooms.items
