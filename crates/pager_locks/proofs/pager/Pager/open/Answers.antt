use Rattle.std.proofs.Common.{arith}
use Rattle.pager_locks.proofs.OpenedPagers.{IsPoolAt-new, AreLeft-new, as_many}
use Rattle.pager_locks.proofs.pager.Pager.open.Goals as goal

pub unreachable-requires : goal.unreachable-requires
unreachable-requires g c =
    let none = c.in_default.ensures.cases.0 in
    let many = as_many g.N.Named.journal _ _ _ c.requires.parts in
    let ok = c.args.authors.ok.0 in
    absurd (omega (arith, none, many, ok))

pub of-locks-requires-clause-left : goal.of-locks-requires-clause-left
of-locks-requires-clause-left g c κs within =
    rw c.reverse.ensures.items (rw c.reverse-2.ensures.items
    (AreLeft-new g.N.Named.journal _ _ _ _ _ c.requires.parts c.in-Some.ensures.items))

pub new-requires : goal.new-requires
new-requires g c = IsPoolAt-new g.N.Named.journal _ _ _ _ _ c.requires.parts c.in-Some.ensures.items

pub invariant_of-new : goal.invariant_of-new
invariant_of-new g c =
    let locks = c.of-locks.ensures in
    let many = as_many g.N.Named.journal _ _ _ c.requires.parts in
    let count = c.requires.parts.spaces_are.count in
    record {
      no_spaces = (locks.empty.0, omega (arith, locks.room.0, c.reverse.ensures.capacity, count, c.args.spaces.ok.0));
      no_authors = (
        locks.empty.1,
        omega (
          arith,
          locks.room.1,
          c.reverse-2.ensures.capacity,
          c.in-Some.ensures.capacity,
          many,
          c.args.authors.ok.0,
        ),
      );
      no_stores = c.requires.stores;
    }
