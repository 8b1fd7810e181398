use Rattle.std.proofs.Common.{arith}
use Rattle.reservations.proofs.CountLemmas.{AreCounts-remove, some_used}
use Rattle.reservations.proofs.places.UsedPlaces.remove.Goals as goal

pub overflow_sub-index_mut : goal.overflow_sub-index_mut
overflow_sub-index_mut c =
    let known = rw (← c.self.view_is) at c.requires.known in
    let used = rw (← c.self.view_is) at c.requires.used in
    omega (arith, some_used _ 8 _ c.args.frame (omega arith) known c.self.invariant.0 _ used c.index_mut-2.ensures.value)

pub overflow_sub-index_mut-2 : goal.overflow_sub-index_mut-2
overflow_sub-index_mut-2 c =
    let known = rw (← c.self.view_is) at c.requires.known in
    let used = rw (← c.self.view_is) at c.requires.used in
    omega (arith, some_used _ 64 _ c.args.frame (omega arith) known c.self.invariant.1 _ used c.index_mut-3.ensures.value)

pub overflow_sub-index_mut-3 : goal.overflow_sub-index_mut-3
overflow_sub-index_mut-3 c =
    let known = rw (← c.self.view_is) at c.requires.known in
    let used = rw (← c.self.view_is) at c.requires.used in
    omega (arith, some_used _ 512 _ c.args.frame (omega arith) known c.self.invariant.2 _ used c.index_mut-4.ensures.value)

pub invariant_of-self : goal.invariant_of-self
invariant_of-self c =
    let known = rw (← c.self.view_is) at c.requires.known in
    let used = rw (← c.self.view_is) at c.requires.used in
    let are = c.self.invariant in (
      AreCounts-remove _ 8 _ _ (omega arith) known are.0 _ used c.index_mut-2.ensures.value,
      AreCounts-remove _ 64 _ _ (omega arith) known are.1 _ used c.index_mut-3.ensures.value,
      AreCounts-remove _ 512 _ _ (omega arith) known are.2 _ used c.index_mut-4.ensures.value,
    )
