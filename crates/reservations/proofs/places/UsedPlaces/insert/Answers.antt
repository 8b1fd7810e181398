use Rattle.std.proofs.Common.{arith}
use Rattle.reservations.proofs.CountLemmas.{AreCounts-insert, count_fits}
use Rattle.reservations.proofs.places.UsedPlaces.insert.Goals as goal

pub overflow_add-index_mut : goal.overflow_add-index_mut
overflow_add-index_mut c =
    let known = rw (← c.self.view_is) at c.requires.known in
    omega (arith, count_fits _ 8 _ c.args.frame (omega arith) known c.self.invariant.0 _ c.index_mut-2.ensures.value)

pub overflow_add-index_mut-2 : goal.overflow_add-index_mut-2
overflow_add-index_mut-2 c =
    let known = rw (← c.self.view_is) at c.requires.known in
    omega (arith, count_fits _ 64 _ c.args.frame (omega arith) known c.self.invariant.1 _ c.index_mut-3.ensures.value)

pub overflow_add-index_mut-3 : goal.overflow_add-index_mut-3
overflow_add-index_mut-3 c =
    let known = rw (← c.self.view_is) at c.requires.known in
    omega (arith, count_fits _ 512 _ c.args.frame (omega arith) known c.self.invariant.2 _ c.index_mut-4.ensures.value)

pub invariant_of-self : goal.invariant_of-self
invariant_of-self c =
    let known = rw (← c.self.view_is) at c.requires.known in
    let unused = rw (← c.self.view_is) at c.requires.unused in
    let are = c.self.invariant in (
      AreCounts-insert _ 8 _ _ (omega arith) known are.0 _ unused c.index_mut-2.ensures.value,
      AreCounts-insert _ 64 _ _ (omega arith) known are.1 _ unused c.index_mut-3.ensures.value,
      AreCounts-insert _ 512 _ _ (omega arith) known are.2 _ unused c.index_mut-4.ensures.value,
    )
