use Rattle.frame_pool.proofs.MappedRecords.{entering_known, entering_apart, entering_id, entering_room, IsMapped-entered}
use Rattle.frame_pool.proofs.mapped.insert.Goals as goal

pub insert-requires-clause-space : goal.insert-requires-clause-space
insert-requires-clause-space c = entering_known c.args.map.now c.requires.0 c.args.reservation.now c.requires.1 c.requires.2

pub insert-requires-clause-aligned : goal.insert-requires-clause-aligned
insert-requires-clause-aligned c = rw c.pages_of.ensures c.requires.2.placed.pages_aligned

pub insert-requires-clause-within : goal.insert-requires-clause-within
insert-requires-clause-within c = rw c.pages_of.ensures c.requires.2.within

pub insert-requires-clause-apart : goal.insert-requires-clause-apart
insert-requires-clause-apart c = rw c.pages_of.ensures
    (entering_apart c.args.map.now c.requires.0 c.args.reservation.now c.requires.1 c.requires.2)

pub insert-requires-clause-id : goal.insert-requires-clause-id
insert-requires-clause-id c = entering_id c.args.map.now c.requires.0 c.args.reservation.now c.requires.1 c.requires.2

pub insert-requires-clause-room : goal.insert-requires-clause-room
insert-requires-clause-room c = rw c.pages_of.ensures
    (entering_room c.args.map.now c.requires.0 c.args.reservation.now c.requires.1 c.requires.2)

pub returns : goal.returns
returns c = λ records mapped may.
    let places = rw c.pages_of.ensures at c.insert.ensures.placed in
    let count = rw c.pages_of.ensures at c.insert.ensures.count in
    IsMapped-entered c.args.map.now records c.args.reservation.now mapped may c.insert.new.self places c.insert.ensures.room count
