use Rattle.frame_pool.proofs.MappedRecords.{leaving_placed, IsMapped-left}
use Rattle.frame_pool.proofs.mapped.remove.Goals as goal

pub remove-requires-clause-placed : goal.remove-requires-clause-placed
remove-requires-clause-placed c =
    let r = c.args.reservation.now in
    rw c.pages_of.ensures
    (leaving_placed c.args.map.now c.requires.stands.0 r.frame r c.requires.stands.1 c.requires.stands.2 c.requires.pages)

pub returns : goal.returns
returns c = λ records mapped stands.
    let r = c.args.reservation.now in
    let places = rw c.pages_of.ensures at c.remove.ensures.placed in
    let count = rw c.pages_of.ensures at c.remove.ensures.count in
    IsMapped-left c.args.map.now records r.frame r mapped stands c.requires.pages c.remove.new.self places c.remove.ensures.room count
