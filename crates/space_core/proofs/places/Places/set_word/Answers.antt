use Rattle.space_core.proofs.PlaceLists.{listed, same_read, written}
use Rattle.space_core.proofs.places.Places.set_word.Goals as goal

pub returns-clause-written : goal.returns-clause-written
returns-clause-written c = λ frame was.
    let places = c.self.inside.items.items in
    let has = rw (← c.self.view_is) at was in
    let same = same_read places c.self.inside.count c.args.number _ frame _ has c.index_mut.ensures.value c.in-Some.is in
    rw (← c.self.view_is, c.set_word.ensures.written, ← same)
    (written places c.self.inside.count c.args.number _ (listed places c.self.inside.count c.args.number frame has))
