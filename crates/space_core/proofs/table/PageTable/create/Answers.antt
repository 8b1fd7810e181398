use Rattle.space_core.proofs.TableLemmas.{fresh, fresh_paged}
use Rattle.space_core.proofs.table.PageTable.create.Goals as goal

pub invariant_of-result : goal.invariant_of-result
invariant_of-result c =
    fresh_paged _ c.args.frames
    (record {
      count = c.in_ok-create-3.ensures.frames;
      none = c.in_ok-create-3.ensures.none;
      own = c.in_ok-create-2.ensures;
      places = c.in_ok-create.ensures;
    }) c.requires

pub returns : goal.returns
returns c =
    fresh _ c.args.frames
    (record {
      count = c.in_ok-create-3.ensures.frames;
      none = c.in_ok-create-3.ensures.none;
      own = c.in_ok-create-2.ensures;
      places = c.in_ok-create.ensures;
    })
