use Rattle.std.proofs.Common.{refl}
use Rattle.space_core.proofs.ServedPages.{begins_empty}
use Rattle.space_core.proofs.space.Space.over.Goals as goal

pub returns-clause-stands : goal.returns-clause-stands
returns-clause-stands g c =
    let fresh = c.into_parts-table.ensures.table in
    rw (c.create.ensures, c.into_parts-table.ensures.images)
    (begins_empty _ c.args.room.sizes
    (record {
      regions = refl;
      sizes = fresh.sizes;
      none_resident = fresh.none_resident;
      resting = record { none_pending = refl; none_clearing = refl; none_paged = refl };
      processors = c.args.room.processors;
      images = refl;
      promotions = refl;
      demotions = refl;
    }))
