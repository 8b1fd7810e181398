-- Reservations as their fields have them: a layout in which no frame is free.
use Rattle.std.specs.Prelude.{false, replicate}
use Rattle.pager_model.specs.Layouts.{Layout}
use Rattle.frame_pool.specs.declared.reserved.Reserved.TheInside.{Inside}

abbrev pub reserved_in : Inside → Layout
reserved_in r = record {
  sizes = r.sizes;
  free = replicate r.lists.frames false;
  records = r.reservations.records;
  used = r.reservations.used;
}
